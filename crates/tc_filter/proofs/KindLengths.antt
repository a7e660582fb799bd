-- A kind text is no longer than its payload. Assumes nothing.
use Rattle.std.proofs.Common.{◌≡◌, ℕ, ◌≤◌, Bool, true, false, cond, eqb, [], ◌∷◌, length, Ok, Err, Result, ap, arith, Bor}
use Rattle.model.specs.Numbers.{Bytes}
use Rattle.model.specs.Text.{is_text, stripped}
use Rattle.payload.specs.Errors.{Lack, lack}
use Rattle.payload.specs.Texts.{spelt, text_in}

stripped_shorter : (x : Bytes) → length (stripped x) ≤ length x
stripped_shorter [] = omega arith
stripped_shorter (b ∷ []) = go (eqb b 0)
  where
    go : (t : Bool) → length (cond t [] (b ∷ [])) ≤ 1
    go true = omega arith
    go false = omega arith
stripped_shorter (b ∷ c ∷ x) = let h : length (stripped (c ∷ x)) ≤ length (c ∷ x) = stripped_shorter (c ∷ x) in omega arith

pub kind_shorter : (x : Bytes) (t : Bor Bytes) → spelt (Ok t) ≡ text_in x → length t.now ≤ length x
kind_shorter x t e = go (is_text (stripped x)) e
  where
    go : (b : Bool) → ◌≡◌ {A = Result Bytes Lack} (Ok t.now) (cond b (Ok (stripped x)) (Err (lack 9 0))) → length t.now ≤ length x
    go true q = let same : t.now ≡ stripped x = cc in omega (arith, ap length same, stripped_shorter x)
    go false q = let z : ◌≡◌ {A = ℕ} 0 1 = cc in absurd (omega arith)
