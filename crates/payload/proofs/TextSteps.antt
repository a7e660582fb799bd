-- The test for UTF-8, one byte further. Assumes nothing.
use Rattle.std.proofs.Common.{◌≡◌, ℕ, zero, suc, ◌-◌, ◌≤◌, Bool, true, false, ◌&&◌, eqb, leb, [], ◌∷◌, refl, ap, ◌∙◌, arith}
use Rattle.std.proofs.lemmas.Bool.{and_from, le-leb, ne_eqb}
use Rattle.model.specs.Numbers.{Bytes}
use Rattle.model.specs.Text.{test}

passes : (x y : Bool) → x ≡ true → (x && y) ≡ y
passes true y e = refl
passes false y e = let z : ◌≡◌ {A = ℕ} 0 1 = cc in absurd (omega arith)

-- a byte that goes on a character
pub next_good : (left lo hi b : ℕ) (more : Bytes) → (left ≡ 0 → ⊥) → lo ≤ b → b ≤ hi → test left lo hi (b ∷ more) ≡ test (left - 1) 0x80 0xBF more
next_good zero lo hi b more e f g = absurd (e refl)
next_good (suc left) lo hi b more e f g =
    let k : left ≡ suc left - 1 = omega arith in
    passes (leb lo b && leb b hi) (test left 0x80 0xBF more) (and_from (leb lo b) (leb b hi) (le-leb lo b f) (le-leb b hi g))
    ∙ ap (λ (j : ℕ). test j 0x80 0xBF more) k

-- at the text's end none may be missing
pub ended : (left lo hi : ℕ) → eqb left 0 ≡ test left lo hi []
ended zero lo hi = refl
ended (suc left) lo hi = ne_eqb (suc left) 0 (λ e. omega arith)
