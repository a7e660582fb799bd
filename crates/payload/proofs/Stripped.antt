-- A text less its last zero. Assumes nothing.
use Rattle.std.proofs.Common.{◌≡◌, ℕ, suc, ◌-◌, ◌<◌, eqb, [], ◌∷◌, length, get_or, take, sym, refl, ap, ◌∙◌, arith}
use Rattle.std.proofs.lemmas.Bool.{cond-true, cond-false, eq-eqb, ne_eqb}
use Rattle.model.specs.Numbers.{Bytes}
use Rattle.model.specs.Text.{stripped}

-- the last of two or more is the last of the rest
last-behind : (b c : ℕ) (x : Bytes) → get_or (b ∷ c ∷ x) (length (b ∷ c ∷ x) - 1) 0 ≡ get_or (c ∷ x) (length (c ∷ x) - 1) 0
last-behind b c x = let k : suc (suc (length x)) - 1 ≡ suc (suc (length x) - 1) = omega arith in ap (λ (i : ℕ). get_or (b ∷ c ∷ x) i 0) k

pub last_zero : (x : Bytes) → 0 < length x → get_or x (length x - 1) 0 ≡ 0 → take (length x - 1) x ≡ stripped x
last_zero [] h e = absurd (omega arith)
last_zero (b ∷ []) h e = sym (cond-true (eqb b 0) [] (b ∷ []) (eq-eqb b 0 e))
last_zero (b ∷ c ∷ x) h e =
    let k : suc (suc (length x)) - 1 ≡ suc (suc (length x) - 1) = omega arith in
    ap (λ (i : ℕ). take i (b ∷ c ∷ x)) k ∙ ap {B = Bytes} (λ r. b ∷ r) (last_zero (c ∷ x) (omega arith) (sym (last-behind b c x) ∙ e))

pub no_last_zero : (x : Bytes) → (0 < length x → get_or x (length x - 1) 0 ≡ 0 → ⊥) → x ≡ stripped x
no_last_zero [] e = refl
no_last_zero (b ∷ []) e = sym (cond-false (eqb b 0) [] (b ∷ []) (ne_eqb b 0 (e (omega arith))))
no_last_zero (b ∷ c ∷ x) e = ap {B = Bytes} (λ r. b ∷ r) (no_last_zero (c ∷ x) (λ h z. e (omega arith) (last-behind b c x ∙ z)))
