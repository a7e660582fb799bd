-- The form that an attribute is written in, its size, and the buffer that it is written into. Assumes nothing.
use Rattle.std.proofs.Common.{◌≡◌, ℕ, ◌+◌, ◌-◌, ◌≤◌, false, ltb, [], ◌∷◌, ◌++◌, length, take, drop, replicate, Ok, Err, sym, ap, ◌∙◌, zero-add, arith}
use Rattle.std.proofs.lemmas.Bool.{le-ltb, cond-false}
use Rattle.model.specs.Numbers.{Bytes}
use Rattle.model.specs.Attributes.{rounded, attribute, head, encode}
use Rattle.model.specs.Page.{over}
use Rattle.model.proofs.Walk.{length-encode}
use Rattle.netlink.specs.Emission.{attribute_form, buffer_after}
use Rattle.netlink.proofs.Overwrites.{three_over, zeros}

module _ (w : ℕ) (x : Bytes) where
  pub short_form : length x ≤ 65531 → attribute_form w x ≡ Ok (encode (attribute w x))
  short_form h = cond-false (ltb 65531 (length x)) (Err 15) (Ok (encode (attribute w x))) (le-ltb 65531 (length x) h)

  module _ (n : ℕ) (old : Bytes) (short : length x ≤ 65531) (size : n ≡ rounded (4 + length x)) (room : n ≤ length old) where
    whole : length (encode (attribute w x)) ≡ n
    whole = length-encode (attribute w x) ∙ sym size

    fits : ltb (length old) (length (encode (attribute w x))) ≡ false
    fits = le-ltb (length old) (length (encode (attribute w x))) (let e : length (encode (attribute w x)) ≡ n = whole in omega arith)

    -- head, payload and zeros, written one after another
    pub leaves : (h o₁ o₂ o₃ : Bytes) (i j k : ℕ) → h ≡ head (4 + length x) w → o₁ ≡ over old 0 h → o₂ ≡ over o₁ i x → o₃ ≡ over o₂ j (take {A = ℕ} (k - 0) (0 ∷ 0 ∷ 0 ∷ [])) →
        i ≡ 4 → j ≡ 4 + length x → k ≡ n - j → o₃ ≡ buffer_after old (attribute_form w x)
    leaves h o₁ o₂ o₃ i j k eh e₁ e₂ e₃ ei ej ek =
        let pad : k ≡ rounded (length x) - length x = omega arith in
        let z : take {A = ℕ} (k - 0) (0 ∷ 0 ∷ 0 ∷ []) ≡ replicate (rounded (length x) - length x) 0 = zeros k (omega arith) ∙ ap (λ (m : ℕ). replicate m 0) pad in
        let four : length h ≡ 4 = ap length eh in
        three_over old h x (take {A = ℕ} (k - 0) (0 ∷ 0 ∷ 0 ∷ [])) o₁ o₂ o₃ 0 i j e₁ e₂ e₃ (omega arith) (omega arith) (omega arith)
        ∙ (λ l. over old 0 (eh l ++ (x ++ z l)))
        ∙ ap (λ (m : ℕ). encode (attribute w x) ++ drop m old) (zero-add (length (encode (attribute w x))))
        ∙ sym (ap (buffer_after old) (short_form short)
        ∙ cond-false (ltb (length old) (length (encode (attribute w x)))) old (encode (attribute w x) ++ drop (length (encode (attribute w x))) old) fits)
