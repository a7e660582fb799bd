-- What stands at the front of a row of attributes, from the four bytes of its head. Assumes nothing.
use Rattle.std.proofs.Common.{◌≡◌, ℕ, ◌+◌, ◌-◌, ◌*◌, ◌<◌, ◌≤◌, min, [], ◌∷◌, length, get_or, take, drop, sym, ap, ◌∙◌, ⊎_elim, arith, length-drop, length-take}
use Rattle.std.proofs.lemmas.List.{take_rest, drop_all}
use Rattle.std.proofs.lemmas.Bool.{cases_lt}
use Rattle.model.specs.Numbers.{Bytes, part, le}
use Rattle.model.specs.Attributes.{rounded}
use Rattle.model.specs.Walk.{item, walk}
use Rattle.model.proofs.Heads.{walk_goes_by_heads}

pub length_field : (bs : Bytes) → 4 ≤ length bs → le 0 2 bs ≡ get_or bs 0 0 + get_or bs 1 0 * 256
length_field [] h = absurd (omega arith)
length_field (a ∷ []) h = absurd (omega arith)
length_field (a ∷ b ∷ bs) h = omega arith

pub word_field : (bs : Bytes) → 4 ≤ length bs → le 2 2 bs ≡ get_or bs 2 0 + get_or bs 3 0 * 256
word_field [] h = absurd (omega arith)
word_field (a ∷ []) h = absurd (omega arith)
word_field (a ∷ b ∷ []) h = absurd (omega arith)
word_field (a ∷ b ∷ c ∷ []) h = absurd (omega arith)
word_field (a ∷ b ∷ c ∷ d ∷ bs) h = omega arith

-- where the padding is cut off, the walk ends all the same
rest_is : (p n from : ℕ) (bs : Bytes) → from ≡ min n (length bs) → walk (p + n) (drop n bs) ≡ walk (p + (length bs - length (drop from bs))) (drop from bs)
rest_is p n from bs e =
    let size : length (drop from bs) ≡ length bs - from = length-drop from bs in
    ⊎_elim
    (λ (h : n < length bs).
    let k : n ≡ from = omega arith in
    let at : p + n ≡ p + (length bs - length (drop from bs)) = omega arith in
    ap (λ (j : ℕ). walk (p + n) (drop j bs)) k ∙ ap (λ (j : ℕ). walk j (drop from bs)) at)
    (λ (h : length bs ≤ n).
    let none : drop n bs ≡ [] = drop_all n bs h in
    let gone : drop from bs ≡ [] = drop_all from bs (omega arith) in
    ap (walk (p + n)) none ∙ sym (ap (walk (p + (length bs - length (drop from bs)))) gone))
    (cases_lt n (length bs))

module _ (p size word from : ℕ) (bs : Bytes) where
  -- the payload and the rest, as the code cuts them out
  abbrev value : Bytes
  value = take (size - 4 - 0) (take (length bs - 4) (drop 4 bs))

  abbrev rest : Bytes
  rest = take (length bs - from) (drop from bs)

  pub found_front : 4 ≤ length bs → size ≡ get_or bs 0 0 + get_or bs 1 0 * 256 → word ≡ get_or bs 2 0 + get_or bs 3 0 * 256 → size ≤ length bs → 4 ≤ size → from ≡ min (rounded size) (length bs) →
      (walk p bs ≡ item p word value (walk (p + (length bs - length rest)) rest)) × (4 + length value ≤ length bs) × (length rest < length bs)
  found_front four s w fits head f =
      let e : le 0 2 bs ≡ size = length_field bs four ∙ sym s in
      let v : le 2 2 bs ≡ word = word_field bs four ∙ sym w in
      let onward = walk_goes_by_heads.onward p bs (omega arith) (omega arith) in
      let whole : take (length bs - 4) (drop 4 bs) ≡ drop 4 bs = take_rest bs 4 in
      let back : rest ≡ drop from bs = take_rest bs from in
      let none : size - 4 - 0 ≡ size - 4 = omega arith in
      let cut : part 4 (size - 4) bs ≡ value = ap (λ (k : ℕ). take k (drop 4 bs)) (sym none) ∙ ap (take (size - 4 - 0)) (sym whole) in
      let back_length : length rest ≡ length bs - from = ap length back ∙ length-drop from bs in
      let whole_length : length (drop 4 bs) ≡ length bs - 4 = length-drop 4 bs in
      let value_length : length value ≡ min (size - 4 - 0) (length (take (length bs - 4) (drop 4 bs))) = length-take (size - 4 - 0) (take (length bs - 4) (drop 4 bs)) in
      let same_length : length (take (length bs - 4) (drop 4 bs)) ≡ length (drop 4 bs) = ap length whole in (
        onward
            ∙ (λ i. item p (v i) (part 4 (e i - 4) bs) (walk (p + rounded (e i)) (drop (rounded (e i)) bs)))
            ∙ (λ i. item p word (cut i) (walk (p + rounded size) (drop (rounded size) bs)))
            ∙ ap (item p word value) (rest_is p (rounded size) from bs f ∙ ap (λ (r : Bytes). walk (p + (length bs - length r)) r) (sym back)),
        omega arith,
        omega arith,
      )
