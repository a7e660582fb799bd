-- The walk goes from head to head: what it finds at the front of bytes, and where it goes on. Assumes nothing.
use Rattle.std.proofs.Common.{◌≡◌, ℕ, zero, suc, ◌+◌, ◌-◌, ◌<◌, ◌≤◌, true, false, ltb, [], ◌∷◌, length, take, drop, refl, ap, ◌∙◌, arith, length-drop, le-ltb, lt-ltb}
use Rattle.std.proofs.lemmas.List.{drop-drop}
use Rattle.model.specs.Numbers.{Bytes, number, part, le}
use Rattle.model.specs.Attributes.{rounded}
use Rattle.model.specs.Walk.{Walked, bad, item, walk_in, walk}
use Rattle.model.specs.Laws.{WalkGoesByHeads}
use Rattle.model.proofs.Walk.{turn}

-- turns beyond the number of bytes change nothing
pub spare_turns : (n k p : ℕ) (bs : Bytes) → length bs ≤ n → length bs ≤ k → walk_in n p bs ≡ walk_in k p bs
spare_turns zero zero p bs h g = refl
spare_turns zero (suc k) p [] h g = refl
spare_turns zero (suc k) p (a ∷ bs) h g = absurd (omega arith)
spare_turns (suc n) zero p [] h g = refl
spare_turns (suc n) zero p (a ∷ bs) h g = absurd (omega arith)
spare_turns (suc n) (suc k) p [] h g = refl
spare_turns (suc n) (suc k) p (a ∷ []) h g = refl
spare_turns (suc n) (suc k) p (a ∷ b ∷ []) h g = refl
spare_turns (suc n) (suc k) p (a ∷ b ∷ c ∷ []) h g = refl
spare_turns (suc n) (suc k) p (a ∷ b ∷ c ∷ d ∷ rest) h g =
    let len : ℕ = number (a ∷ b ∷ []) in
    let less : length (drop (rounded len - 4) rest) ≡ length rest - (rounded len - 4) = length-drop (rounded len - 4) rest in
    ap (λ (r : Walked). elim (ltb (4 + length rest) len) [ true ↦ bad 7 p | false ↦ elim (ltb len 4) [ true ↦ bad 8 p | false ↦ item p (number (c ∷ d ∷ [])) (take (len - 4) rest) r ] ])
    (spare_turns n k (p + rounded len) (drop (rounded len - 4) rest) (omega arith) (omega arith))

cut_off : (p : ℕ) (bs : Bytes) → 0 < length bs → length bs < 4 → walk p bs ≡ bad 6 p
cut_off p [] h g = absurd (omega arith)
cut_off p (a ∷ []) h g = refl
cut_off p (a ∷ b ∷ []) h g = refl
cut_off p (a ∷ b ∷ c ∷ []) h g = refl
cut_off p (a ∷ b ∷ c ∷ d ∷ rest) h g = absurd (omega arith)

beyond : (p : ℕ) (bs : Bytes) → 4 ≤ length bs → length bs < le 0 2 bs → walk p bs ≡ bad 7 p
beyond p [] h g = absurd (omega arith)
beyond p (a ∷ []) h g = absurd (omega arith)
beyond p (a ∷ b ∷ []) h g = absurd (omega arith)
beyond p (a ∷ b ∷ c ∷ []) h g = absurd (omega arith)
beyond p (a ∷ b ∷ c ∷ d ∷ rest) h g = rw (lt-ltb (4 + length rest) (number (a ∷ b ∷ [])) (omega arith), walk_in)

below : (p : ℕ) (bs : Bytes) → 4 ≤ length bs → le 0 2 bs < 4 → walk p bs ≡ bad 8 p
below p [] h g = absurd (omega arith)
below p (a ∷ []) h g = absurd (omega arith)
below p (a ∷ b ∷ []) h g = absurd (omega arith)
below p (a ∷ b ∷ c ∷ []) h g = absurd (omega arith)
below p (a ∷ b ∷ c ∷ d ∷ rest) h g = rw (le-ltb (4 + length rest) (number (a ∷ b ∷ [])) (omega arith), lt-ltb (number (a ∷ b ∷ [])) 4 g, walk_in)

onward : (p : ℕ) (bs : Bytes) → 4 ≤ le 0 2 bs → le 0 2 bs ≤ length bs →
    walk p bs ≡ item p (le 2 2 bs) (part 4 (le 0 2 bs - 4) bs) (walk (p + rounded (le 0 2 bs)) (drop (rounded (le 0 2 bs)) bs))
onward p [] h g = absurd (omega arith)
onward p (a ∷ []) h g = absurd (omega arith)
onward p (a ∷ b ∷ []) h g = absurd (omega arith)
onward p (a ∷ b ∷ c ∷ []) h g = absurd (omega arith)
onward p (a ∷ b ∷ c ∷ d ∷ rest) h g =
    let len : ℕ = number (a ∷ b ∷ []) in
    let bs : Bytes = a ∷ b ∷ c ∷ d ∷ rest in
    let far : 4 + (rounded len - 4) ≡ rounded len = omega arith in
    let same : drop (rounded len - 4) rest ≡ drop (rounded len) bs = drop-drop (rounded len - 4) 4 bs ∙ ap (λ (k : ℕ). drop k bs) far in
    let size : length (drop (rounded len) bs) ≡ length bs - rounded len = length-drop (rounded len) bs in
    turn (suc (suc (suc (length rest)))) p a b c d rest h (omega arith)
    ∙ ap (item p (number (c ∷ d ∷ [])) (take (len - 4) rest))
    (ap (walk_in (suc (suc (suc (length rest)))) (p + rounded len)) same ∙ spare_turns (suc (suc (suc (length rest)))) (length (drop (rounded len) bs)) (p + rounded len) (drop (rounded len) bs) (omega arith) (omega arith))

pub walk_goes_by_heads : WalkGoesByHeads
walk_goes_by_heads = record { ended = λ p. refl; cut_off = cut_off; beyond = beyond; below = below; onward = onward }
