-- Writing over a part of a buffer, and one write after another. Assumes nothing.
use Rattle.std.proofs.Common.{◌≡◌, ℕ, ◌+◌, ◌-◌, ◌≤◌, leb, [], ◌∷◌, ◌++◌, length, take, drop, replicate, sym, ap, ◌∙◌, add_assoc, arith}
use borrow.Rule.Slice.PartMut.{put_mid}
use Rattle.std.proofs.lemmas.List.{append_assoc, length-append, length-take-le, length-drop, take_at, drop_at, drop-drop, take-replicate}
use Rattle.std.proofs.lemmas.Bool.{cond-true, le-leb}
use Rattle.model.specs.Numbers.{Bytes}
use Rattle.model.specs.Page.{over}
use Rattle.netlink.specs.Emission.{over_if_it_fits}

-- a part that is written whole, as the checker has it
pub put-over : (bs : Bytes) (at k : ℕ) (last p : Bytes) → last ≡ p → k ≡ length p → at ≤ length bs → put_mid at k bs last ≡ over bs at p
put-over bs at k last p e s h =
    ap (put_mid at k bs) e ∙ ap (λ (r : Bytes). take at bs ++ (p ++ r)) (drop-drop k at bs ∙ ap (λ (n : ℕ). drop (at + n) bs) s)

-- what fits is written
pub fitted : (bs : Bytes) (at : ℕ) (p o : Bytes) → o ≡ over_if_it_fits bs at p → at + length p ≤ length bs → o ≡ over bs at p
fitted bs at p o e h = e ∙ cond-true (leb (at + length p) (length bs)) (over bs at p) bs (le-leb (at + length p) (length bs) h)

take-over : (bs : Bytes) (at : ℕ) (p : Bytes) → at ≤ length bs → take (at + length p) (over bs at p) ≡ take at bs ++ p
take-over bs at p h =
    ap (take (at + length p)) (sym (append_assoc (take at bs) p _))
    ∙ take_at (take at bs ++ p) (drop (at + length p) bs) (at + length p) (length-append (take at bs) p ∙ ap (λ (n : ℕ). n + length p) (length-take-le at bs h))

drop-over : (bs : Bytes) (at : ℕ) (p : Bytes) (n : ℕ) → at ≤ length bs → drop (at + length p + n) (over bs at p) ≡ drop (at + length p + n) bs
drop-over bs at p n h =
    sym (drop-drop n (at + length p) (over bs at p))
    ∙ ap (drop n) (ap (drop (at + length p)) (sym (append_assoc (take at bs) p _))
    ∙ drop_at (take at bs ++ p) (drop (at + length p) bs) (at + length p) (length-append (take at bs) p ∙ ap (λ (n : ℕ). n + length p) (length-take-le at bs h)))
    ∙ drop-drop n (at + length p) bs

-- two writes, the second where the first ended
pub over-over : (bs : Bytes) (at : ℕ) (p q : Bytes) (n : ℕ) → n ≡ at + length p → at ≤ length bs → over (over bs at p) n q ≡ over bs at (p ++ q)
over-over bs at p q n e h =
    let t : take n (over bs at p) ≡ take at bs ++ p = simp e (take-over bs at p h) in
    let d : drop (n + length q) (over bs at p) ≡ drop (at + length (p ++ q)) bs = simp (e, length-append, ← add_assoc) (drop-over bs at p (length q) h) in
    simp (t, d, append_assoc)

pub length_over : (bs : Bytes) (at : ℕ) (p : Bytes) → at + length p ≤ length bs → length (over bs at p) ≡ length bs
length_over bs at p h =
    let t : length (take at bs) ≡ at = length-take-le at bs (omega arith) in
    simp (length-append, length-drop, t) (omega arith)

-- three writes in a row
pub three_over : (bs h p z o₁ o₂ o₃ : Bytes) (at i j : ℕ) → o₁ ≡ over bs at h → o₂ ≡ over o₁ i p → o₃ ≡ over o₂ j z → i ≡ at + length h → j ≡ i + length p → at ≤ length bs →
    o₃ ≡ over bs at (h ++ (p ++ z))
three_over bs h p z o₁ o₂ o₃ at i j e₁ e₂ e₃ a b l =
    let two : o₂ ≡ over bs at (h ++ p) = e₂ ∙ ap (λ (o : Bytes). over o i p) e₁ ∙ over-over bs at h p i a l in
    e₃ ∙ ap (λ (o : Bytes). over o j z) two ∙ over-over bs at (h ++ p) z j (b ∙ (simp length-append (omega arith))) l ∙ ap (over bs at) (append_assoc h p z)

-- the first n of three zeros
pub zeros : (n : ℕ) → n ≤ 3 → take {A = ℕ} (n - 0) (0 ∷ 0 ∷ 0 ∷ []) ≡ replicate n 0
zeros n h = let e : n - 0 ≡ n = omega arith in rw e (take-replicate n 3 0 h)
