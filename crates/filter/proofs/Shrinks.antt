-- A step of the walk that found an attribute leaves no more than what stands behind its payload. Assumes nothing.
use Rattle.std.proofs.Common.{◌≡◌, ℕ, ◌+◌, ◌-◌, ◌<◌, ◌≤◌, [], ◌∷◌, length, drop, Some, Ok, sym, refl, ap, ◌∙◌, ⊎_elim, arith, length-drop, length-take}
use Rattle.std.proofs.lemmas.Bool.{cases_lt}
use Rattle.model.specs.Numbers.{Bytes, part, le}
use Rattle.model.specs.Attributes.{rounded}
use Rattle.model.specs.Walk.{Walked, done, bad, item, walk}
use Rattle.model.proofs.Heads.{walk_goes_by_heads}
use Rattle.netlink.specs.declared.buffer.NlaBuffer.{NlaBuffer}
use Rattle.netlink.specs.declared.walker.NlasIterator.{NlasIterator}
use Rattle.netlink.specs.Walking.{Goes, place_ahead}

-- the place at which the first of what a walk found begins, or d where it found nothing
abbrev begins : Walked → (d : ℕ) → ℕ
begins done d = d
begins (bad c p) d = p
begins (item p w v r) d = p

-- the four ways in which a walk over some bytes goes on
by_heads : (P : Walked → Type 0) (p : ℕ) (xs : Bytes) → 0 < length xs →
    ((c : ℕ) → P (bad c p)) →
    (4 ≤ le 0 2 xs → le 0 2 xs ≤ length xs → P (item p (le 2 2 xs) (part 4 (le 0 2 xs - 4) xs) (walk (p + rounded (le 0 2 xs)) (drop (rounded (le 0 2 xs)) xs)))) →
    (w : Walked) → w ≡ walk p xs → P w
by_heads P p xs some broken found w e =
    let to : (v : Walked) → walk p xs ≡ v → P v → P w = λ v h k. let same : w ≡ v = e ∙ h in rw same k in
    ⊎_elim
    (λ (h : length xs < 4). to (bad 6 p) (walk_goes_by_heads.cut_off p xs some h) (broken 6))
    (λ (four : 4 ≤ length xs). ⊎_elim
    (λ (h : length xs < le 0 2 xs). to (bad 7 p) (walk_goes_by_heads.beyond p xs four h) (broken 7))
    (λ (fits : le 0 2 xs ≤ length xs). ⊎_elim
    (λ (h : le 0 2 xs < 4). to (bad 8 p) (walk_goes_by_heads.below p xs four h) (broken 8))
    (λ (head : 4 ≤ le 0 2 xs). to _ (walk_goes_by_heads.onward p xs head fits) (found head fits))
    (cases_lt (le 0 2 xs) 4))
    (cases_lt (length xs) (le 0 2 xs)))
    (cases_lt (length xs) 4)

begins_there : (p a d : ℕ) (bs : Bytes) → begins (walk p (a ∷ bs)) d ≡ p
begins_there p a d bs = by_heads (λ w. begins w d ≡ p) p (a ∷ bs) (omega arith) (λ c. refl) (λ head fits. refl) (walk p (a ∷ bs)) refl

begins_here : (p : ℕ) (bs : Bytes) → begins (walk p bs) p ≡ p
begins_here p [] = refl
begins_here p (a ∷ bs) = begins_there p a p bs

module _ (p q w place : ℕ) (v : Bytes) where
  left-behind : (bs t : Bytes) → q + length t ≡ p + length bs → 4 + length v ≤ length bs → (n : ℕ) → 4 + length v ≤ n → walk (p + n) (drop n bs) ≡ walk q t → length t + (4 + length v) ≤ length bs
  left-behind bs [] e room n more same = omega arith
  left-behind bs (a ∷ t) e room n more same =
      let at : q ≡ p + n = sym (begins_there q a (p + n) t) ∙ ap (λ (r : Walked). begins r (p + n)) (sym same) ∙ begins_here (p + n) (drop n bs) in
      omega arith

  found-behind : (bs t : Bytes) → q + length t ≡ p + length bs → walk p bs ≡ item place w v (walk q t) → length t + (4 + length v) ≤ length bs
  found-behind [] t e h = cc
  found-behind (a ∷ bs) t e h =
      let xs : Bytes = a ∷ bs in
      by_heads (λ r. r ≡ item place w v (walk q t) → length t + (4 + length v) ≤ length xs) p xs (omega arith)
      (λ c g. cc)
      (λ head fits g.
      let cut : v ≡ part 4 (le 0 2 xs - 4) xs = cc in
      let size : length v ≡ le 0 2 xs - 4 = ap length cut ∙ (simp (length-take, length-drop) (omega arith)) in
      let same : walk (p + rounded (le 0 2 xs)) (drop (rounded (le 0 2 xs)) xs) ≡ walk q t = cc in
      left-behind xs t e (omega arith) (rounded (le 0 2 xs)) (omega arith) same)
      (walk p xs) refl h

pub shrinks : (s t : NlasIterator) (a : NlaBuffer) → Goes s (Some (Ok a)) t → length t.rest.now + (4 + length a.value.now) ≤ length s.rest.now
shrinks s t a g =
    let inside = s.inside in
    let inside' = t.inside in
    let ends : place_ahead t + length t.rest.now ≡ place_ahead s + length s.rest.now = omega (arith, g.2) in
    found-behind (place_ahead s) (place_ahead t) a.word a.place a.value.now s.rest.now t.rest.now ends g.0
