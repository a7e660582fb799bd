-- Each number from 1 to 16 is that of just one cause, and each from 1 to 4 of just one layer. Assumes nothing.
use Rattle.std.proofs.Common.{◌≡◌, ℕ, ◌+◌, ◌-◌, ◌<◌, List, [], ◌∷◌, map, length, get_or, sym, refl, ap, ◌∙◌, arith}
use Rattle.std.specs.List.{range_with_len}
use Rattle.std.proofs.lemmas.List.{get_or-map}
use Rattle.std.proofs.lemmas.List.FromFn.{get_or-range_with_len}
use Rattle.model.specs.declared.fault.Cause.{Cause}
use Rattle.model.specs.declared.fault.Cause.TheVariants.{TooLong, OtherMemory, TypeTooLarge, NotAtThisLevel, NoOpenNest, HeadCutOff, LengthBeyondEnd, LengthBelowHead}
use Rattle.model.specs.declared.fault.Cause.TheVariants.{KindNotUtf8, NoKind, SeveralKinds, WrongLength, TooShort, RefusedByBook, PayloadTooLong, NoRoom}
use Rattle.model.specs.declared.fault.Layer.{Layer}
use Rattle.model.specs.declared.fault.Layer.TheVariants.{FilterOption, Action, ActionAttribute, ActionOption}
use Rattle.model.specs.Faults.{cause_number, layer_number, Numbered, EachCauseHasItsNumber}

-- a list that holds each, with the numbers 1, 2, 3 and so on
module _ {C : Type 0} (f : C → ℕ) (l : List C) (d : C) (counted : map f l ≡ range_with_len 1 (length l)) (place : (c : C) → (i : ℕ) × (i < length l) × (get_or l i d ≡ c)) where
  number_at : (i : ℕ) → i < length l → f (get_or l i d) ≡ 1 + i
  number_at i h = sym (get_or-map f l i d 0 h) ∙ ap (λ x. get_or x i 0) counted ∙ get_or-range_with_len 1 (length l) i 0 h

  number_of : (c : C) → f c ≡ 1 + (place c).0
  number_of c = ap f (sym (place c).2) ∙ number_at (place c).0 (place c).1

  back : (c : C) → get_or l (f c - 1) d ≡ c
  back c = let e : f c - 1 ≡ (place c).0 = omega (arith, number_of c) in ap (λ i. get_or l i d) e ∙ (place c).2

  numbered : Numbered f (length l)
  numbered = (
    λ c. let h = (place c).1 in (omega (arith, number_of c), omega (arith, number_of c)),
    λ n low high. (get_or l (n - 1) d, number_at (n - 1) (omega arith) ∙ omega arith),
    λ a b e. sym (back a) ∙ ap (λ n. get_or l (n - 1) d) e ∙ back b,
  )

abbrev causes : List Cause
causes = TooLong ∷ OtherMemory ∷ TypeTooLarge ∷ NotAtThisLevel ∷ NoOpenNest ∷ HeadCutOff ∷ LengthBeyondEnd ∷ LengthBelowHead ∷ KindNotUtf8 ∷ NoKind ∷ SeveralKinds ∷ WrongLength ∷ TooShort ∷ RefusedByBook ∷ PayloadTooLong ∷ NoRoom ∷ []

abbrev layers : List Layer
layers = FilterOption ∷ Action ∷ ActionAttribute ∷ ActionOption ∷ []

cause-place : (c : Cause) → (i : ℕ) × (i < 16) × (get_or causes i TooLong ≡ c)
cause-place TooLong = (0, omega arith, refl)
cause-place OtherMemory = (1, omega arith, refl)
cause-place TypeTooLarge = (2, omega arith, refl)
cause-place NotAtThisLevel = (3, omega arith, refl)
cause-place NoOpenNest = (4, omega arith, refl)
cause-place HeadCutOff = (5, omega arith, refl)
cause-place LengthBeyondEnd = (6, omega arith, refl)
cause-place LengthBelowHead = (7, omega arith, refl)
cause-place KindNotUtf8 = (8, omega arith, refl)
cause-place NoKind = (9, omega arith, refl)
cause-place SeveralKinds = (10, omega arith, refl)
cause-place WrongLength = (11, omega arith, refl)
cause-place TooShort = (12, omega arith, refl)
cause-place RefusedByBook = (13, omega arith, refl)
cause-place PayloadTooLong = (14, omega arith, refl)
cause-place NoRoom = (15, omega arith, refl)

layer-place : (c : Layer) → (i : ℕ) × (i < 4) × (get_or layers i FilterOption ≡ c)
layer-place FilterOption = (0, omega arith, refl)
layer-place Action = (1, omega arith, refl)
layer-place ActionAttribute = (2, omega arith, refl)
layer-place ActionOption = (3, omega arith, refl)

pub each_cause_has_its_number : EachCauseHasItsNumber
each_cause_has_its_number = (numbered cause_number causes TooLong refl cause-place, numbered layer_number layers FilterOption refl layer-place)
