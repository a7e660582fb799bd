-- A fault as its five numbers, and what a reader answers: a value, or the first fault. Assumes nothing.
use Rattle.std.specs.Prelude.{◌≡◌, ℕ, ◌≤◌, Ok, Err, Result}
use Rattle.model.specs.declared.fault.Cause.{Cause}
use Rattle.model.specs.declared.fault.Cause.TheVariants.{TooLong, OtherMemory, TypeTooLarge, NotAtThisLevel, NoOpenNest, HeadCutOff, LengthBeyondEnd, LengthBelowHead}
use Rattle.model.specs.declared.fault.Cause.TheVariants.{KindNotUtf8, NoKind, SeveralKinds, WrongLength, TooShort, RefusedByBook, PayloadTooLong, NoRoom}
use Rattle.model.specs.declared.fault.Layer.{Layer}
use Rattle.model.specs.declared.fault.Layer.TheVariants.{FilterOption, Action, ActionAttribute, ActionOption}
use Rattle.model.specs.declared.fault.Fault.{Fault}

-- each cause's number; a page call checks its causes in this order
abbrev pub cause_number : Cause → ℕ
cause_number TooLong = 1
cause_number OtherMemory = 2
cause_number TypeTooLarge = 3
cause_number NotAtThisLevel = 4
cause_number NoOpenNest = 5
cause_number HeadCutOff = 6
cause_number LengthBeyondEnd = 7
cause_number LengthBelowHead = 8
cause_number KindNotUtf8 = 9
cause_number NoKind = 10
cause_number SeveralKinds = 11
cause_number WrongLength = 12
cause_number TooShort = 13
cause_number RefusedByBook = 14
cause_number PayloadTooLong = 15
cause_number NoRoom = 16

abbrev pub layer_number : Layer → ℕ
layer_number FilterOption = 1
layer_number Action = 2
layer_number ActionAttribute = 3
layer_number ActionOption = 4

-- a fault is five numbers
pub record FaultNumbers : Type 0 where
  pub cause : ℕ
  pub place : ℕ
  pub layer : ℕ
  pub need : ℕ
  pub number : ℕ

abbrev pub fault : (cause place layer : ℕ) → FaultNumbers
fault c p l = record { cause = c; place = p; layer = l; need = 0; number = 0 }

abbrev pub needing : (cause place layer need : ℕ) → FaultNumbers
needing c p l n = record { cause = c; place = p; layer = l; need = n; number = 0 }

abbrev pub refused : (place need number : ℕ) → FaultNumbers
refused p n k = record { cause = 14; place = p; layer = 4; need = n; number = k }

-- the five numbers of a fault of the code
abbrev pub numbers : Fault → FaultNumbers
numbers f = record { cause = cause_number f.cause; place = f.place; layer = layer_number f.layer; need = f.need; number = f.number }

abbrev pub Read : Type 0 → Type 0
Read A = Result A FaultNumbers

-- what a call of the code answered
abbrev pub answered : {A : Type 0} → Result A Fault → Read A
answered (Ok a) = Ok a
answered (Err f) = Err (numbers f)

-- the first failure wins
infixl 10 ◌>>=◌
abbrev pub ◌>>=◌ : {A B : Type 0} → Read A → (A → Read B) → Read B
Ok a >>= f = f a
Err e >>= f = Err e

-- each number from 1 to 16 is that of just one cause, and each from 1 to 4 of just one layer
abbrev pub Numbered : {C : Type 0} → (C → ℕ) → (last : ℕ) → Type 0
Numbered {C} f last =
    ((c : C) → (1 ≤ f c) × (f c ≤ last)) × ((n : ℕ) → 1 ≤ n → n ≤ last → (c : C) × (f c ≡ n)) × ((c d : C) → f c ≡ f d → c ≡ d)

abbrev pub EachCauseHasItsNumber : Type 0
EachCauseHasItsNumber = Numbered cause_number 16 × Numbered layer_number 4
