-- What is wrong with a payload, where the payload stands. Assumes nothing.
use Rattle.std.specs.Prelude.{ℕ, Ok, Err, Result}
use Rattle.model.specs.Faults.{needing, Read}
use Rattle.payload.specs.Errors.{Lack}

abbrev pub at_place : {A : Type 0} → (place layer : ℕ) → Result A Lack → Read A
at_place p l (Ok a) = Ok a
at_place p l (Err e) = Err (needing e.cause p l e.need)
