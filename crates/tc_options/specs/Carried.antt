-- A value that was read, in a case of an option. Assumes nothing.
use Rattle.std.specs.Prelude.{Ok, Err, Result}
use Rattle.model.specs.Numbers.{Bytes}
use Rattle.model.specs.Records.{Layout}
use Rattle.payload.specs.Errors.{Lack}
use Rattle.tc_records.specs.Reading.{at_least}

abbrev pub carried : {A B : Type 0} → (A → B) → Result A Lack → Result B Lack
carried f (Ok a) = Ok (f a)
carried f (Err e) = Err e

-- a record of this layout, made one of the code's by `of`, in the case `f`
abbrev pub record_in : {M R B : Type 0} → Layout M → (of : M → R) → (f : R → B) → Bytes → Result B Lack
record_in l of f x = carried f (at_least l.size (λ bs. of (l.decode bs)) x)
