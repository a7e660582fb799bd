-- What a book's first call answered, as the model has it; what a refusal tells, and the fault that it is where the option stands. Assumes nothing.
use Rattle.std.specs.Prelude.{ℕ, Ok, Err, Result}
use Rattle.model.specs.declared.fault.Cause.TheVariants.{RefusedByBook}
use Rattle.model.specs.declared.fault.Layer.{Layer}
use Rattle.model.specs.declared.fault.Fault.{Fault}
use Rattle.model.specs.Faults.{cause_number}
use Rattle.payload.specs.declared.error.DecodeError.{DecodeError}
use Rattle.model.specs.Book.{Judgement, written_as, refused_by}
use Rattle.tc.specs.declared.book.Judged.{Judged}
use Rattle.tc.specs.declared.book.Refusal.{Refusal}

abbrev pub judged : Result Judged Refusal → Judgement
judged (Ok j) = written_as j.word j.length
judged (Err r) = refused_by r.number r.need

-- an option that can't be read is refused by its cause's number, with the length wanted
abbrev pub refusal_of : DecodeError → Refusal
refusal_of e = record { number = cause_number e.cause; need = e.need }

-- a refusal is a fault with cause 14, and the book's own number and figure
abbrev pub refusal_placed : {A : Type 0} → Result A Refusal → ℕ → Layer → Result A Fault
refusal_placed (Ok a) p l = Ok a
refusal_placed (Err r) p l = Err (record { cause = RefusedByBook; place = p; layer = l; need = r.need; number = r.number })
