-- A payload's error, and the fault that it is where the payload stands. Assumes nothing.
use Rattle.std.specs.Prelude.{ℕ, Ok, Err, Result}
use Rattle.model.specs.declared.fault.Layer.{Layer}
use Rattle.model.specs.declared.fault.Fault.{Fault}
use Rattle.model.specs.Faults.{cause_number}
use Rattle.payload.specs.declared.error.DecodeError.{DecodeError}

-- what is wrong with a payload: a cause's number, and the payload length wanted or 0
pub record Lack : Type 0 where
  pub cause : ℕ
  pub need : ℕ

abbrev pub lack : (cause need : ℕ) → Lack
lack c n = record { cause = c; need = n }

-- what a reader of payloads answered
abbrev pub decoded : {A : Type 0} → Result A DecodeError → Result A Lack
decoded (Ok a) = Ok a
decoded (Err e) = Err (lack (cause_number e.cause) e.need)

abbrev pub placed : {A : Type 0} → Result A DecodeError → ℕ → Layer → Result A Fault
placed (Ok a) p l = Ok a
placed (Err e) p l = Err (record { cause = e.cause; place = p; layer = l; need = e.need; number = 0 })
