-- What a payload reads as where it is a text. Assumes nothing.
use Rattle.std.specs.Prelude.{ℕ, Bool, false, cond, List, Ok, Err, Result, Some, None, Option}
use Rattle.std.specs.Borrow.{Bor}
use Rattle.model.specs.Numbers.{Bytes}
use Rattle.model.specs.Faults.{cause_number}
use Rattle.model.specs.Text.{test, is_text, stripped}
use Rattle.payload.specs.Errors.{Lack, lack}
use Rattle.payload.specs.declared.error.DecodeError.{DecodeError}
use Rattle.payload.specs.declared.text.Partway.{Partway}

-- the payload less one zero at its end, where that is UTF-8; else cause 9
abbrev pub text_in : Bytes → Result Bytes Lack
text_in x = cond (is_text (stripped x)) (Ok (stripped x)) (Err (lack 9 0))

-- the bytes of a text that was read
abbrev pub spelt : Result (Bor (List ℕ)) DecodeError → Result Bytes Lack
spelt (Ok t) = Ok t.now
spelt (Err e) = Err (lack (cause_number e.cause) e.need)

-- whether a text may end with these bytes, of which so much of a character was read before; not where a byte was refused
abbrev pub goes_on : Option Partway → Bytes → Bool
goes_on (Some p) bs = test p.left p.from p.to bs
goes_on None bs = false
