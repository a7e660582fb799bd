-- What writing a value into a buffer answers, and what the buffer holds then. Assumes nothing.
use Rattle.std.specs.Prelude.{ℕ, ◌+◌, cond, ◌++◌, length, drop, Ok, Err, Result, nat_le, nat_lt}
use Rattle.model.specs.Numbers.{Bytes}
use Rattle.model.specs.Faults.{cause_number}
use Rattle.model.specs.Attributes.{attribute, encode}
use Rattle.model.specs.Page.{over}
use Rattle.model.specs.declared.fault.Cause.{Cause}

-- the bytes that an attribute is written as; 15 where its length field can't tell its length
abbrev pub attribute_form : (word : ℕ) → Bytes → Result Bytes ℕ
attribute_form w x = cond (nat_lt 65531 (length x)) (Err 15) (Ok (encode (attribute w x)))

-- how many bytes a form has
abbrev pub form_length : Result Bytes ℕ → Result ℕ ℕ
form_length (Ok bs) = Ok (length bs)
form_length (Err c) = Err c

-- writing it into a buffer of so many bytes answers how many were written; 16 where the buffer has fewer
abbrev pub emission : (free : ℕ) → Result Bytes ℕ → Result ℕ ℕ
emission free (Ok bs) = cond (nat_lt free (length bs)) (Err 16) (Ok (length bs))
emission free (Err c) = Err c

-- the buffer then holds the form, and beyond it what it held; after a refusal it is as it was
abbrev pub buffer_after : (old : Bytes) → Result Bytes ℕ → Bytes
buffer_after old (Ok bs) = cond (nat_lt (length old) (length bs)) old (bs ++ drop (length bs) old)
buffer_after old (Err c) = old

-- what a call answered, with the cause by its number
abbrev pub by_number : {A : Type 0} → Result A Cause → Result A ℕ
by_number (Ok a) = Ok a
by_number (Err c) = Err (cause_number c)

-- a part written over a buffer from a place on, where it goes in
abbrev pub over_if_it_fits : (buffer : Bytes) → (at : ℕ) → (part : Bytes) → Bytes
over_if_it_fits bs at p = cond (nat_le (at + length p) (length bs)) (over bs at p) bs
