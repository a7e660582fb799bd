-- What a payload reads as where it is a record. Assumes nothing.
use Rattle.std.specs.Prelude.{ℕ, cond, length, Ok, Err, Result, nat_lt}
use Rattle.model.specs.Numbers.{Bytes}
use Rattle.payload.specs.Errors.{Lack, lack}

-- at least n bytes, read by f; else cause 13, with n as the length wanted
abbrev pub at_least : {A : Type 0} → (n : ℕ) → (Bytes → A) → Bytes → Result A Lack
at_least n f x = cond (nat_lt (length x) n) (Err (lack 13 n)) (Ok (f x))
