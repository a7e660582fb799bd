-- The families of options that the shipped book knows, and what an option that was read tells a book. Assumes nothing.
use Rattle.std.specs.Prelude.{ℕ, cond, Ok, Err, codes, Result}
use Rattle.std.specs.Str.{bytes_eq}
use Rattle.model.specs.Numbers.{Bytes}
use Rattle.model.specs.Book.{Answer, accept, refuse}
use Rattle.payload.specs.Errors.{Lack}
use Rattle.tc.specs.declared.shipped.Family.{Family}
use Rattle.tc.specs.declared.shipped.Family.TheVariants.{Mirror, Nat, TunnelKey, Other}

abbrev pub family_of : Bytes → Family
family_of k = cond (bytes_eq k (codes "mirred")) Mirror (cond (bytes_eq k (codes "nat")) Nat (cond (bytes_eq k (codes "tunnel_key")) TunnelKey Other))

-- an option means a word and a payload; one that can't be read is refused by its cause's number, with the length wanted as need
abbrev pub told : {O : Type 0} → (O → ℕ) → (O → Bytes) → Result O Lack → Answer
told word payload (Ok o) = accept (word o) (payload o)
told word payload (Err e) = refuse e.cause e.need
