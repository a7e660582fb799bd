-- What a payload of an exact length reads as. Assumes nothing.
use Rattle.std.specs.Prelude.{ℕ, cond, length, Ok, Err, Result, ◌==◌}
use Rattle.std.specs.Borrow.{Bor}
use Rattle.model.specs.Numbers.{Bytes}
use Rattle.payload.specs.declared.ip.Ipv4Addr.{Ipv4Addr}
use Rattle.payload.specs.declared.ip.Ipv6Addr.{Ipv6Addr}
use Rattle.payload.specs.Errors.{Lack, lack}

-- exactly n bytes, read by f; else cause 12, with n as the length wanted
abbrev pub exactly : {A : Type 0} → (n : ℕ) → (Bytes → A) → Bytes → Result A Lack
exactly n f x = cond (length x == n) (Ok (f x)) (Err (lack 12 n))

-- an IPv4 address is its bytes, and an IPv6 address that part of the payload
abbrev pub address : Bytes → Ipv4Addr
address x = record { octets = x }

abbrev pub address_part : Bor Bytes → Ipv6Addr
address_part p = record { octets = p }
