-- Bytes, and numbers in them. Assumes nothing.
-- A byte is a number below 256: `Octets bs` says that each of bs is.
use Rattle.std.specs.Prelude.{ℕ, zero, suc, ◌+◌, ◌-◌, ◌*◌, ◌/◌, ◌%◌, ◌^◌, ◌<◌, cond, List, [], ◌∷◌, reverse, take, drop, ℤ, pos, negsuc, nat_lt}
use Rattle.std.specs.List.{AllByRecursion}

abbrev pub Bytes : Type 0
Bytes = List ℕ

abbrev pub Octets : Bytes → Type 0
Octets bs = AllByRecursion (λ b. b < 256) bs

-- the number whose bytes are bs, the lowest first; and the n lowest bytes of v
abbrev pub number : Bytes → ℕ
number [] = 0
number (b ∷ bs) = b + 256 * number bs

abbrev pub bytes_of : ℕ → ℕ → Bytes
bytes_of zero v = []
bytes_of (suc n) v = (v % 256) ∷ bytes_of n (v / 256)

-- the part of n bytes that begins at i
abbrev pub part : ℕ → ℕ → Bytes → Bytes
part i n bs = take n (drop i bs)

-- the n bytes from i as a number: little-endian, big-endian, and signed little-endian in two's complement
abbrev pub le : ℕ → ℕ → Bytes → ℕ
le i n bs = number (part i n bs)

abbrev pub be : ℕ → ℕ → Bytes → ℕ
be i n bs = number (reverse (part i n bs))

abbrev pub as_signed : ℕ → ℕ → ℤ
as_signed n v = cond (nat_lt v (2 ^ (8 * n - 1))) (pos v) (negsuc (2 ^ (8 * n) - suc v))

abbrev pub as_unsigned : ℕ → ℤ → ℕ
as_unsigned n (pos v) = v
as_unsigned n (negsuc v) = 2 ^ (8 * n) - suc v

abbrev pub signed : ℕ → ℕ → Bytes → ℤ
signed i n bs = as_signed n (le i n bs)

abbrev pub le_bytes : ℕ → ℕ → Bytes
le_bytes n v = bytes_of n v

abbrev pub be_bytes : ℕ → ℕ → Bytes
be_bytes n v = reverse (bytes_of n v)

abbrev pub signed_bytes : ℕ → ℤ → Bytes
signed_bytes n z = bytes_of n (as_unsigned n z)
