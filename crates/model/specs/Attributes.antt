-- An attribute, and the bytes that it is written as. Assumes nothing.
use Rattle.std.specs.Prelude.{ℕ, ◌+◌, ◌-◌, ◌*◌, ◌/◌, ◌%◌, ◌<◌, ◌≤◌, List, [], ◌∷◌, ◌++◌, length, replicate}
use Rattle.model.specs.Numbers.{Bytes, le_bytes}

-- a length rounded up to a multiple of 4
abbrev pub rounded : ℕ → ℕ
rounded n = ((n + 3) / 4) * 4

-- the type is the word without its two flags, 0x4000 and 0x8000
abbrev pub type_of : ℕ → ℕ
type_of word = word % 16384

pub record Attribute : Type 0 where
  pub word : ℕ
  pub payload : Bytes

abbrev pub attribute : ℕ → Bytes → Attribute
attribute w x = record { word = w; payload = x }

-- what may be written: a word of 16 bits, a length field of 16 bits
pub record Writable (a : Attribute) : Type 0 where
  pub word16 : a.word < 65536
  pub short : length a.payload ≤ 65531

abbrev pub head : ℕ → ℕ → Bytes
head len word = le_bytes 2 len ++ le_bytes 2 word

-- the payload with zeros up to a multiple of 4
abbrev pub padded : Bytes → Bytes
padded x = x ++ replicate (rounded (length x) - length x) 0

abbrev pub encode : Attribute → Bytes
encode a = head (4 + length a.payload) a.word ++ padded a.payload

abbrev pub encode_all : List Attribute → Bytes
encode_all [] = []
encode_all (a ∷ more) = encode a ++ encode_all more
