-- The law between the two directions.
use Rattle.std.specs.Prelude.{◌≡◌, ℕ, ◌<◌, List, [], ◌∷◌, Some}
use Rattle.hexadecimal.specs.Hex.{encode, decode}

-- each is a byte
abbrev pub Octets : List ℕ → Type 0
Octets [] = Unit {0}
Octets (b ∷ bs) = (b < 256) × Octets bs

-- what is encoded is decoded to the bytes that it was
abbrev pub ReadsAgain : Type 0
ReadsAgain = (bs : List ℕ) → Octets bs → decode (encode bs) ≡ Some bs
