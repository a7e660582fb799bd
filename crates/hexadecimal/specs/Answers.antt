-- What the decoder answers.
use Rattle.std.specs.Prelude.{◌≡◌, ℕ, List, Some, None, Ok, Err, Result}
use Rattle.hexadecimal.specs.declared.decoding.HexError.{HexError}
use Rattle.hexadecimal.specs.declared.decoding.HexError.TheVariants.{NotHex, NoMemory}
use Rattle.hexadecimal.specs.Hex.{decode}

-- why nothing was decoded: the text has no bytes, or there was no memory
abbrev pub Refuses : List ℕ → HexError → Type 0
Refuses text NotHex = decode text ≡ None
Refuses text NoMemory = Unit {0}

-- the bytes that are held are the text's, or the text has none
abbrev pub Decodes : List ℕ → Result (Unit {0}) HexError → List ℕ → Type 0
Decodes text (Ok u) held = decode text ≡ Some held
Decodes text (Err e) held = Refuses text e
