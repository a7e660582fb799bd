-- Laws of bytes. Assumes nothing.
use Rattle.std.specs.Prelude.{◌≡◌, ℕ, ◌+◌, ◌*◌, ◌≤◌, ◌++◌, length}
use Rattle.model.specs.Numbers.{Bytes, le}
use Rattle.model.specs.Page.{over}

-- a number of eight bytes by its halves
abbrev pub EightBytesAreTwoHalves : Type 0
EightBytesAreTwoHalves = (i : ℕ) (bs : Bytes) → i + 8 ≤ length bs → le i 4 bs + le (i + 4) 4 bs * 4294967296 ≡ le i 8 bs

-- p is written just before q
abbrev pub PartsSideBySideAreOne : Type 0
PartsSideBySideAreOne = (bs : Bytes) (at : ℕ) (p q : Bytes) (n : ℕ) → n ≡ at + length p → n + length q ≤ length bs → over (over bs n q) at p ≡ over bs at (p ++ q)
