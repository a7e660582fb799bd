-- What is written of a filter that reads: its calls. Assumes nothing.
use Rattle.std.specs.Prelude.{◌≡◌, ◌≤◌, List, length, Ok}
use Rattle.model.specs.Numbers.{Bytes, Octets}
use Rattle.model.specs.Reading.{Reading, read_filter}
use Rattle.model.specs.Runs.{Turn}
use Rattle.model.specs.Building.{reading_turns}
use Rattle.model.specs.Shipped.{shipped}
use Rattle.model.specs.Writing.{written}

-- bytes that are written of a filter's reading have the turns that put that reading together on a page
abbrev pub HasReadingTurns : Bytes → List Turn → Type 0
HasReadingTurns bs ts = (filter : Bytes) → Octets filter → (r : Reading) → read_filter shipped filter ≡ Ok r → bs ≡ written r → length (written r) ≤ 65531 → ts ≡ reading_turns r
