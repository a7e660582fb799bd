-- What a new page can be made into. Assumes nothing.
use Rattle.std.specs.Prelude.{◌≡◌, List, length, Ok}
use Rattle.model.specs.Numbers.{Bytes, Octets}
use Rattle.model.specs.Book.{Meaning, BookLaws}
use Rattle.model.specs.Reading.{Reading, read_filter}
use Rattle.model.specs.Writing.{written}
use Rattle.model.specs.Page.{State, level}
use Rattle.model.specs.Runs.{Turn, Run, run, page_bytes}

-- a page whose bytes are the written form, with no nest open
pub record HoldsWritten (s : State) (r : Reading) : Type 0 where
  pub bytes : page_bytes s ≡ written r
  pub nests : level s.page ≡ 0

-- every filter that reads and is written in just the memory's length is, so written, the page of some run from this state
abbrev pub ReachesEveryFilter : State → Type 0
ReachesEveryFilter s =
    (m : Meaning) → BookLaws m → (bs : Bytes) → Octets bs → (r : Reading) → read_filter m bs ≡ Ok r → length (written r) ≡ length s.memory →
    (ts : List Turn) × (Run (length s.memory) ts × HoldsWritten (run m s ts) r)
