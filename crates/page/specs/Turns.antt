-- What the code's turns mean, and what replaying them leaves. Assumes nothing.
use Rattle.std.specs.Prelude.{◌≡◌, ℕ, cond, List, [], ◌∷◌, length, Ok, Err, Result, ◌==◌}
use Rattle.model.specs.Numbers.{Bytes}
use Rattle.model.specs.Faults.{Read}
use Rattle.model.specs.Book.{Meaning}
use Rattle.model.specs.Card.{Card, level0, PageItem, page_items_bytes}
use Rattle.model.specs.Counts.{counts}
use Rattle.model.specs.Reading.{Reading, read_filter}
use Rattle.model.specs.Reordering.{Spot, page_items_reordered, reading_reordered}
use Rattle.model.specs.Page as model
use Rattle.model.specs.Runs as runs
use Rattle.model.specs.declared.fault.Fault.{Fault}
use Rattle.page.specs.declared.page.Page.{Page}
use Rattle.page.specs.declared.turn.Turn.{Turn}
use Rattle.page.specs.declared.turn.Turn.TheVariants.{Own, Other}
use Rattle.page.specs.Calls.{meant}
use Rattle.page.specs.Pages.{as_made}

-- on a page of a size: memory of that length is the page's own
abbrev pub turn_meant : (size : ℕ) → Turn → runs.Turn
turn_meant n (Own c) = runs.with_own_memory (meant c)
turn_meant n (Other bs c) = cond (length bs.now == n) (runs.with_own_memory (meant c)) (runs.with_other_memory bs.now (meant c))

abbrev pub turns_meant : (size : ℕ) → List Turn → List runs.Turn
turns_meant n [] = []
turns_meant n (t ∷ ts) = turn_meant n t ∷ turns_meant n ts

-- what code can pass: a call with the page's memory is in range, and other memory has another length
abbrev pub Fair : (size : ℕ) → runs.Turn → Type 0
Fair n (runs.with_own_memory c) = model.InRange c
Fair n (runs.with_other_memory bs c) = ¬ (length bs ≡ n)

abbrev pub AllFair : (size : ℕ) → List runs.Turn → Type 0
AllFair n [] = Unit {0}
AllFair n (t ∷ ts) = Fair n t × AllFair n ts

-- the page, or why there is none, and what the memory holds
pub record Replay : Type 0 where
  pub page : Read model.Page
  pub memory : Bytes

abbrev pub replayed : Result Page Fault → Bytes → Replay
replayed r mem = record { page = as_made r; memory = mem }

abbrev pub from_new : Read model.Page → model.State → Bytes → Replay
from_new (Ok g) s mem = record { page = Ok s.page; memory = s.memory }
from_new (Err e) s mem = record { page = Err e; memory = mem }

-- a run from the making of the page
abbrev pub replay_of : Meaning → Bytes → List runs.Turn → Replay
replay_of m mem ts = from_new (model.new_page (length mem)) (runs.run m (runs.start mem) ts) mem

-- with no nest open, one list of the card in any other order reads, each attribute as before in the new order, with the same counts
abbrev pub Reorders : Meaning → model.State → Card → Type 0
Reorders m s k = (l : List PageItem) → k ≡ level0 l → (spot : Spot) (π : List ℕ) (r : Reading) → read_filter m (runs.page_bytes s) ≡ Ok r →
    (read_filter m (page_items_bytes (page_items_reordered spot π l)) ≡ Ok (reading_reordered spot π r)) × (counts (reading_reordered spot π r) ≡ counts r)
