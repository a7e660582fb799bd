-- What building a page from a filter answers, and what it leaves. Assumes nothing.
use Rattle.std.specs.Prelude.{◌≡◌, ℕ, cond, length, Ok, Err, nat_lt}
use Rattle.model.specs.Numbers.{Bytes}
use Rattle.model.specs.Faults.{fault, Read, ◌>>=◌}
use Rattle.model.specs.Book.{Meaning}
use Rattle.model.specs.Reading.{Reading, read_filter}
use Rattle.model.specs.Writing.{write_out}
use Rattle.model.specs.Page.{State, only_fault, new_page}
use Rattle.model.specs.Runs.{run, start}
use Rattle.model.specs.Building.{reading_turns}
use Rattle.page.specs.Reaching.{HoldsWritten}

-- first what writing out answers, then 16 where the page's memory is shorter than the written form, then what making the page answers
abbrev pub building : Meaning → (scratch memory : ℕ) → Bytes → Read (Unit {0})
building m free n bs = write_out m free bs >>= λ x. cond (nat_lt n (length x)) (Err (fault 16 0 1)) (only_fault (new_page n))

-- the page of the run that puts the filter's reading together, which holds its written form
pub record Built (m : Meaning) (bs memory : Bytes) (s : State) : Type 0 where
  pub reading : Reading
  pub reads : read_filter m bs ≡ Ok reading
  pub by_its_calls : s ≡ run m (start memory) (reading_turns reading)
  pub holds : HoldsWritten s reading
