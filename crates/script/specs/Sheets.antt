-- A page with its memory. Assumes nothing.
use Rattle.std.specs.Prelude.{ℕ, cond, List, length, Ok, Err, Result, ◌==◌}
use Rattle.model.specs.declared.fault.Fault.{Fault}
use Rattle.model.specs.Faults.{Read, numbers}
use Rattle.model.specs.Page as model
use Rattle.model.specs.Runs as runs
use Rattle.page.specs.Pages.{as_page}
use Rattle.script.specs.declared.sheet.Sheet.{Sheet}

-- what the making of a page answered
abbrev pub as_sheet : Result Sheet Fault → Read model.Page
as_sheet (Ok s) = Ok (as_page s.page)
as_sheet (Err f) = Err (numbers f)

-- on a page of a size: a call with memory, which is the page's own if it is as long
abbrev pub lent_turn : (size : ℕ) → List ℕ → model.Call → runs.Turn
lent_turn n bs c = cond (length bs == n) (runs.with_own_memory c) (runs.with_other_memory bs c)
