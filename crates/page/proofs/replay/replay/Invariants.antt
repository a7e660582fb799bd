use Rattle.std.proofs.Common.{◌≡◌, length, drop}
use Rattle.model.specs.Page.{state}
use Rattle.model.specs.Runs.{run, start}
use Rattle.page.specs.Pages.{as_page}
use Rattle.page.specs.Turns.{turns_meant, AllFair}
use Rattle.page.proofs.replay.replay.Given as goal

-- what is left of the run, from where the page stands, leaves what the whole run leaves; and the turns so far were fair
abbrev pub invariant-loop-turn : goal.invariant-loop-turn
invariant-loop-turn g l =
    (run (g.B.Book.meaning l.book) (state (as_page l.page) l.memory) (turns_meant (length l.initial.memory) (drop l.turn-index l.turns))
    ≡ run (g.B.Book.meaning l.book) (start l.initial.memory) (turns_meant (length l.initial.memory) l.turns))
    × ((as_page l.page).size ≡ length l.initial.memory)
    × (AllFair (length l.initial.memory) (turns_meant (length l.initial.memory) (drop l.turn-index l.turns)) → AllFair (length l.initial.memory) (turns_meant (length l.initial.memory) l.turns))
