use Rattle.std.proofs.Common.{◌≡◌}
use Rattle.model.specs.Page.{state}
use Rattle.model.specs.Runs.{run}
use Rattle.netlink.specs.Walking.{ahead}
use Rattle.page.specs.Pages.{as_page}
use Rattle.page_build.specs.Fillings.{row_turns}
use Rattle.page_build.proofs.filler.fill_each.Given as goal

-- the turns for what is left of the row, from where the page stands, leave what those for the whole row leave
abbrev pub invariant-loop-nla : goal.invariant-loop-nla
invariant-loop-nla g l =
    (goal.iterator-loop-nla g).can_next l.nla-iterator
    × (goal.iterator-loop-nla g).is_finite l.nla-iterator
    × (run (g.B.Book.meaning l.book) (state (as_page l.page) l.memory) (row_turns (g.F.Filler.turns l.filler) (ahead l.nla-iterator))
    ≡ run (g.B.Book.meaning l.book) (state (as_page l.initial.page) l.initial.memory) (row_turns (g.F.Filler.turns l.filler) (ahead l.walk)))
    × (l.nla-iterator.end ≡ l.walk.end)
