use Rattle.std.proofs.Common.{◌≡◌, ◌++◌, vec_items}
use Rattle.netlink.specs.Walking.{ahead}
use Rattle.page_build.specs.Fillings.{row_turns}
use Rattle.script.specs.Listings.{own_turns}
use Rattle.script.proofs.lister.list_each.Given as goal

-- the calls and those of what is left of the row are the calls before and those of the whole row
abbrev pub invariant-loop-nla : goal.invariant-loop-nla
invariant-loop-nla g l =
    (goal.iterator-loop-nla g).can_next l.nla-iterator
    × (goal.iterator-loop-nla g).is_finite l.nla-iterator
    × (own_turns (vec_items l.calls) ++ row_turns (g.L.Lister.turns l.lister) (ahead l.nla-iterator)
    ≡ own_turns (vec_items l.initial.calls) ++ row_turns (g.L.Lister.turns l.lister) (ahead l.walk))
    × (l.nla-iterator.end ≡ l.walk.end)
