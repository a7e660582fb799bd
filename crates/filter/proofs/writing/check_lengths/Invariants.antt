use Rattle.std.proofs.Common.{◌≡◌}
use Rattle.model.specs.Walk.{walk}
use Rattle.model.specs.declared.fault.Layer.TheVariants.{FilterOption}
use Rattle.netlink.specs.Walking.{ahead}
use Rattle.filter.specs.Summaries.{option_summary}
use Rattle.filter.specs.WriteOut.{lengths_checked}
use Rattle.filter.proofs.writing.check_lengths.Given as goal

abbrev pub invariant-loop-part : goal.invariant-loop-part
invariant-loop-part g l =
    (goal.iterator-loop-part g).can_next l.part-iterator
    × (goal.iterator-loop-part g).is_finite l.part-iterator
    × (lengths_checked (option_summary (g.B.Book.meaning l.book)) (ahead l.part-iterator.walk) ≡ lengths_checked (option_summary (g.B.Book.meaning l.book)) (walk 0 l.filter.bytes.now))
    × (l.part-iterator.walk.layer ≡ FilterOption)
