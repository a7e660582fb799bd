use Rattle.std.proofs.Common.{◌≡◌}
use Rattle.model.specs.declared.fault.Layer.TheVariants.{ActionAttribute}
use Rattle.netlink.specs.Walking.{ahead}
use Rattle.tc_filter.specs.Kinds.{kind_among, kind_found}
use Rattle.tc_filter.proofs.action.kind_of.Given as goal

abbrev pub invariant-loop-attribute : goal.invariant-loop-attribute
invariant-loop-attribute l =
    (goal.iterator-loop-attribute).can_next l.attribute-iterator
    × (goal.iterator-loop-attribute).is_finite l.attribute-iterator
    × (kind_among l.action.place l.seen (ahead l.attribute-iterator) ≡ kind_found l.action)
    × (l.attribute-iterator.layer ≡ ActionAttribute)
