use Rattle.std.proofs.Common.{◌-◌}
use Rattle.model.specs.Faults.{layer_number}
use Rattle.walkthrough.proofs.listing.+list.Given as goal

abbrev pub decreases-list : goal.decreases-list
decreases-list g l = 4 - layer_number l.layer

abbrev pub invariant-loop-found : goal.invariant-loop-found
invariant-loop-found g l =
    (goal.iterator-loop-found g).can_next l.found-iterator × (goal.iterator-loop-found g).is_finite l.found-iterator
