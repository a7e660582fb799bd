use Rattle.std.proofs.Common.{◌≡◌, ◌+◌, ◌*◌, ◌≤◌, length}
use Rattle.model.specs.Faults.{layer_number}
use Rattle.netlink.specs.Walking.{ahead}
use Rattle.filter.specs.Summaries.{tally_behind, tally_all}
use Rattle.filter.proofs.form.read_each.Given as goal

abbrev pub invariant-loop-part : goal.invariant-loop-part
invariant-loop-part g l =
    (goal.iterator-loop-part g).can_next l.part-iterator
    × (goal.iterator-loop-part g).is_finite l.part-iterator
    × (tally_behind l.tally (layer_number l.row.walk.layer) (g.F.Form.reads l.form) (ahead l.part-iterator.walk) ≡ tally_all (layer_number l.row.walk.layer) (g.F.Form.reads l.form) (ahead l.row.walk))
    × (l.part-iterator.walk.layer ≡ l.row.walk.layer)
    × (l.tally.items + length l.part-iterator.walk.rest.now ≤ length l.row.walk.rest.now)
    × (l.tally.actions + length l.part-iterator.walk.rest.now ≤ length l.row.walk.rest.now)
    × (l.tally.action_options + length l.part-iterator.walk.rest.now ≤ length l.row.walk.rest.now)
    × (l.tally.length + 2 * length l.part-iterator.walk.rest.now ≤ 2 * length l.row.walk.rest.now)
