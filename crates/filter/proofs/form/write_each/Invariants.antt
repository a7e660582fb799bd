use Rattle.std.proofs.Common.{◌≡◌, ◌+◌, ◌-◌, ◌≤◌, length}
use Rattle.model.specs.Faults.{layer_number}
use Rattle.model.specs.Page.{over}
use Rattle.model.specs.Reading.{each}
use Rattle.netlink.specs.Walking.{ahead}
use Rattle.filter.specs.Writes.{at_front, RoomForRow, row_form}
use Rattle.filter.proofs.form.write_each.Given as goal

abbrev pub invariant-loop-part : goal.invariant-loop-part
invariant-loop-part g l =
    (goal.iterator-loop-part g).can_next l.part-iterator
    × (goal.iterator-loop-part g).is_finite l.part-iterator
    × (l.end ≤ length l.output)
    × RoomForRow (each (layer_number l.row.walk.layer) (g.F.Form.reads l.form) (ahead l.part-iterator.walk)) (length l.output - l.end)
    × (over l.output l.end (row_form (each (layer_number l.row.walk.layer) (g.F.Form.reads l.form) (ahead l.part-iterator.walk))) ≡ at_front l.initial.output (row_form (each (layer_number l.row.walk.layer) (g.F.Form.reads l.form) (ahead l.row.walk))))
    × (l.end + length (row_form (each (layer_number l.row.walk.layer) (g.F.Form.reads l.form) (ahead l.part-iterator.walk))) ≡ length (row_form (each (layer_number l.row.walk.layer) (g.F.Form.reads l.form) (ahead l.row.walk))))
    × (l.part-iterator.walk.layer ≡ l.row.walk.layer)
