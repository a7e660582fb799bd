use Rattle.std.proofs.Common.{◌≡◌, ◌+◌, ◌-◌, length, take, drop, sym, ap, ◌∙◌, subst, length-drop}
use Rattle.std.proofs.lemmas.List.{take_rest}
use Rattle.model.specs.Faults.{layer_number}
use Rattle.model.specs.Reading.{each}
use Rattle.model.specs.Walk.{Walked, walk}
use Rattle.model.specs.declared.fault.Layer.{Layer}
use Rattle.netlink.specs.Walking.{ahead}
use Rattle.filter.specs.Writes.{RoomForRow}
use Rattle.filter.proofs.RowWrites.{room_inside}
use Rattle.filter.proofs.form.write_inside.Goals as goal

pub write_each-requires : goal.write_each-requires
write_each-requires g c =
    let reads = g.F.Form.reads c.args.form.now in
    let b = c.args.part.now.nla in
    let out = c.args.output.now in
    let size : length out - 4 ≡ length (take (length out - 4) (drop 4 out)) = sym (ap length (take_rest out 4) ∙ length-drop 4 out) in
    let room = room_inside (each (layer_number c.args.layer) reads (walk (b.place + 4) b.value.now)) (length out) c.requires in
    let there = subst (λ (w : Walked). RoomForRow (each (layer_number c.args.layer) reads w) (length out - 4)) (sym c.row.ensures.walks) room in
    let here = subst (λ (l : Layer). RoomForRow (each (layer_number l) reads (ahead c.row.result.walk)) (length out - 4)) (sym c.row.ensures.layer) there in
    subst (RoomForRow (each (layer_number c.row.result.walk.layer) reads (ahead c.row.result.walk))) size here
