use Rattle.std.proofs.Common.{◌≡◌, ℕ, ◌+◌, ◌-◌, length, sym, ap, ◌∙◌, subst, arith}
use borrow.Rule.Slice.PartMut.{put_mid}
use Rattle.model.specs.Numbers.{Bytes}
use Rattle.model.specs.Faults.{layer_number}
use Rattle.model.specs.Page.{over}
use Rattle.model.specs.Reading.{each}
use Rattle.model.specs.Walk.{Walked}
use Rattle.netlink.specs.Walking.{ahead}
use Rattle.netlink.proofs.Overwrites.{length_over}
use Rattle.filter.specs.Writes.{RoomForRow, form_of, row_form}
use Rattle.filter.proofs.Emitted.{behind_over}
use Rattle.filter.proofs.Rows.{found-one}
use Rattle.filter.proofs.RowWrites.{step}
use Rattle.filter.proofs.form.write_each.Goals as goal

pub loop-part-preserved : goal.loop-part-preserved
loop-part-preserved g c =
    let a = c.in_ok-part.part.nla in
    let f = found-one c.loop-part.part-iterator c.next.new.self c.in-Some.part c.in_ok-part.part c.in_ok-part.was c.in-Some.ensures.steps in
    let layer = layer_number c.args.row.walk.layer in
    let reads = g.F.Form.reads c.args.form.now in
    let inv = c.loop-part.invariant in
    let out = c.loop-part.output in
    let end = c.loop-part.end in
    let q = reads a.place a.word a.value.now in
    let k = each layer reads (ahead c.next.new.self.walk) in
    let s = step q k out end inv.2 (subst (λ (w : Walked). RoomForRow (each layer reads w) (length out - end)) f.0 inv.3) in
    let was = c.in_ok-end.was in
    let value = c.write.ensures.value in
    let size : c.in_ok-end.field-0 ≡ length (form_of q) = cc in
    let now : Bytes = put_mid end (length out - end) out c.write.new.output in
    let new : now ≡ over out end (form_of q) = behind_over out end (form_of q) c.write.new.output c.write.ensures.after inv.2 in
    let long : length now ≡ length out = ap length new ∙ length_over out end (form_of q) s.fits in
    let left : length out - (end + length (form_of q)) ≡ length now - (end + c.in_ok-end.field-0) = omega arith in (
      tt,
      tt,
      omega (arith, s.fits),
      subst (RoomForRow k) left s.rest,
      (λ i. over (new i) (end + size i) (row_form k)) ∙ s.bytes ∙ ap (λ (w : Walked). over out end (row_form (each layer reads w))) (sym f.0) ∙ inv.4,
      ap (λ (n : ℕ). end + n + length (row_form k)) size ∙ s.ends ∙ ap (λ (w : Walked). end + length (row_form (each layer reads w))) (sym f.0) ∙ inv.5,
      f.3 ∙ inv.6,
    )
