use Rattle.std.proofs.Common.{◌+◌, ◌*◌, length, sym, ap, ◌∙◌, arith}
use Rattle.model.specs.Faults.{answered, layer_number}
use Rattle.netlink.specs.Walking.{ahead}
use Rattle.filter.specs.declared.tally.Tally.{Tally}
use Rattle.filter.specs.Summaries.{tally_behind}
use Rattle.filter.proofs.Rows.{found-one, tally-more}
use Rattle.filter.proofs.Shrinks.{shrinks}
use Rattle.filter.proofs.form.read_each.Goals as goal

pub loop-part-preserved : goal.loop-part-preserved
loop-part-preserved g c =
    let a = c.in_ok-part.part.nla in
    let step = found-one c.loop-part.part-iterator c.next.new.self c.in-Some.part c.in_ok-part.part c.in_ok-part.was c.in-Some.ensures.steps in
    let reads = g.F.Form.reads c.args.form.now in
    let layer = layer_number c.args.row.walk.layer in
    let inv = c.loop-part.invariant in
    let less = shrinks c.loop-part.part-iterator.walk c.next.new.self.walk a step in
    let b = c.in_ok-read.ensures.bounds in
    let j = c.add-tally.ensures in
    let h = sym c.read.ensures.value ∙ ap answered c.in_ok-read.was in
    let rest = c.next.new.self.walk.rest.now in (
      tt,
      tt,
      ap (λ (t : Tally). tally_behind t layer reads (ahead c.next.new.self.walk)) j
          ∙ sym (tally-more c.loop-part.tally layer reads a.place a.word a.value.now (ahead c.next.new.self.walk) c.in_ok-read.field-0 h)
          ∙ ap (tally_behind c.loop-part.tally layer reads) (sym step.0)
          ∙ inv.2,
      step.3 ∙ inv.3,
      omega (arith, ap (λ (t : Tally). t.items + length rest) j, less, b.1.0, b.0, inv.4),
      omega (arith, ap (λ (t : Tally). t.actions + length rest) j, less, b.1.1, inv.5),
      omega (arith, ap (λ (t : Tally). t.action_options + length rest) j, less, b.1.2, inv.6),
      omega (arith, ap (λ (t : Tally). t.length + 2 * length rest) j, less, b.1.3, inv.7),
    )
