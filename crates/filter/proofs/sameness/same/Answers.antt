use Rattle.std.proofs.Common.{rules, ◌≡◌, length, sym, ap, ◌∙◌, Ok}
use Rattle.std.specs.Str.{bytes_eq}
use Rattle.model.specs.Faults.{answered}
use Rattle.tc.proofs.Told.{octets}
use Rattle.filter.proofs.Alike.{out_written, front_is, alike_decides}
use Rattle.filter.proofs.sameness.same.Goals as goal

pub returns-clause-decides : goal.returns-clause-decides
returns-clause-decides g c =
    let m = g.B.Book.meaning c.args.book.now in
    let law = g.met.B.Book.lawful c.args.book.now in
    let a = c.args.first.now in
    let b = c.args.second.now in
    let old = c.args.first_output.now in
    let old' = c.args.second_output.now in
    let one : c.write_out.result ≡ Ok c.in_ok-one.one = search rules in
    let other : c.write_out-2.result ≡ Ok c.in_ok-other.other = search rules in
    let x = out_written m a (length old) c.in_ok-one.one (sym c.write_out.ensures.value ∙ ap answered one) in
    let y = out_written m b (length old') c.in_ok-other.other (sym c.write_out-2.ensures.value ∙ ap answered other) in
    let fx = front_is m a old c.write_out.new.output x.0 c.in_ok-one.one x.1.0 x.1.1 c.write_out.ensures.after in
    let fy = front_is m b old' c.write_out-2.new.output y.0 c.in_ok-other.other y.1.0 y.1.1 c.write_out-2.ensures.after in
    alike_decides m law a b (octets a c.type_inv.first) (octets b c.type_inv.second) (length old) (length old') x.0 y.0 x.1.0 y.1.0 c.eq.result (c.eq.ensures ∙ (λ i. bytes_eq (fx i) (fy i)))
