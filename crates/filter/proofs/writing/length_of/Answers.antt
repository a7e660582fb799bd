use Rattle.std.proofs.Common.{Err, sym, ap, ◌∙◌}
use Rattle.std.proofs.lemmas.Result.{err_from_is_err_and}
use Rattle.model.specs.Faults.{answered, numbers}
use Rattle.model.specs.declared.fault.Fault.{Fault}
use Rattle.filter.proofs.WriteOuts.{length-outgrown, length-told}
use Rattle.filter.proofs.writing.length_of.Goals as goal

pub returns-in_err-check_lengths : goal.returns-in_err-check_lengths
returns-in_err-check_lengths g c =
    let m = g.B.Book.meaning c.args.book.now in
    let tally = sym c.tally.ensures ∙ ap answered c.in_ok-tally.was in
    let p = err_from_is_err_and c.from_residual-in_err-check_lengths.result c.from_residual-in_err-check_lengths.ensures.1 in
    ap answered p.1 ∙ ap (λ (h : Fault). Err (numbers h)) p.2
    ∙ length-outgrown m c.args.filter.now.bytes.now c.in_ok-tally.tally (numbers c.in_err-check_lengths.field-0.0) tally (sym c.check_lengths.ensures ∙ ap answered c.in_err-check_lengths.was)

pub returns : goal.returns
returns g c =
    let m = g.B.Book.meaning c.args.book.now in
    let tally = sym c.tally.ensures ∙ ap answered c.in_ok-tally.was in
    length-told m c.args.filter.now.bytes.now c.in_ok-tally.tally tt tally (sym c.check_lengths.ensures ∙ ap answered c.in_ok-check_lengths.was)
