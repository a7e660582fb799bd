use Rattle.std.proofs.Common.{◌+◌, Err, sym, ap, ◌∙◌}
use Rattle.std.proofs.lemmas.Result.{err_from_is_err_and}
use Rattle.model.specs.Numbers.{Bytes}
use Rattle.model.specs.Attributes.{type_of}
use Rattle.model.specs.Faults.{answered, numbers}
use Rattle.model.specs.Walk.{walk}
use Rattle.model.specs.declared.fault.Fault.{Fault}
use Rattle.filter.specs.Summaries.{attribute_summary, tally_all}
use Rattle.filter.specs.Nests.{none, options_of}
use Rattle.filter.proofs.Nested.{nest-tally, nest-bad}
use Rattle.filter.proofs.ActionsRead.{action-as_read}
use Rattle.filter.proofs.actions.ActionsForm.read.Goals as goal

pub returns-in_err-row-clause-value : goal.returns-in_err-row-clause-value
returns-in_err-row-clause-value g c =
    let m = g.B.Book.meaning c.args.self.now.book.now in
    let b = c.args.part.now.nla in
    let a = c.in_ok-action.action in
    let row = walk (b.place + 4) b.value.now in
    let p = err_from_is_err_and c.from_residual-in_err-row.result c.from_residual-in_err-row.ensures.1 in
    let read = ap (λ (k : Bytes). tally_all 3 (attribute_summary m k) row) (sym c.as_bytes.ensures.value) ∙ sym c.read_inside.ensures.value ∙ ap answered c.in_err-row.was in
    ap answered p.1 ∙ ap (λ (h : Fault). Err (numbers h)) p.2
    ∙ nest-bad 3 (attribute_summary m a.kind.now) (type_of b.word) none options_of _ row (numbers c.in_err-row.field-0.0) (action-as_read b m c.args.part.now.inside c.parse.result a c.parse.ensures.found c.in_ok-action.was) read

pub returns-clause-value : goal.returns-clause-value
returns-clause-value g c =
    let m = g.B.Book.meaning c.args.self.now.book.now in
    let b = c.args.part.now.nla in
    let a = c.in_ok-action.action in
    let row = walk (b.place + 4) b.value.now in
    let read = ap (λ (k : Bytes). tally_all 3 (attribute_summary m k) row) (sym c.as_bytes.ensures.value) ∙ sym c.read_inside.ensures.value ∙ ap answered c.in_ok-row.was in
    nest-tally 3 (attribute_summary m a.kind.now) (type_of b.word) none options_of _ row c.in_ok-row.row c.nest.result (action-as_read b m c.args.part.now.inside c.parse.result a c.parse.ensures.found c.in_ok-action.was) read c.nest.ensures
