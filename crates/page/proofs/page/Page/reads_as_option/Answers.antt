use Rattle.std.proofs.Common.{Err, ap, ◌∙◌}
use Rattle.std.proofs.lemmas.Result.{err_from_is_err_and}
use Rattle.model.specs.Faults.{answered, numbers}
use Rattle.model.specs.declared.fault.Fault.{Fault}
use Rattle.page.proofs.Alone.{option_alone, option_refused}
use Rattle.page.proofs.page.Page.reads_as_option.Goals as goal

pub returns : goal.returns
returns c = λ m.
    option_alone m c.args.self.now.used c.args.word c.args.value.now c.parse.result c.context.result c.in_ok-context.field-0
    c.requires c.context.ensures c.in_ok-context.was (c.parse.ensures.reads m)

pub returns-in_err-context : goal.returns-in_err-context
returns-in_err-context c = λ m.
    let p = err_from_is_err_and c.from_residual.result c.from_residual.ensures.1 in
    ap answered p.1 ∙ ap (λ (f : Fault). Err (numbers f)) p.2
    ∙ option_refused m c.args.self.now.used c.args.word c.args.value.now c.parse.result c.context.result c.in_err-context.field-0.0
    c.context.ensures c.in_err-context.was (c.parse.ensures.reads m)
