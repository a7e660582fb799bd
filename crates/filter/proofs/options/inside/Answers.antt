use Rattle.std.proofs.Common.{Err, Result, ap, ◌∙◌}
use Rattle.std.proofs.lemmas.Result.{err_from_is_err_and}
use Rattle.model.specs.declared.fault.Fault.{Fault}
use Rattle.tc_filter.specs.Leaves.{Inside}
use Rattle.tc_filter.specs.declared.content.Content.{Content}
use Rattle.filter.specs.Held.{content_heard}
use Rattle.filter.specs.Reads.{option_inside}
use Rattle.filter.specs.Nests.{read_in_option}
use Rattle.filter.proofs.Contents.{option_reads_inside, option-refused}
use Rattle.filter.proofs.options.inside.Goals as goal

pub returns-clause-reads : goal.returns-clause-reads
returns-clause-reads c =
    let b = c.args.nla.now in
    λ m.
    ap (λ (i : Inside). read_in_option m i) c.option_content.ensures
    ∙ option_reads_inside m b c.parse.result c.context.result (c.parse.ensures.reads m) c.parse.ensures.part c.context.ensures c.in_ok-option.option c.in_ok-option.was

pub returns-in_err-option-clause-reads : goal.returns-in_err-option-clause-reads
returns-in_err-option-clause-reads c =
    λ m.
    let b = c.args.nla.now in
    let p = err_from_is_err_and c.from_residual.result c.from_residual.ensures.1 in
    ap (λ (q : Result Content Fault). option_inside m (content_heard q)) (p.1 ∙ ap (λ (f : Fault). Err f) p.2)
    ∙ option-refused m b c.parse.result c.context.result (c.parse.ensures.reads m) c.context.ensures c.in_err-option.field-0.0 c.in_err-option.was
