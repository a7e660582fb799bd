use Rattle.std.proofs.Common.{Err, Result, ap, ◌∙◌}
use Rattle.std.proofs.lemmas.Result.{err_from_is_err_and}
use Rattle.model.specs.declared.fault.Fault.{Fault}
use Rattle.tc_filter.specs.Leaves.{Inside}
use Rattle.tc_filter.specs.declared.content.Content.{Content}
use Rattle.filter.specs.Held.{content_heard}
use Rattle.filter.specs.Reads.{attribute_inside}
use Rattle.filter.specs.Nests.{read_in_attribute}
use Rattle.filter.proofs.Contents.{attribute_reads_inside, attribute-refused}
use Rattle.filter.proofs.attributes.inside.Goals as goal

pub returns-clause-reads : goal.returns-clause-reads
returns-clause-reads c =
    let b = c.args.nla.now in
    λ m k.
    ap (λ (i : Inside). read_in_attribute m k i) c.attribute_content.ensures
    ∙ attribute_reads_inside m k b.place b.word b.value.now c.parse.result c.context.result (c.parse.ensures.reads m k) c.context.ensures c.in_ok-attribute.attribute c.in_ok-attribute.was

pub returns-in_err-attribute-clause-reads : goal.returns-in_err-attribute-clause-reads
returns-in_err-attribute-clause-reads c =
    λ m k.
    let b = c.args.nla.now in
    let p = err_from_is_err_and c.from_residual.result c.from_residual.ensures.1 in
    ap (λ (q : Result Content Fault). attribute_inside m k (content_heard q)) (p.1 ∙ ap (λ (f : Fault). Err f) p.2)
    ∙ attribute-refused m k b.place b.word b.value.now c.parse.result c.context.result (c.parse.ensures.reads m k) c.context.ensures c.in_err-attribute.field-0.0 c.in_err-attribute.was
