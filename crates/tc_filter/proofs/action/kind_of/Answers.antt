use Rattle.std.proofs.Common.{◌≡◌, Err, sym, ap, ◌∙◌}
use Rattle.std.proofs.lemmas.Result.{err_from_is_err_and}
use Rattle.model.specs.Faults.{numbers}
use Rattle.model.specs.Attributes.{type_of}
use Rattle.model.specs.declared.fault.Fault.{Fault}
use Rattle.netlink.specs.Walking.{ahead}
use Rattle.tc_filter.specs.Kinds.{kind_among, kind_heard}
use Rattle.tc_filter.proofs.KindTexts.{found-one, text-bad, kind-bad}
use Rattle.tc_filter.proofs.action.kind_of.Goals as goal

pub returns-in_err-text : goal.returns-in_err-text
returns-in_err-text c =
    let a = c.in_ok-attribute.attribute in
    let f = c.in_err-text.field-0.0 in
    let home = c.args.action.now.place in
    let one : type_of a.word ≡ 1 = sym c.kind.ensures ∙ c.if-kind-eq-TCA_ACT_KIND.true in
    let step = found-one c.loop-attribute.attribute-iterator c.next.new.self c.in-Some.attribute a c.in_ok-attribute.was c.in-Some.ensures.steps in
    let t = text-bad a.place a.value.now c.parse_string.result c.context.result c.parse_string.ensures.text c.context.ensures f c.in_err-text.was in
    let p = err_from_is_err_and c.from_residual-in_err-text.result c.from_residual-in_err-text.ensures.1 in
    ap kind_heard p.1 ∙ ap (λ (g : Fault). Err (numbers g)) p.2
    ∙ sym (kind-bad home c.loop-attribute.seen a.place a.word a.value.now (ahead c.next.new.self) one (numbers f) t)
    ∙ ap (kind_among home c.loop-attribute.seen) (sym step) ∙ c.loop-attribute.invariant.2
