use Rattle.std.proofs.Common.{◌+◌, Err, sym, ap, ◌∙◌}
use Rattle.std.proofs.lemmas.Result.{err_from_is_err_and}
use Rattle.model.specs.Attributes.{attribute}
use Rattle.model.specs.Faults.{answered, numbers}
use Rattle.model.specs.Walk.{walk}
use Rattle.model.specs.declared.fault.Fault.{Fault}
use Rattle.tc_filter.specs.declared.content.Content.{Content}
use Rattle.tc_filter.specs.Leaves.{content_meant, leaf_word, leaf_payload}
use Rattle.filter.specs.Summaries.{tally_of, option_summary, action_summary}
use Rattle.filter.specs.Nests.{items_of, options_of, read_in_option}
use Rattle.filter.proofs.Nested.{leaf-tally, nest-tally, nest-bad}
use Rattle.filter.proofs.options.OptionsForm.read.Goals as goal

pub returns-in_err-leaf-clause-value : goal.returns-in_err-leaf-clause-value
returns-in_err-leaf-clause-value g c =
    let p = err_from_is_err_and c.from_residual.result c.from_residual.ensures.1 in
    ap answered p.1 ∙ ap (λ (h : Fault). Err (numbers h)) p.2 ∙ ap tally_of (c.in_err-leaf.ensures.reads (g.B.Book.meaning c.args.self.now.book.now))

pub returns-in_err-row-in-Nest-clause-value : goal.returns-in_err-row-in-Nest-clause-value
returns-in_err-row-in-Nest-clause-value g c =
    let m = g.B.Book.meaning c.args.self.now.book.now in
    let nest = c.in-Nest.nest in
    let reads = ap (λ (i : Content). read_in_option m (content_meant i)) (sym c.in-Nest.is) ∙ c.in_ok-leaf.ensures.reads m in
    let f = c.in_err-row-in-Nest.field-0.0 in
    let p = err_from_is_err_and c.from_residual-in_err-row-in-Nest.result c.from_residual-in_err-row-in-Nest.ensures.1 in
    let row = sym c.read_inside.ensures.value ∙ ap answered c.in_err-row-in-Nest.was in
    ap answered p.1 ∙ ap (λ (h : Fault). Err (numbers h)) p.2
    ∙ nest-bad 2 (action_summary m) 7 items_of options_of _ (walk (nest.place + 4) nest.value.now) (numbers f) reads row

pub returns-in-Leaf-clause-value : goal.returns-in-Leaf-clause-value
returns-in-Leaf-clause-value g c =
    let m = g.B.Book.meaning c.args.self.now.book.now in
    let reads = ap (λ (i : Content). read_in_option m (content_meant i)) (sym c.in-Leaf.is) ∙ c.in_ok-leaf.ensures.reads m in
    leaf-tally (option_summary m c.args.part.now.nla.place c.args.part.now.nla.word c.args.part.now.nla.value.now) (attribute (leaf_word c.in-Leaf.leaf) (leaf_payload c.in-Leaf.leaf)) c.value_len.result c.leaf.result reads c.value_len.ensures c.leaf.ensures

pub returns-in_ok-row-in-Nest-clause-value : goal.returns-in_ok-row-in-Nest-clause-value
returns-in_ok-row-in-Nest-clause-value g c =
    let m = g.B.Book.meaning c.args.self.now.book.now in
    let nest = c.in-Nest.nest in
    let row = c.in_ok-row-in-Nest.row in
    let reads = ap (λ (i : Content). read_in_option m (content_meant i)) (sym c.in-Nest.is) ∙ c.in_ok-leaf.ensures.reads m in
    let read = sym c.read_inside.ensures.value ∙ ap answered c.in_ok-row-in-Nest.was in
    nest-tally 2 (action_summary m) 7 items_of options_of _ (walk (nest.place + 4) nest.value.now) row c.nest.result reads read c.nest.ensures
