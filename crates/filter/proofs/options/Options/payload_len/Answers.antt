use Rattle.std.proofs.Common.{ℕ, ◌+◌, Ok, Err, sym, ap, ◌∙◌}
use Rattle.std.proofs.lemmas.Result.{err_from_is_err_and}
use Rattle.model.specs.Faults.{Read, answered, numbers}
use Rattle.model.specs.Walk.{walk}
use Rattle.model.specs.declared.fault.Fault.{Fault}
use Rattle.tc_filter.specs.declared.content.Content.{Content}
use Rattle.tc_filter.specs.Leaves.{content_meant}
use Rattle.filter.specs.Summaries.{action_summary}
use Rattle.filter.specs.Nests.{items_of, options_of, read_in_option}
use Rattle.filter.specs.WriteOut.{payload_length}
use Rattle.filter.proofs.Nested.{nest_payload, nest_payload_bad}
use Rattle.filter.proofs.options.Options.payload_len.Goals as goal

pub returns-in_err-leaf : goal.returns-in_err-leaf
returns-in_err-leaf g c =
    let m = g.B.Book.meaning c.args.self.now.book.now in
    let p = err_from_is_err_and c.from_residual.result c.from_residual.ensures.1 in
    ap answered p.1 ∙ ap (λ (h : Fault). Err (numbers h)) p.2 ∙ ap payload_length (c.in_err-leaf.ensures.reads m)

pub returns-in_err-row-in-Nest : goal.returns-in_err-row-in-Nest
returns-in_err-row-in-Nest g c =
    let m = g.B.Book.meaning c.args.self.now.book.now in
    let nest = c.in-Nest.nest in
    let reads = ap (λ (i : Content). read_in_option m (content_meant i)) (sym c.in-Nest.is) ∙ c.in_ok-leaf.ensures.reads m in
    let p = err_from_is_err_and c.from_residual-in_err-row-in-Nest.result c.from_residual-in_err-row-in-Nest.ensures.1 in
    let row = sym c.read_inside.ensures.value ∙ ap answered c.in_err-row-in-Nest.was in
    ap answered p.1 ∙ ap (λ (h : Fault). Err (numbers h)) p.2
    ∙ nest_payload_bad 2 (action_summary m) 7 items_of options_of _ (walk (nest.place + 4) nest.value.now) (numbers c.in_err-row-in-Nest.field-0.0) reads row

pub returns-in-Leaf : goal.returns-in-Leaf
returns-in-Leaf g c =
    let m = g.B.Book.meaning c.args.self.now.book.now in
    let reads = ap (λ (i : Content). read_in_option m (content_meant i)) (sym c.in-Leaf.is) ∙ c.in_ok-leaf.ensures.reads m in
    ap {B = Read ℕ} (λ (n : ℕ). Ok n) c.value_len.ensures ∙ ap payload_length reads

pub returns-in_ok-row-in-Nest : goal.returns-in_ok-row-in-Nest
returns-in_ok-row-in-Nest g c =
    let m = g.B.Book.meaning c.args.self.now.book.now in
    let nest = c.in-Nest.nest in
    let reads = ap (λ (i : Content). read_in_option m (content_meant i)) (sym c.in-Nest.is) ∙ c.in_ok-leaf.ensures.reads m in
    let row = sym c.read_inside.ensures.value ∙ ap answered c.in_ok-row-in-Nest.was in
    nest_payload 2 (action_summary m) 7 items_of options_of _ (walk (nest.place + 4) nest.value.now) c.in_ok-row-in-Nest.row reads row
