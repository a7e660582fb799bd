use Rattle.std.proofs.Common.{◌≡◌, ◌+◌, false, eqb, drop, sym, ◌∙◌}
use Rattle.std.proofs.lemmas.List.{at_drop_all, at_drop_more}
use Rattle.model.specs.Text.{test, is_text}
use Rattle.payload.proofs.TextSteps.{ended}
use Rattle.payload.proofs.Utf8.{decided}
use Rattle.payload.proofs.text.is_utf8.Goals as goal

pub returns-in-None : goal.returns-in-None
returns-in-None c =
    let l = c.loop-byte in
    let p = l.partway in
    let text = c.args.text.now in
    let e : false ≡ is_text text =
    sym (at_drop_more (test p.left p.from p.to) text l.byte-index 0 c.loop-byte-test.true ∙ c.in-None.ensures (drop (l.byte-index + 1) text)) ∙ l.invariant in
    record { test = e; decides = decided false text e }

pub returns : goal.returns
returns c =
    let l = c.loop-byte in
    let p = l.partway in
    let text = c.args.text.now in
    let e : eqb p.left 0 ≡ is_text text =
    ended p.left p.from p.to ∙ sym (at_drop_all (test p.left p.from p.to) text l.byte-index c.loop-byte-test.false) ∙ l.invariant in
    record { test = e; decides = decided (eqb p.left 0) text e }
