use Rattle.std.proofs.Common.{◌≡◌, ◌+◌, ◌-◌, ◌*◌, ◌<◌, ◌≤◌, cond, ltb, length, drop, Some, None, sym, ap, ◌∙◌, arith, length-drop}
use Rattle.std.proofs.lemmas.List.{take_rest}
use Rattle.model.specs.Numbers.{Bytes}
use Rattle.model.specs.Records.{key}
use Rattle.tc_records.specs.Layouts.{of_key}
use Rattle.tc_records.proofs.Keys.{no_key, a_key, key-read}
use Rattle.tc_records.proofs.selector.TcU32Selector.key.Goals as goal

pub returns-then-i-self-clause-whole : goal.returns-then-i-self-clause-whole
returns-then-i-self-clause-whole c = λ _. sym (no_key c.args.self.now.nkeys c.args.i c.args.self.now.keys.now c.if-i-self.true)

pub returns-clause-whole : goal.returns-clause-whole
returns-clause-whole c =
    let bs = c.args.self.now.keys.now in
    let i = c.args.i in
    let within : i < c.args.self.now.nkeys = c.if-i-self.false in
    λ h. let there : 16 * i + 16 ≤ length bs = omega arith in
    let size : length (drop (16 * i) bs) ≡ length bs - 16 * i = length-drop (16 * i) bs in
    let rest = c.in_ok-get.ensures.lookup.0.2 ∙ take_rest bs (16 * i) in
    key-read (drop (16 * i) bs) c.read.result (omega arith) (c.read.ensures ∙ ap (λ (x : Bytes). cond (ltb (length x) 16) None (Some (of_key (key.decode x)))) rest)
    ∙ sym (a_key c.args.self.now.nkeys i bs within)
