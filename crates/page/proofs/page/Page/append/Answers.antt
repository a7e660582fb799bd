use Rattle.std.proofs.Common.{◌≡◌, ◌+◌, ◌-◌, ◌≤◌, false, ltb, length, Ok, sym, ◌∙◌, arith}
use Rattle.std.proofs.lemmas.Bool.{le-ltb, cond-false}
use Rattle.model.specs.Attributes.{rounded}
use Rattle.model.specs.Page.{state}
use Rattle.page.specs.Levels.{heads_of}
use Rattle.page.specs.Steps.{outcome}
use Rattle.page.proofs.Appends.{appends}
use Rattle.page.proofs.page.Page.append.Goals as goal

pub returns-in-Ok : goal.returns-in-Ok
returns-in-Ok c =
    let p = c.args.self.now in
    let x = c.args.value.now in
    let k = appends c.args.word x c.args.memory.now c.emit.new.buffer p.used c.in-Ok.size c.in-Ok.ensures.value c.emit.ensures.after in
    let grown : c.in-Ok.size ≡ 4 + rounded (length x) = k.0 in
    let within : c.in-Ok.size ≤ length c.args.memory.now - p.used = k.1 in
    let room : ltb (p.size - p.used) (4 + rounded (length x)) ≡ false = le-ltb (p.size - p.used) (4 + rounded (length x)) (omega arith) in
    (λ i. outcome (Ok tt) (state (record { size = p.size; used = p.used + grown i; heads = heads_of p.level }) (k.2 i))) ∙ sym (cond-false _ _ _ room)
