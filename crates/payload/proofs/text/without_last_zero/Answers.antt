use Rattle.std.proofs.Common.{◌≡◌, ◌-◌, ◌<◌, length, get_or, rules}
use Rattle.payload.proofs.Stripped.{last_zero, no_last_zero}
use Rattle.payload.proofs.text.without_last_zero.Goals as goal

pub returns-in-0 : goal.returns-in-0
returns-in-0 c =
    let h : 0 < length c.args.payload.now = search rules in
    let e : get_or c.args.payload.now (length c.args.payload.now - 1) 0 ≡ 0 = search rules in
    last_zero c.args.payload.now h e

pub returns-in_default-2 : goal.returns-in_default-2
returns-in_default-2 c =
    let other : get_or c.args.payload.now (length c.args.payload.now - 1) 0 ≡ 0 → ⊥ = search rules in
    no_last_zero c.args.payload.now (λ h e. other e)
