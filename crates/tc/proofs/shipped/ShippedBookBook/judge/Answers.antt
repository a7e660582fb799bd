use Rattle.std.proofs.Common.{ap, ◌∙◌}
use Rattle.model.specs.Book.{judgement}
use Rattle.tc_options.specs.Mirrors.{mirror_option}
use Rattle.tc_options.specs.Nats.{nat_option}
use Rattle.tc_options.specs.TunnelKeys.{tunnel_key_option}
use Rattle.tc.proofs.Named.{mirror-answer, nat-answer, tunnel_key-answer}
use Rattle.tc.proofs.shipped.ShippedBookBook.judge.Goals as goal

pub returns-in-Mirror : goal.returns-in-Mirror
returns-in-Mirror c =
    c.verdict.ensures ∙ ap judgement (mirror-answer c.args.kind.now c.args.word c.args.payload c.type_inv.payload c.in-Mirror.ensures (c.parse.ensures ∙ ap mirror_option c.asked-option.ensures))

pub returns-in-Nat : goal.returns-in-Nat
returns-in-Nat c =
    c.verdict-in-Nat.ensures ∙ ap judgement (nat-answer c.args.kind.now c.args.word c.args.payload c.type_inv.payload c.in-Nat.ensures (c.parse-in-Nat.ensures ∙ ap nat_option c.asked-option.ensures))

pub returns-in-TunnelKey : goal.returns-in-TunnelKey
returns-in-TunnelKey c =
    c.verdict-in-TunnelKey.ensures ∙ ap judgement (tunnel_key-answer c.args.kind.now c.args.word c.args.payload c.type_inv.payload c.in-TunnelKey.ensures (c.parse-in-TunnelKey.ensures ∙ ap tunnel_key_option c.asked-option.ensures))
