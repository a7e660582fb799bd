use Rattle.std.proofs.Common.{ap, ◌∙◌}
use Rattle.model.specs.Book.{Answer, writes, memory_after_writing}
use Rattle.tc_options.specs.Mirrors.{mirror_option}
use Rattle.tc_options.specs.Nats.{nat_option}
use Rattle.tc_options.specs.TunnelKeys.{tunnel_key_option}
use Rattle.tc.proofs.Named.{mirror-answer, nat-answer, tunnel_key-answer}
use Rattle.tc.proofs.shipped.ShippedBookBook.write.Goals as goal

pub returns-in-Mirror : goal.returns-in-Mirror
returns-in-Mirror c =
    let e = mirror-answer c.args.kind.now c.args.word c.args.payload c.type_inv.payload c.in-Mirror.ensures (c.parse.ensures ∙ ap mirror_option c.asked-option.ensures) in
    record {
      value = c.write_option.ensures.value ∙ ap (λ (a : Answer). writes a c.args.memory.now) e;
      after = c.write_option.ensures.after ∙ ap (λ (a : Answer). memory_after_writing a c.args.memory.now) e;
    }

pub returns-in-Nat : goal.returns-in-Nat
returns-in-Nat c =
    let e = nat-answer c.args.kind.now c.args.word c.args.payload c.type_inv.payload c.in-Nat.ensures (c.parse-in-Nat.ensures ∙ ap nat_option c.asked-option.ensures) in
    record {
      value = c.write_option-in-Nat.ensures.value ∙ ap (λ (a : Answer). writes a c.args.memory.now) e;
      after = c.write_option-in-Nat.ensures.after ∙ ap (λ (a : Answer). memory_after_writing a c.args.memory.now) e;
    }

pub returns-in-TunnelKey : goal.returns-in-TunnelKey
returns-in-TunnelKey c =
    let e = tunnel_key-answer c.args.kind.now c.args.word c.args.payload c.type_inv.payload c.in-TunnelKey.ensures (c.parse-in-TunnelKey.ensures ∙ ap tunnel_key_option c.asked-option.ensures) in
    record {
      value = c.write_option-in-TunnelKey.ensures.value ∙ ap (λ (a : Answer). writes a c.args.memory.now) e;
      after = c.write_option-in-TunnelKey.ensures.after ∙ ap (λ (a : Answer). memory_after_writing a c.args.memory.now) e;
    }
