use Rattle.std.proofs.Common.{rules, arith}
use Rattle.hexadecimal.proofs.Steps.{decode_step}
use Rattle.hexadecimal.proofs.decoding.decode.Goals as goal

pub loop-pair-preserved : goal.loop-pair-preserved
loop-pair-preserved c = (
  search rules,
  decode_step _ c.in-Some.pair.now _ _ _ c.in-Some-byte.found _ (omega (arith, c.in-len2.len_at_least, c.in-len2.len_below))
      c.in-Some.ensures.steps.1.0 c.in-Some-byte.ensures c.in_ok-push-in-Some-byte.ensures.items c.loop-pair.invariant.1,
)
