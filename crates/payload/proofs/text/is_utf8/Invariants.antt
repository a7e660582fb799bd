use Rattle.std.proofs.Common.{◌≡◌, drop}
use Rattle.model.specs.Text.{test, is_text}
use Rattle.payload.proofs.text.is_utf8.Given as goal

abbrev pub invariant-loop-byte : goal.invariant-loop-byte
invariant-loop-byte l = test l.partway.left l.partway.from l.partway.to (drop l.byte-index l.text) ≡ is_text l.text
