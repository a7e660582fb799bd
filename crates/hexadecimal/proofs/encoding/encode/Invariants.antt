use Rattle.std.proofs.Common.{◌≡◌, ◌++◌, drop, string_bytes}
use Rattle.hexadecimal.specs.Hex.{encode}
use Rattle.hexadecimal.proofs.encoding.encode.Given as goal

abbrev pub invariant-loop-byte : goal.invariant-loop-byte
invariant-loop-byte l =
    string_bytes l.text ++ encode (drop l.byte-index l.bytes) ≡ string_bytes l.initial.text ++ encode l.bytes
