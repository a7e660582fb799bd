use Rattle.std.proofs.Common.{◌≡◌, vec_items}
use Rattle.std.specs.Slice.Iter.{chunks_rest, chunks_size}
use Rattle.hexadecimal.specs.Hex.{decode, behind}
use Rattle.hexadecimal.proofs.decoding.decode.Given as goal

abbrev pub invariant-loop-pair : goal.invariant-loop-pair
invariant-loop-pair l =
    (chunks_size l.pair-iterator ≡ 2) × (behind (vec_items l.bytes) (decode (chunks_rest l.pair-iterator)) ≡ decode l.text)
