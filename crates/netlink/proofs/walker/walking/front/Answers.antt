use Rattle.std.proofs.Common.{arith}
use Rattle.netlink.proofs.Fronts.{found_front}
use Rattle.netlink.proofs.walker.walking.front.Goals as goal

pub returns-else-length-lt-NLA_HEADER_SIZE : goal.returns-else-length-lt-NLA_HEADER_SIZE
returns-else-length-lt-NLA_HEADER_SIZE c =
    found_front c.args.place c.from_le_bytes-length.result c.from_le_bytes-word.result c.min-from.result c.args.bytes.now
    (omega arith) c.from_le_bytes-length.ensures c.from_le_bytes-word.ensures (omega arith) (omega arith) c.min-from.ensures
