use Rattle.byte_laws.proofs.Halves.{le_eight}
use Rattle.byte_laws.proofs.laws.eight_bytes_are_two_halves.Goals as goal

pub returns : goal.returns
returns c = le_eight
