use Rattle.byte_laws.proofs.Overwrites.{over-before}
use Rattle.byte_laws.proofs.laws.parts_side_by_side_are_one.Goals as goal

pub returns : goal.returns
returns c = over-before
