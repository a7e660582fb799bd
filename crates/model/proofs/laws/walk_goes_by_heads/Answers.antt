use Rattle.model.proofs.Heads.{walk_goes_by_heads}
use Rattle.model.proofs.laws.walk_goes_by_heads.Goals as goal

pub returns : goal.returns
returns c = walk_goes_by_heads
