use Rattle.model.proofs.Walk.{walk_of_encode}
use Rattle.model.proofs.laws.walk_finds_what_is_written.Goals as goal

pub returns : goal.returns
returns c = walk_of_encode
