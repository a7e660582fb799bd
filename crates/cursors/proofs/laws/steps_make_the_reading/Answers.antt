use Rattle.cursors.proofs.Whole.{steps_make_the_reading}
use Rattle.cursors.proofs.laws.steps_make_the_reading.Goals as goal

pub returns : goal.returns
returns c = steps_make_the_reading
