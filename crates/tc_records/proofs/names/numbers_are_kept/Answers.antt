use Rattle.tc_records.proofs.Same.{outcome_kept, action_kept}
use Rattle.tc_records.proofs.names.numbers_are_kept.Goals as goal

pub returns : goal.returns
returns c = (outcome_kept, action_kept)
