use Rattle.model.proofs.CauseNumbers.{each_cause_has_its_number}
use Rattle.model.proofs.laws.each_cause_has_its_number.Goals as goal

pub returns : goal.returns
returns c = each_cause_has_its_number
