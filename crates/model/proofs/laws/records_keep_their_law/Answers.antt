use Rattle.model.proofs.RecordLaws.{records_lawful}
use Rattle.model.proofs.laws.records_keep_their_law.Goals as goal

pub returns : goal.returns
returns c = records_lawful
