use Rattle.model.proofs.WriteRefusals.{writing_out_answers_the_first_cause}
use Rattle.model.proofs.laws.writing_out_answers_the_first_cause.Goals as goal

pub returns : goal.returns
returns c = writing_out_answers_the_first_cause
