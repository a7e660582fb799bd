use Rattle.model.proofs.Selectors.{selector_reads_again}
use Rattle.model.proofs.laws.selector_reads_again.Goals as goal

pub returns : goal.returns
returns c = selector_reads_again
