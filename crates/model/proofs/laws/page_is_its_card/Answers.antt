use Rattle.model.proofs.Runs.{page_is_its_card}
use Rattle.model.proofs.laws.page_is_its_card.Goals as goal

pub returns : goal.returns
returns c = page_is_its_card
