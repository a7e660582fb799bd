use Rattle.model.proofs.RoundTrip.{canonical}
use Rattle.model.proofs.laws.written_form_is_canonical.Goals as goal

pub returns : goal.returns
returns c = canonical
