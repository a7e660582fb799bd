use Rattle.model.proofs.RoundTrip.{round_trip}
use Rattle.model.proofs.laws.round_trip_holds.Goals as goal

pub returns : goal.returns
returns c = round_trip
