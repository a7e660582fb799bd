use Rattle.model.proofs.Swaps.{every_order_is_reached}
use Rattle.model.proofs.laws.every_order_is_reached.Goals as goal

pub returns : goal.returns
returns c = every_order_is_reached
