use Rattle.model.proofs.Orders.{order_is_free}
use Rattle.model.proofs.laws.order_is_free.Goals as goal

pub returns : goal.returns
returns c = order_is_free
