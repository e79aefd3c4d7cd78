use Rattle.sale.proofs.Closes.{order_free}
use Rattle.sale.proofs.theorems.order_free_stands.Goals as goal

pub returns : goal.returns
returns c = order_free
