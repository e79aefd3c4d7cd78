use Rattle.award.proofs.Reserves.{sale_is_settled}
use Rattle.award.proofs.theorems.sale_is_settled_stands.Goals as goal

pub returns : goal.returns
returns c = sale_is_settled
