use Rattle.sale.proofs.Closes.{told_own}
use Rattle.sale.proofs.theorems.told_own_stands.Goals as goal

pub returns : goal.returns
returns c = told_own
