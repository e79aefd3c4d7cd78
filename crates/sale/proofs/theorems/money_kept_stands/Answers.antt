use Rattle.sale.proofs.Closes.{money_kept}
use Rattle.sale.proofs.theorems.money_kept_stands.Goals as goal

pub returns : goal.returns
returns c = money_kept
