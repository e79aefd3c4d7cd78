use Rattle.sale.proofs.Closes.{each_pays}
use Rattle.sale.proofs.theorems.each_pays_stands.Goals as goal

pub returns : goal.returns
returns c = each_pays
