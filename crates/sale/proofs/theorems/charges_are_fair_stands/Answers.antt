use Rattle.sale.proofs.Closes.{charges_are_fair}
use Rattle.sale.proofs.theorems.charges_are_fair_stands.Goals as goal

pub returns : goal.returns
returns c = charges_are_fair
