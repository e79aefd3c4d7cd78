use Rattle.sale.proofs.Closes.{never_below_zero}
use Rattle.sale.proofs.theorems.never_below_zero_stands.Goals as goal

pub returns : goal.returns
returns c = never_below_zero
