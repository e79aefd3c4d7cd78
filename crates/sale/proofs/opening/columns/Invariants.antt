use Rattle.std.proofs.Common.{◌≡◌, take}
use Rattle.sale.specs.Opening.{units_of_lots, prices_of_lots}
use Rattle.sale.proofs.opening.columns.Given as goal

abbrev pub invariant-loop-lot : goal.invariant-loop-lot
invariant-loop-lot l = (l.units.items ≡ units_of_lots (take l.lot-index l.lots)) × (l.prices.items ≡ prices_of_lots (take l.lot-index l.lots))
