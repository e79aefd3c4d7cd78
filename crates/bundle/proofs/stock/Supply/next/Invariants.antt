use Rattle.std.proofs.Common.{◌≡◌, ℕ, ◌≤◌, ◌++◌, length, get_or, take, drop}
use Rattle.bundle.specs.Bundles.{units_of}
use Rattle.bundle.specs.Stocks.{supply_of}
use Rattle.bundle.specs.Units.{next}
use Rattle.bundle.proofs.stock.Supply.next.Given as goal

abbrev pub invariant-loop-lot : goal.invariant-loop-lot
invariant-loop-lot l =
    (length l.counts ≡ 12)
    × (take l.lot (take l.x.lots l.counts) ++ next (drop l.lot (supply_of l.self)) (drop l.lot (take l.x.lots l.counts)) ≡ next (supply_of l.self) (units_of l.x))
    × ((k : ℕ) → l.x.lots ≤ k → get_or l.counts k 0 ≡ 0)
