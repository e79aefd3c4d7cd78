use Rattle.std.proofs.Common.{◌≡◌, ℕ, ◌≤◌, ◌++◌, length, get_or, take, drop}
use Rattle.bundle.specs.Stocks.{supply_of}
use Rattle.bundle.specs.Units.{bundle_at}
use Rattle.bundle.proofs.stock.Supply.bundle_at.Given as goal

abbrev pub invariant-loop-lot : goal.invariant-loop-lot
invariant-loop-lot l =
    (length l.counts ≡ 12)
    × (take l.lot l.counts ++ bundle_at (drop l.lot (supply_of l.self)) l.left ≡ bundle_at (supply_of l.self) l.place)
    × ((k : ℕ) → l.lot ≤ k → get_or l.counts k 0 ≡ 0)
