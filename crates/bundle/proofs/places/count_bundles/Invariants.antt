use Rattle.std.proofs.Common.{◌≡◌, ◌*◌, ◌≤◌, drop}
use Rattle.bundle.specs.Bundles.{units_of}
use Rattle.bundle.specs.Supplies.{unsold_lot}
use Rattle.bundle.specs.Units.{bundles}
use Rattle.bundle.proofs.places.count_bundles.Given as goal

abbrev pub invariant-loop-lot : goal.invariant-loop-lot
invariant-loop-lot l =
    (unsold_lot (drop l.lot (units_of l.units)) l.lot l.total ≡ unsold_lot (units_of l.units) 0 1)
    × (l.total * bundles (drop l.lot (units_of l.units)) ≡ bundles (units_of l.units))
    × (l.total ≤ 4096)
