-- What a `Supply` stands for. Assumes nothing: these are definitions.
use Rattle.std.specs.Prelude.{◌≡◌, ℕ, List, None, Ok, Err, Result}
use Rattle.bundle.specs.Units.{bundles}
use Rattle.bundle.specs.Bundles.{units_of}
use Rattle.bundle.specs.Supplies.{unsold_lot, sold_but}
use Rattle.bundle.specs.declared.refusals.SupplyRefusal.{SupplyRefusal}
use Rattle.bundle.specs.declared.stock.Supply.{Supply}

-- the units for sale of each lot
abbrev pub supply_of : Supply → List ℕ
supply_of s = units_of s.units

-- how many bundles there are within it
abbrev pub bundles_of : Supply → ℕ
bundles_of s = bundles (supply_of s)

-- the number of bundles, or the first lot that cannot be sold
abbrev pub Counted : List ℕ → Result ℕ SupplyRefusal → Type 0
Counted us (Ok n) = (unsold_lot us 0 1 ≡ None) × (n ≡ bundles us)
Counted us (Err e) = sold_but (unsold_lot us 0 1) us ≡ Err e
