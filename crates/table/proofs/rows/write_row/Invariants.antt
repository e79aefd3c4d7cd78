use Rattle.std.proofs.Common.{◌≡◌, ℕ, ◌<◌, List, get_or}
use Rattle.bundle.specs.Bundles.{units_of}
use Rattle.bundle.specs.Stocks.{supply_of}
use Rattle.bundle.specs.Units.{bundle_at}
use Rattle.table.specs.Offers.{Computes}
use Rattle.table.proofs.rows.write_row.Given as goal

abbrev pub invariant-loop-p : goal.invariant-loop-p
invariant-loop-p g l = record {
  here : units_of l.x ≡ bundle_at (supply_of l.supply) l.p;
  written : (f : List ℕ → ℕ) → Computes (supply_of l.supply) (goal.F-post g l.worth) f → (k : ℕ) → k < l.p → get_or l.entries k 0 ≡ f (bundle_at (supply_of l.supply) k);
}
