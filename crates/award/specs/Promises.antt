-- What a sale at reserve prices promises. Assumes nothing: these are statements.
use Rattle.std.specs.Prelude.{ℕ, ◌+◌, ◌<◌, ◌≤◌, List, length, slice_index, slice_set}
use Rattle.bundle.specs.Bids.{Bids}
use Rattle.bundle.specs.Reserves.{priced}
use Rattle.table.specs.Tables.{at_reserve}
use Rattle.vcg.specs.Charges.{Outcome, gets, Ruled, Settled}
use Rattle.vcg.specs.Optimum.{outcome_of}
use Rattle.vcg.specs.Truth.{worth}

-- the outcome is by the rule: the first best choice, and every charge what the rest could have had without the farm, less what the rest has
abbrev pub SaleIsSettled : Type 0
SaleIsSettled = (supply prices : List ℕ) (sheets : List Bids) → Settled (at_reserve supply prices sheets) (outcome_of (at_reserve supply prices sheets))

-- a charge is at least the reserve of the units that the farm gets
abbrev pub ChargeCoversReserve : Type 0
ChargeCoversReserve =
    (supply prices : List ℕ) (sheets : List Bids) (o : Outcome) (i : ℕ) → i < length sheets → Ruled (at_reserve supply prices sheets) o →
    length (gets (at_reserve supply prices sheets) o i).want ≤ length supply →
    priced prices (gets (at_reserve supply prices sheets) o i).want ≤ slice_index o.charge i

-- no sheet serves farm i better than the true one, whatever the others write: what it gets, by its true worth, less the charge
abbrev pub TrueSheetIsBest : Type 0
TrueSheetIsBest =
    (supply prices : List ℕ) (sheets : List Bids) (i : ℕ) (honest other : Bids) → i < length sheets →
    let a = at_reserve supply prices (slice_set sheets i honest) in
    let b = at_reserve supply prices (slice_set sheets i other) in
    worth honest (gets b (outcome_of b) i).want + slice_index (outcome_of a).charge i
    ≤ worth honest (gets a (outcome_of a) i).want + slice_index (outcome_of b).charge i
