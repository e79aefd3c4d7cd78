-- What stands in the table, in the subject's words. Assumes nothing: these are definitions and statements.
use Rattle.std.specs.Prelude.{◌≡◌, ℕ, ◌+◌, ◌*◌, ◌≤◌, List, length, drop, slice_index}
use Rattle.bundle.specs.Units.{place, bundles, Within}
use Rattle.vcg.specs.Auction.{Auction}
use Rattle.vcg.specs.Optimum.{Most}
use Rattle.table.specs.Tables.{table_of}

-- the auction of the units x to the bidders from the k-th on
abbrev pub part_of : Auction → ℕ → List ℕ → Auction
part_of a k x = record { supply = x; keep = a.keep; bidders = drop k a.bidders }

-- each entry is reached by a choice of the bidders from k on within x, and no such choice is worth more
abbrev pub EntriesAreMost : Type 0
EntriesAreMost =
    (a : Auction) (k : ℕ) (x : List ℕ) → k ≤ length a.bidders → length x ≡ length a.supply → Within x a.supply →
    Most (part_of a k x) (slice_index (table_of a) (k * bundles a.supply + place a.supply x))

-- and there are no others: a row for each bidder and one for the seller, with an entry for each bundle
abbrev pub EntriesAreAll : Type 0
EntriesAreAll = (a : Auction) → length (table_of a) ≡ (length a.bidders + 1) * bundles a.supply
