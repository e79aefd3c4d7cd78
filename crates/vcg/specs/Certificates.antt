-- A table from elsewhere that shows a choice to be best. Assumes nothing: these are definitions and a statement.
use Rattle.std.specs.Prelude.{◌≡◌, ℕ, ◌+◌, ◌<◌, ◌≤◌, List, [], length, slice_index_or}
use Rattle.bundle.specs.Units.{less, Within}
use Rattle.vcg.specs.Auction.{Auction, no_bid}
use Rattle.vcg.specs.Best.{Feasible, worth_of, Best}

-- a table F of unknown origin, F k x for the bidders from the k-th on and the units x, passes its own steps
pub record Bounds (a : Auction) (F : ℕ → List ℕ → ℕ) : Type 0 where
  pub last : (x : List ℕ) → length x ≡ length a.supply → Within x a.supply → a.keep x ≤ F (length a.bidders) x
  pub skip : (k : ℕ) (x : List ℕ) → k < length a.bidders → length x ≡ length a.supply → Within x a.supply → F (k + 1) x ≤ F k x
  pub take : (k j : ℕ) (x : List ℕ) → k < length a.bidders → j < length (slice_index_or a.bidders k [])
      → length x ≡ length a.supply → Within x a.supply → Within (slice_index_or (slice_index_or a.bidders k []) j no_bid).want x
      → (slice_index_or (slice_index_or a.bidders k []) j no_bid).value + F (k + 1) (less x (slice_index_or (slice_index_or a.bidders k []) j no_bid).want) ≤ F k x

-- a choice that reaches the first entry of such a table is best
abbrev pub TableProof : Type 0
TableProof = (a : Auction) (F : ℕ → List ℕ → ℕ) (cs : List ℕ) → Bounds a F → Feasible a cs → worth_of a cs ≡ F 0 a.supply → Best a cs
