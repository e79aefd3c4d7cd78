-- What a farm asks for. Assumes nothing: these are definitions.
use Rattle.std.specs.Prelude.{ℕ, List}

-- one alternative of a farm: the units wanted of each lot, and what the farm states that they are worth together
pub record Bid : Type 0 where
  pub want : List ℕ
  pub value : ℕ

-- alternatives of which at most one is awarded
abbrev pub Bids : Type 0
Bids = List Bid
