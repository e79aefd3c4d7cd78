-- An auction of lots in units to bidders who each state alternatives and get at most one of them. Assumes nothing: these are definitions.
use Rattle.std.specs.Prelude.{ℕ, zero, suc, ◌+◌, List, [], ◌∷◌, slice_index_or, slice_set}
use Rattle.bundle.specs.Bids.{Bid, Bids}
use Rattle.bundle.specs.Units.{plus}

-- the supply of each lot, what the seller holds a bundle of unsold units to be worth, and the bidders
pub record Auction : Type 0 where
  pub supply : List ℕ
  pub keep : List ℕ → ℕ
  pub bidders : List Bids

abbrev pub no_bid : Bid
no_bid = record { want = []; value = 0 }

-- the alternative that a choice names: 0 is none, k + 1 is alternative k, and a number past the last is none
unfoldable pub chosen : Bids → ℕ → Bid
chosen b zero = no_bid
chosen b (suc k) = slice_index_or b k no_bid

-- what the bidders together take, under a choice for each
unfoldable pub taken : List Bids → List ℕ → List ℕ
taken [] cs = []
taken (b ∷ bs) [] = []
taken (b ∷ bs) (c ∷ cs) = plus (chosen b c).want (taken bs cs)

-- what they state it to be worth
unfoldable pub stated : List Bids → List ℕ → ℕ
stated [] cs = 0
stated (b ∷ bs) [] = 0
stated (b ∷ bs) (c ∷ cs) = (chosen b c).value + stated bs cs

-- the auction with bidder i's alternatives replaced
unfoldable pub with_bids : Auction → ℕ → Bids → Auction
with_bids a i b = record { supply = a.supply; keep = a.keep; bidders = slice_set a.bidders i b }
