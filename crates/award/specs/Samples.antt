-- Sample sales with their awards, charges and worths. Assumes nothing: these are definitions and a statement.
use Rattle.std.specs.Prelude.{◌≡◌, ℕ, List, [], ◌∷◌}
use Rattle.std.specs.List.{AllByRecursion}
use Rattle.bundle.specs.Bids.{Bid, Bids}
use Rattle.table.specs.Tables.{at_reserve}
use Rattle.vcg.specs.Auction.{Auction}
use Rattle.vcg.specs.Optimum.{best_worth, outcome_of}

-- units for sale and reserve price of each lot, the sheets, and what comes of them
pub record Sample : Type 0 where
  pub supply : List ℕ
  pub prices : List ℕ
  pub sheets : List Bids
  pub award : List ℕ
  pub charges : List ℕ
  pub worth : ℕ

abbrev pub line : ℕ → List ℕ → Bid
line worth units = record { want = units; value = worth }

-- two lots of one unit at 10; farm 0 wants both, farm 1 the first, farm 2 the second
abbrev pub three_farms : ℕ → ℕ → List ℕ → List ℕ → ℕ → Sample
three_farms first second award charges worth =
    record {
      supply = 1 ∷ 1 ∷ [];
      prices = 10 ∷ 10 ∷ [];
      sheets = (line first (1 ∷ 1 ∷ []) ∷ []) ∷ (line second (1 ∷ 0 ∷ []) ∷ []) ∷ (line 60 (0 ∷ 1 ∷ []) ∷ []) ∷ [];
      award = award;
      charges = charges;
      worth = worth;
    }

-- one lot, and what its farms write
abbrev pub one_lot : ℕ → ℕ → List Bids → List ℕ → List ℕ → ℕ → Sample
one_lot units price sheets award charges worth =
    record { supply = units ∷ []; prices = price ∷ []; sheets = sheets; award = award; charges = charges; worth = worth }

abbrev pub samples : List Sample
samples =
    three_farms 120 70 (0 ∷ 1 ∷ 1 ∷ []) (0 ∷ 60 ∷ 50 ∷ []) 130
    ∷ three_farms 120 100 (0 ∷ 1 ∷ 1 ∷ []) (0 ∷ 60 ∷ 20 ∷ []) 160
    ∷ three_farms 120 40 (1 ∷ 0 ∷ 0 ∷ []) (100 ∷ 0 ∷ 0 ∷ []) 120
    ∷ three_farms 140 70 (1 ∷ 0 ∷ 0 ∷ []) (130 ∷ 0 ∷ 0 ∷ []) 140
    ∷ three_farms 130 70 (0 ∷ 1 ∷ 1 ∷ []) (0 ∷ 70 ∷ 60 ∷ []) 130
    ∷ one_lot 3 5 ((line 9 (2 ∷ []) ∷ line 6 (1 ∷ []) ∷ []) ∷ []) (2 ∷ []) (5 ∷ []) 16
    ∷ record { supply = 2 ∷ 3 ∷ []; prices = 7 ∷ 1 ∷ []; sheets = [] ∷ [] ∷ []; award = 0 ∷ 0 ∷ []; charges = 0 ∷ 0 ∷ []; worth = 17 }
    ∷ one_lot 2 4 ((line 9 (1 ∷ []) ∷ []) ∷ (line 7 (1 ∷ []) ∷ []) ∷ (line 6 (1 ∷ []) ∷ []) ∷ (line 3 (1 ∷ []) ∷ []) ∷ []) (1 ∷ 1 ∷ 0 ∷ 0 ∷ []) (6 ∷ 6 ∷ 0 ∷ 0 ∷ []) 16
    ∷ one_lot 1 4 ((line 4 (1 ∷ []) ∷ []) ∷ []) (0 ∷ []) (0 ∷ []) 4
    ∷ one_lot 1 4 ((line 5 (1 ∷ []) ∷ []) ∷ []) (1 ∷ []) (4 ∷ []) 5
    ∷ one_lot 1 4 ((line 5 (0 ∷ []) ∷ []) ∷ []) (1 ∷ []) (0 ∷ []) 9
    ∷ []

abbrev pub auction_in : Sample → Auction
auction_in s = at_reserve s.supply s.prices s.sheets

abbrev pub ComesOut : Sample → Type 0
ComesOut s = (outcome_of (auction_in s) ≡ record { choice = s.award; charge = s.charges }) × (best_worth (auction_in s) ≡ s.worth)

abbrev pub SamplesComeOut : Type 0
SamplesComeOut = AllByRecursion ComesOut samples
