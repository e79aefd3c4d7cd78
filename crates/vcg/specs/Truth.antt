-- What a bundle is worth by a bidder's alternatives, and why no other ones serve the bidder better than the true ones.
-- Assumes nothing: these are definitions and statements.
use Rattle.std.specs.Prelude.{◌≡◌, ℕ, ◌+◌, ◌<◌, ◌≤◌, List, length, slice_index}
use Rattle.bundle.specs.Bids.{Bids}
use Rattle.bundle.specs.Units.{Within}
use Rattle.vcg.specs.Auction.{Auction, chosen, with_bids}
use Rattle.vcg.specs.Charges.{Outcome, gets, Ruled, Grows}
use Rattle.vcg.specs.Optimum.{best_among, outcome_of}

-- what a bundle is worth: the highest stated worth of an alternative within it, 0 where there is none
abbrev pub worth : Bids → List ℕ → ℕ
worth b x = best_among (λ _. 0) x b 0

-- the same in words: w is stated for an alternative within x (or for none, w = 0), and no more for any
pub record Worth (b : Bids) (x : List ℕ) (w : ℕ) : Type 0 where
  pub at : ℕ
  pub within : Within (chosen b at).want x
  pub is : (chosen b at).value ≡ w
  pub most : (k : ℕ) → Within (chosen b k).want x → (chosen b k).value ≤ w

abbrev pub WorthExactly : Type 0
WorthExactly = (b : Bids) (x : List ℕ) (w : ℕ) → (Worth b x w → w ≡ worth b x) × (w ≡ worth b x → Worth b x w)

-- in auctions of which P holds, no bids serve bidder i better than the true ones, whatever the others bid and however ties are broken:
-- what it gets, by its true worth, less the charge
abbrev pub TrueBidsAreBest : (Auction → Type 0) → Type 0
TrueBidsAreBest P =
    (a : Auction) (i : ℕ) (honest other : Bids) (o p : Outcome) →
    i < length a.bidders →
    P a →
    Ruled (with_bids a i honest) o →
    Ruled (with_bids a i other) p →
    worth honest (gets (with_bids a i other) p i).want + slice_index o.charge i
    ≤ worth honest (gets (with_bids a i honest) o i).want + slice_index p.charge i

-- the bidder may leave units aside, so the seller's worth of units must grow with them
abbrev pub Truthful : Type 0
Truthful = TrueBidsAreBest Grows

-- otherwise neither would truth be best, nor every charge a number that is not negative
abbrev pub GrowthNeeded : Type 0
GrowthNeeded = (TrueBidsAreBest (λ _. Unit) → ⊥) × (((a : Auction) → Ruled a (outcome_of a)) → ⊥)
