-- Which choices are best, and which of them is the first. Assumes nothing: these are definitions and a statement.
use Rattle.std.specs.Prelude.{◌≡◌, ℕ, ◌+◌, ◌<◌, ◌≤◌, List, ◌∷◌, length}
use Rattle.bundle.specs.Units.{less, Within}
use Rattle.vcg.specs.Auction.{Auction, taken, stated}

-- one choice for each bidder, and together they take no more than there is
pub record Feasible (a : Auction) (cs : List ℕ) : Type 0 where
  pub long : length cs ≡ length a.bidders
  pub fits : Within (taken a.bidders cs) a.supply

-- the stated worth of a choice, and of what it leaves unsold
unfoldable pub worth_of : Auction → List ℕ → ℕ
worth_of a cs = stated a.bidders cs + a.keep (less a.supply (taken a.bidders cs))

-- no feasible choice is worth more
pub record Best (a : Auction) (cs : List ℕ) : Type 0 where
  pub can : Feasible a cs
  pub most : (ds : List ℕ) → Feasible a ds → worth_of a ds ≤ worth_of a cs

-- the first of two choices has the smaller number at the first bidder where they differ
pub data Sooner : List ℕ → List ℕ → Type 0 where
  here : {c d : ℕ} {cs ds : List ℕ} → c < d → Sooner (c ∷ cs) (d ∷ ds)
  later : {c : ℕ} {cs ds : List ℕ} → Sooner cs ds → Sooner (c ∷ cs) (c ∷ ds)

-- no best choice comes sooner
unfoldable pub First : Auction → List ℕ → Type 0
First a cs = (ds : List ℕ) → Best a ds → Sooner ds cs → ⊥

-- two choices that are best and first are the same
abbrev pub OneChoice : Type 0
OneChoice = (a : Auction) (cs ds : List ℕ) → Best a cs → Best a ds → First a cs → First a ds → cs ≡ ds
