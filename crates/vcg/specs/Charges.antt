-- The rule of Vickrey, Clarke and Groves: a best choice, and from each bidder what its part costs the rest. Assumes nothing: these are definitions and statements.
use Rattle.std.specs.Prelude.{◌≡◌, ℕ, ◌+◌, ◌<◌, ◌≤◌, List, [], length, slice_index, slice_index_or, slice_set}
use Rattle.bundle.specs.Bids.{Bid, Bids}
use Rattle.bundle.specs.Units.{less, Within}
use Rattle.vcg.specs.Auction.{Auction, no_bid, chosen, taken, with_bids}
use Rattle.vcg.specs.Best.{worth_of, Best, First}

pub record Outcome : Type 0 where
  pub choice : List ℕ
  pub charge : List ℕ

-- the alternative that bidder i gets
unfoldable pub gets : Auction → Outcome → ℕ → Bid
gets a o i = chosen (slice_index_or a.bidders i []) (slice_index o.choice i)

-- the charge of bidder i: what the rest could have had without i, less what the rest has beside i
pub record Charged (a : Auction) (o : Outcome) (i : ℕ) : Type 0 where
  pub without : List ℕ
  pub best : Best (with_bids a i []) without
  pub sum : slice_index o.charge i + worth_of a o.choice ≡ worth_of (with_bids a i []) without + (gets a o i).value

-- the rule
pub record Ruled (a : Auction) (o : Outcome) : Type 0 where
  pub best : Best a o.choice
  pub charges : (i : ℕ) → i < length a.bidders → Charged a o i

-- and ties by the order of choices, with one charge for each bidder
pub record Settled (a : Auction) (o : Outcome) : Type 0 where
  pub ruled : Ruled a o
  pub first : First a o.choice
  pub each_once : length o.charge ≡ length a.bidders

-- the seller can leave units aside: more of them unsold are worth no less to it
unfoldable pub Grows : Auction → Type 0
Grows a =
    (x y : List ℕ) → length x ≡ length a.supply → length y ≡ length a.supply →
    Within x y → Within y a.supply → a.keep x ≤ a.keep y

-- a bidder's charge depends on the units that it gets and on the others' bids, and on nothing else that it stated
abbrev pub ChargeLaw : Type 0
ChargeLaw =
    (a : Auction) (i : ℕ) (b c : Bids) (o p : Outcome) → i < length a.bidders →
    Ruled (with_bids a i b) o → Ruled (with_bids a i c) p →
    (gets (with_bids a i b) o i).want ≡ (gets (with_bids a i c) p i).want →
    slice_index o.charge i ≡ slice_index p.charge i

-- a charge is at most the stated worth of what the bidder gets
abbrev pub ChargeAtMost : Type 0
ChargeAtMost = (a : Auction) (o : Outcome) (i : ℕ) → i < length a.bidders → Ruled a o → slice_index o.charge i ≤ (gets a o i).value

-- and at least what the seller would keep with those units, less what it keeps
abbrev pub ChargeAtLeast : Type 0
ChargeAtLeast =
    (a : Auction) (o : Outcome) (i : ℕ) → i < length a.bidders → Ruled a o →
    a.keep (less a.supply (taken (slice_set a.bidders i []) o.choice))
    ≤ slice_index o.charge i + a.keep (less a.supply (taken a.bidders o.choice))

-- a bidder that gets nothing pays nothing
abbrev pub NothingForNothing : Type 0
NothingForNothing = (a : Auction) (o : Outcome) (i : ℕ) → i < length a.bidders → Ruled a o → gets a o i ≡ no_bid → slice_index o.charge i ≡ 0
