-- The best worth, the first best choice and the charges as functions that compute. Assumes nothing: these are definitions and statements.
use Rattle.std.specs.Prelude.{◌≡◌, ℕ, suc, ◌+◌, ◌-◌, ◌≤◌, max, Bool, cond, ◌&&◌, List, [], ◌∷◌, map, length, ◌==◌, slice_index, slice_index_or, slice_set}
use Rattle.std.specs.List.{range_with_len}
use Rattle.bundle.specs.Bids.{Bid, Bids}
use Rattle.bundle.specs.Units.{less, within}
use Rattle.vcg.specs.Auction.{Auction, chosen}
use Rattle.vcg.specs.Best.{Feasible, worth_of, Best, First}
use Rattle.vcg.specs.Charges.{Outcome, Settled, Grows}

-- the larger of m and what one alternative makes of the units x, where `rest` is what the later bidders and the seller make of units
abbrev pub better : (List ℕ → ℕ) → List ℕ → Bid → ℕ → ℕ
better rest x l m = cond (within l.want x) (max m (l.value + rest (less x l.want))) m

-- the larger of m and the best that a bidder's alternatives make of x
unfoldable pub best_among : (List ℕ → ℕ) → List ℕ → Bids → ℕ → ℕ
best_among rest x [] m = m
best_among rest x (l ∷ ls) m = best_among rest x ls (better rest x l m)

-- the most that the bidders and the seller make of x
unfoldable pub optimum : (List ℕ → ℕ) → List Bids → List ℕ → ℕ
optimum keep [] x = keep x
optimum keep (b ∷ bs) x = best_among (optimum keep bs) x b (optimum keep bs x)

-- whether an alternative makes t of x
abbrev pub makes : (List ℕ → ℕ) → List ℕ → ℕ → Bid → Bool
makes rest x t l = within l.want x && l.value + rest (less x l.want) == t

-- the number, counted from n, of the first alternative that makes t of x; 0 where none does
unfoldable pub first_among : (List ℕ → ℕ) → List ℕ → ℕ → Bids → ℕ → ℕ
first_among rest x t [] n = 0
first_among rest x t (l ∷ ls) n = cond (makes rest x t l) n (first_among rest x t ls (suc n))

-- the choice of one bidder: none where t is made without it, else the first alternative that makes t
unfoldable pub pick : (List ℕ → ℕ) → List ℕ → ℕ → Bids → ℕ
pick rest x t b = cond (rest x == t) 0 (first_among rest x t b 1)

-- the first best choice
unfoldable pub award : (List ℕ → ℕ) → List Bids → List ℕ → List ℕ
award keep [] x = []
award keep (b ∷ bs) x =
    let c = pick (optimum keep bs) x (optimum keep (b ∷ bs) x) b in
    c ∷ award keep bs (less x (chosen b c).want)

abbrev pub best_worth : Auction → ℕ
best_worth a = optimum a.keep a.bidders a.supply

-- the best worth without bidder i, whose alternatives are replaced by none
abbrev pub worth_without : Auction → ℕ → ℕ
worth_without a i = optimum a.keep (slice_set a.bidders i []) a.supply

abbrev pub best_choice : Auction → List ℕ
best_choice a = award a.keep a.bidders a.supply

-- the charge of bidder i under the first best choice
unfoldable pub charge_at : Auction → ℕ → ℕ
charge_at a i = (worth_without a i + (chosen (slice_index_or a.bidders i []) (slice_index (best_choice a) i)).value) - best_worth a

abbrev pub outcome_of : Auction → Outcome
outcome_of a = record { choice = best_choice a; charge = map (charge_at a) (range_with_len 0 (length a.bidders)) }

-- w is reached by a feasible choice, and none is worth more
pub record Most (a : Auction) (w : ℕ) : Type 0 where
  pub by : List ℕ
  pub can : Feasible a by
  pub is : worth_of a by ≡ w
  pub most : (ds : List ℕ) → Feasible a ds → worth_of a ds ≤ w

abbrev pub OptimumIsMost : Type 0
OptimumIsMost = (a : Auction) → Most a (best_worth a)

abbrev pub AwardIsFirstBest : Type 0
AwardIsFirstBest = (a : Auction) → Best a (best_choice a) × First a (best_choice a)

-- where the seller's worth of units grows with them, the outcome is by the rule, and the only one that is
abbrev pub OutcomeExactly : Type 0
OutcomeExactly = (a : Auction) (o : Outcome) → Grows a → (o ≡ outcome_of a → Settled a o) × (Settled a o → o ≡ outcome_of a)
