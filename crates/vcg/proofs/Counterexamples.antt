-- What fails where the seller's worth of units may fall with more of them. Assumes nothing.
use Rattle.std.proofs.Common.{◌≡◌, ℕ, zero, suc, ◌+◌, ◌<◌, ◌≤◌, [], ◌∷◌, get_or, refl, arith}
use Rattle.bundle.specs.Bids.{Bids}
use Rattle.bundle.specs.Units.{plus, less, within}
use Rattle.vcg.specs.Auction.{Auction, chosen, taken, stated, with_bids}
use Rattle.vcg.specs.Best.{worth_of, Best}
use Rattle.vcg.specs.Charges.{Outcome, gets, Charged, Ruled}
use Rattle.vcg.specs.Optimum.{best_among, optimum, first_among, pick, award, charge_at, outcome_of}
use Rattle.vcg.specs.Truth.{GrowthNeeded}
use Rattle.vcg.proofs.Rule.{best_same}
use Rattle.vcg.proofs.Optimal.{award_best}

-- one lot of two units; the seller would rather keep two or none than one
abbrev seller : Bids → Auction
seller b = record { supply = 2 ∷ []; keep = λ x. get_or (5 ∷ 0 ∷ 7 ∷ []) (get_or x 0 0) 0; bidders = b ∷ [] }

abbrev one : Bids
one = record { want = 1 ∷ []; value = 10 } ∷ []

abbrev two : Bids
two = record { want = 2 ∷ []; value = 10 } ∷ []

abbrev paid : ℕ → Outcome
paid n = record { choice = 1 ∷ []; charge = n ∷ [] }

-- a seller of one bidder: the bidder's first alternative, at this charge
paid_ruled : (b : Bids) (n : ℕ) → Best (seller b) (1 ∷ []) → n + worth_of (seller b) (1 ∷ []) ≡ 7 + (chosen b 1).value → Ruled (with_bids (seller []) 0 b) (paid n)
unfolding with_bids award pick first_among optimum best_among chosen worth_of stated taken less plus within gets
paid_ruled b n best sum = record { best = best; charges = charges }
  where
    charges : (i : ℕ) → i < 1 → Charged (with_bids (seller []) 0 b) (paid n) i
    charges zero h = record { without = 0 ∷ []; best = award_best (seller []); sum = sum }
    charges (suc i) h = absurd (omega arith)

-- one unit, of which the seller would be rid: by the rule the charge would be 5 below 0
abbrev burden : Bids → Auction
burden b = record { supply = 1 ∷ []; keep = λ x. get_or (5 ∷ 0 ∷ []) (get_or x 0 0) 0; bidders = b ∷ [] }

outcome_wants_growth : ((a : Auction) → Ruled a (outcome_of a)) → ⊥
unfolding charge_at with_bids award pick first_among optimum best_among chosen worth_of stated taken less plus within gets
outcome_wants_growth t =
    let c = (t (burden one)).charges 0 (omega arith) in
    omega (arith, best_same (burden []) c.without (0 ∷ []) c.best (award_best (burden [])))

-- by one unit the bidder gains 3, by two of which it leaves one aside 8
pub growth_needed : GrowthNeeded
unfolding with_bids award pick first_among optimum best_among chosen worth_of stated taken less plus within gets
growth_needed = (
  λ t.
      let by-one = paid_ruled one 7 (award_best (seller one)) refl in
      let by-two = paid_ruled two 2 (award_best (seller two)) refl in
      let f : 10 + 7 ≤ 10 + 2 = t (seller []) 0 one two (paid 7) (paid 2) (omega arith) tt by-one by-two in
      omega arith,
  outcome_wants_growth,
)
