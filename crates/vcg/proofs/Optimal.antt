-- The optimum is the most, and the award is the first best choice. Assumes nothing.
use Rattle.std.proofs.Common.{◌≡◌, ℕ, suc, ◌+◌, ◌≤◌, List, [], ◌∷◌, length, refl, ap, arith}
use Rattle.bundle.specs.Bids.{Bids}
use Rattle.bundle.specs.Units.{less, Within}
use Rattle.bundle.proofs.Bundles.{less_nil, less-plus, within-plus, within-plus_left, within-plus_right, nil_within}
use Rattle.vcg.specs.Auction.{Auction, chosen, taken, stated}
use Rattle.vcg.specs.Best.{worth_of, Best, Sooner, here, later, First}
use Rattle.vcg.specs.Optimum.{optimum, pick, award, best_worth, best_choice, OptimumIsMost}
use Rattle.vcg.proofs.Alternatives.{choice_bound, pick_is}

-- no choice makes more than the optimum
pub optimum_bound : (keep : List ℕ → ℕ) (bs : List Bids) (x cs : List ℕ) → length cs ≡ length bs → Within (taken bs cs) x
    → stated bs cs + keep (less x (taken bs cs)) ≤ optimum keep bs x
unfolding stated taken optimum
optimum_bound keep [] x cs l w = rw (less_nil x) (omega arith)
optimum_bound keep (b ∷ bs) x [] l w = absurd (omega arith)
optimum_bound keep (b ∷ bs) x (c ∷ cs) l w =
    let g : List ℕ = (chosen b c).want in
    omega (
      arith,
      choice_bound (optimum keep bs) x b c (within-plus_left g (taken bs cs) x w),
      optimum_bound keep bs (less x g) cs (omega arith) (within-plus_right g (taken bs cs) x w),
      ap keep (less-plus x g (taken bs cs)),
    )

-- the choice cs of the bidders bs is one, fits into x, and makes t
pub record Reaches (keep : List ℕ → ℕ) (bs : List Bids) (x : List ℕ) (t : ℕ) (cs : List ℕ) : Type 0 where
  pub long : length cs ≡ length bs
  pub fits : Within (taken bs cs) x
  pub makes : stated bs cs + keep (less x (taken bs cs)) ≡ t

pub award_reaches : (keep : List ℕ → ℕ) (bs : List Bids) (x : List ℕ) → Reaches keep bs x (optimum keep bs x) (award keep bs x)
unfolding stated taken award optimum
award_reaches keep [] x = record { long = refl; fits = nil_within x; makes = rw (less_nil x) (omega arith) }
award_reaches keep (b ∷ bs) x =
    let p = pick_is (optimum keep bs) x b in
    let g : List ℕ = (chosen b (pick (optimum keep bs) x (optimum keep (b ∷ bs) x) b)).want in
    let r = award_reaches keep bs (less x g) in
    record {
      long = ap suc r.long;
      fits = within-plus g (taken bs (award keep bs (less x g))) x p.hit.fits r.fits;
      makes = omega (arith, ap keep (less-plus x g (taken bs (award keep bs (less x g)))));
    }

-- no choice that reaches the optimum comes sooner than the award
pub award_first : (keep : List ℕ → ℕ) (bs : List Bids) (x cs : List ℕ) → Reaches keep bs x (optimum keep bs x) cs → Sooner cs (award keep bs x) → ⊥
unfolding award stated taken optimum
award_first keep [] x cs r s = elim s [ ]
award_first keep (b ∷ bs) x [] r s = elim s [ ]
award_first keep (b ∷ bs) x (c ∷ cs) r (here h) =
    let g : List ℕ = (chosen b c).want in
    let w : Within g x = within-plus_left g (taken bs cs) x r.fits in
    (pick_is (optimum keep bs) x b).least c h (record {
      fits = w;
      makes = omega (
        arith,
        choice_bound (optimum keep bs) x b c w,
        optimum_bound keep bs (less x g) cs (omega arith) (within-plus_right g (taken bs cs) x r.fits),
        ap keep (less-plus x g (taken bs cs)),
      );
    })
award_first keep (b ∷ bs) x (c ∷ cs) r (later s) =
    let g : List ℕ = (chosen b c).want in
    award_first keep bs (less x g) cs
    (record {
      long = omega arith;
      fits = within-plus_right g (taken bs cs) x r.fits;
      makes = omega (arith, (pick_is (optimum keep bs) x b).hit.makes, ap keep (less-plus x g (taken bs cs)));
    })
    s

pub length-award : (keep : List ℕ → ℕ) (bs : List Bids) (x : List ℕ) → length (award keep bs x) ≡ length bs
length-award keep bs x = (award_reaches keep bs x).long

pub award_best : (a : Auction) → Best a (best_choice a)
unfolding worth_of
award_best a =
    let r = award_reaches a.keep a.bidders a.supply in
    record {
      can = record { long = r.long; fits = r.fits };
      most = λ ds f. omega (arith, optimum_bound a.keep a.bidders a.supply ds f.long f.fits);
    }

pub award-worth : (a : Auction) → worth_of a (best_choice a) ≡ best_worth a
unfolding worth_of
award-worth a = (award_reaches a.keep a.bidders a.supply).makes

pub optimum_is_most : OptimumIsMost
unfolding worth_of
optimum_is_most a =
    record {
      by = best_choice a;
      can = (award_best a).can;
      is = award-worth a;
      most = λ ds f. optimum_bound a.keep a.bidders a.supply ds f.long f.fits;
    }

pub award_is_first : (a : Auction) → First a (best_choice a)
unfolding First worth_of
award_is_first a ds best =
    let r = award_reaches a.keep a.bidders a.supply in
    award_first a.keep a.bidders a.supply ds
    (record {
      long = best.can.long;
      fits = best.can.fits;
      makes = omega (
        arith,
        best.most (best_choice a) (award_best a).can,
        optimum_bound a.keep a.bidders a.supply ds best.can.long best.can.fits,
      );
    })
