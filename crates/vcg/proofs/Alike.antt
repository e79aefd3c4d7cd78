-- Sellers that hold the units within the supply to be worth the same, bidders in two parts, and how much the optimum may be. Assumes nothing.
use Rattle.std.proofs.Common.{◌≡◌, ℕ, suc, ◌+◌, ◌*◌, ◌≤◌, List, [], ◌∷◌, ◌++◌, length, get_or, refl, ap, ◌∙◌, arith}
use Rattle.bundle.specs.Bids.{Bids}
use Rattle.bundle.specs.Units.{less, Within}
use Rattle.bundle.proofs.Bundles.{length-less, less-held, within_refl}
use Rattle.vcg.specs.Auction.{no_bid, chosen}
use Rattle.vcg.specs.Optimum.{better, best_among, optimum, first_among, pick}
use Rattle.vcg.proofs.Alternatives.{choice_cases, pick_is}

-- P holds of each bundle within s
abbrev pub EachWithin : List ℕ → (List ℕ → Type 0) → Type 0
EachWithin s P = (y : List ℕ) → length y ≡ length s → Within y s → P y

-- f and g agree on the bundles within s
module _ (s : List ℕ) (f g : List ℕ → ℕ) (like : EachWithin s (λ y. f y ≡ g y)) where
  left_like : EachWithin s (λ x. (w : List ℕ) → f (less x w) ≡ g (less x w))
  left_like x long held w = like (less x w) (length-less x w ∙ long) (less-held s x w held)

  pub best_among_like : EachWithin s (λ x. (b : Bids) (m : ℕ) → best_among f x b m ≡ best_among g x b m)
  unfolding best_among
  best_among_like x long held [] m = refl
  best_among_like x long held (l ∷ ls) m =
      let e : better f x l m ≡ better g x l m = rw (left_like x long held l.want) in
      rw e (best_among_like x long held ls (better g x l m))

  pub first_among_like : EachWithin s (λ x. (t : ℕ) (b : Bids) (n : ℕ) → first_among f x t b n ≡ first_among g x t b n)
  unfolding first_among
  first_among_like x long held t [] n = refl
  first_among_like x long held t (l ∷ ls) n = rw (left_like x long held l.want, first_among_like x long held t ls (suc n))

  pub pick_like : EachWithin s (λ x. (t : ℕ) (b : Bids) → pick f x t b ≡ pick g x t b)
  unfolding pick
  pick_like x long held t b = rw (like x long held, first_among_like x long held t b 1)

pub optimum_like : (s : List ℕ) (f g : List ℕ → ℕ) → EachWithin s (λ y. f y ≡ g y) → (bs : List Bids) → EachWithin s (λ x. optimum f bs x ≡ optimum g bs x)
unfolding optimum
optimum_like s f g like [] x long held = like x long held
optimum_like s f g like (b ∷ bs) x long held =
    best_among_like s (optimum f bs) (optimum g bs) (optimum_like s f g like bs) x long held b (optimum f bs x)
    ∙ ap (best_among (optimum g bs) x b) (optimum_like s f g like bs x long held)

-- the later bidders and the seller are to the earlier ones as a seller
pub optimum-append : (keep : List ℕ → ℕ) (bs ds : List Bids) (x : List ℕ) → optimum keep (bs ++ ds) x ≡ optimum (optimum keep ds) bs x
unfolding optimum
optimum-append keep [] ds x = refl
optimum-append keep (b ∷ bs) ds x =
    best_among_like x (optimum keep (bs ++ ds)) (optimum (optimum keep ds) bs) (λ y _ _. optimum-append keep bs ds y) x refl (within_refl x) b (optimum keep (bs ++ ds) x)
    ∙ ap (best_among (optimum (optimum keep ds) bs) x b) (optimum-append keep bs ds x)

-- a bidder adds at most its highest stated worth
pub optimum_cap : (keep : List ℕ → ℕ) (s : List ℕ) (n c : ℕ) → EachWithin s (λ y. keep y ≤ n)
    → (bs : List Bids) → ((i : ℕ) (j : ℕ) → (get_or (get_or bs i []) j no_bid).value ≤ c)
    → EachWithin s (λ x. optimum keep bs x ≤ n + length bs * c)
unfolding optimum
optimum_cap keep s n c low [] most x long held = omega (arith, low x long held)
optimum_cap keep s n c low (b ∷ bs) most x long held =
    let k : ℕ = pick (optimum keep bs) x (optimum keep (b ∷ bs) x) b in
    let w : List ℕ = (chosen b k).want in
    omega (
      arith,
      (pick_is (optimum keep bs) x b).hit.makes,
      choice_cases (λ l. l.value ≤ c) b (omega arith) (λ j _. most 0 j) k,
      optimum_cap keep s n c low bs (λ i j. most (suc i) j) (less x w) (length-less x w ∙ long) (less-held s x w held),
    )
