-- What bidder i takes and what the others do, apart; and the laws of the rule. Assumes nothing.
use Rattle.std.proofs.Common.{◌≡◌, ℕ, zero, suc, ◌+◌, ◌<◌, ◌≤◌, List, [], ◌∷◌, length, get_or, set, sym, refl, ap, ◌∙◌, subst, arith, length-set}
use Rattle.std.proofs.lemmas.List.{set-set, set-get_or, get_or-set_same}
use Rattle.bundle.specs.Bids.{Bid, Bids}
use Rattle.bundle.specs.Units.{plus, less, Within}
use Rattle.bundle.proofs.Bundles.{plus_left_comm, nil_plus, plus-within, less_anti, less-within, length-less, within_refl, nil_within}
use Rattle.vcg.specs.Auction.{Auction, no_bid, chosen, taken, stated, with_bids}
use Rattle.vcg.specs.Best.{Feasible, worth_of, Best}
use Rattle.vcg.specs.Charges.{Outcome, gets, Charged, Ruled, Grows, ChargeLaw, ChargeAtMost, ChargeAtLeast, NothingForNothing}
use Rattle.vcg.specs.Truth.{Truthful}
use Rattle.vcg.proofs.Alternatives.{worth-is}

-- of no alternatives every choice is none
no_bids : (c : ℕ) → chosen [] c ≡ no_bid
unfolding chosen
no_bids zero = refl
no_bids (suc k) = refl

stated-at : (bs : List Bids) (i : ℕ) (b : Bids) (cs : List ℕ) → i < length bs → i < length cs
    → stated (set bs i b) cs ≡ (chosen b (get_or cs i 0)).value + stated (set bs i []) cs
unfolding stated
stated-at [] i b cs h k = absurd (omega arith)
stated-at (d ∷ bs) i b [] h k = absurd (omega arith)
stated-at (d ∷ bs) zero b (c ∷ cs) h k = omega (arith, ap (λ (x : Bid). x.value) (no_bids c))
stated-at (d ∷ bs) (suc i) b (c ∷ cs) h k = omega (arith, stated-at bs i b cs (omega arith) (omega arith))

pub taken_at : (bs : List Bids) (i : ℕ) (b : Bids) (cs : List ℕ) → i < length bs → i < length cs
    → taken (set bs i b) cs ≡ plus (chosen b (get_or cs i 0)).want (taken (set bs i []) cs)
unfolding taken
taken_at [] i b cs h k = absurd (omega arith)
taken_at (d ∷ bs) i b [] h k = absurd (omega arith)
taken_at (d ∷ bs) zero b (c ∷ cs) h k = rw (no_bids c) (rw nil_plus refl)
taken_at (d ∷ bs) (suc i) b (c ∷ cs) h k =
    rw (taken_at bs i b cs (omega arith) (omega arith))
    (plus_left_comm (chosen d c).want (chosen b (get_or cs i 0)).want (taken (set bs i []) cs))

-- the choice of a bidder with no alternatives does not matter
stated_free : (bs : List Bids) (i : ℕ) (cs : List ℕ) (c : ℕ) → stated (set bs i []) (set cs i c) ≡ stated (set bs i []) cs
unfolding stated
stated_free [] i cs c = refl
stated_free (d ∷ bs) zero [] c = refl
stated_free (d ∷ bs) (suc i) [] c = refl
stated_free (d ∷ bs) zero (e ∷ cs) c = rw (no_bids c, no_bids e)
stated_free (d ∷ bs) (suc i) (e ∷ cs) c = rw (stated_free bs i cs c)

taken_free : (bs : List Bids) (i : ℕ) (cs : List ℕ) (c : ℕ) → taken (set bs i []) (set cs i c) ≡ taken (set bs i []) cs
unfolding taken
taken_free [] i cs c = refl
taken_free (d ∷ bs) zero [] c = refl
taken_free (d ∷ bs) (suc i) [] c = refl
taken_free (d ∷ bs) zero (e ∷ cs) c = rw (no_bids c, no_bids e)
taken_free (d ∷ bs) (suc i) (e ∷ cs) c = rw (taken_free bs i cs c)

-- the stated worth of all but bidder i, who takes g
beside : Auction → ℕ → List ℕ → List ℕ → ℕ
beside a i g cs = stated (set a.bidders i []) cs + a.keep (less a.supply (plus g (taken (set a.bidders i []) cs)))

worth-at : (a : Auction) (i : ℕ) (b : Bids) (cs : List ℕ) → i < length a.bidders → length cs ≡ length a.bidders
    → worth_of (with_bids a i b) cs ≡ (chosen b (get_or cs i 0)).value + beside a i (chosen b (get_or cs i 0)).want cs
unfolding worth_of with_bids beside
worth-at a i b cs h l =
    omega (arith, stated-at a.bidders i b cs h (omega arith), ap (λ (t : List ℕ). a.keep (less a.supply t)) (taken_at a.bidders i b cs h (omega arith)))

beside_free : (a : Auction) (i : ℕ) (g cs : List ℕ) (c : ℕ) → beside a i g (set cs i c) ≡ beside a i g cs
unfolding beside
beside_free a i g cs c = rw (stated_free a.bidders i cs c, taken_free a.bidders i cs c)

-- one choice for each bidder, whatever bidder i states
long_in : (a : Auction) (i : ℕ) (b : Bids) (cs : List ℕ) → Feasible (with_bids a i b) cs → length cs ≡ length a.bidders
unfolding with_bids
long_in a i b cs can = can.long ∙ length-set a.bidders i b

worth_in : (a : Auction) (i : ℕ) (b : Bids) (cs : List ℕ) → i < length a.bidders → Feasible (with_bids a i b) cs
    → worth_of (with_bids a i b) cs ≡ (chosen b (get_or cs i 0)).value + beside a i (chosen b (get_or cs i 0)).want cs
worth_in a i b cs h can = worth-at a i b cs h (long_in a i b cs can)

-- with choice k of bidder i in place of its own
module _ (a : Auction) (i : ℕ) (b : Bids) (cs : List ℕ) (k : ℕ) (h : i < length a.bidders) (l : length cs ≡ length a.bidders) where
  chosen-set : get_or (set cs i k) i 0 ≡ k
  chosen-set = get_or-set_same cs i k 0 (omega arith)

  worth-set : worth_of (with_bids a i b) (set cs i k) ≡ (chosen b k).value + beside a i (chosen b k).want cs
  worth-set = worth-at a i b (set cs i k) h (length-set cs i k ∙ l) ∙ rw (chosen-set, beside_free a i (chosen b k).want cs k)

  feasible_set : Within (plus (chosen b k).want (taken (set a.bidders i []) cs)) a.supply → Feasible (with_bids a i b) (set cs i k)
  unfolding with_bids
  feasible_set w =
      let t : taken (set a.bidders i b) (set cs i k) ≡ plus (chosen b k).want (taken (set a.bidders i []) cs)
      = taken_at a.bidders i b (set cs i k) h (omega (arith, length-set cs i k)) ∙ rw (chosen-set, taken_free a.bidders i cs k) in
      record { long = simp length-set l; fits = rw t w }

-- beside what the others do under ds, bidder i can take any alternative within what it took there
swap : (a : Auction) (i : ℕ) (b d : Bids) (cs ds : List ℕ) (k : ℕ) → i < length a.bidders
    → Best (with_bids a i b) cs → Feasible (with_bids a i d) ds → Within (chosen b k).want (chosen d (get_or ds i 0)).want
    → (chosen b k).value + beside a i (chosen b k).want ds ≤ (chosen b (get_or cs i 0)).value + beside a i (chosen b (get_or cs i 0)).want cs
unfolding with_bids
swap a i b d cs ds k h best can w =
    let l = long_in a i d ds can in
    let t = taken_at a.bidders i d ds h (omega arith) in
    let f : Within (plus (chosen d (get_or ds i 0)).want (taken (set a.bidders i []) ds)) a.supply = rw t at can.fits in
    let g = feasible_set a i b ds k h l (plus-within (chosen b k).want (chosen d (get_or ds i 0)).want (taken (set a.bidders i []) ds) a.supply w f) in
    omega (arith, best.most (set ds i k) g, worth-set a i b ds k h l, worth_in a i b cs h best.can)

abbrev with_all : Auction → List Bids → Auction
with_all a bs = record { supply = a.supply; keep = a.keep; bidders = bs }

twice : (a : Auction) (i : ℕ) (b c : Bids) → with_bids (with_bids a i b) i c ≡ with_bids a i c
unfolding with_bids
twice a i b c = ap (with_all a) (set-set a.bidders i b c)

same : (a : Auction) (i : ℕ) → with_bids a i (get_or a.bidders i []) ≡ a
unfolding with_bids
same a i = ap (with_all a) (set-get_or a.bidders i [])

pub best_same : (a : Auction) (cs ds : List ℕ) → Best a cs → Best a ds → worth_of a cs ≡ worth_of a ds
best_same a cs ds p q = omega (arith, p.most ds q.can, q.most cs p.can)

-- a charge and what the others have beside bidder i make up what they could have without it
record Sum (a : Auction) (i : ℕ) (b : Bids) (o : Outcome) : Type 0 where
  without : List ℕ
  best : Best (with_bids a i []) without
  sum : get_or o.charge i 0 + beside a i (chosen b (get_or o.choice i 0)).want o.choice ≡ worth_of (with_bids a i []) without
  got : gets (with_bids a i b) o i ≡ chosen b (get_or o.choice i 0)

sum_of : (a : Auction) (i : ℕ) (b : Bids) (o : Outcome) → i < length a.bidders → Ruled (with_bids a i b) o → Sum a i b o
unfolding with_bids gets
sum_of a i b o h r =
    let c : Charged (with_bids a i b) o i = r.charges i (simp length-set h) in
    let e : get_or (set a.bidders i b) i [] ≡ b = get_or-set_same a.bidders i b [] h in
    let g : chosen (get_or (set a.bidders i b) i []) (get_or o.choice i 0) ≡ chosen b (get_or o.choice i 0) = rw e in
    let t : worth_of (with_bids (with_bids a i b) i []) c.without ≡ worth_of (with_bids a i []) c.without = rw (twice a i b []) in
    record {
      without = c.without;
      best = subst (λ (x : Auction). Best x c.without) (twice a i b []) c.best;
      sum = omega (arith, worth_in a i b o.choice h r.best.can, ap (λ (x : Bid). x.value) g);
      got = g;
    }

-- whatever bidder i states, its charge and what the others have beside it are together the same
sums_same : (a : Auction) (i : ℕ) (b c : Bids) (o p : Outcome) → Sum a i b o → Sum a i c p
    → get_or o.charge i 0 + beside a i (chosen b (get_or o.choice i 0)).want o.choice ≡ get_or p.charge i 0 + beside a i (chosen c (get_or p.choice i 0)).want p.choice
sums_same a i b c o p x y = omega (arith, best_same (with_bids a i []) x.without y.without x.best y.best)

pub charge_law : ChargeLaw
charge_law a i b c o p h r q same-got =
    let x = sum_of a i b o h r in
    let y = sum_of a i c p h q in
    let e : (chosen b (get_or o.choice i 0)).want ≡ (chosen c (get_or p.choice i 0)).want = sym (ap (λ (z : Bid). z.want) x.got) ∙ same-got ∙ ap (λ (z : Bid). z.want) y.got in
    let w : Within (chosen b (get_or o.choice i 0)).want (chosen c (get_or p.choice i 0)).want = rw e (within_refl (chosen c (get_or p.choice i 0)).want) in
    let z : Within (chosen c (get_or p.choice i 0)).want (chosen b (get_or o.choice i 0)).want = rw e (within_refl (chosen c (get_or p.choice i 0)).want) in
    let s = swap a i b c o.choice p.choice (get_or o.choice i 0) h r.best q.best.can w in
    let t = swap a i c b p.choice o.choice (get_or p.choice i 0) h q.best r.best.can z in
    omega (
      arith,
      sums_same a i b c o p x y,
      ap (λ (g : List ℕ). beside a i g o.choice) e,
      ap (λ (g : List ℕ). beside a i g p.choice) e,
    )

-- with less taken, the seller has no less
beside_grows : (a : Auction) (i : ℕ) (g f cs : List ℕ) → Grows a → Within g f → beside a i f cs ≤ beside a i g cs
unfolding beside Grows
beside_grows a i g f cs grows w =
    let t : List ℕ = taken (set a.bidders i []) cs in
    omega (
      arith,
      grows (less a.supply (plus f t)) (less a.supply (plus g t)) (length-less a.supply (plus f t)) (length-less a.supply (plus g t))
          (less_anti a.supply (plus g t) (plus f t) (plus-within g f t (plus f t) w (within_refl (plus f t)))) (less-within a.supply (plus g t)),
    )

-- no honest choice k within the bundle that other bids got serves the bidder better than the honest bids
dearer : (a : Auction) (i : ℕ) (honest other : Bids) (o p : Outcome) (k : ℕ) → i < length a.bidders → Grows a
    → Ruled (with_bids a i honest) o → Ruled (with_bids a i other) p
    → Within (chosen honest k).want (gets (with_bids a i other) p i).want
    → (chosen honest k).value + get_or o.charge i 0 ≤ (gets (with_bids a i honest) o i).value + get_or p.charge i 0
dearer a i honest other o p k h grows r q w =
    let x = sum_of a i honest o h r in
    let y = sum_of a i other p h q in
    let z : Within (chosen honest k).want (chosen other (get_or p.choice i 0)).want = rw y.got at w in
    omega (
      arith,
      sums_same a i honest other o p x y,
      ap (λ (t : Bid). t.value) x.got,
      beside_grows a i (chosen honest k).want (chosen other (get_or p.choice i 0)).want p.choice grows z,
      swap a i honest other o.choice p.choice k h r.best q.best.can z,
    )

pub truthful : Truthful
truthful a i honest other o p h grows r q =
    let x = sum_of a i honest o h r in
    let by-truth = worth-is honest (gets (with_bids a i honest) o i).want in
    let by-other = worth-is honest (gets (with_bids a i other) p i).want in
    let u : Within (chosen honest (get_or o.choice i 0)).want (gets (with_bids a i honest) o i).want = rw x.got (within_refl (chosen honest (get_or o.choice i 0)).want) in
    omega (
      arith,
      ap (λ (t : Bid). t.value) x.got,
      by-truth.most (get_or o.choice i 0) u,
      dearer a i honest other o p by-other.at h grows r q by-other.within,
    )

-- bidder i could have taken nothing, and what it takes could have stayed unsold
module _ (a : Auction) (i : ℕ) (b : Bids) (o : Outcome) (h : i < length a.bidders) (r : Ruled (with_bids a i b) o) where
  x : Sum a i b o
  x = sum_of a i b o h r

  at_most_with : get_or o.charge i 0 ≤ (gets (with_bids a i b) o i).value
  unfolding with_bids chosen
  at_most_with =
      let u : worth_of (with_bids a i []) x.without ≡ beside a i [] x.without = worth_in a i [] x.without h x.best.can ∙ rw (no_bids (get_or x.without i 0)) (omega arith) in
      omega (
        arith,
        x.sum,
        ap (λ (t : Bid). t.value) x.got,
        swap a i b [] o.choice x.without 0 h r.best x.best.can (nil_within (chosen [] (get_or x.without i 0)).want),
      )

  at_least_with : a.keep (less a.supply (taken (set a.bidders i []) o.choice))
      ≤ get_or o.charge i 0 + a.keep (less a.supply (taken (set a.bidders i b) o.choice))
  unfolding with_bids beside chosen
  at_least_with =
      let m = long_in a i b o.choice r.best.can in
      let t = ap (λ (y : List ℕ). a.keep (less a.supply y)) (taken_at a.bidders i b o.choice h (omega arith)) in
      let k = ap (λ (y : List ℕ). a.keep (less a.supply y)) (nil_plus (taken (set a.bidders i []) o.choice)) in
      omega (
        arith,
        x.sum,
        worth_in a i [] x.without h x.best.can,
        swap a i [] b x.without o.choice 0 h x.best r.best.can (nil_within (chosen b (get_or o.choice i 0)).want),
      )

pub charge_at_most : ChargeAtMost
charge_at_most a o i h r =
    let e = same a i in
    rw e at (at_most_with a i (get_or a.bidders i []) o h (subst (λ (x : Auction). Ruled x o) (sym e) r))

pub charge_at_least : ChargeAtLeast
charge_at_least a o i h r =
    let s = set-get_or a.bidders i [] in
    rw s at (at_least_with a i (get_or a.bidders i []) o h (subst (λ (x : Auction). Ruled x o) (sym (same a i)) r))

pub nothing_for_nothing : NothingForNothing
nothing_for_nothing a o i h r none = omega (arith, charge_at_most a o i h r, ap (λ (x : Bid). x.value) none)

room_with : (a : Auction) (i : ℕ) (b : Bids) (cs ws : List ℕ) → i < length a.bidders → Grows a
    → Feasible (with_bids a i b) cs → Best (with_bids a i []) ws
    → worth_of (with_bids a i b) cs ≤ worth_of (with_bids a i []) ws + (chosen b (get_or cs i 0)).value
unfolding chosen with_bids
room_with a i b cs ws h grows can best =
    let g : List ℕ = (chosen b (get_or cs i 0)).want in
    omega (
      arith,
      worth_in a i b cs h can,
      worth_in a i [] ws h best.can,
      beside_grows a i [] g cs grows (nil_within g),
      swap a i [] b ws cs 0 h best can (nil_within g),
    )

-- without bidder i the others could have no less than they have beside it: a charge is not negative
pub room : (a : Auction) (i : ℕ) (cs ws : List ℕ) → i < length a.bidders → Grows a
    → Feasible a cs → Best (with_bids a i []) ws
    → worth_of a cs ≤ worth_of (with_bids a i []) ws + (chosen (get_or a.bidders i []) (get_or cs i 0)).value
room a i cs ws h grows can best =
    let e = same a i in
    let f = room_with a i (get_or a.bidders i []) cs ws h grows (subst (λ (x : Auction). Feasible x cs) (sym e) can) best in
    rw e at f
