-- What one bidder's alternatives make of units, and which of them is picked. Assumes nothing.
use Rattle.std.proofs.Common.{◌≡◌, ℕ, zero, suc, ◌+◌, ◌<◌, ◌≤◌, max, true, false, cond, eqb, ◌⊎◌, List, [], ◌∷◌, length, get_or, sym, refl, ap, ◌∙◌, subst, inl, inr, ⊎_elim, arith}
use Rattle.std.proofs.lemmas.List.{get_or_past}
use Rattle.std.proofs.lemmas.Bool.{cases_lt, cases_Bool, eqb-true, eqb-false, eq-eqb, and_parts, and_from, cond-true, cond-false, cond_both, both_ways}
use Rattle.bundle.specs.Bids.{Bid, Bids}
use Rattle.bundle.specs.Units.{less, Within, within}
use Rattle.bundle.proofs.Bundles.{less_nil, within-true, true-within, nil_within}
use Rattle.vcg.specs.Auction.{no_bid, chosen}
use Rattle.vcg.specs.Optimum.{better, best_among, makes, first_among, pick}
use Rattle.vcg.specs.Truth.{worth, Worth, WorthExactly}

-- alternative l makes t of the units x
pub record Hit (rest : List ℕ → ℕ) (x : List ℕ) (t : ℕ) (l : Bid) : Type 0 where
  pub fits : Within l.want x
  pub makes : l.value + rest (less x l.want) ≡ t

-- the choice c makes t, and none before it does
pub record Picked (rest : List ℕ → ℕ) (x : List ℕ) (t : ℕ) (b : Bids) (c : ℕ) : Type 0 where
  pub hit : Hit rest x t (chosen b c)
  pub least : (d : ℕ) → d < c → Hit rest x t (chosen b d) → ⊥

-- what holds of no bid and of each alternative holds of each choice
pub choice_cases : (P : Bid → Type 0) (b : Bids) → P no_bid → ((j : ℕ) → j < length b → P (get_or b j no_bid)) → (c : ℕ) → P (chosen b c)
unfolding chosen
choice_cases P b none each zero = none
choice_cases P b none each (suc j) = go (cases_lt j (length b))
  where
    go : (j < length b) ⊎ (length b ≤ j) → P (get_or b j no_bid)
    go (inl h) = each j h
    go (inr h) = rw (get_or_past b j no_bid h) none

module _ (rest : List ℕ → ℕ) (x : List ℕ) where
  better_up : (l : Bid) (m : ℕ) → m ≤ better rest x l m
  better_up l m =
      let v : ℕ = l.value + rest (less x l.want) in
      cond_both (within l.want x) (max m v) m (λ z. m ≤ z) (λ _. omega arith) (λ _. omega arith)

  better-has : (l : Bid) (m : ℕ) → Within l.want x → l.value + rest (less x l.want) ≤ better rest x l m
  better-has l m w =
      let v : ℕ = l.value + rest (less x l.want) in
      omega (arith, cond-true (within l.want x) (max m v) m (true-within l.want x w))

  better-is : (l : Bid) (m : ℕ) → (better rest x l m ≡ m) ⊎ Hit rest x (better rest x l m) l
  better-is l m =
      let v : ℕ = l.value + rest (less x l.want) in
      let fit : within l.want x ≡ true → (max m v ≡ m) ⊎ Hit rest x (max m v) l =
      λ e. ⊎_elim (λ h. inr (record { fits = within-true l.want x e; makes = omega arith })) (λ h. inl (omega arith)) (cases_lt m v) in
      cond_both (within l.want x) (max m v) m (λ z. (z ≡ m) ⊎ Hit rest x z l) fit (λ _. inl refl)

  pub best_up : (b : Bids) (m : ℕ) → m ≤ best_among rest x b m
  unfolding best_among
  best_up [] m = omega arith
  best_up (l ∷ ls) m = omega (arith, better_up l m, best_up ls (better rest x l m))

  best_has : (b : Bids) (m j : ℕ) → j < length b → Within (get_or b j no_bid).want x
      → (get_or b j no_bid).value + rest (less x (get_or b j no_bid).want) ≤ best_among rest x b m
  unfolding best_among
  best_has [] m j h w = absurd (omega arith)
  best_has (l ∷ ls) m zero h w = omega (arith, better-has l m w, best_up ls (better rest x l m))
  best_has (l ∷ ls) m (suc j) h w = best_has ls (better rest x l m) j (omega arith) w

  best_is : (b : Bids) (m : ℕ) → (best_among rest x b m ≡ m) ⊎ ((j : ℕ) × (j < length b) × Hit rest x (best_among rest x b m) (get_or b j no_bid))
  unfolding best_among
  best_is [] m = inl refl
  best_is (l ∷ ls) m = go (better-is l m) (best_is ls (better rest x l m))
    where
      go : (better rest x l m ≡ m) ⊎ Hit rest x (better rest x l m) l
          → (best_among rest x ls (better rest x l m) ≡ better rest x l m)
          ⊎ ((j : ℕ) × (j < length ls) × Hit rest x (best_among rest x ls (better rest x l m)) (get_or ls j no_bid))
          → (best_among rest x ls (better rest x l m) ≡ m)
          ⊎ ((j : ℕ) × (j < suc (length ls)) × Hit rest x (best_among rest x ls (better rest x l m)) (get_or (l ∷ ls) j no_bid))
      go (inl e) (inl f) = inl (f ∙ e)
      go (inr e) (inl f) = inr (0, omega arith, record { fits = e.fits; makes = e.makes ∙ sym f })
      go (inl e) (inr r) = inr (suc r.0, omega arith, r.2)
      go (inr e) (inr r) = inr (suc r.0, omega arith, r.2)

  -- no choice makes more than the best
  pub choice_bound : (b : Bids) (c : ℕ) → Within (chosen b c).want x
      → (chosen b c).value + rest (less x (chosen b c).want) ≤ best_among rest x b (rest x)
  choice_bound b =
      choice_cases (λ l. Within l.want x → l.value + rest (less x l.want) ≤ best_among rest x b (rest x)) b
      (λ _. rw (less_nil x) (omega (arith, best_up b (rest x))))
      (λ j h. best_has b (rest x) j h)

module _ (rest : List ℕ → ℕ) (x : List ℕ) (t : ℕ) where
  hits_true : (l : Bid) → makes rest x t l ≡ true → Hit rest x t l
  hits_true l e =
      let p = and_parts (within l.want x) (eqb (l.value + rest (less x l.want)) t) e in
      record { fits = within-true l.want x p.0; makes = eqb-true (l.value + rest (less x l.want)) t p.1 }

  true_hits : (l : Bid) → Hit rest x t l → makes rest x t l ≡ true
  true_hits l h = and_from (within l.want x) (eqb (l.value + rest (less x l.want)) t)
      (true-within l.want x h.fits) (eq-eqb (l.value + rest (less x l.want)) t h.makes)

  -- the first alternative that hits, if one does
  first_found : (b : Bids) (n j : ℕ) → j < length b → Hit rest x t (get_or b j no_bid)
      → (k : ℕ) × (first_among rest x t b n ≡ n + k) × Hit rest x t (get_or b k no_bid) × ((i : ℕ) → i < k → Hit rest x t (get_or b i no_bid) → ⊥)
  unfolding first_among
  first_found [] n j h hit = absurd (omega arith)
  first_found (l ∷ ls) n zero h hit = (
    0,
    cond-true (makes rest x t l) n (first_among rest x t ls (suc n)) (true_hits l hit) ∙ omega arith,
    hit,
    λ i k _. omega arith,
  )
  first_found (l ∷ ls) n (suc j) h hit = go (cases_Bool (makes rest x t l)) (first_found ls (suc n) j (omega arith) hit)
    where
      go : (makes rest x t l ≡ true) ⊎ (makes rest x t l ≡ false)
          → (k : ℕ) × (first_among rest x t ls (suc n) ≡ suc n + k) × Hit rest x t (get_or ls k no_bid) × ((i : ℕ) → i < k → Hit rest x t (get_or ls i no_bid) → ⊥)
          → (k : ℕ) × (cond (makes rest x t l) n (first_among rest x t ls (suc n)) ≡ n + k) × Hit rest x t (get_or (l ∷ ls) k no_bid) × ((i : ℕ) → i < k → Hit rest x t (get_or (l ∷ ls) i no_bid) → ⊥)
      go (inl e) r = (0, cond-true (makes rest x t l) n (first_among rest x t ls (suc n)) e ∙ omega arith, hits_true l e, λ i k _. omega arith)
      go (inr e) r = (
        suc r.0,
        cond-false (makes rest x t l) n (first_among rest x t ls (suc n)) e ∙ (r.1 ∙ omega arith),
        r.2,
        least,
      )
        where
          least : (i : ℕ) → i < suc r.0 → Hit rest x t (get_or (l ∷ ls) i no_bid) → ⊥
          least zero k f = both_ways (makes rest x t l) e (true_hits l f)
          least (suc i) k f = r.3 i (omega arith) f

  none_hits : rest x ≡ t → Hit rest x t no_bid
  none_hits e = record { fits = nil_within x; makes = rw (less_nil x) (omega arith) }

  hits_none : Hit rest x t no_bid → rest x ≡ t
  hits_none h = omega (arith, ap rest (less_nil x))

  pick_none : (b : Bids) → eqb (rest x) t ≡ true → Picked rest x t b 0
  unfolding chosen
  pick_none b e = record { hit = none_hits (eqb-true (rest x) t e); least = λ d h _. omega arith }

  pick_some : (b : Bids) (j : ℕ) → j < length b → Hit rest x t (get_or b j no_bid) → eqb (rest x) t ≡ false → Picked rest x t b (first_among rest x t b 1)
  unfolding chosen
  pick_some b j h hit e =
      let f = first_found b 1 j h hit in
      let g : first_among rest x t b 1 ≡ suc f.0 = f.1 ∙ omega arith in
      subst (Picked rest x t b) (sym g) (record { hit = f.2; least = least f.0 f.3 })
    where
      least : (k : ℕ) → ((i : ℕ) → i < k → Hit rest x t (get_or b i no_bid) → ⊥) → (d : ℕ) → d < suc k → Hit rest x t (chosen b d) → ⊥
      least k f zero h made = eqb-false (rest x) t e (hits_none made)
      least k f (suc i) h made = f i (omega arith) made

-- the pick makes the best, and is the first choice that does
pub pick_is : (rest : List ℕ → ℕ) (x : List ℕ) (b : Bids)
    → Picked rest x (best_among rest x b (rest x)) b (pick rest x (best_among rest x b (rest x)) b)
unfolding pick
pick_is rest x b =
    let t : ℕ = best_among rest x b (rest x) in
    cond_both (eqb (rest x) t) 0 (first_among rest x t b 1) (Picked rest x t b)
    (pick_none rest x t b)
    (λ e. elim (best_is rest x b (rest x)) [
      | inl f ↦ absurd (eqb-false (rest x) t e (sym f))
      | inr r ↦ pick_some rest x t b r.0 r.1 r.2 e
    ])

-- any bundle has a worth
pub worth-is : (b : Bids) (x : List ℕ) → Worth b x (worth b x)
worth-is b x =
    let p = pick_is (λ _. 0) x b in
    record {
      at = pick (λ _. 0) x (worth b x) b;
      within = p.hit.fits;
      is = omega arith;
      most = λ k w. omega (arith, choice_bound (λ _. 0) x b k w);
    }

-- and only one
pub worth_exactly : WorthExactly
worth_exactly b x w = (
  λ h. let k = worth-is b x in omega (arith, h.most k.at k.within, k.most h.at h.within),
  λ e. subst (Worth b x) (sym e) (worth-is b x),
)
