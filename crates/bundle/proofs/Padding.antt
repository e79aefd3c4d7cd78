-- A bundle's counts and what they stand for: a count past the last lot is 0. Assumes nothing.
use Rattle.std.proofs.Common.{◌≡◌, ◌&&◌, fold, leb, ℕ, ◌+◌, ◌-◌, ◌<◌, ◌≤◌, max, Bool, true, false, cond, ltb, List, [], ◌∷◌, length, get_or, take, replicate, Some, None, sym, refl, ◌∙◌, ⊎_elim, arith}
use Rattle.std.specs.List.{zip}
use Rattle.std.proofs.lemmas.List.{length-take-le, get_or-take, get_or_past, ext_get_or, get_or-replicate}
use Rattle.std.proofs.lemmas.Bool.{cases_lt, cases_Bool}
use Rattle.std.proofs.lemmas.Bool.Decides.{nat_tests}
use Rattle.bundle.specs.Units.{plus, less, Within, within}
use Rattle.bundle.specs.Bundles.{units_of}
use Rattle.bundle.specs.Reserves.{prices_of}
use Rattle.bundle.specs.declared.prices.Reserve.{Reserve}
use Rattle.bundle.specs.declared.units.Bundle.{Bundle}
use Rattle.bundle.proofs.Bundles.{within-true, true-within, get_or-less, length-less, get_or-plus}

-- the counts of n lots, and 0 past them
abbrev pub Padded : List ℕ → ℕ → Type 0
Padded xs n = (length xs ≡ 12) × (n ≤ 12) × ((j : ℕ) → n ≤ j → get_or xs j 0 ≡ 0)

pub length_front : (xs : List ℕ) (n : ℕ) → Padded xs n → length (take n xs) ≡ n
length_front xs n p = length-take-le n xs (omega arith)

pub get_or-front : (xs : List ℕ) (n : ℕ) → Padded xs n → (j : ℕ) → get_or (take n xs) j 0 ≡ get_or xs j 0
get_or-front xs n p j =
    ⊎_elim
    (λ h. get_or-take n xs j 0 h)
    (λ h. get_or_past (take n xs) j 0 (omega (arith, length_front xs n p)) ∙ sym (p.2 j h))
    (cases_lt j n)

pub padding : (b : Bundle) → Padded b.counts b.lots
padding b = (b.long, b.few, b.padded)

pub length_units : (b : Bundle) → length (units_of b) ≡ b.lots
unfolding units_of
length_units b = length_front b.counts b.lots (padding b)

pub get_or_units : (b : Bundle) (j : ℕ) → get_or (units_of b) j 0 ≡ get_or b.counts j 0
unfolding units_of
get_or_units b j = get_or-front b.counts b.lots (padding b) j

pub length_prices : (r : Reserve) → length (prices_of r) ≡ r.lots
unfolding prices_of
length_prices r = length_front r.prices r.lots (r.long, r.few, r.padded)

pub get_or-prices : (r : Reserve) (j : ℕ) → get_or (prices_of r) j 0 ≡ get_or r.prices j 0
unfolding prices_of
get_or-prices r j = get_or-front r.prices r.lots (r.long, r.few, r.padded) j

-- what `Bundle::new` made
pub made_units : (us xs : List ℕ) → Some us ≡ cond (ltb 12 (length xs)) None (Some xs) → (length xs ≤ 12) × (us ≡ xs)
made_units us xs e = (grind (arith, nat_tests), grind (arith, nat_tests))

-- zs holds what f makes of each two counts of a and b, of as many lots as the list that g makes of them
abbrev pub EachCount : (ℕ → ℕ → ℕ) → Bundle → Bundle → List ℕ → Type 0
EachCount f a b zs = (k : ℕ) → k < 12 → get_or zs k 0 ≡ f (get_or a.counts k 0) (get_or b.counts k 0)

module _ (f : ℕ → ℕ → ℕ) (g : List ℕ → List ℕ → List ℕ) (gives : (x y : List ℕ) (j : ℕ) → get_or (g x y) j 0 ≡ f (get_or x j 0) (get_or y j 0)) (a b : Bundle) (zs : List ℕ) (l : length zs ≡ 12) (e : EachCount f a b zs) (n : ℕ) (long : length (g (units_of a) (units_of b)) ≡ n) where
  made_at : (j : ℕ) → j < 12 → get_or zs j 0 ≡ get_or (g (units_of a) (units_of b)) j 0
  made_at j h = e j h ∙ (λ t. f (sym (get_or_units a j) t) (sym (get_or_units b j) t)) ∙ sym (gives (units_of a) (units_of b) j)

  pub made-units : n ≤ 12 → take n zs ≡ g (units_of a) (units_of b)
  made-units few =
      let here : length (take n zs) ≡ n = length-take-le n zs (omega arith) in
      ext_get_or 0 (take n zs) (g (units_of a) (units_of b)) (here ∙ sym long) (λ j h. get_or-take n zs j 0 (omega arith) ∙ made_at j (omega arith))

  pub made_padded : (j : ℕ) → n ≤ j → get_or zs j 0 ≡ 0
  made_padded j h =
      ⊎_elim
      (λ k. made_at j k ∙ get_or_past (g (units_of a) (units_of b)) j 0 (omega arith))
      (λ k. get_or_past zs j 0 (omega arith))
      (cases_lt j 12)

length-less_units : (a b : Bundle) → length (less (units_of a) (units_of b)) ≡ a.lots
length-less_units a b = length-less (units_of a) (units_of b) ∙ length_units a

-- what is left of a bundle
pub less_units : (a b : Bundle) (zs : List ℕ) → length zs ≡ 12 → EachCount ◌-◌ a b zs → take a.lots zs ≡ less (units_of a) (units_of b)
less_units a b zs l e = made-units ◌-◌ less get_or-less a b zs l e a.lots (length-less_units a b) a.few

pub less_padded : (a b : Bundle) (zs : List ℕ) → length zs ≡ 12 → EachCount ◌-◌ a b zs → (j : ℕ) → a.lots ≤ j → get_or zs j 0 ≡ 0
less_padded a b zs l e = made_padded ◌-◌ less get_or-less a b zs l e a.lots (length-less_units a b)

length-plus_max : (x y : List ℕ) → length (plus x y) ≡ max (length x) (length y)
unfolding plus
length-plus_max [] y = omega arith
length-plus_max (a ∷ x) [] = omega arith
length-plus_max (a ∷ x) (b ∷ y) = omega (arith, length-plus_max x y)

-- lists with the same counts are within the same
within_if : (x y v w : List ℕ) → ((j : ℕ) → get_or x j 0 ≡ get_or v j 0) → ((j : ℕ) → get_or y j 0 ≡ get_or w j 0) → within x y ≡ true → within v w ≡ true
unfolding Within
within_if x y v w e f h = true-within v w (λ j. omega (arith, within-true x y h j, e j, f j))

within_alike : (x y v w : List ℕ) → ((j : ℕ) → get_or x j 0 ≡ get_or v j 0) → ((j : ℕ) → get_or y j 0 ≡ get_or w j 0) → within x y ≡ within v w
within_alike x y v w e f = go (within x y) (within v w) refl refl
  where
    go : (s t : Bool) → within x y ≡ s → within v w ≡ t → s ≡ t
    go true t p q = sym (within_if x y v w e f p) ∙ q
    go false false p q = refl
    go false true p q = sym p ∙ within_if v w x y (λ j. sym (e j)) (λ j. sym (f j)) q

-- the test of all twelve counts
fold_within : (t : Bool) (xs ys : List ℕ) → length xs ≡ length ys → fold (λ (s : Bool) (p : ℕ × ℕ). s && leb p.0 p.1) t (zip xs ys) ≡ (t && within xs ys)
unfolding within
fold_within t [] ys e = elim t as (λ v. v ≡ (v && true)) [ true ↦ refl | false ↦ refl ]
fold_within t (x ∷ xs) [] e = absurd (omega arith)
fold_within true (x ∷ xs) (y ∷ ys) e = fold_within (leb x y) xs ys (omega arith)
fold_within false (x ∷ xs) (y ∷ ys) e = fold_within false xs ys (omega arith)

pub counts_within : (a b : Bundle) → fold (λ (s : Bool) (p : ℕ × ℕ). s && leb p.0 p.1) true (zip a.counts b.counts) ≡ within (units_of a) (units_of b)
counts_within a b =
    fold_within true a.counts b.counts (omega (arith, a.long, b.long))
    ∙ within_alike a.counts b.counts (units_of a) (units_of b) (λ j. sym (get_or_units a j)) (λ j. sym (get_or_units b j))

pub not_within : (x y : List ℕ) (j : ℕ) → get_or y j 0 < get_or x j 0 → within x y ≡ false
unfolding Within
not_within x y j h = ⊎_elim (λ e. absurd (omega (arith, within-true x y e j))) (λ e. e) (cases_Bool (within x y))

-- counts that fit a byte
pub bytes_within : (x : List ℕ) → length x ≤ 12 → ((k : ℕ) → k < 12 → get_or x k 0 ≤ 255) → within x (replicate 12 255) ≡ true
unfolding Within
bytes_within x l h =
    true-within x (replicate 12 255) (λ j.
    ⊎_elim
    (λ g. omega (arith, h j g, get_or-replicate {A = ℕ} 12 j 255 0 g))
    (λ g. omega (arith, get_or_past x j 0 (omega arith)))
    (cases_lt j 12))

-- two bundles together: zs holds the sums
pub sum_too_large : (a b : Bundle) (i : ℕ) → 255 < get_or a.counts i 0 + get_or b.counts i 0 → within (plus (units_of a) (units_of b)) (replicate 12 255) ≡ false
sum_too_large a b i h =
    not_within (plus (units_of a) (units_of b)) (replicate 12 255) i
    (omega (arith, get_or-plus (units_of a) (units_of b) i, get_or_units a i, get_or_units b i, below i))
  where
    below : (j : ℕ) → get_or {A = ℕ} (replicate 12 255) j 0 ≤ 255
    below j = ⊎_elim (λ g. omega (arith, get_or-replicate {A = ℕ} 12 j 255 0 g)) (λ g. omega (arith, get_or_past {X = ℕ} (replicate 12 255) j 0 g)) (cases_lt j 12)

pub sum_units : (a b : Bundle) (zs : List ℕ) → length zs ≡ 12 → EachCount ◌+◌ a b zs → take (max a.lots b.lots) zs ≡ plus (units_of a) (units_of b)
sum_units a b zs l e =
    made-units ◌+◌ plus get_or-plus a b zs l e (max a.lots b.lots) (omega (arith, length-plus_max (units_of a) (units_of b), length_units a, length_units b)) (omega (arith, a.few, b.few))

pub sum-within : (a b : Bundle) (zs : List ℕ) → length zs ≡ 12 → EachCount ◌+◌ a b zs → ((k : ℕ) → k < 12 → get_or zs k 0 ≤ 255) → within (plus (units_of a) (units_of b)) (replicate 12 255) ≡ true
sum-within a b zs l e h =
    bytes_within (plus (units_of a) (units_of b))
    (omega (arith, length-plus_max (units_of a) (units_of b), length_units a, length_units b))
    (λ k g. omega (arith, h k g, e k g, get_or-plus (units_of a) (units_of b) k, get_or_units a k, get_or_units b k))
