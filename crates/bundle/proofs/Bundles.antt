-- Lemmas of bundles: sums, differences, containment and places. Assumes nothing.
use Rattle.std.proofs.Common.{◌≡◌, ℕ, zero, suc, ◌+◌, ◌-◌, ◌*◌, ◌/◌, ◌%◌, ◌<◌, ◌≤◌, true, eqb, leb, ◌⊎◌, List, [], ◌∷◌, length, get_or, replicate, sym, refl, ap, ◌∙◌, inl, inr, mod-lt, mul_comm, div-lt_iff_lt-mul, add-mul, mul-le-mul_left, div-add-mod', mul-add, arith}
use native.Mathlib.Nat.{mod-add-div, zero-mod, zero-div}
use lib.Arith.{digits_lt, digits_div, digits_mod}
use Rattle.std.proofs.lemmas.List.{ext_get_or}
use Rattle.std.proofs.lemmas.Bool.{leb-true, le-leb, eqb-true, eq-eqb, lt-ltb, le-ltb, and_parts, and_from, cases_lt, cond-true, cond-false}
use Rattle.bundle.specs.Units.{plus, less, Within, within, place, bundles, bundle_at, next, PlacesMetOnce, NextPlace}

pub length-less : (x y : List ℕ) → length (less x y) ≡ length x
unfolding less
length-less [] y = refl
length-less (a ∷ x) [] = refl
length-less (a ∷ x) (b ∷ y) = ap suc (length-less x y)

pub get_or-less : (x y : List ℕ) (j : ℕ) → get_or (less x y) j 0 ≡ get_or x j 0 - get_or y j 0
unfolding less
get_or-less [] y j = omega arith
get_or-less (a ∷ x) [] j = omega arith
get_or-less (a ∷ x) (b ∷ y) zero = refl
get_or-less (a ∷ x) (b ∷ y) (suc j) = get_or-less x y j

pub get_or-plus : (x y : List ℕ) (j : ℕ) → get_or (plus x y) j 0 ≡ get_or x j 0 + get_or y j 0
unfolding plus
get_or-plus [] y j = omega arith
get_or-plus (a ∷ x) [] j = omega arith
get_or-plus (a ∷ x) (b ∷ y) zero = refl
get_or-plus (a ∷ x) (b ∷ y) (suc j) = get_or-plus x y j

pub less_nil : (x : List ℕ) → less x [] ≡ x
unfolding less
less_nil [] = refl
less_nil (a ∷ x) = refl

pub nil_plus : (x : List ℕ) → plus [] x ≡ x
unfolding plus
nil_plus x = refl

pub plus_comm : (x y : List ℕ) → plus x y ≡ plus y x
unfolding plus
plus_comm [] [] = refl
plus_comm [] (b ∷ y) = refl
plus_comm (a ∷ x) [] = refl
plus_comm (a ∷ x) (b ∷ y) = let h : a + b ≡ b + a = omega arith in let t = plus_comm x y in cc

pub plus_assoc : (x y z : List ℕ) → plus (plus x y) z ≡ plus x (plus y z)
unfolding plus
plus_assoc [] y z = refl
plus_assoc (a ∷ x) [] z = refl
plus_assoc (a ∷ x) (b ∷ y) [] = refl
plus_assoc (a ∷ x) (b ∷ y) (c ∷ z) = let h : (a + b) + c ≡ a + (b + c) = omega arith in let t = plus_assoc x y z in cc

pub plus_left_comm : (x y z : List ℕ) → plus x (plus y z) ≡ plus y (plus x z)
plus_left_comm x y z = sym (plus_assoc x y z) ∙ ap (λ (w : List ℕ). plus w z) (plus_comm x y) ∙ plus_assoc y x z

-- to take two bundles away is to take one away, and then the other
pub less-plus : (x a b : List ℕ) → less x (plus a b) ≡ less (less x a) b
less-plus x a b =
    ext_get_or 0 (less x (plus a b)) (less (less x a) b)
    (simp length-less)
    (λ i h. simp (get_or-less, get_or-plus) (omega arith))

pub within_refl : (x : List ℕ) → Within x x
unfolding Within
within_refl x j = omega arith

pub within_trans : (x y z : List ℕ) → Within x y → Within y z → Within x z
unfolding Within
within_trans x y z p q j = omega (arith, p j, q j)

pub nil_within : (x : List ℕ) → Within [] x
unfolding Within
nil_within x j = omega arith

pub less-within : (x y : List ℕ) → Within (less x y) x
unfolding Within
less-within x y j = simp get_or-less (omega arith)

-- what is left of a bundle within s is within it
pub less-held : (s x y : List ℕ) → Within x s → Within (less x y) s
less-held s x y h = within_trans (less x y) x s (less-within x y) h

-- the parts of a sum within x
pub within-plus_left : (a b x : List ℕ) → Within (plus a b) x → Within a x
unfolding Within
within-plus_left a b x h j = omega (arith, h j, get_or-plus a b j)

pub within-plus_right : (a b x : List ℕ) → Within (plus a b) x → Within b (less x a)
unfolding Within
within-plus_right a b x h j = omega (arith, h j, get_or-plus a b j, get_or-less x a j)

pub within-plus : (a b x : List ℕ) → Within a x → Within b (less x a) → Within (plus a b) x
unfolding Within
within-plus a b x p q j = omega (arith, p j, q j, get_or-plus a b j, get_or-less x a j)

pub plus-within : (a b c x : List ℕ) → Within a b → Within (plus b c) x → Within (plus a c) x
unfolding Within
plus-within a b c x p q j = omega (arith, p j, q j, get_or-plus a c j, get_or-plus b c j)

-- the less is taken, the more is left
pub less_anti : (x a b : List ℕ) → Within a b → Within (less x b) (less x a)
unfolding Within
less_anti x a b p j = omega (arith, p j, get_or-less x a j, get_or-less x b j)

pub length-plus : (a b : List ℕ) → length a ≤ length b → length (plus a b) ≡ length b
unfolding plus
length-plus [] b h = refl
length-plus (x ∷ a) [] h = omega arith
length-plus (x ∷ a) (y ∷ b) h = ap suc (length-plus a b (omega arith))

-- what was taken and is given back
pub less_back : (x a b : List ℕ) → length a ≤ length x → Within (plus a b) x → plus a (less x (plus a b)) ≡ less x b
unfolding Within
less_back x a b k h =
    ext_get_or 0 (plus a (less x (plus a b))) (less x b)
    (length-plus a (less x (plus a b)) (simp length-less k) ∙ simp length-less)
    (λ j _. omega (arith, h j, get_or-plus a b j, get_or-less x (plus a b) j, get_or-less x b j, get_or-plus a (less x (plus a b)) j))

-- the test tells the fact
pub within-true : (x y : List ℕ) → within x y ≡ true → Within x y
unfolding within Within
within-true [] y e j = omega arith
within-true (a ∷ x) [] e zero = omega (arith, eqb-true a 0 (and_parts (eqb a 0) (within x []) e).0)
within-true (a ∷ x) [] e (suc j) = within-true x [] (and_parts (eqb a 0) (within x []) e).1 j
within-true (a ∷ x) (b ∷ y) e zero = leb-true a b (and_parts (leb a b) (within x y) e).0
within-true (a ∷ x) (b ∷ y) e (suc j) = within-true x y (and_parts (leb a b) (within x y) e).1 j

pub true-within : (x y : List ℕ) → Within x y → within x y ≡ true
unfolding within Within
true-within [] y h = refl
true-within (a ∷ x) [] h = and_from (eqb a 0) (within x []) (eq-eqb a 0 (omega (arith, h 0))) (true-within x [] (λ j. h (suc j)))
true-within (a ∷ x) (b ∷ y) h = and_from (leb a b) (within x y) (le-leb a b (h 0)) (true-within x y (λ j. h (suc j)))

pub place_nil : (s : List ℕ) → place s [] ≡ 0
unfolding place
place_nil [] = refl
place_nil (s ∷ ss) = refl

-- the place of a sum is the sum of the places
pub place-less : (s x a : List ℕ) → Within a x → place s (less x a) + place s a ≡ place s x
unfolding place less Within
place-less [] x a h = refl
place-less (s ∷ ss) [] [] h = refl
place-less (s ∷ ss) [] (b ∷ a) h =
    let t : place ss [] + place ss a ≡ place ss [] = place-less ss [] a (λ j. h (suc j)) in
    let z : place ss a ≡ 0 = omega (arith, place_nil ss) in
    rw z (omega (arith, h 0))
place-less (s ∷ ss) (y ∷ x) [] h = omega arith
place-less (s ∷ ss) (y ∷ x) (b ∷ a) h =
    let t : place ss (less x a) + place ss a ≡ place ss x = place-less ss x a (λ j. h (suc j)) in
    omega (arith, h 0, mul-add (s + 1) (place ss (less x a)) (place ss a), ap (λ n. (s + 1) * n) t)

pub bundles_pos : (s : List ℕ) → 0 < bundles s
unfolding bundles
bundles_pos [] = omega arith
bundles_pos (s ∷ ss) = omega (arith, mul-le-mul_left (s + 1) (bundles_pos ss))

pub place_below : (s x : List ℕ) → Within x s → place s x < bundles s
unfolding place bundles Within
place_below [] x h = omega arith
place_below (s ∷ ss) [] h = bundles_pos (s ∷ ss)
place_below (s ∷ ss) (y ∷ x) h =
    let t : place ss x < bundles ss = place_below ss x (λ j. h (suc j)) in
    let u : y < s + 1 = omega (arith, h 0) in
    omega (arith, digits_lt {q = place ss x} {m = bundles ss} {r = y} {c = s + 1} t u, mul_comm (place ss x) (s + 1), mul_comm (bundles ss) (s + 1))

-- a bundle within the supply is known by its place
pub place_same : (s x y : List ℕ) → length x ≡ length s → length y ≡ length s → Within x s → Within y s → place s x ≡ place s y → x ≡ y
unfolding place Within
place_same [] [] [] k l p q e = refl
place_same [] [] (b ∷ y) k l p q e = absurd (omega arith)
place_same [] (a ∷ x) y k l p q e = absurd (omega arith)
place_same (s ∷ ss) [] y k l p q e = absurd (omega arith)
place_same (s ∷ ss) (a ∷ x) [] k l p q e = absurd (omega arith)
place_same (s ∷ ss) (a ∷ x) (b ∷ y) k l p q e =
    let m : place ss x * (s + 1) + a ≡ place ss y * (s + 1) + b = omega (arith, mul_comm (place ss x) (s + 1), mul_comm (place ss y) (s + 1)) in
    let i : a < s + 1 = omega (arith, p 0) in
    let j : b < s + 1 = omega (arith, q 0) in
    let d : place ss x ≡ place ss y = sym (digits_div (place ss x) i) ∙ ap (λ n. n / (s + 1)) m ∙ digits_div (place ss y) j in
    let r : a ≡ b = sym (digits_mod (place ss x) i) ∙ ap (λ n. n % (s + 1)) m ∙ digits_mod (place ss y) j in
    let t : x ≡ y = place_same ss x y (omega arith) (omega arith) (λ j. p (suc j)) (λ j. q (suc j)) d in
    cc

-- every place below `bundles s` is the place of one bundle
pub length-bundle_at : (s : List ℕ) (p : ℕ) → length (bundle_at s p) ≡ length s
unfolding bundle_at
length-bundle_at [] p = refl
length-bundle_at (s ∷ ss) p = ap suc (length-bundle_at ss (p / (s + 1)))

pub bundle_at-within : (s : List ℕ) (p : ℕ) → Within (bundle_at s p) s
unfolding bundle_at Within
bundle_at-within [] p j = omega arith
bundle_at-within (s ∷ ss) p zero = let k : 0 < s + 1 = omega arith in omega (arith, mod-lt p k)
bundle_at-within (s ∷ ss) p (suc j) = bundle_at-within ss (p / (s + 1)) j

pub place-bundle_at : (s : List ℕ) (p : ℕ) → p < bundles s → place s (bundle_at s p) ≡ p
unfolding bundle_at place bundles
place-bundle_at [] p h = omega arith
place-bundle_at (s ∷ ss) p h =
    let k : 0 < s + 1 = omega arith in
    let d : p < bundles ss * (s + 1) = omega (arith, mul_comm (bundles ss) (s + 1)) in
    rw (place-bundle_at ss (p / (s + 1)) ((div-lt_iff_lt-mul k).1 d)) (mod-add-div p (s + 1))

pub bundle_at-place : (s x : List ℕ) → length x ≡ length s → Within x s → bundle_at s (place s x) ≡ x
bundle_at-place s x l w =
    place_same s (bundle_at s (place s x)) x (length-bundle_at s (place s x)) l (bundle_at-within s (place s x)) w
    (place-bundle_at s (place s x) (place_below s x w))

-- the first place and the last
pub bundle_at_none : (s : List ℕ) → bundle_at s 0 ≡ replicate (length s) 0
unfolding bundle_at
bundle_at_none [] = refl
bundle_at_none (s ∷ ss) = rw (zero-mod (s + 1), zero-div (s + 1), bundle_at_none ss)

place_all : (s : List ℕ) → place s s + 1 ≡ bundles s
unfolding place bundles
place_all [] = refl
place_all (s ∷ ss) = omega (arith, place_all ss, mul-add (s + 1) (place ss ss) 1, ap (λ n. (s + 1) * n) (place_all ss))

pub bundle_at-last : (s : List ℕ) → bundle_at s (bundles s - 1) ≡ s
bundle_at-last s =
    let last : bundles s - 1 ≡ place s s = omega (arith, place_all s) in
    ap (bundle_at s) last ∙ bundle_at-place s s refl (within_refl s)

pub places_met_once : PlacesMetOnce
places_met_once s p h =
    record {
      long = length-bundle_at s p;
      fits = bundle_at-within s p;
      here = place-bundle_at s p h;
      only = λ y l w e. place_same s y (bundle_at s p) l (length-bundle_at s p) w (bundle_at-within s p) (e ∙ sym (place-bundle_at s p h));
    }

-- a place's first digit, and what is left of the place, at the place after it
digit_more : (p n : ℕ) → p % (n + 1) < n → ((p + 1) % (n + 1) ≡ p % (n + 1) + 1) × ((p + 1) / (n + 1) ≡ p / (n + 1))
digit_more p n h =
    let r = p % (n + 1) in
    let q = p / (n + 1) in
    let is : q * (n + 1) + (r + 1) ≡ p + 1 = omega (arith, div-add-mod' p (n + 1)) in
    let k : r + 1 < n + 1 = omega arith in
    (rw (← is) (digits_mod q k), rw (← is) (digits_div q k))

digit_over : (p n : ℕ) → n ≤ p % (n + 1) → ((p + 1) % (n + 1) ≡ 0) × ((p + 1) / (n + 1) ≡ p / (n + 1) + 1)
digit_over p n h =
    let q = p / (n + 1) in
    let k : 0 < n + 1 = omega arith in
    let is : (q + 1) * (n + 1) + 0 ≡ p + 1 = omega (arith, div-add-mod' p (n + 1), mod-lt p k, add-mul q 1 (n + 1)) in
    (rw (← is) (digits_mod (q + 1) k), rw (← is) (digits_div (q + 1) k))

pub next_place : NextPlace
unfolding next bundle_at
next_place [] p = refl
next_place (s ∷ ss) p = go (next_place ss (p / (s + 1))) (cases_lt (p % (s + 1)) s)
  where
    go : next ss (bundle_at ss (p / (s + 1))) ≡ bundle_at ss (p / (s + 1) + 1) → (p % (s + 1) < s) ⊎ (s ≤ p % (s + 1)) → next (s ∷ ss) (bundle_at (s ∷ ss) p) ≡ bundle_at (s ∷ ss) (p + 1)
    go e (inl h) = let d = digit_more p s h in cond-true _ _ _ (lt-ltb (p % (s + 1)) s h) ∙ rw (d.0, d.1)
    go e (inr h) = let d = digit_over p s h in cond-false _ _ _ (le-ltb (p % (s + 1)) s h) ∙ rw (d.0, d.1, e)
