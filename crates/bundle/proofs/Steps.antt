-- One lot more, for each of the definitions of lists of counts. Assumes nothing.
use Rattle.std.proofs.Common.{◌≡◌, ℕ, zero, suc, ◌+◌, ◌*◌, ◌/◌, ◌%◌, ◌<◌, ◌≤◌, min, List, [], ◌∷◌, ◌++◌, length, get_or, take, drop, set, sym, refl, ap, ◌∙◌, ⊎_elim, mul_assoc, add-mul, mul_left_comm, add-one, arith}
use Rattle.std.proofs.lemmas.Nat.{mul-le}
use Rattle.std.proofs.lemmas.List.{drop_more, drop_all, drop-set-lt, take_all, take-append-drop, take_more_set, set_split, append_assoc, append-nil}
use Rattle.std.proofs.lemmas.Bool.{lt-ltb, le-ltb, cases_lt, cond-true, cond-false}
use Rattle.bundle.specs.Units.{place, bundles, bundle_at, next}
use Rattle.bundle.proofs.Bundles.{bundles_pos}

pub place_step : (ss xs : List ℕ) (i : ℕ) → i < length ss → i < length xs
    → place (drop i ss) (drop i xs) ≡ get_or xs i 0 + (get_or ss i 0 + 1) * place (drop (i + 1) ss) (drop (i + 1) xs)
unfolding place
place_step ss xs i h k = rw (drop_more ss i 0 h, drop_more xs i 0 k)

pub place_end : (ss xs : List ℕ) (i : ℕ) → length ss ≤ i → place (drop i ss) (drop i xs) ≡ 0
unfolding place
place_end ss xs i h = rw (drop_all i ss h)

place-nothing : (ss xs : List ℕ) → ((j : ℕ) → get_or xs j 0 ≡ 0) → place ss xs ≡ 0
unfolding place
place-nothing [] xs e = refl
place-nothing (s ∷ ss) [] e = refl
place-nothing (s ∷ ss) (x ∷ xs) e = let none = e 0 in rw (none, place-nothing ss xs (λ j. e (suc j))) (omega arith)

-- counts that agree at every lot have one place
pub place_like : (ss xs ys : List ℕ) → ((j : ℕ) → get_or xs j 0 ≡ get_or ys j 0) → place ss xs ≡ place ss ys
unfolding place
place_like [] xs ys e = refl
place_like (s ∷ ss) [] ys e = sym (place-nothing (s ∷ ss) ys (λ j. sym (e j)))
place_like (s ∷ ss) (x ∷ xs) [] e = place-nothing (s ∷ ss) (x ∷ xs) e
place_like (s ∷ ss) (x ∷ xs) (y ∷ ys) e = rw (e 0, place_like ss xs ys (λ j. e (suc j)))

bundles_step : (ss : List ℕ) (i : ℕ) → i < length ss → bundles (drop i ss) ≡ (get_or ss i 0 + 1) * bundles (drop (i + 1) ss)
unfolding bundles
bundles_step ss i h = rw (drop_more ss i 0 h)

pub bundles_end : (ss : List ℕ) (i : ℕ) → length ss ≤ i → bundles (drop i ss) ≡ 1
unfolding bundles
bundles_end ss i h = rw (drop_all i ss h)

pub bundles-drop : (i : ℕ) (ss : List ℕ) → bundles (drop i ss) ≤ bundles ss
unfolding bundles
bundles-drop zero ss = omega arith
bundles-drop (suc i) [] = omega arith
bundles-drop (suc i) (s ∷ ss) =
    let below = bundles-drop i ss in
    let more : 1 * bundles ss ≤ (s + 1) * bundles ss = mul-le 1 (bundles ss) (s + 1) (bundles ss) (omega arith) (omega arith) in
    omega arith

bound_step : (x s r n b : ℕ) → x ≤ 255 → r ≤ n * b → 1 ≤ b → x + (s + 1) * r ≤ (n + 255) * ((s + 1) * b)
bound_step x s r n b small below some =
    let grown : (s + 1) * r ≤ (s + 1) * (n * b) = mul-le (s + 1) r (s + 1) (n * b) (omega arith) below in
    let moved : (s + 1) * (n * b) ≡ n * ((s + 1) * b) = mul_left_comm (s + 1) n b in
    let wide : 1 * 1 ≤ (s + 1) * b = mul-le 1 1 (s + 1) b (omega arith) some in
    let split : (n + 255) * ((s + 1) * b) ≡ n * ((s + 1) * b) + 255 * ((s + 1) * b) = add-mul n 255 ((s + 1) * b) in
    omega arith

-- a count of a byte and a place r of the lots after it, of which there are n
pub place-small : (ss : List ℕ) (i x r n : ℕ) → i < length ss → x ≤ 255 → r ≤ 255 * n * bundles (drop (i + 1) ss)
    → x + (get_or ss i 0 + 1) * r ≤ 255 * (n + 1) * bundles (drop i ss)
place-small ss i x r n h small below =
    let count : 255 * (n + 1) ≡ 255 * n + 255 = omega arith in
    rw (bundles_step ss i h, count) (bound_step x (get_or ss i 0) r (255 * n) (bundles (drop (i + 1) ss)) small below (omega (arith, bundles_pos (drop (i + 1) ss))))

-- t is the product of the lots before i, and n that of all
pub product_step : (t n : ℕ) (ss : List ℕ) (i : ℕ) → i < length ss → t * bundles (drop i ss) ≡ n
    → t * (get_or ss i 0 + 1) * bundles (drop (i + 1) ss) ≡ n
product_step t n ss i h e = mul_assoc t (get_or ss i 0 + 1) (bundles (drop (i + 1) ss)) ∙ ap (λ b. t * b) (sym (bundles_step ss i h)) ∙ e

-- cs holds the first i counts, and p is what is left of the place
pub bundle_at_step : (cs ss : List ℕ) (i p v q : ℕ) → i < length cs → i < length ss → v ≡ p % (get_or ss i 0 + 1) → q ≡ p / (get_or ss i 0 + 1)
    → take (i + 1) (set cs i v) ++ bundle_at (drop (i + 1) ss) q ≡ take i cs ++ bundle_at (drop i ss) p
unfolding bundle_at
bundle_at_step cs ss i p v q h k e f = rw (take_more_set cs i v h, drop_more ss i 0 k, append_assoc, e, f)

pub bundle_at_end : (cs ss : List ℕ) (i p : ℕ) → length ss ≤ i → take i cs ++ bundle_at (drop i ss) p ≡ take i cs
unfolding bundle_at
bundle_at_end cs ss i p k = rw (drop_all i ss k, append-nil)

-- us holds the counts so far: what is done of them, and what is left to do
pub next_room : (ss us : List ℕ) (i : ℕ) → i < length ss → i < length us → get_or us i 0 < get_or ss i 0
    → set us i (get_or us i 0 + 1) ≡ take i us ++ next (drop i ss) (drop i us)
unfolding next
next_room ss us i h k g = rw (drop_more ss i 0 h, drop_more us i 0 k, cond-true _ _ _ (lt-ltb (get_or us i 0) (get_or ss i 0) g), add-one i) (set_split us i (get_or us i 0 + 1) k)

pub next_carry : (ss us : List ℕ) (i : ℕ) → i < length ss → i < length us → get_or ss i 0 ≤ get_or us i 0
    → take (i + 1) (set us i 0) ++ next (drop (i + 1) ss) (drop (i + 1) (set us i 0)) ≡ take i us ++ next (drop i ss) (drop i us)
unfolding next
next_carry ss us i h k g =
    rw (take_more_set us i 0 k, drop-set-lt (i + 1) us i 0 (omega arith), drop_more ss i 0 h, drop_more us i 0 k, cond-false _ _ _ (le-ltb (get_or us i 0) (get_or ss i 0) g), append_assoc)

next_nil : (ss : List ℕ) → next ss [] ≡ []
unfolding next
next_nil [] = refl
next_nil (s ∷ ss) = refl

pub next_end : (ss us : List ℕ) (i : ℕ) → min (length ss) (length us) ≤ i → take i us ++ next (drop i ss) (drop i us) ≡ us
unfolding next
next_end ss us i h =
    ⊎_elim
    (λ g. let k : length us ≤ i = omega arith in rw (drop_all i us k, take_all i us k, next_nil (drop i ss)) (append-nil us))
    (λ g. rw (drop_all i ss g) (take-append-drop i us))
    (cases_lt i (length ss))
