-- What bundles are worth at prices: sums, bounds, and one lot more. Assumes nothing.
use Rattle.std.proofs.Common.{sum_by, ap, ◌∙◌, ◌≡◌, ℕ, suc, ◌+◌, ◌*◌, ◌^◌, ◌≤◌, List, [], ◌∷◌, length, get_or, refl, mul-add, arith}
use Rattle.std.specs.List.{zip}
use Rattle.std.proofs.lemmas.Nat.{mul-le}
use Rattle.std.proofs.lemmas.List.Sums.{sum_by-cons}
use Rattle.bundle.specs.Reserves.{prices_of, priced}
use Rattle.bundle.specs.Stocks.{supply_of}
use Rattle.bundle.specs.Units.{plus, Within}
use Rattle.bundle.specs.declared.prices.Reserve.{Reserve}
use Rattle.bundle.specs.declared.stock.Supply.{Supply}
use Rattle.bundle.proofs.Padding.{length_prices, get_or-prices}

pub priced_nil : (ps : List ℕ) → priced ps [] ≡ 0
unfolding priced
priced_nil [] = refl
priced_nil (p ∷ ps) = refl

-- the worth of a sum is the sum of the worths
pub priced-plus : (ps a b : List ℕ) → priced ps (plus a b) ≡ priced ps a + priced ps b
unfolding priced plus
priced-plus [] a b = refl
priced-plus (p ∷ ps) [] b = omega arith
priced-plus (p ∷ ps) (x ∷ a) [] = omega arith
priced-plus (p ∷ ps) (x ∷ a) (y ∷ b) = omega (arith, priced-plus ps a b, mul-add p x y)

-- more is worth no less
pub priced_grows : (ps x y : List ℕ) → Within x y → priced ps x ≤ priced ps y
unfolding priced Within
priced_grows [] x y h = omega arith
priced_grows (p ∷ ps) [] y h = omega arith
priced_grows (p ∷ ps) (a ∷ x) [] h =
    omega (arith, mul-le p a p 0 (omega arith) (h 0), priced_grows ps x [] (λ j. h (suc j)), priced_nil ps)
priced_grows (p ∷ ps) (a ∷ x) (b ∷ y) h =
    omega (arith, mul-le p a p b (omega arith) (h 0), priced_grows ps x y (λ j. h (suc j)))

priced_most : (ps xs : List ℕ) → ((j : ℕ) → get_or ps j 0 ≤ 1000000) → ((j : ℕ) → get_or xs j 0 ≤ 64) → priced ps xs ≤ length ps * 64000000
unfolding priced
priced_most [] xs h k = omega arith
priced_most (p ∷ ps) [] h k = omega arith
priced_most (p ∷ ps) (x ∷ xs) h k =
    omega (arith, mul-le p x 1000000 64 (h 0) (k 0), priced_most ps xs (λ j. h (suc j)) (λ j. k (suc j)))

-- at most 12 lots of 64 units at 1,000,000
pub priced_cap : (r : Reserve) (s : Supply) (y : List ℕ) → Within y (supply_of s) → priced (prices_of r) y ≤ 2 ^ 32
unfolding Within
priced_cap r s y w =
    omega (arith, length_prices r, r.few, priced_most (prices_of r) y (λ j. omega (arith, get_or-prices r j, r.small j)) (λ j. omega (arith, w j, s.most j)))

-- what the program adds up
pub priced_zip : (ps xs : List ℕ) → sum_by (λ (p : ℕ × ℕ). p.0 * p.1) (zip ps xs) ≡ priced ps xs
unfolding priced
priced_zip [] xs = refl
priced_zip (p ∷ ps) [] = refl
priced_zip (p ∷ ps) (x ∷ xs) = sum_by-cons (λ (q : ℕ × ℕ). q.0 * q.1) (p, x) (zip ps xs) ∙ ap (λ n. p * x + n) (priced_zip ps xs)
