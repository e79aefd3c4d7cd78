-- Bundles as lists of counts, one count for each lot; a missing place counts 0. Assumes nothing: these are definitions and statements.
use Rattle.std.specs.Prelude.{◌≡◌, ℕ, ◌+◌, ◌-◌, ◌*◌, ◌/◌, ◌%◌, ◌<◌, ◌≤◌, Bool, true, cond, ◌&&◌, List, [], ◌∷◌, length, ◌==◌, nat_le, nat_lt, slice_index}

-- xs and ys added place by place
unfoldable pub plus : List ℕ → List ℕ → List ℕ
plus [] ys = ys
plus (x ∷ xs) [] = x ∷ xs
plus (x ∷ xs) (y ∷ ys) = (x + y) ∷ plus xs ys

-- what is left of xs once ys is taken away, place by place; as long as xs
unfoldable pub less : List ℕ → List ℕ → List ℕ
less [] ys = []
less (x ∷ xs) [] = x ∷ xs
less (x ∷ xs) (y ∷ ys) = (x - y) ∷ less xs ys

-- xs is at most ys at every place
unfoldable pub Within : List ℕ → List ℕ → Type 0
Within xs ys = (j : ℕ) → slice_index xs j ≤ slice_index ys j

-- the same as a test
unfoldable pub within : List ℕ → List ℕ → Bool
within [] ys = true
within (x ∷ xs) [] = x == 0 && within xs []
within (x ∷ xs) (y ∷ ys) = nat_le x y && within xs ys

-- how many bundles there are within the supply
unfoldable pub bundles : List ℕ → ℕ
bundles [] = 1
bundles (s ∷ ss) = (s + 1) * bundles ss

-- the place of a bundle among all bundles within the supply, a number in mixed radix: x(0) + (s(0) + 1) × (x(1) + (s(1) + 1) × ..)
unfoldable pub place : List ℕ → List ℕ → ℕ
place [] xs = 0
place (s ∷ ss) [] = 0
place (s ∷ ss) (x ∷ xs) = x + (s + 1) * place ss xs

-- the bundle at a place
unfoldable pub bundle_at : List ℕ → ℕ → List ℕ
bundle_at [] p = []
bundle_at (s ∷ ss) p = (p % (s + 1)) ∷ bundle_at ss (p / (s + 1))

-- the bundle at the next place: one unit more of the first lot that has not all its units yet, and none of the lots before it
unfoldable pub next : List ℕ → List ℕ → List ℕ
next [] xs = xs
next (s ∷ ss) [] = []
next (s ∷ ss) (x ∷ xs) = cond (nat_lt x s) ((x + 1) ∷ xs) (0 ∷ next ss xs)

-- x is the one bundle within the supply at the place p
pub record Meets (supply : List ℕ) (p : ℕ) (x : List ℕ) : Type 0 where
  pub long : length x ≡ length supply
  pub fits : Within x supply
  pub here : place supply x ≡ p
  pub only : (y : List ℕ) → length y ≡ length supply → Within y supply → place supply y ≡ p → y ≡ x

-- each place below the number of bundles is met by exactly one bundle within the supply
abbrev pub PlacesMetOnce : Type 0
PlacesMetOnce = (supply : List ℕ) (p : ℕ) → p < bundles supply → Meets supply p (bundle_at supply p)

-- and by these places all bundles within the supply are met
abbrev pub PlacesBelow : Type 0
PlacesBelow = (supply x : List ℕ) → Within x supply → place supply x < bundles supply

-- to take a bundle away that fits subtracts its place
abbrev pub PlaceOfDifference : Type 0
PlaceOfDifference = (supply x a : List ℕ) → Within a x → place supply (less x a) + place supply a ≡ place supply x

-- the next bundle is the one at the next place
abbrev pub NextPlace : Type 0
NextPlace = (supply : List ℕ) (p : ℕ) → next supply (bundle_at supply p) ≡ bundle_at supply (p + 1)
