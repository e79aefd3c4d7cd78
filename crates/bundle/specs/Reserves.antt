-- The price of a unit of each lot below which the company keeps it. Assumes nothing: these are definitions.
use Rattle.std.specs.Prelude.{ℕ, ◌+◌, ◌*◌, cond, ◌||◌, List, [], ◌∷◌, take, Some, None, Ok, Err, Option, Result, nat_lt}
use Rattle.bundle.specs.declared.prices.Reserve.{Reserve}
use Rattle.bundle.specs.declared.refusals.ReserveRefusal.{ReserveRefusal}

-- the price of each lot
unfoldable pub prices_of : Reserve → List ℕ
prices_of r = take r.lots r.prices

-- the first lot, counted from j, whose price is above 1,000,000, or that is past the twelfth
abbrev pub overpriced_lot : List ℕ → ℕ → Option ℕ
overpriced_lot [] j = None
overpriced_lot (p ∷ ps) j = cond (nat_lt 1000000 p || nat_lt 11 j) (Some j) (overpriced_lot ps (j + 1))

abbrev pub priced_but : Option ℕ → List ℕ → Result (List ℕ) ReserveRefusal
priced_but None ps = Ok ps
priced_but (Some j) ps = Err (record { lot = j })

-- the reserve, or the first lot that is wrong
abbrev pub reserve_in : List ℕ → Result (List ℕ) ReserveRefusal
reserve_in ps = priced_but (overpriced_lot ps 0) ps

-- what a bundle is worth at these prices
unfoldable pub priced : List ℕ → List ℕ → ℕ
priced [] xs = 0
priced (p ∷ ps) [] = 0
priced (p ∷ ps) (x ∷ xs) = p * x + priced ps xs
