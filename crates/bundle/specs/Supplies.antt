-- Which supplies can be sold. Assumes nothing: these are definitions and a statement.
use Rattle.std.specs.Prelude.{◌≡◌, ℕ, ◌+◌, ◌*◌, ◌<◌, ◌≤◌, cond, ◌||◌, List, [], ◌∷◌, length, Some, None, Ok, Err, Option, Result, ◌==◌, nat_lt, slice_index}
use Rattle.bundle.specs.Units.{bundles}
use Rattle.bundle.specs.declared.refusals.SupplyRefusal.{SupplyRefusal}
use Rattle.bundle.specs.declared.refusals.SupplyRefusal.TheVariants.{LotCount, Lot}

-- 1 to 12 lots, 1 to 64 units of each, and at most 4,096 bundles
pub record Sold (us : List ℕ) : Type 0 where
  pub some : 1 ≤ length us
  pub few : length us ≤ 12
  pub least : (j : ℕ) → j < length us → 1 ≤ slice_index us j
  pub most : (j : ℕ) → slice_index us j ≤ 64
  pub small : bundles us ≤ 4096

-- the first lot, counted from j, with no units, with more than 64, or with which there are more than 4,096 bundles, where the lots before it have n
abbrev pub unsold_lot : List ℕ → ℕ → ℕ → Option ℕ
unsold_lot [] j n = None
unsold_lot (u ∷ us) j n = cond (u == 0 || (nat_lt 64 u || nat_lt 4096 (n * (u + 1)))) (Some j) (unsold_lot us (j + 1) (n * (u + 1)))

abbrev pub sold_but : Option ℕ → List ℕ → Result (List ℕ) SupplyRefusal
sold_but None us = Ok us
sold_but (Some j) us = Err (Lot j)

-- the supply, or what is wrong first
abbrev pub supply_in : List ℕ → Result (List ℕ) SupplyRefusal
supply_in us = cond (length us == 0 || nat_lt 12 (length us)) (Err LotCount) (sold_but (unsold_lot us 0 1) us)

-- a supply is taken exactly if it can be sold
abbrev pub SoldExactly : Type 0
SoldExactly = (us : List ℕ) → (supply_in us ≡ Ok us → Sold us) × (Sold us → supply_in us ≡ Ok us)
