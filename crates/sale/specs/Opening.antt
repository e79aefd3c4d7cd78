-- How a sale is opened, check by check. Assumes nothing: these are definitions and a statement.
use Rattle.std.specs.Prelude.{◌≡◌, ℕ, ◌≤◌, cond, ◌||◌, List, map, length, position, Some, None, Ok, Err, Option, Result, ◌==◌, nat_lt, slice_index}
use Rattle.std.specs.Result.{result_map_both}
use Rattle.bundle.specs.Checks.{and_then}
use Rattle.bundle.specs.Reserves.{reserve_in}
use Rattle.bundle.specs.Supplies.{Sold, supply_in}
use Rattle.bundle.specs.declared.refusals.ReserveRefusal.{ReserveRefusal}
use Rattle.bundle.specs.declared.refusals.SupplyRefusal.{SupplyRefusal}
use Rattle.bundle.specs.declared.refusals.SupplyRefusal.TheVariants.{LotCount as NoSupply, Lot as WrongLot}
use Rattle.book.specs.Posting.{Entry, fresh}
use Rattle.sale.specs.declared.lots.Lot.{Lot}
use Rattle.sale.specs.declared.refusals.OpeningRefusal.{OpeningRefusal}
use Rattle.sale.specs.declared.refusals.OpeningRefusal.TheVariants.{LotCount, Supply, Price, FarmCount, Account, Company}

-- what a sale holds: its terms, a place for each farm, and the company's account
pub record State : Type 0 where
  pub supply : List ℕ
  pub reserve : List ℕ
  pub entries : List Entry
  pub company : ℕ

abbrev pub units_of_lots : List Lot → List ℕ
units_of_lots ls = map (λ (l : Lot). l.units) ls

abbrev pub prices_of_lots : List Lot → List ℕ
prices_of_lots ls = map (λ (l : Lot). l.reserve) ls

abbrev pub supply_refused : SupplyRefusal → OpeningRefusal
supply_refused NoSupply = LotCount 0
supply_refused (WrongLot j) = Supply j

abbrev pub price_refused : ReserveRefusal → OpeningRefusal
price_refused e = Price e.lot

-- the supply, of 1 to 12 lots
abbrev pub lots_checked : Result (List ℕ) SupplyRefusal → Result (List ℕ) OpeningRefusal
lots_checked r = result_map_both (λ us. us) supply_refused r

-- the reserve of each lot
abbrev pub prices_checked : Result (List ℕ) ReserveRefusal → Result (List ℕ) OpeningRefusal
prices_checked r = result_map_both (λ ps. ps) price_refused r

-- 1 to 48 farms
abbrev pub farms_checked : List ℕ → Result (List ℕ) OpeningRefusal
farms_checked accounts = cond (length accounts == 0 || nat_lt 48 (length accounts)) (Err (FarmCount 0)) (Ok accounts)

-- the first account that is above 1,000,000,000
abbrev pub overfull : List ℕ → Option ℕ
overfull accounts = position (nat_lt 1000000000) accounts

abbrev pub full_but : Option ℕ → List ℕ → Result (List ℕ) OpeningRefusal
full_but None accounts = Ok accounts
full_but (Some i) accounts = Err (Account i)

abbrev pub accounts_checked : List ℕ → Result (List ℕ) OpeningRefusal
accounts_checked accounts = full_but (overfull accounts) accounts

-- the company's account, at most 10^15
abbrev pub company_checked : ℕ → Result ℕ OpeningRefusal
company_checked company = cond (nat_lt 1000000000000000 company) (Err (Company 0)) (Ok company)

-- the sale, or what is wrong first
abbrev pub open_sale : List Lot → List ℕ → ℕ → Result State OpeningRefusal
open_sale lots accounts company =
    and_then (lots_checked (supply_in (units_of_lots lots))) (λ supply.
    and_then (prices_checked (reserve_in (prices_of_lots lots))) (λ reserve.
    and_then (farms_checked accounts) (λ farms.
    and_then (accounts_checked farms) (λ held.
    and_then (company_checked company) (λ purse.
    Ok (record { supply = supply; reserve = reserve; entries = map fresh held; company = purse }))))))

-- when a sale is opened: the lots can be sold, at a reserve of at most 1,000,000 each, there are 1 to 48 farms, with at most 1,000,000,000 each, and the company has at most 10^15
pub record Opens (lots : List Lot) (accounts : List ℕ) (company : ℕ) : Type 0 where
  pub sold : Sold (units_of_lots lots)
  pub priced : (j : ℕ) → slice_index (prices_of_lots lots) j ≤ 1000000
  pub some : 1 ≤ length accounts
  pub few : length accounts ≤ 48
  pub funded : (i : ℕ) → slice_index accounts i ≤ 1000000000
  pub covered : company ≤ 1000000000000000

-- the sale that is opened, with no message yet
abbrev pub opened : List Lot → List ℕ → ℕ → State
opened lots accounts company =
    record { supply = units_of_lots lots; reserve = prices_of_lots lots; entries = map fresh accounts; company = company }

-- a sale is opened exactly then
abbrev pub OpensExactly : Type 0
OpensExactly =
    (lots : List Lot) (accounts : List ℕ) (company : ℕ) →
    ((h : State) → open_sale lots accounts company ≡ Ok h → Opens lots accounts company × (h ≡ opened lots accounts company))
    × (Opens lots accounts company → open_sale lots accounts company ≡ Ok (opened lots accounts company))
