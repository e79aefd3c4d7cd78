-- No worth of a sale and no place in a row passes 64 bits. Assumes nothing.
use Rattle.std.proofs.Common.{◌≡◌, ℕ, zero, suc, true, ◌*◌, ◌^◌, ◌<◌, ◌≤◌, List, [], ◌∷◌, length, get_or, set, refl, arith, length-set}
use Rattle.std.proofs.lemmas.List.{length-map}
use Rattle.bundle.specs.Bids.{Bids}
use Rattle.bundle.specs.Stocks.{supply_of}
use Rattle.bundle.specs.Units.{bundles, place, within}
use Rattle.bundle.specs.declared.stock.Supply.{Supply}
use Rattle.bundle.proofs.Bundles.{place_below, within_refl, within-true}
use Rattle.sheets.specs.Sheets.{bids_of}
use Rattle.table.specs.Tables.{lent_auction}
use Rattle.table.specs.declared.auction.Auction.{Auction as Lent}
use Rattle.table.proofs.Sheets.{few_cap, kept_cap, stated_cap}
use Rattle.vcg.specs.Auction.{no_bid}
use Rattle.vcg.specs.Optimum.{worth_without}

without_cap : (bs : List Bids) (c k : ℕ) → ((i j : ℕ) → (get_or (get_or bs i []) j no_bid).value ≤ c) → (i j : ℕ) → (get_or (get_or (set bs k []) i []) j no_bid).value ≤ c
without_cap [] c k most i j = most i j
without_cap (b ∷ bs) c zero most zero j = omega arith
without_cap (b ∷ bs) c zero most (suc i) j = most (suc i) j
without_cap (b ∷ bs) c (suc k) most zero j = most 0 j
without_cap (b ∷ bs) c (suc k) most (suc i) j = without_cap bs c k (λ i j. most (suc i) j) i j

pub without-small : (l : Lent) (k : ℕ) → worth_without (lent_auction l) k ≤ 49 * 2 ^ 32
without-small l k =
    let a = lent_auction l in
    let sheets = l.sheets.now in
    let count : length (set a.bidders k []) ≤ 48 = omega (arith, length-set a.bidders k [], length-map sheets bids_of, l.few) in
    few_cap a.keep a.supply (2 ^ 32) (kept_cap l) (set a.bidders k []) count (without_cap a.bidders (2 ^ 32) k (stated_cap sheets)) a.supply refl (within_refl a.supply)

-- the place of a bundle within the supply
pub place_small : (s : Supply) (x : List ℕ) (p : ℕ) → within x (supply_of s) ≡ true → p ≡ place (supply_of s) x → (p < bundles (supply_of s)) × (p < 4096)
place_small s x p held is =
    let here : p < bundles (supply_of s) = omega (arith, place_below (supply_of s) x (within-true x (supply_of s) held)) in
    (here, omega (arith, s.counted, s.small))
