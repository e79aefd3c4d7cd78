-- The table of best worths. Assumes nothing: these are definitions.
use Rattle.std.specs.Prelude.{ℕ, ◌+◌, ◌*◌, cond, ◌&&◌, List, [], ◌∷◌, ◌++◌, map, length, take, drop, nat_le, nat_lt, slice_index}
use Rattle.std.specs.List.{range_with_len}
use Rattle.bundle.specs.Bids.{Bids}
use Rattle.bundle.specs.Reserves.{prices_of, priced}
use Rattle.bundle.specs.Stocks.{supply_of}
use Rattle.bundle.specs.Units.{place, bundles, bundle_at}
use Rattle.bundle.specs.declared.prices.Reserve.{Reserve}
use Rattle.bundle.specs.declared.stock.Supply.{Supply}
use Rattle.sheets.specs.Sheets.{bids_of}
use Rattle.sheets.specs.declared.parts.Sheet.{Sheet}
use Rattle.table.specs.declared.auction.Auction.{Auction as Lent}
use Rattle.vcg.specs.Auction.{Auction}
use Rattle.vcg.specs.Optimum.{best_among, optimum}

-- a row: f of each bundle within the supply, by its place
abbrev pub row : List ℕ → (List ℕ → ℕ) → List ℕ
row supply f = map (λ p. f (bundle_at supply p)) (range_with_len 0 (bundles supply))

-- a row for each bidder, with the most that it and those after it make of each bundle, and a last one with what the seller keeps
unfoldable pub rows : List ℕ → (List ℕ → ℕ) → List Bids → List ℕ
rows supply keep [] = row supply keep
rows supply keep (b ∷ bs) = row supply (optimum keep (b ∷ bs)) ++ rows supply keep bs

abbrev pub table_of : Auction → List ℕ
table_of a = rows a.supply a.keep a.bidders

-- the auction of a sale at reserve prices
abbrev pub at_reserve : List ℕ → List ℕ → List Bids → Auction
at_reserve supply prices bidders = record { supply = supply; keep = priced prices; bidders = bidders }

abbrev pub auction_of : Supply → Reserve → List Sheet → Auction
auction_of s r sheets = at_reserve (supply_of s) (prices_of r) (map bids_of sheets)

-- the auction that an `Auction` stands for
abbrev pub lent_auction : Lent → Auction
lent_auction l = auction_of l.supply.now l.reserve.now l.sheets.now

-- the auction of its first k bidders
abbrev pub first_bidders : ℕ → Auction → Auction
first_bidders k a = record { supply = a.supply; keep = a.keep; bidders = take k a.bidders }

-- a table from row k on
abbrev pub from_row : List ℕ → ℕ → List ℕ → List ℕ
from_row supply k t = drop (k * bundles supply) t

-- the row below that of a farm, where there are so many; nothing where there is no such farm, or the table is too short
abbrev pub row_below : ℕ → List ℕ → ℕ → List ℕ → List ℕ
row_below farms supply farm t =
    cond (nat_lt farm farms && (nat_lt farm 48 && nat_le ((farm + 2) * bundles supply) (length t))) (take (bundles supply) (from_row supply (farm + 1) t)) []

-- new written over the front of old
abbrev pub onto : List ℕ → List ℕ → List ℕ
onto new old = new ++ drop (length new) old

-- the entry of a row for a bundle
abbrev pub entry : List ℕ → List ℕ → List ℕ → ℕ
entry supply below x = slice_index below (place supply x)

-- what the alternatives of one bidder, or none of them, make of x, by the row below
abbrev pub made : List ℕ → List ℕ → Bids → List ℕ → ℕ
made supply below b x = best_among (entry supply below) x b (entry supply below x)
