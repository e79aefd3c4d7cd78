-- What the rows know of sheets and of a lent auction: how much a line may state, and how much all of them and the reserve make. Assumes nothing.
use Rattle.std.proofs.Common.{ℕ, zero, suc, ◌+◌, ◌*◌, ◌^◌, ◌≤◌, List, [], ◌∷◌, map, length, get_or, take, arith}
use Rattle.bundle.specs.Bids.{Bids}
use Rattle.bundle.proofs.Worths.{priced_cap}
use Rattle.sheets.specs.Sheets.{bid_of, bids_of}
use Rattle.sheets.specs.declared.parts.Line.{Line}
use Rattle.sheets.specs.declared.parts.Sheet.{Sheet}
use Rattle.table.specs.Tables.{lent_auction}
use Rattle.table.specs.declared.auction.Auction.{Auction as Lent}
use Rattle.vcg.specs.Auction.{no_bid}
use Rattle.vcg.specs.Optimum.{optimum}
use Rattle.vcg.proofs.Alike.{EachWithin, optimum_cap}

line_cap : (ls : List Line) (j : ℕ) → (get_or (map bid_of ls) j no_bid).value ≤ 2 ^ 32
line_cap [] j = omega arith
line_cap (l ∷ ls) zero = omega (arith, l.small)
line_cap (l ∷ ls) (suc j) = line_cap ls j

-- no line states 2^32
pub stated_cap : (sheets : List Sheet) (i j : ℕ) → (get_or (get_or (map bids_of sheets) i []) j no_bid).value ≤ 2 ^ 32
unfolding bids_of
stated_cap [] i j = omega arith
stated_cap (s ∷ sheets) zero j = line_cap (take s.count s.lines) j
stated_cap (s ∷ sheets) (suc i) j = stated_cap sheets i j

-- 48 bidders make little more than what is kept
pub few_cap : (keep : List ℕ → ℕ) (s : List ℕ) (n : ℕ) → EachWithin s (λ y. keep y ≤ n) → (bs : List Bids) → length bs ≤ 48
    → ((i j : ℕ) → (get_or (get_or bs i []) j no_bid).value ≤ 2 ^ 32) → EachWithin s (λ x. optimum keep bs x ≤ n + 48 * 2 ^ 32)
few_cap keep s n low bs few most x long held = omega (arith, optimum_cap keep s n (2 ^ 32) low bs most x long held)

-- what the reserve keeps of a bundle
pub kept_cap : (l : Lent) → EachWithin (lent_auction l).supply (λ y. (lent_auction l).keep y ≤ 2 ^ 32)
kept_cap l y _ held = priced_cap l.reserve.now l.supply.now y held

pub kept_small : (l : Lent) → EachWithin (lent_auction l).supply (λ y. (lent_auction l).keep y ≤ 2 ^ 40)
kept_small l y long held = omega (arith, kept_cap l y long held)
