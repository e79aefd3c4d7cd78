-- When a table is filled. Assumes nothing: these are definitions.
use Rattle.std.specs.Prelude.{ℕ, ◌+◌, ◌*◌, cond, List, length, Ok, Err, Result, ◌==◌, nat_lt}
use Rattle.bundle.specs.Checks.{and_then, viewed}
use Rattle.bundle.specs.declared.prices.Reserve.{Reserve}
use Rattle.bundle.specs.declared.stock.Supply.{Supply}
use Rattle.sheets.specs.declared.parts.Sheet.{Sheet}
use Rattle.table.specs.declared.refusals.TableRefusal.{TableRefusal}
use Rattle.table.specs.declared.refusals.TableRefusal.TheVariants.{Farms, Table, Without}
use Rattle.table.specs.Tables.{auction_of}
use Rattle.vcg.specs.Auction.{Auction}

-- whether there are at most 48 farms
abbrev pub farms_answer : ℕ → Result Unit TableRefusal
farms_answer farms = cond (nat_lt 48 farms) (Err Farms) (Ok tt)

-- whether a table of that length has a row for each farm and one for the reserve
abbrev pub room_answer : ℕ → ℕ → ℕ → Result Unit TableRefusal
room_answer farms bundles long = cond (nat_lt long ((farms + 1) * bundles)) (Err Table) (Ok tt)

-- whether a row of w for the worths without each farm has one place for each
abbrev pub without_answer : ℕ → ℕ → Result Unit TableRefusal
without_answer farms w = cond (w == farms) (Ok tt) (Err Without)

-- for so many farms and bundles, into a table of that length
abbrev pub fill_answer : ℕ → ℕ → ℕ → Result Unit TableRefusal
fill_answer farms bundles long = and_then (farms_answer farms) (λ _. room_answer farms bundles long)

-- and with a row of w for the worths without each farm
abbrev pub marginals_answer : ℕ → ℕ → ℕ → ℕ → Result Unit TableRefusal
marginals_answer farms bundles long w = and_then (fill_answer farms bundles long) (λ _. without_answer farms w)

-- the auction, or that there are more than 48 farms
abbrev pub auction_answer : Supply → Reserve → List Sheet → Result Auction TableRefusal
auction_answer s r sheets = viewed (λ _. auction_of s r sheets) (farms_answer (length sheets))
