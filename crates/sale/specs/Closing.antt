-- How a sale is closed. Assumes nothing: these are definitions.
use Rattle.std.specs.Prelude.{ℕ, ◌+◌, Bool, true, false, cond, List, is_ok, sum, Result}
use Rattle.std.specs.Result.{result_map_both}
use Rattle.vcg.specs.Auction.{Auction}
use Rattle.award.specs.declared.refusals.AwardRefusal.{AwardRefusal}
use Rattle.award.specs.declared.refusals.AwardRefusal.TheVariants.{Farms, Table, Award, Charges}
use Rattle.accounts.specs.Closing.{auction_for, charges_for, Rows, filled, settled, closing}
use Rattle.accounts.specs.declared.settlement.Settlement.{Settlement}
use Rattle.sale.specs.Opening.{State}
use Rattle.sale.specs.declared.refusals.ClosingRefusal.{ClosingRefusal}
use Rattle.sale.specs.declared.refusals.ClosingRefusal.TheVariants.{Row}

-- which of the lent rows is wrong; a sale has at most 48 farms, so the first case never comes
abbrev pub row_refused : AwardRefusal → ClosingRefusal
row_refused Farms = Row 0
row_refused Table = Row 0
row_refused Award = Row 1
row_refused Charges = Row 2

abbrev pub worth_or_row : Result Settlement AwardRefusal → Result ℕ ClosingRefusal
worth_or_row r = result_map_both (λ (s : Settlement). s.worth) row_refused r

-- the worth of the award, or which of the lent rows is wrong
abbrev pub close_answer : State → Rows → Result ℕ ClosingRefusal
close_answer h rows = worth_or_row (closing h.supply h.reserve h.entries rows)

abbrev pub auction_in : State → Auction
auction_in h = auction_for h.supply h.reserve h.entries

abbrev pub charges_in : State → List ℕ
charges_in h = charges_for h.supply h.reserve h.entries

-- what the sale holds once it is closed: each account less its charge, the company's more by all of them, no sheets
abbrev pub closed_sale : State → State
closed_sale h = record { supply = h.supply; reserve = h.reserve; entries = settled h.entries (charges_in h); company = h.company + sum (charges_in h) }

-- what a sale holds, and whether it is closed
pub record Stage : Type 0 where
  pub state : State
  pub closed : Bool

-- the sale and the rows after a close that may be refused
abbrev pub close_sale : State → Rows → Stage
close_sale h rows = cond (is_ok (close_answer h rows)) (record { state = closed_sale h; closed = true }) (record { state = h; closed = false })

abbrev pub close_rows : State → Rows → Rows
close_rows h rows = cond (is_ok (close_answer h rows)) (filled (auction_in h) rows) rows
