-- How a sale is closed: what the farms pay, and what the book holds then. Assumes nothing: these are definitions.
use Rattle.std.specs.Prelude.{ℕ, List, length, sum, Result}
use Rattle.bundle.specs.Checks.{viewed}
use Rattle.bundle.specs.Units.{bundles, less}
use Rattle.vcg.specs.Auction.{Auction}
use Rattle.vcg.specs.Optimum.{best_worth, outcome_of}
use Rattle.table.specs.Tables.{at_reserve, table_of, onto}
use Rattle.award.specs.Deciding.{decision}
use Rattle.award.specs.declared.refusals.AwardRefusal.{AwardRefusal}
use Rattle.book.specs.Posting.{Entry, accounts_of, numbers_of, bids_in, emptied}
use Rattle.accounts.specs.declared.settlement.Settlement.{Settlement}

-- the auction of a supply at these prices to the sheets in the book
abbrev pub auction_for : List ℕ → List ℕ → List Entry → Auction
auction_for supply prices es = at_reserve supply prices (bids_in es)

-- what each farm pays
abbrev pub charges_for : List ℕ → List ℕ → List Entry → List ℕ
charges_for supply prices es = (outcome_of (auction_for supply prices es)).charge

-- the rows that a close is lent
pub record Rows : Type 0 where
  pub table : List ℕ
  pub award : List ℕ
  pub charges : List ℕ

abbrev pub lent : List ℕ → List ℕ → List ℕ → Rows
lent table award charges = record { table = table; award = award; charges = charges }

-- what they hold once an auction is decided: the table in front of what was there, the award, the charges
abbrev pub filled : Auction → Rows → Rows
filled a rows = lent (onto (table_of a) rows.table) (outcome_of a).choice (outcome_of a).charge

-- the places after the close: each account less its charge, the numbers as they were, and no sheets
abbrev pub settled : List Entry → List ℕ → List Entry
settled es charges = emptied (less (accounts_of es) charges) (numbers_of es)

-- the worth of the award and what the farms pay together
abbrev pub settlement : Result ℕ AwardRefusal → ℕ → Result Settlement AwardRefusal
settlement r income = viewed (λ worth. record { worth = worth; income = income }) r

-- the same for the sheets in the book, or which of the lent rows is wrong first
abbrev pub closing : List ℕ → List ℕ → List Entry → Rows → Result Settlement AwardRefusal
closing supply prices es rows =
    settlement (decision (length es) (bundles supply) (length rows.table) (length rows.award) (length rows.charges) (best_worth (auction_for supply prices es)))
    (sum (charges_for supply prices es))
