-- What a `Life` stands for, and what messages and a close do to it. Assumes nothing: these are definitions.
use Rattle.std.specs.Prelude.{ℕ, true, false, cond, List, [], ◌∷◌, Ok, Err, Result}
use Rattle.bundle.specs.Reserves.{prices_of}
use Rattle.book.specs.Books.{entries_of, book_supply}
use Rattle.book.specs.Posting.{Reply}
use Rattle.accounts.specs.Closing.{Rows}
use Rattle.sale.specs.Closing.{Stage, close_answer, close_sale, close_rows}
use Rattle.sale.specs.Opening.{State}
use Rattle.sale.specs.States.{state_of, after, reply}
use Rattle.sale.specs.declared.refusals.ClosingRefusal.{ClosingRefusal}
use Rattle.sale.specs.declared.refusals.ClosingRefusal.TheVariants.{Closed}
use Rattle.sale.specs.declared.stages.ClosedSale.{ClosedSale}
use Rattle.sale.specs.declared.stages.Life.{Life}
use Rattle.sale.specs.declared.stages.Life.TheVariants as life

abbrev pub closed_state_of : ClosedSale → State
closed_state_of s = record { supply = book_supply s.book; reserve = prices_of s.reserve; entries = entries_of s.book; company = s.company }

abbrev pub life_of : Life → Stage
life_of (life.Open s) = record { state = state_of s; closed = false }
life_of (life.Closed s) = record { state = closed_state_of s; closed = true }

-- what is answered to a message; a closed sale takes none
abbrev pub life_reply : Stage → List ℕ → Result Reply ClosingRefusal
life_reply s m = cond s.closed (Err (Closed 0)) (Ok (reply s.state m))

-- the sale after it
abbrev pub life_next : Stage → List ℕ → Stage
life_next s m = cond s.closed s (record { state = after s.state (m ∷ []); closed = false })

-- what is answered to a close; a closed sale is not closed again
abbrev pub life_answer : Stage → Rows → Result ℕ ClosingRefusal
life_answer s rows = cond s.closed (Err (Closed 0)) (close_answer s.state rows)

-- the sale and the rows after it
abbrev pub life_close : Stage → Rows → Stage
life_close s rows = cond s.closed s (close_sale s.state rows)

abbrev pub life_rows : Stage → Rows → Rows
life_rows s rows = cond s.closed rows (close_rows s.state rows)
