-- The run over a file to the close: the opening, then the messages, then the close. Assumes nothing: these are definitions.
use Rattle.std.specs.Prelude.{ℕ, cond, List, length, Ok, Err, Result, nat_lt}
use Rattle.bundle.specs.Checks.{and_then}
use Rattle.book.specs.Posting.{Reply}
use Rattle.accounts.specs.Closing.{Rows}
use Rattle.sale.specs.Closing.{Stage, close_answer, close_sale, close_rows}
use Rattle.sale.specs.Lives.{life_of}
use Rattle.sale.specs.declared.refusals.ClosingRefusal.{ClosingRefusal}
use Rattle.sale.specs.declared.refusals.OpeningRefusal.{OpeningRefusal}
use Rattle.session.specs.Session.{Outcome, messages_in, run}
use Rattle.session.specs.declared.ended.Session.{Session}
use Rattle.session.specs.declared.refusals.RunRefusal.{RunRefusal}
use Rattle.session.specs.declared.refusals.RunRefusal.TheVariants.{Opening, Room}

-- what the run leaves: what is answered to each message, the sale and the lent rows after the close, and what is answered to the close
pub record CloseOutcome : Type 0 where
  pub told : List Reply
  pub stage : Stage
  pub rows : Rows
  pub answer : Result ℕ ClosingRefusal

-- the sale that has taken the messages is closed
abbrev pub close_outcome : Outcome → Rows → CloseOutcome
close_outcome o rows = record { told = o.told; stage = close_sale o.state rows; rows = close_rows o.state rows; answer = close_answer o.state rows }

abbrev pub close_run : List ℕ → Rows → Result CloseOutcome OpeningRefusal
close_run bs rows = and_then (run bs) (λ o. Ok (close_outcome o rows))

-- the sale at the end, and the answer to its close
pub record Ending : Type 0 where
  pub stage : Stage
  pub answer : Result ℕ ClosingRefusal

abbrev pub ending_of : Session → Ending
ending_of s = record { stage = life_of s.sale; answer = s.closing }

abbrev pub close_ran : Result CloseOutcome OpeningRefusal → Result Ending RunRefusal
close_ran (Ok o) = Ok (record { stage = o.stage; answer = o.answer })
close_ran (Err e) = Err (Opening e)

-- the same where there is room for so many answers
abbrev pub close_within : ℕ → List ℕ → Rows → Result Ending RunRefusal
close_within room bs rows = cond (nat_lt room (length (messages_in bs))) (Err (Room (length (messages_in bs)))) (close_ran (close_run bs rows))

-- what the rows of the table, the award and the charges hold then; what is refused changes nothing
abbrev pub left : Result CloseOutcome OpeningRefusal → Rows → Rows
left (Ok o) rows = o.rows
left (Err e) rows = rows

abbrev pub rows_within : ℕ → List ℕ → Rows → Rows
rows_within room bs rows = cond (nat_lt room (length (messages_in bs))) rows (left (close_run bs rows) rows)
