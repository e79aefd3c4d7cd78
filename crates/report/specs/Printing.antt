-- What is printed for a sale's file. Assumes nothing: these are definitions.
use Rattle.std.specs.Prelude.{ℕ, Bool, false, List, replicate, is_ok, Ok, Err, Result}
use Rattle.book.specs.Posting.{accounts_of}
use Rattle.accounts.specs.Closing.{Rows, lent}
use Rattle.sale.specs.declared.refusals.OpeningRefusal.{OpeningRefusal}
use Rattle.session.specs.Closing.{CloseOutcome, close_run}
use Rattle.session.specs.Session.{farm_count}
use Rattle.report.specs.Lines.{not_opened_text, told_text}

abbrev pub outcome_text : Result CloseOutcome OpeningRefusal → List ℕ
outcome_text (Ok o) = told_text o.answer o.told o.rows.award o.rows.charges (accounts_of o.stage.state.entries) o.stage.state.company
outcome_text (Err e) = not_opened_text e

abbrev pub is_closed : Result CloseOutcome OpeningRefusal → Bool
is_closed (Ok o) = is_ok o.answer
is_closed (Err e) = false

-- the text for a file's bytes, with these rows lent, and whether the sale is closed
abbrev pub printed : Rows → List ℕ → List ℕ
printed rows bs = outcome_text (close_run bs rows)

abbrev pub closes : Rows → List ℕ → Bool
closes rows bs = is_closed (close_run bs rows)

-- a row for a table of so many entries, and rows with a place for each farm of a file
abbrev pub rows_for : ℕ → List ℕ → Rows
rows_for room bs = lent (replicate room 0) (replicate (farm_count bs) 0) (replicate (farm_count bs) 0)
