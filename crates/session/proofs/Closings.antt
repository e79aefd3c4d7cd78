-- The run to the close, from the run to the end of the messages. Assumes nothing.
use Rattle.std.proofs.Common.{◌≡◌, ℕ, Bool, true, false, cond, ltb, List, length, Ok, Err, Result, refl}
use Rattle.bundle.specs.Checks.{and_then}
use Rattle.accounts.specs.Closing.{Rows}
use Rattle.sale.specs.Closing.{close_rows}
use Rattle.sale.specs.Opening.{State}
use Rattle.sale.specs.declared.refusals.OpeningRefusal.{OpeningRefusal}
use Rattle.session.specs.Closing.{close_outcome, left, rows_within}
use Rattle.session.specs.Session.{Outcome, messages_in, run, ran, run_within}
use Rattle.session.specs.declared.refusals.RunRefusal.{RunRefusal}
use Rattle.session.specs.declared.refusals.RunRefusal.TheVariants.{Room}

-- the rows of a sale that is closed, or as they were
abbrev pub rows_of : Result State RunRefusal → Rows → Rows
rows_of (Ok h) rows = close_rows h rows
rows_of (Err e) rows = rows

rows_by : (b : Bool) (q : Result Outcome OpeningRefusal) (e : RunRefusal) (rows : Rows) →
    rows_of (cond b (Err e) (ran q)) rows ≡ cond b rows (left (and_then q (λ o. Ok (close_outcome o rows))) rows)
rows_by true q e rows = refl
rows_by false (Ok o) e rows = refl
rows_by false (Err d) e rows = refl

pub rows_is : (room : ℕ) (bs : List ℕ) (rows : Rows) → rows_of (run_within room bs) rows ≡ rows_within room bs rows
rows_is room bs rows = rows_by (ltb room (length (messages_in bs))) (run bs) (Room (length (messages_in bs))) rows
