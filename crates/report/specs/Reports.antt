-- The text of a `Report`, and what it is of. Assumes nothing: these are definitions.
use Rattle.std.specs.Prelude.{ℕ, Bool, true, false, List}
use Rattle.report.specs.Lines.{closed_text, not_closed_text, not_opened_text}
use Rattle.report.specs.declared.reports.Report.{Report}
use Rattle.report.specs.declared.reports.Report.TheVariants.{NotOpened, NotClosed, Closed}

abbrev pub text_of : Report → List ℕ
text_of (NotOpened refusal) = not_opened_text refusal
text_of (NotClosed refusals refusal) = not_closed_text refusals.answers.now refusal
text_of (Closed refusals worth farms company) =
    closed_text refusals.answers.now worth farms.award.now farms.charges.now farms.accounts.now company

-- whether it is that of a closed sale
abbrev pub is_of_closed : Report → Bool
is_of_closed (NotOpened refusal) = false
is_of_closed (NotClosed refusals refusal) = false
is_of_closed (Closed refusals worth farms company) = true
