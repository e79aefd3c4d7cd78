use Rattle.session.specs.Closing.{ending_of}
use Rattle.settle_sale.proofs.Tellings.{session_told, refusal_told}
use Rattle.settle_sale.proofs.telling.tell_run.Goals as goal

pub returns-in-Ok : goal.returns-in-Ok
returns-in-Ok c =
    let ran = c.in-Ok.ensures in
    let report = c.of_session-report.ensures in
    session_told c.args.file.now _ c.args.answers.now c.requires c.tell_report.result _ _ c.tell_report.ensures (ending_of c.in-Ok.session) _ _ ran.value ran.told ran.rows report.text report.closed

pub returns-in-Err-Opening : goal.returns-in-Err-Opening
returns-in-Err-Opening c =
    let refused = c.in-Err-Opening in
    refusal_told c.args.file.now _ c.args.answers.now c.requires c.tell_report-in-Err-Opening.result _ _ c.tell_report-in-Err-Opening.ensures _ _ refused.ensures.value refused.field-0-is c.from.ensures.0 c.from.ensures.1
