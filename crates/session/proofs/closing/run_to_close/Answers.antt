use Rattle.std.proofs.Common.{length, Result, ap, ◌∙◌}
use Rattle.accounts.specs.Closing.{lent}
use Rattle.sale.specs.Opening.{State}
use Rattle.session.specs.declared.refusals.RunRefusal.{RunRefusal}
use Rattle.session.proofs.Closings.{rows_of, rows_is}
use Rattle.session.proofs.Truths.{true_file_is_best}
use Rattle.session.proofs.closing.run_to_close.Goals as goal

pub returns-clause-rows : goal.returns-clause-rows
returns-clause-rows c =
    let rows = lent c.args.table.now c.args.award.now c.args.charges.now in
    c.close-sale.ensures.rows ∙ ap (λ (r : Result State RunRefusal). rows_of r rows) c.in_ok-sale.ensures.value ∙ rows_is (length c.args.answers.now) c.args.file.now rows

pub returns-clause-truthful : goal.returns-clause-truthful
returns-clause-truthful c = true_file_is_best

pub returns-in_err-sale-clause-truthful : goal.returns-in_err-sale-clause-truthful
returns-in_err-sale-clause-truthful c = true_file_is_best
