use Rattle.std.proofs.Common.{◌≡◌, Ok, sym, arith}
use Rattle.std.proofs.lemmas.Grind.{common_steps}
use Rattle.std.proofs.lemmas.Bool.Decides.{nat_tests}
use Rattle.bundle.proofs.Checks.{then_ok}
use Rattle.book.proofs.Steps.{length-answers}
use Rattle.sale.specs.States.{state_of, after, replies}
use Rattle.session.specs.Session.{opening_in, messages_in, run}
use Rattle.session.proofs.running.run.Goals as goal

pub returns-clause-told : goal.returns-clause-told
returns-clause-told c =
    let bs = c.args.file.now in
    let h = state_of c.in_ok-sale.sale in
    let ms = messages_in bs in
    let is : run bs ≡ Ok (record { state = after h ms; told = replies h ms }) = then_ok (opening_in bs) _ h (sym c.in_ok-sale.ensures) in
    grind (arith, common_steps, nat_tests, is, length-answers h.supply h.entries ms, c.post_all.ensures.told)
