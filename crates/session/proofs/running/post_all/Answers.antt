use Rattle.std.proofs.Common.{arith}
use Rattle.std.proofs.lemmas.Grind.{common_steps}
use Rattle.std.proofs.lemmas.List.{take-append-drop}
use Rattle.session.proofs.running.post_all.Goals as goal

pub returns-clause-told : goal.returns-clause-told
returns-clause-told c =
    grind (arith, common_steps, take-append-drop c.loop-k.k-iterator.count c.loop-k.row, c.in-None.ensures.steps.0.0, c.loop-k.invariant.2)
