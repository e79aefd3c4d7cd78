use Rattle.std.proofs.Common.{rules, true, get_or, refl, Ok}
use Rattle.std.proofs.Output.{has_written_of_eq}
use Rattle.std.proofs.lemmas.List.{at_drop_more, at_drop_all}
use Rattle.report.specs.Lines.{answer_line, refused_lines}
use Rattle.report.proofs.Writing.{left_less, left_none}
use Rattle.report.proofs.refusals.RefusalsDisplay.fmt.Goals as goal

pub loop-message-preserved : goal.loop-message-preserved
loop-message-preserved g c =
    let k = c.loop-message.message in
    let answers = c.args.self.now.answers.now in
    left_less g.W.Write.write_str_gives _ _ _ _ (answer_line k (get_or answers k (Ok tt))) _ c.write.new.self c.loop-message.invariant
    (at_drop_more (refused_lines k) answers k (Ok tt) c.loop-message-test.true)
    (λ plain. has_written_of_eq g.W.Write.write_str_gives _ _ _ _ (search rules) (c.in_ok-write.ensures.writes plain (refl {a = true})))

pub returns-clause-writes : goal.returns-clause-writes
returns-clause-writes g c plain ok =
    let k = c.loop-message.message in
    left_none _ _ _ _ _ c.loop-message.invariant (at_drop_all (refused_lines k) c.args.self.now.answers.now k c.loop-message-test.false) plain
