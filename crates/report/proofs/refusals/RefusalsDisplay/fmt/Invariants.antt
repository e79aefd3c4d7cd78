use Rattle.std.proofs.Common.{drop}
use Rattle.report.specs.Lines.{refused_lines}
use Rattle.report.proofs.Writing.{Left}
use Rattle.report.proofs.refusals.RefusalsDisplay.fmt.Given as goal

abbrev pub invariant-loop-message : goal.invariant-loop-message
invariant-loop-message g l =
    Left g.W.Write.write_str_gives l.initial.f (refused_lines 0 l.self.answers.now) l.f (refused_lines l.message (drop l.message l.self.answers.now))
