use Rattle.std.proofs.Common.{rules, true, refl, arith}
use Rattle.report.specs.Lines.{farm_line}
use Rattle.report.proofs.Rows.{farms_none, farms_more}
use Rattle.report.proofs.Writing.{left_all, left_less, left_none}
use Rattle.report.proofs.farms.FarmsDisplay.fmt.Goals as goal

pub loop-farm-init : goal.loop-farm-init
loop-farm-init g c = left_all _ _ _ _ (search rules)

pub loop-farm-preserved : goal.loop-farm-preserved
loop-farm-preserved g c =
    let steps = c.in-Some.ensures.steps in
    left_less g.W.Write.write_str_gives _ _ _ _ (farm_line c.in-Some.farm c.in-Some.line.now c.in-Some.pays.now c.in-Some.has.now) _ c.writeln.new.self c.loop-farm.invariant
    (search (rules, farms_more))
    (λ plain. c.in_ok-writeln.ensures.writes plain (refl {a = true}))

pub returns-clause-writes : goal.returns-clause-writes
returns-clause-writes g c plain ok =
    let steps = c.in-None.ensures.steps.0 in
    left_none _ _ _ _ _ c.loop-farm.invariant (farms_none _ _ _ _ (grind arith)) plain
