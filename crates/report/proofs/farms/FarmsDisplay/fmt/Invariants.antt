use Rattle.std.specs.Slice.Iter.{iter_rest}
use Rattle.report.specs.Lines.{farm_lines}
use Rattle.report.proofs.Writing.{Left}
use Rattle.report.proofs.farms.FarmsDisplay.fmt.Given as goal

abbrev pub invariant-loop-farm : goal.invariant-loop-farm
invariant-loop-farm g l =
    let rows = l.farm-iterator.iter in
    Left g.W.Write.write_str_gives l.initial.f (farm_lines 0 l.self.award.now l.self.charges.now l.self.accounts.now) l.f
    (farm_lines l.farm-iterator.count (iter_rest rows.a.a) (iter_rest rows.a.b) (iter_rest rows.b))
