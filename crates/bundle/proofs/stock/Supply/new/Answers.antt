use Rattle.std.proofs.Common.{length, sym, ap, inl, arith}
use Rattle.bundle.specs.Bundles.{units_of}
use Rattle.bundle.proofs.Padding.{length_units, made_units}
use Rattle.bundle.proofs.Supplies.{lots_wrong, sold_if}
use Rattle.bundle.proofs.stock.Supply.new.Goals as goal

pub returns-then-units-eq0 : goal.returns-then-units-eq0
returns-then-units-eq0 c =
    let u = c.in-Some.units in
    let m = made_units (units_of u) c.args.units.now c.in-Some.ensures in
    sym (lots_wrong c.args.units.now (inl (omega (arith, ap length m.1, length_units u))))

pub invariant_of-result : goal.invariant_of-result
invariant_of-result c =
    let u = c.in-Some.units in
    let e = c.in_ok-total.ensures in
    let s = sold_if (units_of u) (omega (arith, length_units u)) (omega (arith, length_units u)) e.0 in
    record { some = s.some; least = s.least; most = s.most; counted = e.1; small = omega (arith, s.small, e.1) }
