use Rattle.std.proofs.Common.{◌≡◌, ◌+◌, ◌*◌, ◌<◌, ◌≤◌, length, get_or, drop, sym, ap, ◌∙◌, arith}
use Rattle.std.proofs.lemmas.List.{at_drop_all}
use Rattle.bundle.specs.Bundles.{units_of}
use Rattle.bundle.specs.Supplies.{unsold_lot}
use Rattle.bundle.specs.Units.{bundles}
use Rattle.bundle.proofs.Steps.{product_step, bundles_end}
use Rattle.bundle.proofs.Supplies.{Right, unsold_next}
use Rattle.bundle.proofs.places.count_bundles.Goals as goal

pub loop-lot-preserved : goal.loop-lot-preserved
loop-lot-preserved c =
    let b = c.args.units.now in
    let i = c.loop-lot.lot in
    let n = c.loop-lot.total in
    let is : get_or (units_of b) i 0 ≡ c.from-count.result = ap (λ l. get_or l i 0) (sym c.units-count-items.ensures) ∙ sym c.from-count.ensures in
    let same : n * (get_or (units_of b) i 0 + 1) ≡ n * (c.from-count.result + 1) = ap (λ u. n * (u + 1)) is in
    let h : i < length (units_of b) = omega (arith, ap length c.units-count-items.ensures) in
    let right : Right n (get_or (units_of b) i 0) = (omega arith, omega arith, omega arith) in (
      ap (unsold_lot (drop (i + 1) (units_of b)) (i + 1)) (sym same) ∙ sym (unsold_next (units_of b) i n h right) ∙ c.loop-lot.invariant.0,
      ap (λ t. t * bundles (drop (i + 1) (units_of b))) (sym same) ∙ product_step n (bundles (units_of b)) (units_of b) i h c.loop-lot.invariant.1,
      omega arith,
    )

pub returns : goal.returns
returns c =
    let b = c.args.units.now in
    let i = c.loop-lot.lot in
    let h : length (units_of b) ≤ i = omega (arith, ap length c.units-count-items.ensures) in (
      sym c.loop-lot.invariant.0 ∙ at_drop_all (λ l. unsold_lot l i c.loop-lot.total) (units_of b) i h,
      omega (arith, c.loop-lot.invariant.1, ap (λ t. c.loop-lot.total * t) (bundles_end (units_of b) i h)),
    )
