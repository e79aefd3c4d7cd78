use Rattle.std.proofs.Common.{length, get_or, ◌≡◌, ◌+◌, ◌/◌, ◌%◌, ◌≢◌, Some, sym, ap, ◌∙◌, arith, length-set}
use Rattle.std.proofs.lemmas.List.{get_or-set_other}
use Rattle.std.proofs.lemmas.Bool.{lt-ltb, cond-true}
use Rattle.bundle.specs.Bundles.{units_of}
use Rattle.bundle.specs.Stocks.{supply_of}
use Rattle.bundle.specs.Units.{bundles}
use Rattle.bundle.proofs.Padding.{length_units}
use Rattle.bundle.proofs.Steps.{bundle_at_step, bundle_at_end}
use Rattle.bundle.proofs.stock.Supply.bundle_at.Goals.{After-units-most-items}
use Rattle.bundle.proofs.stock.Supply.bundle_at.Goals as goal

lots : (c : After-units-most-items) → length c.units-most-items.result.now ≡ c.args.self.now.units.lots
lots c = ap length c.units-most-items.ensures ∙ length_units c.args.self.now.units

pub bounds-counts-lot : goal.bounds-counts-lot
bounds-counts-lot c = omega (arith, lots (goal.at.bounds-counts-lot c).After-units-most-items, c.args.self.now.units.few)

pub loop-lot-preserved : goal.loop-lot-preserved
loop-lot-preserved c =
    let s = c.args.self.now in
    let i = c.loop-lot.lot in
    let same = c.units-most-items.ensures in
    let is : get_or (supply_of s) i 0 ≡ c.from-base.result = ap (λ l. get_or l i 0) (sym same) ∙ sym c.from-base.ensures in (
      simp length-set c.loop-lot.invariant.0,
      bundle_at_step c.loop-lot.counts (supply_of s) i c.loop-lot.left _ _ (omega (arith, lots (goal.at.loop-lot-preserved c).After-units-most-items)) (omega (arith, ap length same))
          (ap (λ n. c.loop-lot.left % (n + 1)) (sym is)) (ap (λ n. c.loop-lot.left / (n + 1)) (sym is))
          ∙ c.loop-lot.invariant.1,
      λ k h. let ne : k ≢ i = omega arith in rw get_or-set_other (c.loop-lot.invariant.2 k (omega arith)),
    )

pub returns : goal.returns
unfolding units_of
returns c =
    let s = c.args.self.now in
    let end : c.loop-lot.lot ≡ s.units.lots = omega (arith, lots (goal.at.returns c).After-units-most-items) in
    ap (λ l. Some l)
    (sym (bundle_at_end c.loop-lot.counts (supply_of s) s.units.lots c.loop-lot.left (omega (arith, length_units s.units)))
    ∙ (rw end at c.loop-lot.invariant.1))
    ∙ sym (cond-true _ _ _ (lt-ltb c.args.place (bundles (supply_of s)) (omega arith)))

pub invariant_of-result-clause-padded : goal.invariant_of-result-clause-padded
invariant_of-result-clause-padded c = λ j h. c.loop-lot.invariant.2 j (omega (arith, lots (goal.at.invariant_of-result-clause-padded c).After-units-most-items))
