use Rattle.std.proofs.Common.{◌-◌, rules}
use Rattle.bundle.specs.Bundles.{units_of}
use Rattle.bundle.proofs.FromFn.{from_fn_gives}
use Rattle.bundle.proofs.Padding.{EachCount, less_padded, less_units}
use Rattle.bundle.proofs.units.Bundle.minus.Goals.{After-from_fn-counts}
use Rattle.bundle.proofs.units.Bundle.minus.Goals as goal

left : (c : After-from_fn-counts) → EachCount ◌-◌ c.args.self.now c.args.other.now c.from_fn-counts.result
left c = from_fn_gives c.from_fn-counts.ensures.items _ (λ i y q e. search rules)

pub invariant_of-result-clause-padded : goal.invariant_of-result-clause-padded
invariant_of-result-clause-padded c =
    less_padded c.args.self.now c.args.other.now c.from_fn-counts.result c.from_fn-counts.ensures.items.long (left (goal.at.invariant_of-result-clause-padded c).After-from_fn-counts)

pub returns : goal.returns
unfolding units_of
returns c = less_units c.args.self.now c.args.other.now c.from_fn-counts.result c.from_fn-counts.ensures.items.long (left (goal.at.returns c).After-from_fn-counts)
