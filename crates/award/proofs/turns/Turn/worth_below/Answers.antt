use Rattle.std.proofs.Common.{◌<◌, arith}
use Rattle.bundle.specs.Bundles.{units_of}
use Rattle.bundle.specs.Stocks.{supply_of}
use Rattle.bundle.specs.Units.{bundles}
use Rattle.award.proofs.Bounds.{place_small}
use Rattle.award.proofs.turns.Turn.worth_below.Goals.{After-place}
use Rattle.award.proofs.turns.Turn.worth_below.Goals as goal

known : (c : After-place) → (c.place.result < bundles (supply_of c.args.self.now.supply.now)) × (c.place.result < 4096)
known c = place_small c.args.self.now.supply.now (units_of c.args.x.now) c.place.result c.requires c.place.ensures

pub offset_bounds-self-place : goal.offset_bounds-self-place
offset_bounds-self-place c = omega (arith, (known (goal.at.offset_bounds-self-place c).After-place).1)

pub bounds-self-place : goal.bounds-self-place
bounds-self-place c = omega (arith, c.args.self.now.roomy.long, (known (goal.at.bounds-self-place c).After-place).0)

pub returns-clause-small : goal.returns-clause-small
returns-clause-small c = omega (arith, c.args.self.now.roomy.small c.place.result (known (goal.at.returns-clause-small c).After-place).0)
