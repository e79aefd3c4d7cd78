use Rattle.std.proofs.Common.{ap, ◌∙◌}
use Rattle.bundle.specs.Bundles.{units_of}
use Rattle.bundle.specs.Stocks.{supply_of}
use Rattle.bundle.specs.Units.{less, within}
use Rattle.bundle.proofs.Bundles.{less-held, true-within, within-true}
use Rattle.award.proofs.turns.Turn.reaches.Goals as goal

pub worth_below-requires : goal.worth_below-requires
worth_below-requires c =
    let s = supply_of c.args.self.now.supply.now in
    let x = units_of c.args.self.now.x in
    let w = units_of c.args.line.now.units in
    ap (λ y. within y s) c.minus-left.ensures ∙ true-within (less x w) s (less-held s x w (within-true x s c.args.self.now.held))
