use Rattle.std.proofs.Common.{◌≡◌, ◌+◌, ◌≤◌, ◌==◌, cond, Ok, Err, ap, ◌∙◌, sym, length, arith}
use Rattle.std.proofs.lemmas.Grind.{common_steps}
use Rattle.std.proofs.lemmas.Bool.Decides.{nat_tests}
use Rattle.std.specs.Option.{option_map}
use Rattle.bundle.specs.Bundles.{units_of}
use Rattle.bundle.specs.Stocks.{supply_of}
use Rattle.bundle.proofs.Padding.{made_units}
use Rattle.sheets.specs.declared.refusals.MessageRefusal.TheVariants.{UnitsAboveSupply}
use Rattle.sheets.specs.Reading.{units_in, placed}
use Rattle.sheets.proofs.Walks.{units_within}
use Rattle.sheets.proofs.reader.read_units.Goals.{After-unwrap_or-within}
use Rattle.sheets.proofs.reader.read_units.Goals as goal

within : (c : After-unwrap_or-within) → let cs = c.args.counts.now in
    (c.unwrap_or-within.result ≤ length cs)
    × (units_in (supply_of c.args.supply.now) (placed c.args.at cs) c.args.at ≡ cond (c.unwrap_or-within.result == length cs) (Ok cs) (Err (UnitsAboveSupply (c.args.at + c.unwrap_or-within.result))))
within c =
    units_within (supply_of c.args.supply.now) c.units-2.result.now c.args.counts.now c.args.at c.unwrap_or-within.result c.first_above.result c.requires.every (c.units-2.ensures ∙ c.units.ensures) c.first_above.ensures c.unwrap_or-within.ensures

pub overflow_add-result : goal.overflow_add-result
overflow_add-result c = omega (arith, (within (goal.at.overflow_add-result c).After-unwrap_or-within).0, c.requires.fits)

pub returns-in_default : goal.returns-in_default
returns-in_default c = grind (arith, nat_tests, common_steps, (within (goal.at.returns-in_default c).After-unwrap_or-within).1, c.in_default.ensures)

pub returns : goal.returns
returns c =
    let made = made_units (units_of c.unwrap.result) c.in-Some.counts.now (ap (option_map units_of) (sym c.unwrap.ensures) ∙ c.new.ensures) in
    grind (arith, nat_tests, common_steps, (within (goal.at.returns c).After-unwrap_or-within).1, made.1, c.in-Some.ensures)
