use Rattle.std.proofs.Common.{◌≡◌, ◌-◌, length, get_or, Ok, sym, ap, ◌∙◌, add-mul, arith}
use Rattle.bundle.specs.Stocks.{supply_of}
use Rattle.bundle.specs.Units.{bundles}
use Rattle.bundle.proofs.Bundles.{bundles_pos}
use Rattle.table.specs.Tables.{auction_of, lent_auction}
use Rattle.table.proofs.TableRows.{table-long}
use Rattle.vcg.specs.Optimum.{best_worth}
use Rattle.award.proofs.Decisions.{decided, viewed_is}
use Rattle.award.proofs.Picks.{first_entry}
use Rattle.award.proofs.deciding.decide.Goals.{After-bundles}
use Rattle.award.proofs.deciding.decide.Goals as goal

pub overflow_sub-worth : goal.overflow_sub-worth
overflow_sub-worth c = omega (arith, c.bundles.ensures, bundles_pos (supply_of c.args.supply.now))

pub bounds-table-bundles : goal.bounds-table-bundles
bounds-table-bundles c =
    let a = auction_of c.args.supply.now c.args.reserve.now c.args.sheets.now in
    omega (arith, bundles_pos a.supply, c.bundles.ensures, table-long a.supply a.keep a.bidders _ _ c.in_ok-fill_with_marginals.ensures.filled, add-mul (length a.bidders) 1 (bundles a.supply))

-- the last entry of the first row is the worth
worth : (c : After-bundles) → get_or c.fill_with_marginals.new.table (c.bundles.result - 1) 0 ≡ best_worth (auction_of c.args.supply.now c.args.reserve.now c.args.sheets.now)
worth c =
    first_entry (auction_of c.args.supply.now c.args.reserve.now c.args.sheets.now) c.args.table.now c.fill_with_marginals.new.table c.bundles.result c.bundles.ensures
    c.in_ok-fill_with_marginals.ensures.filled

pub charge_all-requires-clause-best : goal.charge_all-requires-clause-best
charge_all-requires-clause-best c =
    let a = auction_of c.args.supply.now c.args.reserve.now c.args.sheets.now in
    worth (goal.at.charge_all-requires-clause-best c).After-bundles ∙ ap best_worth (viewed_is a (lent_auction c.in_ok-auction.auction) _ (sym c.in_ok-auction.ensures))

pub returns-clause-answer : goal.returns-clause-answer
returns-clause-answer c =
    let a = auction_of c.args.supply.now c.args.reserve.now c.args.sheets.now in
    ap Ok (worth (goal.at.returns-clause-answer c).After-bundles)
    ∙ sym (decided (length c.args.sheets.now) (bundles a.supply) (length c.args.table.now) (length c.args.award.now) (length c.args.charges.now) (best_worth a)
    (sym c.in_ok-fill_with_marginals.ensures.answer) c.if-award-sheets.false)
