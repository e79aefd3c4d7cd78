use Rattle.std.proofs.Common.{◌≡◌, ◌+◌, ◌-◌, ◌*◌, ◌++◌, length, get_or, take, sym, ap, ◌∙◌, subst, add-mul, arith}
use Rattle.std.proofs.lemmas.List.{drop_at, length-take-le}
use Rattle.bundle.specs.Units.{bundles}
use Rattle.bundle.proofs.Bundles.{bundle_at-last, bundles_pos}
use Rattle.sheets.specs.Sheets.{bids_of}
use Rattle.vcg.specs.Auction.{Auction}
use Rattle.vcg.specs.Optimum.{optimum}
use Rattle.table.specs.Offers.{SmallRow}
use Rattle.table.specs.Tables.{rows, entry, onto, lent_auction, from_row}
use Rattle.table.proofs.Layers.{empty_row, filled-rows, small_row, small-keep}
use Rattle.table.proofs.TableRows.{get_or-rows, length-rows}
use Rattle.table.proofs.auction.Auction.worth_without_farm.Goals.{After-fill_rows}
use Rattle.table.proofs.auction.Auction.worth_without_farm.Goals as goal

pub fill_rows-requires : goal.fill_rows-requires
fill_rows-requires c =
    let a = lent_auction c.args.self.now in
    let u = c.fill_row.new.table in
    let next = c.args.farm + 1 in
    let below = from_row a.supply next c.args.table.now in
    subst (λ (d : Auction). SmallRow d.supply (length d.bidders) u) (sym c.before-2.ensures)
    (small_row a.supply (entry a.supply below) u below (length (take c.args.farm a.bidders))
    (empty_row a.supply a.bidders c.args.farm below below u (bids_of c.new-none.result) c.requires.known c.new-none.ensures c.fill_row.ensures)
    (small-keep a.supply c.args.table.now next c.requires.row))

pub overflow_sub-result : goal.overflow_sub-result
overflow_sub-result c = omega (arith, c.bundles.ensures, bundles_pos (lent_auction c.args.self.now).supply)

pub bounds-table-bundles : goal.bounds-table-bundles
bounds-table-bundles c =
    let s = (lent_auction c.args.self.now).supply in
    omega (arith, c.bundles.ensures, bundles_pos s, c.requires.row.long, add-mul c.args.farm 2 (bundles s), c.fill_row.auto.table, c.fill_rows.auto.table)

filled : (c : After-fill_rows) → let a = lent_auction c.args.self.now in
    let below = from_row a.supply (c.args.farm + 1) c.args.table.now in
    c.fill_rows.new.table ≡ rows a.supply (entry a.supply below) (take c.args.farm a.bidders) ++ below
filled c =
    let a = lent_auction c.args.self.now in
    let u = c.fill_row.new.table in
    let below = from_row a.supply (c.args.farm + 1) c.args.table.now in
    filled-rows a.supply (entry a.supply below) (take c.args.farm a.bidders) below u c.fill_rows.new.table
    (empty_row a.supply a.bidders c.args.farm below below u (bids_of c.new-none.result) c.requires.known c.new-none.ensures c.fill_row.ensures)
    (c.fill_rows.ensures ∙ ap (λ (d : Auction). onto (rows d.supply (entry d.supply (from_row d.supply (length d.bidders) u)) d.bidders) u) c.before-2.ensures)

pub returns-clause-value : goal.returns-clause-value
returns-clause-value c =
    let a = lent_auction c.args.self.now in
    let keep = entry a.supply (from_row a.supply (c.args.farm + 1) c.args.table.now) in
    let first = take c.args.farm a.bidders in
    let spot : c.bundles.result - 1 ≡ bundles a.supply - 1 = omega (arith, c.bundles.ensures) in
    (λ i. get_or (filled (goal.at.returns-clause-value c).After-fill_rows i) (spot i) 0)
    ∙ get_or-rows a.supply keep first _ (bundles a.supply - 1) (omega (arith, bundles_pos a.supply))
    ∙ ap (optimum keep first) (bundle_at-last a.supply)

pub returns-clause-after : goal.returns-clause-after
returns-clause-after c =
    let a = lent_auction c.args.self.now in
    let keep = entry a.supply (from_row a.supply (c.args.farm + 1) c.args.table.now) in
    let first = take c.args.farm a.bidders in
    let count = length-take-le c.args.farm a.bidders (omega (arith, c.requires.known)) in
    ap (from_row a.supply (c.args.farm + 1)) (filled (goal.at.returns-clause-after c).After-fill_rows)
    ∙ drop_at (rows a.supply keep first) _ _ (length-rows a.supply keep first ∙ ap (λ n. (n + 1) * bundles a.supply) count)
