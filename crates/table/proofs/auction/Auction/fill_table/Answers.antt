use Rattle.std.proofs.Common.{◌+◌, length, ◌∙◌}
use Rattle.table.specs.Tables.{lent_auction, from_row}
use Rattle.table.proofs.Layers.{filled-rows, small_row}
use Rattle.table.proofs.Sheets.{kept_small}
use Rattle.table.proofs.TableRows.{rows-onto}
use Rattle.table.proofs.auction.Auction.fill_table.Goals as goal

pub fill_rows-requires : goal.fill_rows-requires
fill_rows-requires c =
    let a = lent_auction c.args.self.now in
    small_row a.supply a.keep c.keep_row.new.table _ (length a.bidders) c.keep_row.ensures
    (kept_small c.args.self.now)

pub returns-clause-filled : goal.returns-clause-filled
returns-clause-filled c =
    let a = lent_auction c.args.self.now in
    let t = c.args.table.now in
    filled-rows a.supply a.keep a.bidders (from_row a.supply (length a.bidders + 1) t) c.keep_row.new.table c.fill_rows.new.table c.keep_row.ensures c.fill_rows.ensures
    ∙ rows-onto a.supply a.keep a.bidders t
