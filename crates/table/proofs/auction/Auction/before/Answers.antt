use Rattle.std.proofs.Common.{List, sym, ap}
use Rattle.std.proofs.lemmas.List.{take-map}
use Rattle.bundle.specs.Bids.{Bids}
use Rattle.bundle.specs.Reserves.{prices_of}
use Rattle.bundle.specs.Stocks.{supply_of}
use Rattle.sheets.specs.Sheets.{bids_of}
use Rattle.table.specs.Tables.{at_reserve}
use Rattle.table.proofs.auction.Auction.before.Goals as goal

pub returns : goal.returns
returns c =
    let a = c.args.self.now in
    ap (λ (bs : List Bids). at_reserve (supply_of a.supply.now) (prices_of a.reserve.now) bs) (sym (take-map bids_of c.args.farm a.sheets.now))
