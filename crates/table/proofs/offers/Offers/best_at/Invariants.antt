use Rattle.std.proofs.Common.{◌≡◌, map}
use Rattle.std.specs.Slice.Iter.{iter_rest}
use Rattle.bundle.specs.Stocks.{supply_of}
use Rattle.bundle.specs.Units.{bundle_at}
use Rattle.sheets.specs.Sheets.{bid_of}
use Rattle.table.specs.Offers.{places_of}
use Rattle.table.specs.Tables.{entry, made}
use Rattle.vcg.specs.Optimum.{best_among}
use Rattle.table.proofs.offers.Offers.best_at.Given as goal

abbrev pub invariant-loop-line : goal.invariant-loop-line
invariant-loop-line l =
    let s = supply_of l.self.supply.now in
    let lines = iter_rest l.line-iterator.a in
    record {
      can : (goal.iterator-loop-line).can_next l.line-iterator;
      ends : (goal.iterator-loop-line).is_finite l.line-iterator;
      placed : iter_rest l.line-iterator.b ≡ places_of s lines;
      best : best_among (entry s l.below) (bundle_at s l.at) (map bid_of lines) l.most ≡ made s l.below (map bid_of l.self.lines.now) (bundle_at s l.at);
    }
