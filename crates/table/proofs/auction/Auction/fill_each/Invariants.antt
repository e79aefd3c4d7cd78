use Rattle.std.proofs.Common.{◌≡◌, ◌+◌, ◌-◌, map, length, drop}
use Rattle.std.specs.List.{range_with_len}
use Rattle.vcg.specs.Optimum.{worth_without}
use Rattle.table.specs.Tables.{lent_auction, from_row}
use Rattle.table.proofs.Backs.{Backwards, to_come}
use Rattle.table.proofs.Layers.{FilledFrom}
use Rattle.table.proofs.auction.Auction.fill_each.Given as goal

abbrev pub invariant-loop-farm : goal.invariant-loop-farm
invariant-loop-farm l =
    let a = lent_auction l.self in
    let j = length (to_come l.farm-iterator) in
    record {
      can : (goal.iterator-loop-farm).can_next l.farm-iterator;
      ends : (goal.iterator-loop-farm).is_finite l.farm-iterator;
      walk : Backwards l.self.sheets.now l.farm-iterator;
      filled : FilledFrom a.supply a.keep a.bidders (from_row a.supply (length a.bidders + 1) l.fn.table) j l.table;
      counted : drop j l.without ≡ map (worth_without a) (range_with_len j (length a.bidders - j));
    }
