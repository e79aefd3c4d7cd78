use Rattle.std.proofs.Common.{◌+◌, length}
use Rattle.table.specs.Tables.{lent_auction, entry, from_row}
use Rattle.table.proofs.Backs.{Backwards, to_come}
use Rattle.table.proofs.Layers.{FilledFrom}
use Rattle.table.proofs.auction.Auction.fill_rows.Given as goal

abbrev pub invariant-loop-row : goal.invariant-loop-row
invariant-loop-row l =
    let a = lent_auction l.self in
    record {
      can : (goal.iterator-loop-row).can_next l.row-iterator;
      ends : (goal.iterator-loop-row).is_finite l.row-iterator;
      walk : Backwards l.self.sheets.now l.row-iterator;
      filled : FilledFrom a.supply (entry a.supply (from_row a.supply (length a.bidders) l.initial.table)) a.bidders (from_row a.supply (length a.bidders + 1) l.initial.table)
          (length (to_come l.row-iterator)) l.table;
    }
