use Rattle.std.proofs.Common.{◌≡◌, ◌+◌, ◌-◌, ◌*◌, ◌/◌, length, drop}
use Rattle.std.specs.Iterator.Adapters.{enumerate_source, enumerate_count}
use Rattle.std.specs.Slice.Iter.{chunks_exact_rest, chunks_exact_size}
use Rattle.bundle.specs.Stocks.{supply_of}
use Rattle.sheets.specs.Reading.{lines_in, placed}
use Rattle.sheets.specs.Sheets.{bids_of}
use Rattle.sheets.proofs.Walks.{behind}
use Rattle.sheets.proofs.reader.read_sheet.Given as goal

abbrev pub invariant-loop-k : goal.invariant-loop-k
invariant-loop-k l =
    let k = enumerate_count l.k-iterator in
    let rows = enumerate_source l.k-iterator in
    let n = length l.rows / l.size in
    (chunks_exact_size rows ≡ l.size)
    × (drop (k * l.size) l.rows ≡ chunks_exact_rest rows)
    × (length (bids_of l.sheet) ≡ k)
    × (behind (bids_of l.sheet) (lines_in (supply_of l.supply) l.account (placed 6 l.rows) (6 + k * l.size) (n - k)) ≡ lines_in (supply_of l.supply) l.account (placed 6 l.rows) 6 n)
