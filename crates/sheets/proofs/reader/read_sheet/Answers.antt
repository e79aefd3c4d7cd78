use Rattle.std.proofs.Common.{◌≡◌, [], ◌∷◌, ◌++◌, ◌≤◌, ◌+◌, ◌-◌, ◌*◌, ◌/◌, length, drop, sym, ap, ◌∙◌, arith, length-append}
use Rattle.std.proofs.lemmas.Result.{err_from_is_err_and}
use Rattle.std.specs.Iterator.Adapters.{enumerate_source, enumerate_count}
use Rattle.std.specs.Slice.Iter.{chunks_exact_rest}
use Rattle.bundle.specs.Stocks.{supply_of}
use Rattle.sheets.specs.Reading.{lines_in, placed}
use Rattle.sheets.specs.Sheets.{bid_of, bids_of}
use Rattle.sheets.proofs.Walks.{behind, lines_end, row_here, row_stop, row_go, rows_end}
use Rattle.sheets.proofs.reader.read_sheet.Goals.{In-Some}
use Rattle.sheets.proofs.reader.read_sheet.Goals as goal

-- the row that is next, and what was read before it
here : (c : In-Some) → let k = c.in-Some.k in let w = c.args.size in let rows = c.args.rows.now in let lines = lines_in (supply_of c.args.supply.now) c.args.account (placed 6 rows) in
    (drop (k * w) rows ≡ c.in-Some.row.now ++ chunks_exact_rest (enumerate_source c.next.new.self))
    × (length c.in-Some.row.now ≡ w)
    × (length (bids_of c.loop-k.sheet) ≡ k)
    × (behind (bids_of c.loop-k.sheet) (lines (6 + k * w) (length rows / w - k)) ≡ lines 6 (length rows / w))
here c =
    let s = c.in-Some.ensures.steps in
    let inv = rw (← s.1) at c.loop-k.invariant in
    (inv.1 ∙ s.0.1.0, s.0.1.1 ∙ inv.0, inv.2, inv.3)

pub returns-in_err-read_line : goal.returns-in_err-read_line
returns-in_err-read_line c =
    let r = here (goal.at.returns-in_err-read_line c).In-Some in
    let p = err_from_is_err_and c.from_residual.result c.from_residual.ensures.1 in
    rw (p.1, p.2)
    (sym (row_stop (supply_of c.args.supply.now) c.args.account _ _ _ _ _ c.requires.each r.0 r.1 (bids_of c.loop-k.sheet) c.in_err-read_line.field-0.0 c.in_err-read_line.ensures) ∙ r.3)

pub push-requires : goal.push-requires
push-requires c =
    let r = here (goal.at.push-requires c).In-Some in
    omega (arith, r.2, (row_here (supply_of c.args.supply.now) c.args.account _ _ _ _ _ c.requires.each r.0 r.1).0)

pub loop-k-preserved : goal.loop-k-preserved
loop-k-preserved c =
    let r = here (goal.at.loop-k-preserved c).In-Some in
    let s = c.in-Some.ensures.steps in
    let ss = supply_of c.args.supply.now in
    let rows = c.args.rows.now in
    let k = c.in-Some.k in
    let w = c.args.size in
    let xs = bids_of c.loop-k.sheet in
    let l = bid_of c.in_ok-read_line.field-0 in
    let next : enumerate_count c.next.new.self ≡ k + 1 = s.2 ∙ ap (λ x. x + 1) (sym s.1) in
    rw next (
      s.0.0 ∙ c.loop-k.invariant.0,
      (row_here ss c.args.account _ _ _ _ _ c.requires.each r.0 r.1).1,
      omega (arith, r.2, ap length c.push.ensures, length-append xs (l ∷ [])),
      ap (λ ys. behind ys (lines_in ss c.args.account (placed 6 rows) (6 + (k + 1) * w) (length rows / w - (k + 1)))) c.push.ensures
          ∙ row_go ss c.args.account _ _ _ _ _ c.requires.each r.0 r.1 xs l c.in_ok-read_line.ensures
          ∙ r.3,
    )

pub returns : goal.returns
returns c =
    let s = c.in-None.ensures.steps in
    let inv = c.loop-k.invariant in
    let k = enumerate_count c.loop-k.k-iterator in
    let rows = c.args.rows.now in
    let w = c.args.size in
    let past : length rows / w ≤ k = rows_end rows (chunks_exact_rest (enumerate_source c.loop-k.k-iterator)) k w (omega arith) inv.1 (omega (arith, s.0.1.0, inv.0)) in
    sym (lines_end (supply_of c.args.supply.now) c.args.account (placed 6 rows) (bids_of c.loop-k.sheet) (6 + k * w) k (length rows / w) past) ∙ inv.3
