use Rattle.std.proofs.Common.{◌≡◌, length, ap, rules, arith}
use borrow.Author.Tests.{tests}
use Rattle.std.specs.List.{sum_by}
use Rattle.std.proofs.lemmas.Iterator.{YieldsList-from_slice, YieldsList-from_map}
use Rattle.std.proofs.lemmas.Iterator.Consumers.{sum_by_from_yields_List, fits_by_from_yields_list}
use Rattle.sheets.proofs.Over.{row_size, length_rows, few_sizes, rows_bids}
use Rattle.sheets.proofs.writer.size_of.Goals as goal

-- The chain stands twice, since what it says names the closure, which no signature can.

pub sum-requires-clause-fits : goal.sum-requires-clause-fits
sum-requires-clause-fits c =
    let ls = c.lines-lines.result.now in
    fits_by_from_yields_list row_size ls c.map.result _ (YieldsList-from_map _ row_size (YieldsList-from_slice ls cc) c.map.ensures.closure (λ x r q k. search (rules, tests)))
    (omega (arith, few_sizes c.args.message.now.sheet ls c.lines-lines.ensures))

total : (c : goal.After-sum) → c.sum.result ≡ sum_by row_size c.lines-lines.result.now
total c =
    let ls = c.lines-lines.result.now in
    sum_by_from_yields_List row_size ls c.map.result c.sum.result c.sum.ensures.ran (YieldsList-from_map _ row_size (YieldsList-from_slice ls cc) c.map.ensures.closure (λ x r q k. search (rules, tests)))

pub overflow_add-result : goal.overflow_add-result
overflow_add-result c = omega (arith, total c, few_sizes c.args.message.now.sheet c.lines-lines.result.now c.lines-lines.ensures)

pub returns : goal.returns
returns c =
    let ls = c.lines-lines.result.now in
    omega (arith, total c, length_rows ls, ap length (rows_bids c.args.message.now.sheet ls c.lines-lines.ensures))
