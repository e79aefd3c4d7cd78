use Rattle.std.proofs.Common.{Ok, Err, arith}
use Rattle.std.proofs.lemmas.Result.{err_from_is_err_and}
use Rattle.std.proofs.lemmas.Bool.Decides.{nat_tests}
use Rattle.bundle.specs.Stocks.{supply_of}
use Rattle.sheets.specs.Sheets.{bids_of}
use Rattle.sheets.proofs.Walks.{Passed, message_read}
use Rattle.sheets.proofs.reader.read.Goals.{In-Some-then_some-3}
use Rattle.sheets.proofs.reader.read.Goals as goal

passed : (c : In-Some-then_some-3) → Passed (supply_of c.args.supply.now) c.args.accounts.now c.args.numbers.now c.args.bytes.now c.in-Some.account c.in-Some-then_some.number c.in-Some-then_some-2.count c.in-Some-then_some-3.size
passed c = record {
  long = c.in-len6-up.len_at_least;
  known = grind (arith, nat_tests);
  has = grind (arith, nat_tests);
  above = grind (arith, nat_tests);
  is = grind (arith, nat_tests);
  few = grind (arith, nat_tests);
  count = grind (arith, nat_tests);
  each = grind (arith, nat_tests);
  whole = grind (arith, nat_tests);
}

pub returns-in_err-sheet : goal.returns-in_err-sheet
returns-in_err-sheet c =
    let p = err_from_is_err_and c.from_residual.result c.from_residual.ensures.1 in
    rw (p.1, p.2) (message_read (Err c.in_err-sheet.field-0.0) (passed (goal.at.returns-in_err-sheet c).In-Some-then_some-3) c.in_err-sheet.ensures)

pub returns : goal.returns
returns c = message_read (Ok (bids_of c.in_ok-sheet.sheet)) (passed (goal.at.returns c).In-Some-then_some-3) c.in_ok-sheet.ensures
