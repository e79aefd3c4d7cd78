use Rattle.std.proofs.Common.{◌≡◌, ◌+◌, List, ℕ, Ok, Result}
use Rattle.std.proofs.lemmas.Result.{err_from_is_err_and}
use Rattle.bundle.specs.Checks.{and_then}
use Rattle.bundle.specs.Stocks.{supply_of}
use Rattle.sheets.specs.declared.refusals.MessageRefusal.{MessageRefusal}
use Rattle.sheets.specs.Reading.{units_in, line_in, placed}
use Rattle.sheets.proofs.Walks.{line_go}
use Rattle.sheets.proofs.reader.read_line.Goals.{In-Some}
use Rattle.sheets.proofs.reader.read_line.Goals as goal

go : (c : In-Some) (r : Result (List ℕ) MessageRefusal) → r ≡ units_in (supply_of c.args.supply.now) (placed (c.args.at + 4) c.unwrap.result.1.now) (c.args.at + 4) →
    and_then r (λ units. Ok (record { want = units; value = c.in-Some.worth })) ≡ line_in (supply_of c.args.supply.now) c.args.account (placed c.args.at c.args.row.now) c.args.at
go c r e =
    let cut = rw c.unwrap.ensures at c.split_first_chunk.ensures.cases in
    line_go (supply_of c.args.supply.now) c.args.account c.args.at c.args.row.now (cut.0, cut.1) c.from_le_bytes-worth.ensures (rw c.from.ensures at c.in-Some.ensures) e

pub returns-in_err-units : goal.returns-in_err-units
returns-in_err-units c =
    let p = err_from_is_err_and c.from_residual.result c.from_residual.ensures.1 in
    rw (p.1, p.2) (go (goal.at.returns-in_err-units c).In-Some _ c.in_err-units.ensures)

pub returns : goal.returns
returns c = go (goal.at.returns c).In-Some _ c.in_ok-units.ensures
