use Rattle.std.proofs.Common.{sym, subst, arith}
use Rattle.bundle.specs.Stocks.{supply_of}
use Rattle.book.specs.Places.{AllAllowed}
use Rattle.book.proofs.Allows.{fresh-allowed}
use Rattle.book.proofs.Entries.{opened_places}
use Rattle.book.proofs.state.Book.open.Goals as goal

pub invariant_of-result-clause-allowed : goal.invariant_of-result-clause-allowed
invariant_of-result-clause-allowed c =
    ∣ subst (AllAllowed (supply_of c.args.supply)) (sym (opened_places c.args.accounts.now c.accounts_of.result c.new.result (omega arith) c.accounts_of.ensures c.new.ensures)) (fresh-allowed (supply_of c.args.supply) _) ∣₁
