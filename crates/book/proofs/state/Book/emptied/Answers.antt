use Rattle.std.proofs.Common.{sym, ◌∙◌, subst, arith}
use Rattle.std.proofs.lemmas.Bool.Decides.{nat_tests}
use Rattle.bundle.specs.Stocks.{supply_of}
use Rattle.book.specs.Books.{entries_of}
use Rattle.book.specs.Places.{AllAllowed}
use Rattle.book.proofs.Allows.{emptied-allowed}
use Rattle.book.proofs.Entries.{emptied_places, length_book}
use Rattle.book.proofs.state.Book.emptied.Goals as goal

pub invariant_of-self-clause-allowed : goal.invariant_of-self-clause-allowed
invariant_of-self-clause-allowed c =
    let b = c.args.self in
    ∣ subst (AllAllowed (supply_of b.supply)) (sym (emptied_places b c.args.accounts.now c.accounts_of-self.result c.new-self.result (omega arith) c.if-accounts-self.false c.accounts_of-self.ensures c.new-self.ensures)) (emptied-allowed (supply_of b.supply) _ _) ∣₁

pub returns-clause-places : goal.returns-clause-places
unfolding entries_of
returns-clause-places c =
    let b = c.args.self in
    let xs = c.args.accounts.now in
    emptied_places b xs c.accounts_of-self.result c.new-self.result (omega arith) c.if-accounts-self.false c.accounts_of-self.ensures c.new-self.ensures
    ∙ grind (arith, nat_tests, length_book b)
