use Rattle.bundle.specs.Reserves.{prices_of}
use Rattle.bundle.specs.Units.{Within}
use Rattle.book.specs.Books.{entries_of, book_supply}
use Rattle.book.proofs.Allows.{book_allowed}
use Rattle.accounts.proofs.Payments.{never_below_zero}
use Rattle.accounts.proofs.closing.close.Goals as goal

pub settle-requires-clause-covered : goal.settle-requires-clause-covered
unfolding Within
settle-requires-clause-covered c =
    let b = c.args.book in
    rw (c.supply-supply.ensures, c.sheets-sheets.ensures, c.as_mut_slice-row.ensures.value, c.account_array-accounts.ensures)
    (λ j. never_below_zero (book_supply b) (prices_of c.args.reserve.now) (entries_of b) j (book_allowed b))
