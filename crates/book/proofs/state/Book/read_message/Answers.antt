use Rattle.std.proofs.Common.{◌≡◌, ◌<◌, List, ℕ, Ok, Err, IfOk, Result, sym, arith}
use Rattle.bundle.specs.Checks.{viewed}
use Rattle.sheets.specs.Sheets.{submission_of}
use Rattle.sheets.specs.declared.parts.Message.{Message}
use Rattle.sheets.specs.declared.refusals.MessageRefusal.{MessageRefusal}
use Rattle.sheets.proofs.Readings.{taken_if_read}
use Rattle.book.specs.Books.{entries_of, book_supply}
use Rattle.book.specs.Posting.{accounts_of, numbers_of, read_for}
use Rattle.book.specs.declared.state.Book.{Book}
use Rattle.book.proofs.Entries.{read_book, length_accounts}
use Rattle.book.proofs.state.Book.read_message.Goals as goal

-- what is read for a book is of one of its farms
known : (b : Book) (r : Result Message MessageRefusal) (bs : List ℕ) → viewed submission_of r ≡ read_for (book_supply b) (entries_of b) bs → IfOk r (λ m. m.farm < b.farms)
known b (Ok m) bs e = omega (arith, length_accounts b, (taken_if_read (book_supply b) (accounts_of (entries_of b)) (numbers_of (entries_of b)) bs (submission_of m) (sym e)).known)
known b (Err d) bs e = tt

pub returns : goal.returns
returns c =
    let b = c.args.self.now in
    let answer = read_book b c.accounts.result.now c.args.bytes.now _ c.accounts.ensures c.read.ensures in
    record { answer = answer; known = known b c.read.result c.args.bytes.now answer }
