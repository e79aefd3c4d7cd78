-- What a `Book` stands for. Assumes nothing: these are definitions.
use Rattle.std.specs.Prelude.{ℕ, List, length, take, count_by, nat_lt}
use Rattle.bundle.specs.Stocks.{supply_of}
pub use Rattle.book.specs.Places.{entries}
use Rattle.book.specs.Posting.{Entry}
use Rattle.book.specs.declared.state.Book.{Book}

unfoldable pub entries_of : Book → List Entry
entries_of b = take b.farms (entries b.accounts b.numbers b.sheets)

abbrev pub book_supply : Book → List ℕ
book_supply b = supply_of b.supply

-- how many farms have a sheet with at least one line
abbrev pub standing : List Entry → ℕ
standing es = count_by (λ (e : Entry). nat_lt 0 (length e.bids)) es
