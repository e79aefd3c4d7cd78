use Rattle.std.proofs.Common.{◌≡◌, ℕ, ◌<◌, List, take, set, Ok, sym, refl, ap, ◌∙◌, subst, arith, length-set}
use Rattle.sheets.specs.Sheets.{submission_of}
use Rattle.sheets.specs.declared.parts.Message.{Message}
use Rattle.book.specs.Books.{entries, entries_of, book_supply}
use Rattle.book.specs.Places.{AllAllowed}
use Rattle.book.specs.Posting.{Entry, read_for, put, post}
use Rattle.book.specs.declared.state.Book.{Book}
use Rattle.book.proofs.Allows.{book_allowed, put-allowed}
use Rattle.book.proofs.Entries.{put_entries}
use Rattle.book.proofs.state.Book.post.Goals as goal

-- a message that is read for a book, of its farm f
module _ (b : Book) (m : Message) {f : ℕ} (bs : List ℕ) (same : f ≡ m.farm) (known : m.farm < b.farms) (read : Ok (submission_of m) ≡ read_for (book_supply b) (entries_of b) bs) where
  abbrev now : List Entry
  now = take b.farms (entries b.accounts (set b.numbers f m.number) (set b.sheets f m.sheet))

  -- its sheet stands in its farm's place
  placed : now ≡ post (book_supply b) (entries_of b) bs
  unfolding entries_of
  placed =
      ap (λ k. take b.farms (entries b.accounts (set b.numbers k m.number) (set b.sheets k m.sheet))) same
      ∙ put_entries b.farms b.accounts b.numbers b.sheets m.farm m.number m.sheet (omega arith) (omega arith) known
      ∙ ap (put (entries_of b)) read

  held : AllAllowed (book_supply b) now
  held = subst (AllAllowed (book_supply b)) (sym placed) (put-allowed (book_supply b) (entries_of b) bs _ refl (book_allowed b))

pub invariant_of-self : goal.invariant_of-self
invariant_of-self c = record {
  few = omega arith;
  accounts_long = omega arith;
  numbers_long = simp length-set (omega arith);
  sheets_long = simp length-set (omega arith);
  allowed = ∣ held c.args.self c.in-Ok.message c.args.bytes.now c.from-farm.ensures c.in-Ok.ensures.known c.in-Ok.ensures.answer ∣₁;
}

pub returns-in-Ok-clause-places : goal.returns-in-Ok-clause-places
unfolding entries_of
returns-in-Ok-clause-places c = placed c.args.self c.in-Ok.message c.args.bytes.now c.from-farm.ensures c.in-Ok.ensures.known c.in-Ok.ensures.answer
