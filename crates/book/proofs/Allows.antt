-- Every sheet in the book is allowed, and stays so. Assumes nothing.
use Rattle.std.proofs.Common.{◌≡◌, ℕ, List, [], ◌∷◌, map, length, Ok, Err, Result, refl, subst, arith}
use mathlib.Core.HLevel.{hedberg}
use mathlib.Core.Logic.{∥∥₁_elim}
use native.Mathlib.Bridge.{le_prop}
use native.Mathlib.Decide.{ℕ_discrete}
use Rattle.std.specs.List.{AllByRecursion-prop}
use Rattle.bundle.specs.Bids.{Bid, Bids}
use Rattle.bundle.specs.Units.{Within}
use Rattle.std.proofs.ByRecursion.{All-set}
use Rattle.sheets.specs.declared.refusals.MessageRefusal.{MessageRefusal}
use Rattle.sheets.specs.Reading.{Submission}
use Rattle.sheets.specs.Allowed.{Covered, Allowed}
use Rattle.sheets.proofs.Readings.{taken_if_read}
use Rattle.book.specs.Books.{entries_of, book_supply}
use Rattle.book.specs.Posting.{Entry, fresh, emptied, accounts_of, numbers_of, read_for, put, post}
use Rattle.book.specs.Places.{AllAllowed}
use Rattle.book.specs.Promises.{StaysAllowed, AlwaysAllowed}
use Rattle.book.specs.declared.state.Book.{Book}
use Rattle.book.proofs.Steps.{account-at}

pub put-allowed : (supply : List ℕ) (es : List Entry) (m : List ℕ) (r : Result Submission MessageRefusal) → read_for supply es m ≡ r → AllAllowed supply es → AllAllowed supply (put es r)
put-allowed supply es m (Ok s) e a =
    let mine = subst (λ (x : ℕ). Allowed supply x s.bids) (account-at es s.farm) (taken_if_read supply (accounts_of es) (numbers_of es) m s e).allowed in
    All-set (λ (h : Entry). Allowed supply h.account h.bids) es s.farm _ mine a
put-allowed supply es m (Err d) e a = a

pub stays_allowed : StaysAllowed
stays_allowed supply es [] a = a
stays_allowed supply es (m ∷ ms) a = stays_allowed supply (post supply es m) ms (put-allowed supply es m (read_for supply es m) refl a)

none_allowed : (supply : List ℕ) (account : ℕ) → Allowed supply account []
none_allowed supply account = record { few = omega arith; covered = tt }

pub fresh-allowed : (supply accounts : List ℕ) → AllAllowed supply (map fresh accounts)
fresh-allowed supply [] = tt
fresh-allowed supply (x ∷ xs) = (none_allowed supply x, fresh-allowed supply xs)

pub always_allowed : AlwaysAllowed
always_allowed supply accounts ms = stays_allowed supply (map fresh accounts) ms (fresh-allowed supply accounts)

pub emptied-allowed : (supply accounts ns : List ℕ) → AllAllowed supply (emptied accounts ns)
emptied-allowed supply [] ns = tt
emptied-allowed supply (x ∷ xs) [] = tt
emptied-allowed supply (x ∷ xs) (n ∷ ns) = (none_allowed supply x, emptied-allowed supply xs ns)

-- that sheets are allowed is shown in one way only, so a book's type can hold it
covered_prop : (supply : List ℕ) (account : ℕ) (l : Bid) → IsProp (Covered supply account l)
unfolding Within
covered_prop supply account l a b = λ i. record {
  worth = le_prop a.worth b.worth i;
  long = hedberg ℕ_discrete (length l.want) (length supply) a.long b.long i;
  fits = λ j. le_prop (a.fits j) (b.fits j) i;
}

allowed_prop : (supply : List ℕ) (account : ℕ) (bids : Bids) → IsProp (Allowed supply account bids)
allowed_prop supply account bids a b = λ i. record {
  few = le_prop a.few b.few i;
  covered = AllByRecursion-prop (Covered supply account) (covered_prop supply account) bids a.covered b.covered i;
}

pub allowed_had : (supply : List ℕ) (es : List Entry) → ∥ AllAllowed supply es ∥₁ → AllAllowed supply es
allowed_had supply es h =
    ∥∥₁_elim h (AllByRecursion-prop (λ (e : Entry). Allowed supply e.account e.bids) (λ (e : Entry). allowed_prop supply e.account e.bids) es) (λ a. a)

-- of a book
pub book_allowed : (b : Book) → AllAllowed (book_supply b) (entries_of b)
unfolding entries_of
book_allowed b = allowed_had _ _ b.allowed
