-- What the book promises. Assumes nothing: these are definitions and statements.
use Rattle.std.specs.Prelude.{◌≡◌, ℕ, ◌≤◌, ◌⊎◌, List, [], ◌∷◌, map, length, slice_index, slice_index_or}
use Rattle.sheets.specs.Reading.{u32_at}
pub use Rattle.book.specs.Places.{AllAllowed}
use Rattle.book.specs.Posting.{Entry, no_entry, fresh, posts, told, own}

-- the same messages but for their order
pub data Shuffled : List (List ℕ) → List (List ℕ) → Type 0 where
  same : {ms : List (List ℕ)} → Shuffled ms ms
  swap : {m n : List ℕ} {ms : List (List ℕ)} → Shuffled (m ∷ n ∷ ms) (n ∷ m ∷ ms)
  skip : {m : List ℕ} {ms ns : List (List ℕ)} → Shuffled ms ns → Shuffled (m ∷ ms) (m ∷ ns)
  then : {ls ms ns : List (List ℕ)} → Shuffled ls ms → Shuffled ms ns → Shuffled ls ns

-- m is one of the messages
abbrev pub Among : List ℕ → List (List ℕ) → Type 0
Among m [] = ⊥
Among m (n ∷ ns) = (m ≡ n) ⊎ Among m ns

-- no farm has sent two messages under one number; the same message may come again
abbrev pub OneNumber : List (List ℕ) → Type 0
OneNumber ms =
    (m n : List ℕ) → Among m ms → Among n ms → 6 ≤ length m → 6 ≤ length n →
    slice_index m 0 ≡ slice_index n 0 → u32_at m 1 ≡ u32_at n 1 → m ≡ n

-- the order in which messages come does not matter, where no farm sends two under one number
abbrev pub OrderFree : Type 0
OrderFree =
    (supply : List ℕ) (es : List Entry) (ms ns : List (List ℕ)) →
    Shuffled ms ns → OneNumber ms → posts supply es ms ≡ posts supply es ns

-- what a farm is told depends on the supply, how many farms there are, its own place with its account, and its own messages, and on nothing that others have or send
abbrev pub ToldOwn : Type 0
ToldOwn =
    (supply : List ℕ) (es fs : List Entry) (i : ℕ) (ms ns : List (List ℕ)) →
    length es ≡ length fs → slice_index_or es i no_entry ≡ slice_index_or fs i no_entry → own i ms ≡ own i ns →
    told supply es i ms ≡ told supply fs i ns

-- and so does what stands in its place afterwards
abbrev pub PlaceOwn : Type 0
PlaceOwn =
    (supply : List ℕ) (es fs : List Entry) (i : ℕ) (ms ns : List (List ℕ)) →
    length es ≡ length fs → slice_index_or es i no_entry ≡ slice_index_or fs i no_entry → own i ms ≡ own i ns →
    slice_index_or (posts supply es ms) i no_entry ≡ slice_index_or (posts supply fs ns) i no_entry

-- what is allowed stays so, whatever comes in
abbrev pub StaysAllowed : Type 0
StaysAllowed = (supply : List ℕ) (es : List Entry) (ms : List (List ℕ)) → AllAllowed supply es → AllAllowed supply (posts supply es ms)

-- so every sheet is allowed in a book that was opened with no message yet, whatever came in since
abbrev pub AlwaysAllowed : Type 0
AlwaysAllowed = (supply accounts : List ℕ) (ms : List (List ℕ)) → AllAllowed supply (posts supply (map fresh accounts) ms)
