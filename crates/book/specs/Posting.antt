-- How messages change what the book holds. A message is a list of bytes. Assumes nothing: these are definitions.
use Rattle.std.specs.Prelude.{ℕ, Bool, false, cond, List, [], ◌∷◌, map, Ok, Err, Result, ◌==◌, slice_index_or, slice_set}
use Rattle.bundle.specs.Bids.{Bids}
use Rattle.bundle.specs.Checks.{viewed}
use Rattle.sheets.specs.declared.refusals.MessageRefusal.{MessageRefusal}
use Rattle.sheets.specs.Reading.{Submission, read_message}

-- a farm's place in the book: its account, the number of its last taken message, 0 before the first, and the bids of that message
pub record Entry : Type 0 where
  pub account : ℕ
  pub number : ℕ
  pub bids : Bids

abbrev pub no_entry : Entry
no_entry = record { account = 0; number = 0; bids = [] }

-- an account with no message yet
abbrev pub fresh : ℕ → Entry
fresh account = record { account = account; number = 0; bids = [] }

abbrev pub accounts_of : List Entry → List ℕ
accounts_of es = map (λ (e : Entry). e.account) es

abbrev pub numbers_of : List Entry → List ℕ
numbers_of es = map (λ (e : Entry). e.number) es

abbrev pub bids_in : List Entry → List Bids
bids_in es = map (λ (e : Entry). e.bids) es

-- places with these accounts and numbers, and no sheet
abbrev pub emptied : List ℕ → List ℕ → List Entry
emptied [] ns = []
emptied (a ∷ rest) [] = []
emptied (a ∷ rest) (n ∷ ns) = record { account = a; number = n; bids = [] } ∷ emptied rest ns

-- what a message says to a book with these entries
abbrev pub read_for : List ℕ → List Entry → List ℕ → Result Submission MessageRefusal
read_for supply es m = read_message supply (accounts_of es) (numbers_of es) m

-- a submission takes its farm's place; a refused message changes nothing
abbrev pub put : List Entry → Result Submission MessageRefusal → List Entry
put es (Ok s) = slice_set es s.farm (record { account = (slice_index_or es s.farm no_entry).account; number = s.number; bids = s.bids })
put es (Err e) = es

abbrev pub post : List ℕ → List Entry → List ℕ → List Entry
post supply es m = put es (read_for supply es m)

-- messages one after the other
abbrev pub posts : List ℕ → List Entry → List (List ℕ) → List Entry
posts supply es [] = es
posts supply es (m ∷ ms) = posts supply (post supply es m) ms

-- what a farm is told of a message: that it is taken, or why it is refused
abbrev pub Reply : Type 0
Reply = Result (Unit {0}) MessageRefusal

abbrev pub answer_of : Result Submission MessageRefusal → Reply
answer_of r = viewed (λ (s : Submission). tt) r

-- what is answered to each message
abbrev pub answers : List ℕ → List Entry → List (List ℕ) → List Reply
answers supply es [] = []
answers supply es (m ∷ ms) = answer_of (read_for supply es m) ∷ answers supply (post supply es m) ms

-- the first byte of a message names farm i
abbrev pub names : ℕ → List ℕ → Bool
names i [] = false
names i (b ∷ bs) = b == i

-- the messages of farm i among all
abbrev pub own : ℕ → List (List ℕ) → List (List ℕ)
own i [] = []
own i (m ∷ ms) = cond (names i m) (m ∷ own i ms) (own i ms)

-- the answers to the messages of farm i, out of the answers to all
abbrev pub own_answers : ℕ → List (List ℕ) → List Reply → List Reply
own_answers i [] rs = []
own_answers i (m ∷ ms) [] = []
own_answers i (m ∷ ms) (r ∷ rs) = cond (names i m) (r ∷ own_answers i ms rs) (own_answers i ms rs)

-- what farm i is told
abbrev pub told : List ℕ → List Entry → ℕ → List (List ℕ) → List Reply
told supply es i ms = own_answers i ms (answers supply es ms)
