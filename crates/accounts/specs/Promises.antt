-- What closing promises. Assumes nothing: these are definitions and statements.
use Rattle.std.specs.Prelude.{◌≡◌, ℕ, ◌+◌, ◌≤◌, List, ◌∷◌, ◌++◌, Ok, IsErr, slice_index, slice_index_or}
use Rattle.std.specs.List.{AllByRecursion}
use Rattle.bundle.specs.Bids.{Bids}
use Rattle.bundle.specs.Reserves.{priced}
use Rattle.bundle.specs.Units.{Within}
use Rattle.sheets.specs.Reading.{Submission}
use Rattle.vcg.specs.Charges.{gets}
use Rattle.vcg.specs.Optimum.{best_choice, outcome_of}
use Rattle.vcg.specs.Truth.{worth}
use Rattle.book.specs.Posting.{Entry, accounts_of, read_for, post, posts, told}
use Rattle.accounts.specs.Closing.{auction_for, charges_for, settled}

-- a charge is at most the stated worth of the line awarded and at least the reserve of its units, and a farm that gets no line pays nothing
pub record Fair (supply prices : List ℕ) (es : List Entry) (i : ℕ) : Type 0 where
  pub covered : slice_index_or (charges_for supply prices es) i 0 ≤ (gets (auction_for supply prices es) (outcome_of (auction_for supply prices es)) i).value
  pub reserved : priced prices (gets (auction_for supply prices es) (outcome_of (auction_for supply prices es)) i).want ≤ slice_index (charges_for supply prices es) i
  pub nothing : slice_index_or (best_choice (auction_for supply prices es)) i 0 ≡ 0 → slice_index (charges_for supply prices es) i ≡ 0

-- what farm i has once the sale of the sheets in the book is closed, where a bundle is worth to it what `value` says: its account, and what it got
abbrev pub wealth : List ℕ → List ℕ → List Entry → (List ℕ → ℕ) → ℕ → ℕ
wealth supply prices es value i =
    slice_index (accounts_of (settled es (charges_for supply prices es))) i
    + value (gets (auction_for supply prices es) (outcome_of (auction_for supply prices es)) i).want

-- by a true sheet every bundle has its true worth
abbrev pub TrueSheet : List ℕ → (List ℕ → ℕ) → Bids → Type 0
TrueSheet supply value b = (x : List ℕ) → Within x supply → worth b x ≡ value x

-- m is taken after the messages before it, as the submission s, and is the last of its farm that is taken
pub record LastTaken (supply : List ℕ) (es : List Entry) (before : List (List ℕ)) (m : List ℕ) (later : List (List ℕ)) (s : Submission) : Type 0 where
  pub taken : read_for supply (posts supply es before) m ≡ Ok s
  pub last : AllByRecursion IsErr (told supply (post supply (posts supply es before) m) s.farm later)

-- no sheet serves a farm better than the true one, whatever the others send: of two runs of messages that differ in the last taken one of
-- a farm, the one with the true sheet leaves it no worse off
abbrev pub TrueMessageIsBest : Type 0
TrueMessageIsBest =
    (supply prices : List ℕ) (es : List Entry) (before later : List (List ℕ)) (m n : List ℕ) (s t : Submission) (value : List ℕ → ℕ) →
    LastTaken supply es before m later s → LastTaken supply es before n later t → s.farm ≡ t.farm →
    TrueSheet supply value s.bids →
    wealth supply prices (posts supply es (before ++ n ∷ later)) value s.farm
    ≤ wealth supply prices (posts supply es (before ++ m ∷ later)) value s.farm
