-- What the run over a file promises. Assumes nothing: these are definitions and a statement.
use Rattle.std.specs.Prelude.{◌≡◌, ℕ, ◌+◌, ◌^◌, ◌<◌, ◌≤◌, true, List, [], ◌∷◌, ◌++◌, is_ok, Ok, slice_index}
use Rattle.std.specs.List.{flat_map, AllByRecursion}
use Rattle.bundle.specs.Bids.{Bids}
use Rattle.sheets.specs.Reading.{Submission}
use Rattle.vcg.specs.Auction.{chosen}
use Rattle.book.specs.Posting.{accounts_of}
use Rattle.accounts.specs.Promises.{TrueSheet, LastTaken}
use Rattle.accounts.specs.Closing.{Rows}
use Rattle.sale.specs.Opening.{opened}
use Rattle.sale.specs.declared.lots.Lot.{Lot}
use Rattle.session.specs.Files.{opening_bytes}
use Rattle.session.specs.Frames.{framed, messages}
use Rattle.session.specs.Closing.{CloseOutcome, close_run}

-- a file with the bytes of an opening, whole messages, then the message m after its length, and any bytes after it
abbrev pub file_with : List Lot → List ℕ → ℕ → List (List ℕ) → List ℕ → List ℕ → List ℕ
file_with lots accounts company before m rest = opening_bytes lots accounts company ++ (flat_map framed (before ++ m ∷ []) ++ rest)

-- what farm i has after a run, where the sheet b stood for it and a bundle is worth to it what `value` says: its account, and the line that it is awarded
abbrev pub wealth_after : CloseOutcome → ℕ → Bids → (List ℕ → ℕ) → ℕ
wealth_after o i b value = slice_index (accounts_of o.stage.state.entries) i + value (chosen b (slice_index o.rows.award i)).want

-- the run over a file closes the sale, and m is the last message of its farm that is taken, as the submission s
pub record Closes (lots : List Lot) (accounts : List ℕ) (company : ℕ) (before : List (List ℕ)) (m rest : List ℕ) (rows : Rows) (s : Submission) (o : CloseOutcome) : Type 0 where
  pub runs : close_run (file_with lots accounts company before m rest) rows ≡ Ok o
  pub closed : is_ok o.answer ≡ true
  pub last : LastTaken (opened lots accounts company).supply (opened lots accounts company).entries before m (messages rest) s

-- a true sheet is a best sheet: of two files that differ in the last taken message of one farm, the run over the one with its true sheet leaves the farm
-- no worse off, whatever the others send
abbrev pub TrueFileIsBest : Type 0
TrueFileIsBest =
    (lots : List Lot) (accounts : List ℕ) (company : ℕ) (before : List (List ℕ)) (m n rest : List ℕ) (rows : Rows) (s t : Submission) (o p : CloseOutcome) (value : List ℕ → ℕ) →
    AllByRecursion (λ (l : Lot). l.reserve < 2 ^ 32) lots → AllByRecursion (λ (a : ℕ). a < 2 ^ 32) accounts → company < 2 ^ 64 →
    Closes lots accounts company before m rest rows s o → Closes lots accounts company before n rest rows t p → s.farm ≡ t.farm →
    TrueSheet (opened lots accounts company).supply value s.bids →
    wealth_after p t.farm t.bids value ≤ wealth_after o s.farm s.bids value
