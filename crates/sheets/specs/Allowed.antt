-- Which submissions a sale takes, in its own words. Assumes nothing: these are definitions and a statement.
use Rattle.std.specs.Prelude.{◌≡◌, ℕ, ◌^◌, ◌<◌, ◌≤◌, List, length, Ok, slice_index}
use Rattle.std.specs.List.{AllByRecursion}
use Rattle.bundle.specs.Bids.{Bid, Bids}
use Rattle.bundle.specs.Units.{Within}
use Rattle.sheets.specs.Reading.{Submission, read_message}
use Rattle.sheets.specs.Writing.{message_bytes}

-- a line is covered by the account, names every lot, and asks no more of any than there is
pub record Covered (supply : List ℕ) (account : ℕ) (l : Bid) : Type 0 where
  pub worth : l.value ≤ account
  pub long : length l.want ≡ length supply
  pub fits : Within l.want supply

-- a sheet is allowed for a farm with that account: at most 32 lines, all of them covered
pub record Allowed (supply : List ℕ) (account : ℕ) (bids : Bids) : Type 0 where
  pub few : length bids ≤ 32
  pub covered : AllByRecursion (Covered supply account) bids

-- a submission is taken: its farm is one of the sale, its number is above the last, and its sheet is allowed
pub record Taken (supply accounts numbers : List ℕ) (s : Submission) : Type 0 where
  pub known : s.farm < length accounts
  pub above : slice_index numbers s.farm < s.number
  pub allowed : Allowed supply (slice_index accounts s.farm) s.bids

-- numbers that fit their bytes, as all do that are read
pub record Plain (s : Submission) : Type 0 where
  pub number : s.number < 2 ^ 32
  pub worths : AllByRecursion (λ (l : Bid). l.value < 2 ^ 32) s.bids

-- a message is read exactly if it is the writing of a submission that is taken
abbrev pub ReadExactly : Type 0
ReadExactly =
    (supply accounts numbers bs : List ℕ) (s : Submission) → AllByRecursion (λ b. b < 256) bs →
    (read_message supply accounts numbers bs ≡ Ok s → (bs ≡ message_bytes s) × Taken supply accounts numbers s × Plain s)
    × ((bs ≡ message_bytes s) × Taken supply accounts numbers s × Plain s → read_message supply accounts numbers bs ≡ Ok s)
