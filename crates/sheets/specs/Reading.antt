-- What the bytes of a message say, check by check, in the order in which a message is checked. Assumes nothing: these are definitions.
use Rattle.std.specs.Prelude.{ℕ, zero, suc, ◌+◌, ◌*◌, cond, List, [], ◌∷◌, ◌++◌, length, replicate, Ok, Err, Result, ◌==◌, nat_lt, slice_index}
use Rattle.bundle.specs.Bids.{Bid, Bids}
use Rattle.bundle.specs.Checks.{and_then}
use Rattle.sheets.specs.declared.refusals.MessageRefusal.{MessageRefusal}
use Rattle.sheets.specs.declared.refusals.MessageRefusal.TheVariants.{Short, NoFarm, OldNumber, ManyLines, WrongLength, WorthAboveAccount, UnitsAboveSupply}

-- what a farm submits: its number, that of the message, and its bids
pub record Submission : Type 0 where
  pub farm : ℕ
  pub number : ℕ
  pub bids : Bids

-- the number in four bytes at p, low byte first
abbrev pub u32_at : List ℕ → ℕ → ℕ
u32_at bs p = slice_index bs p + slice_index bs (p + 1) * 256 + slice_index bs (p + 2) * 65536 + slice_index bs (p + 3) * 16777216

-- the farm that sent it, one of f: the first byte of at least six
abbrev pub sender_in : ℕ → List ℕ → Result ℕ MessageRefusal
sender_in f bs =
    cond (nat_lt (length bs) 6) (Err (Short (length bs)))
    (cond (nat_lt (slice_index bs 0) f) (Ok (slice_index bs 0)) (Err (NoFarm 0)))

-- its number, above the last
abbrev pub number_in : ℕ → List ℕ → Result ℕ MessageRefusal
number_in last bs = cond (nat_lt last (u32_at bs 1)) (Ok (u32_at bs 1)) (Err (OldNumber 1))

-- how many lines it has, of m lots each: at most 32, and as many as its length says
abbrev pub count_in : ℕ → List ℕ → Result ℕ MessageRefusal
count_in m bs =
    cond (nat_lt 32 (slice_index bs 5)) (Err (ManyLines 5))
    (cond (length bs == 6 + slice_index bs 5 * (4 + m)) (Ok (slice_index bs 5)) (Err (WrongLength (length bs))))

-- the worth at p, covered by the account
abbrev pub worth_in : ℕ → List ℕ → ℕ → Result ℕ MessageRefusal
worth_in account bs p = cond (nat_lt account (u32_at bs p)) (Err (WorthAboveAccount p)) (Ok (u32_at bs p))

-- bytes as they stand from p on in a message; what is before them is not read
abbrev pub placed : ℕ → List ℕ → List ℕ
placed p bs = replicate p 0 ++ bs

-- the units of each lot from p on, a byte each, within the supply
unfoldable pub units_in : List ℕ → List ℕ → ℕ → Result (List ℕ) MessageRefusal
units_in [] bs p = Ok []
units_in (s ∷ ss) bs p =
    cond (nat_lt s (slice_index bs p)) (Err (UnitsAboveSupply p))
    (and_then (units_in ss bs (p + 1)) (λ us. Ok (slice_index bs p ∷ us)))

-- the line at p: four bytes of worth, then the units
abbrev pub line_in : List ℕ → ℕ → List ℕ → ℕ → Result Bid MessageRefusal
line_in supply account bs p =
    and_then (worth_in account bs p) (λ worth.
    and_then (units_in supply bs (p + 4)) (λ units.
    Ok (record { want = units; value = worth })))

-- n lines from p on
unfoldable pub lines_in : List ℕ → ℕ → List ℕ → ℕ → ℕ → Result Bids MessageRefusal
lines_in supply account bs p zero = Ok []
lines_in supply account bs p (suc n) =
    and_then (line_in supply account bs p) (λ l.
    and_then (lines_in supply account bs (p + (4 + length supply)) n) (λ ls.
    Ok (l ∷ ls)))

-- the lines of the message
abbrev pub sheet_in : List ℕ → ℕ → List ℕ → Result Bids MessageRefusal
sheet_in supply account bs = and_then (count_in (length supply) bs) (lines_in supply account bs 6)

-- the message of a farm with that account, whose last message had that number
abbrev pub submission_in : List ℕ → ℕ → ℕ → ℕ → List ℕ → Result Submission MessageRefusal
submission_in supply farm account last bs =
    and_then (number_in last bs) (λ number.
    and_then (sheet_in supply account bs) (λ bids.
    Ok (record { farm = farm; number = number; bids = bids })))

-- the message, or the first refusal; the i-th account and the i-th number are those of farm i, and a farm without a number has sent none
abbrev pub read_message : List ℕ → List ℕ → List ℕ → List ℕ → Result Submission MessageRefusal
read_message supply accounts numbers bs =
    and_then (sender_in (length accounts) bs) (λ farm.
    submission_in supply farm (slice_index accounts farm) (slice_index numbers farm) bs)
