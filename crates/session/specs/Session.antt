-- The run over a file: the opening, then the messages. Assumes nothing: these are definitions.
use Rattle.std.specs.Prelude.{ℕ, zero, suc, ◌+◌, ◌*◌, cond, List, [], ◌∷◌, ◌++◌, length, drop, Ok, Err, Result, nat_lt, slice_index}
use Rattle.bundle.specs.Checks.{and_then}
use Rattle.sheets.specs.Reading.{u32_at}
use Rattle.book.specs.Posting.{Reply}
use Rattle.sale.specs.States.{after, replies}
use Rattle.sale.specs.Opening.{State, open_sale}
use Rattle.sale.specs.declared.lots.Lot.{Lot}
use Rattle.sale.specs.declared.refusals.OpeningRefusal.{OpeningRefusal}
use Rattle.sale.specs.declared.refusals.OpeningRefusal.TheVariants.{LotCount}
use Rattle.session.specs.Frames.{messages}
use Rattle.session.specs.declared.refusals.RunRefusal.{RunRefusal}
use Rattle.session.specs.declared.refusals.RunRefusal.TheVariants.{Opening, Room}

-- the number in eight bytes at p, low byte first
abbrev pub u64_at : List ℕ → ℕ → ℕ
u64_at bs p = u32_at bs p + u32_at bs (p + 4) * 4294967296

-- a lot in five bytes: a byte of units and four bytes of reserve
abbrev pub lot_in : List ℕ → Lot
lot_in bs = record { units = slice_index bs 0; reserve = u32_at bs 1 }

-- an account in four bytes
abbrev pub account_in : List ℕ → ℕ
account_in bs = u32_at bs 0

-- n lots from p on: a byte of units and four bytes of reserve each
unfoldable pub lots_at : List ℕ → ℕ → ℕ → List Lot
lots_at bs p zero = []
lots_at bs p (suc n) = record { units = slice_index bs p; reserve = u32_at bs (p + 1) } ∷ lots_at bs (p + 5) n

-- n accounts from p on, four bytes each
unfoldable pub accounts_at : List ℕ → ℕ → ℕ → List ℕ
accounts_at bs p zero = []
accounts_at bs p (suc n) = u32_at bs p ∷ accounts_at bs (p + 4) n

-- the first byte counts the lots, and the byte after them the farms
abbrev pub lot_count : List ℕ → ℕ
lot_count bs = slice_index bs 0

abbrev pub farm_count : List ℕ → ℕ
farm_count bs = slice_index bs (1 + lot_count bs * 5)

-- how many bytes the opening has: the company's account is the last eight
abbrev pub opening_size : List ℕ → ℕ
opening_size bs = 2 + lot_count bs * 5 + farm_count bs * 4 + 8

-- the sale that the file opens; a file that ends inside the opening counts as one with no lots
abbrev pub opening_in : List ℕ → Result State OpeningRefusal
opening_in bs =
    cond (nat_lt (length bs) (opening_size bs)) (Err (LotCount 0))
    (open_sale (lots_at bs 1 (lot_count bs)) (accounts_at bs (2 + lot_count bs * 5) (farm_count bs)) (u64_at bs (2 + lot_count bs * 5 + farm_count bs * 4)))

-- the messages of the file
abbrev pub messages_in : List ℕ → List (List ℕ)
messages_in bs = messages (drop (opening_size bs) bs)

-- what the run leaves: the sale after all messages, and what is answered to each
pub record Outcome : Type 0 where
  pub state : State
  pub told : List Reply

abbrev pub run : List ℕ → Result Outcome OpeningRefusal
run bs = and_then (opening_in bs) (λ h. Ok (record { state = after h (messages_in bs); told = replies h (messages_in bs) }))

-- the same where there is room for so many answers
abbrev pub ran : Result Outcome OpeningRefusal → Result State RunRefusal
ran (Ok o) = Ok o.state
ran (Err e) = Err (Opening e)

abbrev pub run_within : ℕ → List ℕ → Result State RunRefusal
run_within room bs = cond (nat_lt room (length (messages_in bs))) (Err (Room (length (messages_in bs)))) (ran (run bs))

-- what the row of answers holds then: the answers at its front; what is refused changes nothing
abbrev pub noted : Result Outcome OpeningRefusal → List Reply → List Reply
noted (Ok o) row = o.told ++ drop (length o.told) row
noted (Err e) row = row

abbrev pub told_within : List Reply → List ℕ → List Reply
told_within row bs = cond (nat_lt (length row) (length (messages_in bs))) row (noted (run bs) row)
