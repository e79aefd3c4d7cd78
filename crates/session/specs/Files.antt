-- The bytes of a sale's file. Assumes nothing: these are definitions and a statement.
use Rattle.std.specs.Prelude.{◌≡◌, ℕ, ◌/◌, ◌%◌, ◌^◌, ◌<◌, List, ◌∷◌, ◌++◌, length}
use Rattle.std.specs.List.{flat_map, AllByRecursion}
use Rattle.sheets.specs.Writing.{u32_bytes}
use Rattle.sale.specs.Opening.{open_sale}
use Rattle.sale.specs.declared.lots.Lot.{Lot}
use Rattle.session.specs.Frames.{framed}
use Rattle.session.specs.Session.{opening_in, messages_in}

abbrev pub u64_bytes : ℕ → List ℕ
u64_bytes n = u32_bytes (n % 4294967296) ++ u32_bytes (n / 4294967296)

-- a lot: its units, then its reserve
abbrev pub lot_bytes : Lot → List ℕ
lot_bytes l = l.units ∷ u32_bytes l.reserve

-- the opening: the lots after their count, the accounts after theirs, and the company's account
abbrev pub opening_bytes : List Lot → List ℕ → ℕ → List ℕ
opening_bytes lots accounts company =
    length lots ∷ (flat_map lot_bytes lots ++ (length accounts ∷ (flat_map u32_bytes accounts ++ u64_bytes company)))

-- the opening, then each message after its length
abbrev pub file_bytes : List Lot → List ℕ → ℕ → List (List ℕ) → List ℕ
file_bytes lots accounts company ms = opening_bytes lots accounts company ++ flat_map framed ms

-- what is written as a file is read as that opening and those messages
abbrev pub FileBack : Type 0
FileBack =
    (lots : List Lot) (accounts : List ℕ) (company : ℕ) (ms : List (List ℕ)) →
    AllByRecursion (λ (l : Lot). l.reserve < 2 ^ 32) lots → AllByRecursion (λ (a : ℕ). a < 2 ^ 32) accounts → company < 2 ^ 64 →
    (opening_in (file_bytes lots accounts company ms) ≡ open_sale lots accounts company)
    × (messages_in (file_bytes lots accounts company ms) ≡ ms)
