-- The bytes of a message. Assumes nothing: these are definitions.
use Rattle.std.specs.Prelude.{ℕ, ◌+◌, ◌/◌, ◌%◌, cond, List, [], ◌∷◌, ◌++◌, length, take, drop, Some, None, Option, nat_lt}
use Rattle.std.specs.List.{flat_map}
use Rattle.bundle.specs.Bids.{Bid}
use Rattle.sheets.specs.Reading.{Submission}

-- a number in four bytes, low byte first
abbrev pub u32_bytes : ℕ → List ℕ
u32_bytes n = (n % 256) ∷ (n / 256 % 256) ∷ (n / 65536 % 256) ∷ (n / 16777216 % 256) ∷ []

-- a line: the worth, then the units of each lot
abbrev pub line_bytes : Bid → List ℕ
line_bytes l = u32_bytes l.value ++ l.want

-- a message: the farm, its number, the count of lines, the lines
abbrev pub message_bytes : Submission → List ℕ
message_bytes s = s.farm ∷ (u32_bytes s.number ++ (length s.bids ∷ flat_map line_bytes s.bids))

-- xs with bs written over it from p on
abbrev pub over : ℕ → List ℕ → List ℕ → List ℕ
over p bs xs = take p xs ++ (bs ++ drop (p + length bs) xs)

-- what a lent slice holds once bs is written at its front, where there is room for it, and as much as that takes
abbrev pub written : List ℕ → List ℕ → List ℕ
written bs out = cond (nat_lt (length out) (length bs)) out (over 0 bs out)

abbrev pub written_size : List ℕ → List ℕ → Option ℕ
written_size bs out = cond (nat_lt (length out) (length bs)) None (Some (length bs))
