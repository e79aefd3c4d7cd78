-- The places of farms, from their accounts, the numbers of their last messages and their sheets. Assumes nothing: these are definitions.
use Rattle.std.specs.Prelude.{ℕ, List, [], ◌∷◌}
use Rattle.std.specs.List.{AllByRecursion}
use Rattle.sheets.specs.Allowed.{Allowed}
use Rattle.sheets.specs.Sheets.{bids_of}
use Rattle.sheets.specs.declared.parts.Sheet.{Sheet}
use Rattle.book.specs.Posting.{Entry}

abbrev pub entries : List ℕ → List ℕ → List Sheet → List Entry
entries [] ns ss = []
entries (a ∷ rest) [] ss = []
entries (a ∷ rest) (n ∷ ns) [] = []
entries (a ∷ rest) (n ∷ ns) (s ∷ ss) = record { account = a; number = n; bids = bids_of s } ∷ entries rest ns ss

-- every sheet is allowed for its farm
abbrev pub AllAllowed : List ℕ → List Entry → Type 0
AllAllowed supply es = AllByRecursion (λ (e : Entry). Allowed supply e.account e.bids) es
