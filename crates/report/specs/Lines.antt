-- The lines that are printed of a sale, in their order. Assumes nothing: these are definitions.
use Rattle.std.specs.Prelude.{ℕ, ◌+◌, List, [], ◌∷◌, ◌++◌, Ok, Err, codes, decimal, Result}
use Rattle.sheets.specs.Numbers.{message_number, message_place}
use Rattle.sheets.specs.declared.refusals.MessageRefusal.{MessageRefusal}
use Rattle.book.specs.Posting.{Reply}
use Rattle.sale.specs.Numbers.{opening_number, opening_place, closing_number, closing_place}
use Rattle.sale.specs.declared.refusals.ClosingRefusal.{ClosingRefusal}
use Rattle.sale.specs.declared.refusals.OpeningRefusal.{OpeningRefusal}

-- the number of a refusal, its place, and the end of the line
abbrev pub refusal : (number place : ℕ) → List ℕ
refusal number place = codes "refused " ++ (decimal number ++ (codes " at " ++ (decimal place ++ codes "\n")))

-- the message with the number k is refused
abbrev pub refused_line : ℕ → MessageRefusal → List ℕ
refused_line k e = codes "message " ++ (decimal k ++ (codes " " ++ refusal (message_number e) (message_place e)))

-- a message that is taken has no line
abbrev pub answer_line : ℕ → Reply → List ℕ
answer_line k (Ok u) = []
answer_line k (Err e) = refused_line k e

-- the messages from k on
abbrev pub refused_lines : ℕ → List Reply → List ℕ
refused_lines k [] = []
refused_lines k (a ∷ rest) = answer_line k a ++ refused_lines (k + 1) rest

-- a farm: the number of the line it got, what it pays, and what its account holds then
abbrev pub farm_line : (farm line pays has : ℕ) → List ℕ
farm_line farm line pays has =
    codes "farm " ++ (decimal farm ++ (codes " line " ++ (decimal line ++ (codes " pays " ++ (decimal pays ++ (codes " has " ++ (decimal has ++ codes "\n")))))))

-- the farms from k on, as many as all three lists have
abbrev pub farm_lines : ℕ → (award charges accounts : List ℕ) → List ℕ
farm_lines k [] charges accounts = []
farm_lines k (l ∷ award) [] accounts = []
farm_lines k (l ∷ award) (p ∷ charges) [] = []
farm_lines k (l ∷ award) (p ∷ charges) (a ∷ accounts) = farm_line k l p a ++ farm_lines (k + 1) award charges accounts

-- a sale that was closed
abbrev pub closed_text : List Reply → (worth : ℕ) → (award charges accounts : List ℕ) → (company : ℕ) → List ℕ
closed_text answers worth award charges accounts company =
    refused_lines 0 answers
    ++ (codes "worth " ++ (decimal worth ++ (codes "\n" ++ (farm_lines 0 award charges accounts ++ (codes "company " ++ (decimal company ++ codes "\n"))))))

-- a refused sale
abbrev pub sale_refused : (number place : ℕ) → List ℕ
sale_refused number place = codes "sale " ++ refusal number place

-- a sale whose closing was refused
abbrev pub not_closed_text : List Reply → ClosingRefusal → List ℕ
not_closed_text answers e = refused_lines 0 answers ++ sale_refused (closing_number e) (closing_place e)

-- a sale that was not opened
abbrev pub not_opened_text : OpeningRefusal → List ℕ
not_opened_text e = sale_refused (opening_number e) (opening_place e)

-- a sale that was opened, by the answer to its close
abbrev pub told_text : Result ℕ ClosingRefusal → List Reply → (award charges accounts : List ℕ) → (company : ℕ) → List ℕ
told_text (Ok worth) answers award charges accounts company = closed_text answers worth award charges accounts company
told_text (Err e) answers award charges accounts company = not_closed_text answers e
