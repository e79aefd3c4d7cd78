-- The number and the place of each refusal of an opening and of a close. Assumes nothing: these are definitions.
use Rattle.std.specs.Prelude.{ℕ}
use Rattle.sale.specs.declared.refusals.ClosingRefusal.{ClosingRefusal}
use Rattle.sale.specs.declared.refusals.ClosingRefusal.TheVariants.{Closed, Row}
use Rattle.sale.specs.declared.refusals.OpeningRefusal.{OpeningRefusal}
use Rattle.sale.specs.declared.refusals.OpeningRefusal.TheVariants.{LotCount, Supply, Price, FarmCount, Account, Company}

abbrev pub opening_number : OpeningRefusal → ℕ
opening_number (LotCount p) = 9
opening_number (Supply p) = 10
opening_number (Price p) = 11
opening_number (FarmCount p) = 12
opening_number (Account p) = 13
opening_number (Company p) = 14

abbrev pub opening_place : OpeningRefusal → ℕ
opening_place (LotCount p) = p
opening_place (Supply p) = p
opening_place (Price p) = p
opening_place (FarmCount p) = p
opening_place (Account p) = p
opening_place (Company p) = p

abbrev pub closing_number : ClosingRefusal → ℕ
closing_number (Closed p) = 1
closing_number (Row p) = 15

abbrev pub closing_place : ClosingRefusal → ℕ
closing_place (Closed p) = p
closing_place (Row p) = p
