-- The number and the place of each refusal of a message. Assumes nothing: these are definitions.
use Rattle.std.specs.Prelude.{ℕ}
use Rattle.sheets.specs.declared.refusals.MessageRefusal.{MessageRefusal}
use Rattle.sheets.specs.declared.refusals.MessageRefusal.TheVariants.{Short, NoFarm, OldNumber, ManyLines, WrongLength, WorthAboveAccount, UnitsAboveSupply}

abbrev pub message_number : MessageRefusal → ℕ
message_number (Short p) = 2
message_number (NoFarm p) = 3
message_number (OldNumber p) = 4
message_number (ManyLines p) = 5
message_number (WrongLength p) = 6
message_number (WorthAboveAccount p) = 7
message_number (UnitsAboveSupply p) = 8

abbrev pub message_place : MessageRefusal → ℕ
message_place (Short p) = p
message_place (NoFarm p) = p
message_place (OldNumber p) = p
message_place (ManyLines p) = p
message_place (WrongLength p) = p
message_place (WorthAboveAccount p) = p
message_place (UnitsAboveSupply p) = p
