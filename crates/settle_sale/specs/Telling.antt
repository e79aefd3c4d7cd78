-- What is told of a file. Assumes nothing: this is a definition.
use Rattle.std.specs.Prelude.{◌≡◌, ℕ, List, string_bytes}
use Rattle.accounts.specs.Closing.{Rows}
use Rattle.report.specs.Printing.{printed, closes}
use Rattle.settle_sale.specs.declared.telling.Told.{Told}

-- the text for its bytes, and whether the sale is closed, where these rows are lent
pub record Tells (rows : Rows) (bs : List ℕ) (t : Told) : Type 0 where
  pub text : string_bytes t.text ≡ printed rows bs
  pub closed : t.closed ≡ closes rows bs
