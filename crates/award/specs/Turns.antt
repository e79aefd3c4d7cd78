-- What a farm's turn is about. Assumes nothing: these are definitions.
use Rattle.std.specs.Prelude.{ℕ, List}
use Rattle.bundle.specs.Stocks.{supply_of}
use Rattle.award.specs.declared.turns.Turn.{Turn}
use Rattle.table.specs.Tables.{entry}

-- the most that the farms after it and the reserve make of a bundle
abbrev pub rest_of : Turn → List ℕ → ℕ
rest_of t = entry (supply_of t.supply.now) t.below.now
