-- What a `Bundle` stands for. Assumes nothing: these are definitions.
use Rattle.std.specs.Prelude.{ℕ, List, take}
use Rattle.bundle.specs.declared.units.Bundle.{Bundle}

-- the count of each lot
unfoldable pub units_of : Bundle → List ℕ
units_of b = take b.lots b.counts
