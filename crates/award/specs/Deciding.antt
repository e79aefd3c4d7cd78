-- When a sale is decided, why not, and what its rows then hold. Assumes nothing: these are definitions.
use Rattle.std.specs.Prelude.{ℕ, ◌+◌, ◌*◌, cond, Ok, Err, Result, ◌==◌, nat_lt}
use Rattle.award.specs.declared.refusals.AwardRefusal.{AwardRefusal}
use Rattle.award.specs.declared.refusals.AwardRefusal.TheVariants.{Farms, Table, Award, Charges}
use Rattle.table.specs.declared.refusals.TableRefusal.{TableRefusal}
use Rattle.table.specs.declared.refusals.TableRefusal.TheVariants.{Farms as TableFarms, Table as TableShort, Without}

-- the worth w, for so many farms and bundles, with a table and rows for the award and the charges of these lengths; or the first that is wrong
abbrev pub decision : ℕ → ℕ → ℕ → ℕ → ℕ → ℕ → Result ℕ AwardRefusal
decision farms bundles table award charges w =
    cond (nat_lt 48 farms) (Err Farms)
    (cond (nat_lt table ((farms + 1) * bundles)) (Err Table)
    (cond (award == farms) (cond (charges == farms) (Ok w) (Err Charges)) (Err Award)))

-- why a sale is not decided, where that is why its table is not filled; the worths without each farm are written into the row for the charges
abbrev pub refusal_of : TableRefusal → AwardRefusal
refusal_of TableFarms = Farms
refusal_of TableShort = Table
refusal_of Without = Charges
