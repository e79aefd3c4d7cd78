-- The lines of farms that are left to write. Assumes nothing.
use Rattle.std.proofs.Common.{◌≡◌, ℕ, ◌+◌, min, List, [], ◌∷◌, ◌++◌, length, refl, arith}
use Rattle.report.specs.Lines.{farm_line, farm_lines}

-- none where one of the rows has come to its end
pub farms_none : (k : ℕ) (award charges accounts : List ℕ) → min (min (length award) (length charges)) (length accounts) ≡ 0 → farm_lines k award charges accounts ≡ []
farms_none k [] charges accounts h = refl
farms_none k (l ∷ award) [] accounts h = refl
farms_none k (l ∷ award) (p ∷ charges) [] h = refl
farms_none k (l ∷ award) (p ∷ charges) (a ∷ accounts) h = absurd (omega arith)

-- the next farm, and those that follow it
pub farms_more : (i j k l p a : ℕ) (award charges accounts ls ps hs : List ℕ) → award ≡ l ∷ ls → charges ≡ p ∷ ps → accounts ≡ a ∷ hs → i ≡ k → j ≡ k + 1 →
    farm_lines k award charges accounts ≡ farm_line i l p a ++ farm_lines j ls ps hs
farms_more i j k l p a award charges accounts ls ps hs e f g h n = rw (e, f, g, h, n) refl
