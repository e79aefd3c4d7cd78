-- A sale whose table is filled is decided. Assumes nothing.
use Rattle.std.proofs.Common.{◌≡◌, ℕ, Ok, Err, Result, arith}
use Rattle.std.proofs.lemmas.Bool.Decides.{nat_tests}
use Rattle.bundle.specs.Checks.{viewed}
use Rattle.table.specs.Refusals.{marginals_answer}
use Rattle.award.specs.Deciding.{decision}

pub decided : (n b long award charges w : ℕ) → marginals_answer n b long charges ≡ Ok tt → award ≡ n → decision n b long award charges w ≡ Ok w
decided n b long award charges w is same = grind (arith, nat_tests)

-- an answer stands for the one value that it can stand for
pub viewed_is : {A B E : Type 0} (b y : B) (r : Result A E) → viewed (λ _. b) r ≡ Ok y → b ≡ y
viewed_is b y (Ok x) e = cc
viewed_is b y (Err d) e = cc
