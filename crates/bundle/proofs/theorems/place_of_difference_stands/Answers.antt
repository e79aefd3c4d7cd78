use Rattle.bundle.proofs.Bundles.{place-less}
use Rattle.bundle.proofs.theorems.place_of_difference_stands.Goals as goal

pub returns : goal.returns
returns c = place-less
