use Rattle.bundle.proofs.Bundles.{places_met_once}
use Rattle.bundle.proofs.theorems.places_met_once_stands.Goals as goal

pub returns : goal.returns
returns c = places_met_once
