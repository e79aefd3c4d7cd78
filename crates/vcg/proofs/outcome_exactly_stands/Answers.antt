use Rattle.vcg.proofs.Outcomes.{outcome_exactly}
use Rattle.vcg.proofs.outcome_exactly_stands.Goals as goal

pub returns : goal.returns
returns c = outcome_exactly
