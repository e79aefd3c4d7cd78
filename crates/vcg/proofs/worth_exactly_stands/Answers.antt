use Rattle.vcg.proofs.Alternatives.{worth_exactly}
use Rattle.vcg.proofs.worth_exactly_stands.Goals as goal

pub returns : goal.returns
returns c = worth_exactly
