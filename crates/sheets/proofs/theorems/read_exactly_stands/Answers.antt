use Rattle.sheets.proofs.Readings.{read_exactly}
use Rattle.sheets.proofs.theorems.read_exactly_stands.Goals as goal

pub returns : goal.returns
returns c = read_exactly
