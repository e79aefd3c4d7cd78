use Rattle.session.proofs.Filing.{file_back}
use Rattle.session.proofs.theorems.file_back_stands.Goals as goal

pub returns : goal.returns
returns c = file_back
