use Rattle.accounts.proofs.Truths.{true_message_is_best}
use Rattle.accounts.proofs.theorems.true_message_is_best_stands.Goals as goal

pub returns : goal.returns
returns c = true_message_is_best
