use Rattle.std.proofs.Common.{◌≡◌, map, take}
use Rattle.session.specs.Session.{account_in}
use Rattle.session.proofs.header.read_accounts.Given as goal

abbrev pub invariant-loop-part : goal.invariant-loop-part
invariant-loop-part l = l.accounts.items ≡ map account_in (take l.part-index l.parts)
