use Rattle.std.proofs.Common.{◌≡◌, take}
use Rattle.bundle.specs.Units.{less}
use Rattle.accounts.proofs.closing.pay.Given as goal

abbrev pub invariant-loop-farm : goal.invariant-loop-farm
invariant-loop-farm l = l.accounts ≡ less l.initial.accounts (take l.farm l.charges)
