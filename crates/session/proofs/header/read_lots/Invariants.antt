use Rattle.std.proofs.Common.{◌≡◌, map, take}
use Rattle.session.specs.Session.{lot_in}
use Rattle.session.proofs.header.read_lots.Given as goal

abbrev pub invariant-loop-part : goal.invariant-loop-part
invariant-loop-part l = l.lots.items ≡ map lot_in (take l.part-index l.parts)
