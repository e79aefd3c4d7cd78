use Rattle.std.proofs.Common.{length, drop, inl, ap, arith}
use Rattle.std.proofs.lemmas.List.{length-drop}
use Rattle.session.specs.Session.{opening_size}
use Rattle.session.proofs.Framing.{length-messages}
use Rattle.session.proofs.running.message_count.Goals as goal

pub count-requires-clause-fits : goal.count-requires-clause-fits
count-requires-clause-fits c =
    let bs = c.args.file.now in
    inl (omega (arith, ap length c.of.ensures, length-messages (drop (opening_size bs) bs), length-drop (opening_size bs) bs))
