use Rattle.std.proofs.Common.{◌≤◌, ◌/◌, length, drop, length-drop, arith}
use Rattle.std.proofs.Math.Nat.{le-div_iff_mul-le}
use Rattle.std.proofs.lemmas.List.{take_rest}
use Rattle.session.proofs.Rows.{parts_front}
use Rattle.session.proofs.header.parts.Goals as goal

pub returns-clause-value : goal.returns-clause-value
returns-clause-value g c =
    let bs = c.args.file.now in
    let rest = drop c.args.from bs in
    let enough : c.args.count ≤ length rest / g.row.N = (le-div_iff_mul-le c.requires.some).1 (omega (arith, c.requires.within, length-drop c.args.from bs)) in
    rw (c.as_chunks.ensures.front, take_rest bs c.args.from, c.from.ensures) (parts_front g.row.N c.args.count (length rest / g.row.N) rest enough)
