use Rattle.std.proofs.Common.{◌≡◌, ◌+◌, ◌≤◌, ◌++◌, length, take, drop}
use Rattle.sale.specs.States.{state_of, after, replies}
use Rattle.session.specs.Frames.{messages}
use Rattle.session.specs.Session.{messages_in}
use Rattle.session.proofs.running.post_all.Given as goal

abbrev pub invariant-loop-k : goal.invariant-loop-k
invariant-loop-k l =
    let h = state_of l.initial.sale in
    let k = l.k-iterator.count in
    let rest = messages l.k-iterator.iter.0.now in
    (k + length rest ≤ length l.row)
    × (after (state_of l.sale) rest ≡ after h (messages_in l.file))
    × (take k l.row ++ (replies (state_of l.sale) rest ++ drop (k + length rest) l.row) ≡ replies h (messages_in l.file) ++ drop (length (messages_in l.file)) l.initial.row)
