use Rattle.std.proofs.Common.{◌-◌, length, take, drop, ◌∙◌, arith, refl}
use Rattle.std.proofs.lemmas.List.{take_rest}
use Rattle.session.proofs.Framing.{messages_none, messages_cut, messages_next}
use Rattle.session.proofs.frames.split_message.Goals as goal

pub returns-in-empty : goal.returns-in-empty
returns-in-empty c = messages_none c.args.bytes.now (omega arith)

pub returns-in-len1 : goal.returns-in-len1
returns-in-len1 c = messages_cut c.args.bytes.now (omega arith) (omega arith)

pub returns-in-len2-up : goal.returns-in-len2-up
returns-in-len2-up c =
    let bs = c.args.bytes.now in
    messages_next bs (take (length bs - 2) (drop 2 bs)) c.min.result (omega arith) (take_rest bs 2) (omega (arith, c.min.ensures, c.from_le_bytes.ensures, c.from-length.ensures))
    ∙ rw (← c.split_at.ensures.front, ← c.split_at.ensures.back) refl
