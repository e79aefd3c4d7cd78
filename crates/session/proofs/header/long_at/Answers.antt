use Rattle.std.proofs.Common.{◌≡◌, ◌+◌, take, drop, ap, ◌∙◌, arith}
use Rattle.std.proofs.lemmas.List.{take_rest}
use Rattle.sheets.specs.Reading.{u32_at}
use Rattle.session.proofs.Rows.{number_at}
use Rattle.session.proofs.header.long_at.Goals as goal

pub returns : goal.returns
returns c =
    let bs = c.args.file.now in
    let p = c.args.at in
    let bytes = c.unwrap.result.now in
    let chunk = rw c.unwrap.ensures at c.first_chunk.ensures.cases in
    let same : bytes ≡ take 8 (drop p bs) = chunk.same ∙ ap (take 8) (take_rest bs p) in
    let low : u32_at bytes 0 ≡ u32_at bs p = ap (λ l. u32_at l 0) same ∙ number_at bs p 8 0 p (omega arith) (omega arith) in
    let high : u32_at bytes 4 ≡ u32_at bs (p + 4) = ap (λ l. u32_at l 4) same ∙ number_at bs p 8 4 (p + 4) (omega arith) (omega arith) in
    omega (arith, c.from_le_bytes.ensures, low, high)
