use Rattle.std.proofs.Common.{◌≡◌, ◌-◌, false, ltb, length, set, Some, sym, ap, ◌∙◌, arith}
use borrow.Rule.Slice.PartMut.{put_mid}
use Rattle.std.specs.List.{flat_map}
use Rattle.std.proofs.lemmas.Bool.{le-ltb, cond-false}
use Rattle.std.proofs.lemmas.Grind.{common_steps}
use Rattle.sheets.specs.Sheets.{bids_of, submission_of}
use Rattle.sheets.specs.Writing.{line_bytes, u32_bytes, message_bytes}
use Rattle.sheets.proofs.Over.{all_over, count_lines, few_lines, rows_bids}
use Rattle.sheets.proofs.writer.write.Goals as goal

pub overflow_cast-out : goal.overflow_cast-out
overflow_cast-out c = omega (arith, few_lines c.args.message.now.sheet c.lines-lines.result.now c.lines-lines.ensures)

pub put_lines-requires : goal.put_lines-requires
put_lines-requires c = grind (arith, common_steps, c.size_of-size.ensures, c.copy_from_slice.ensures.len, ap length (rows_bids c.args.message.now.sheet c.lines-lines.result.now c.lines-lines.ensures))

pub returns : goal.returns
returns c =
    let m = c.args.message.now in
    let xs = c.args.out.now in
    let ls = c.lines-lines.result.now in
    let js = flat_map line_bytes (bids_of m.sheet) in
    let bs = message_bytes (submission_of m) in
    let size = c.size_of-size.result in
    let room : ltb (length xs) (length bs) ≡ false = le-ltb (length xs) (length bs) (omega arith) in
    let number : c.copy_from_slice.new.self ≡ u32_bytes m.number = c.copy_from_slice.ensures.after ∙ c.to_le_bytes.ensures in
    let rows : c.put_lines.new.rows ≡ js = c.put_lines.ensures ∙ rows_bids m.sheet ls c.lines-lines.ensures in
    let count = count_lines m.sheet ls c.lines-lines.ensures in
    record {
      value = ap (λ n. Some n) c.size_of-size.ensures ∙ sym (cond-false _ _ _ room);
      after =
          (λ t. put_mid 6 (size - 6) (set (put_mid 1 4 (set xs 0 m.farm) (number t)) 5 (count t)) (rows t))
          ∙ all_over m.farm m.number (length (bids_of m.sheet)) js xs size c.size_of-size.ensures (omega arith)
          ∙ sym (cond-false _ _ _ room);
    }
