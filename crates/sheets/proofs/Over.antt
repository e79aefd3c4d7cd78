-- Bytes written over others, part behind part. Assumes nothing.
use Rattle.std.proofs.Common.{◌≡◌, ℕ, ◌+◌, ◌-◌, ◌*◌, ◌≤◌, List, [], ◌∷◌, ◌++◌, map, length, get_or, take, drop, set, refl, sym, ap, ◌∙◌, arith}
use borrow.Rule.Slice.PartMut.{put_mid}
use Rattle.std.specs.List.{flat_map, sum_by}
use Rattle.std.proofs.lemmas.List.{drop-drop, length-map, length-take-le}
use Rattle.std.proofs.lemmas.Grind.{common_steps}
use Rattle.std.proofs.lemmas.List.Concat.{length-flat_map}
use Rattle.std.proofs.lemmas.List.Folds.{flat_map-map}
use Rattle.std.proofs.lemmas.List.Sums.{sum_by-le}
use Rattle.bundle.specs.Bundles.{units_of}
use Rattle.bundle.specs.declared.units.Bundle.{Bundle}
use Rattle.bundle.proofs.Padding.{length_units}
use Rattle.sheets.specs.declared.parts.Line.{Line}
use Rattle.sheets.specs.declared.parts.Sheet.{Sheet}
use Rattle.sheets.specs.Sheets.{bid_of, bids_of}
use Rattle.sheets.specs.Writing.{line_bytes, over, u32_bytes}

-- xs is written, and ys straight behind it
pub put_next : (xs ys zs : List ℕ) (a k : ℕ) → length xs ≡ a → put_mid a k (xs ++ zs) ys ≡ (xs ++ ys) ++ drop k zs
put_next xs ys zs a k h = grind (arith, common_steps)

-- the bytes of a line
abbrev pub row_bytes : Line → List ℕ
row_bytes l = line_bytes (bid_of l)

-- a line has few units, and 32 lines have few bytes
pub few_units : (b : Bundle) → length (units_of b) ≤ 12
few_units b = omega (arith, length_units b, b.few)

abbrev pub row_size : Line → ℕ
row_size l = 4 + length (units_of l.units)

pub length_rows : (ls : List Line) → length (flat_map row_bytes ls) ≡ sum_by row_size ls
length_rows ls =
    let each : (l : Line) → length (row_bytes l) ≡ row_size l = λ l. omega arith in
    length-flat_map row_bytes ls ∙ (λ t. sum_by (λ l. each l t) ls)

few_bytes : (ls : List Line) → sum_by row_size ls ≤ length ls * 16
few_bytes ls = sum_by-le row_size 16 ls (λ k d h. omega (arith, few_units (get_or ls k d).units))

-- a sheet has as many bids as it counts
pub bid_count : (s : Sheet) → length (bids_of s) ≡ s.count
unfolding bids_of
bid_count s = length-map (take s.count s.lines) bid_of ∙ length-take-le s.count s.lines (omega (arith, s.long, s.few))

-- what a sheet's lines say of it
module _ (s : Sheet) (ls : List Line) (e : map bid_of ls ≡ bids_of s) where
  pub count_lines : length ls ≡ length (bids_of s)
  count_lines = sym (length-map ls bid_of) ∙ ap length e

  pub few_lines : length ls ≤ 32
  few_lines = omega (arith, count_lines, bid_count s, s.few)

  pub few_sizes : sum_by row_size ls ≤ 512
  few_sizes = omega (arith, few_bytes ls, few_lines)

  pub rows_bids : flat_map row_bytes ls ≡ flat_map line_bytes (bids_of s)
  rows_bids = sym (flat_map-map line_bytes bid_of ls) ∙ ap (flat_map line_bytes) e

-- a message written part by part
pub head_over : (farm n count : ℕ) (xs : List ℕ) → 6 ≤ length xs →
    set (put_mid 1 4 (set xs 0 farm) (u32_bytes n)) 5 count ≡ (farm ∷ (u32_bytes n ++ (count ∷ []))) ++ drop 6 xs
head_over farm n count xs h = grind (arith, common_steps)

pub all_over : (farm n count : ℕ) (js xs : List ℕ) (size : ℕ) → size ≡ length (farm ∷ (u32_bytes n ++ (count ∷ js))) → 6 ≤ length xs →
    put_mid 6 (size - 6) (set (put_mid 1 4 (set xs 0 farm) (u32_bytes n)) 5 count) js ≡ over 0 (farm ∷ (u32_bytes n ++ (count ∷ js))) xs
all_over farm n count js xs size is h =
    let end : 6 + (size - 6) ≡ 0 + length (farm ∷ (u32_bytes n ++ (count ∷ js))) = omega arith in
    ap (λ l. put_mid 6 (size - 6) l js) (head_over farm n count xs h)
    ∙ put_next (farm ∷ (u32_bytes n ++ (count ∷ []))) js (drop 6 xs) 6 (size - 6) refl
    ∙ ap (λ l. (farm ∷ (u32_bytes n ++ (count ∷ js))) ++ l) (drop-drop (size - 6) 6 xs ∙ ap (λ p. drop p xs) end)
