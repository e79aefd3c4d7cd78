-- A submission that is taken is read back from its writing. Assumes nothing.
use Rattle.std.proofs.Common.{◌≡◌, ℕ, suc, ◌+◌, ◌*◌, ◌^◌, ◌<◌, ◌≤◌, List, [], ◌∷◌, ◌++◌, length, get_or, Ok, sym, refl, ◌∙◌, append_assoc, suc-mul, arith}
use Rattle.std.specs.List.{flat_map, All, AllByRecursion}
use Rattle.std.proofs.lemmas.List.{get_or_at, length-append}
use Rattle.std.proofs.lemmas.List.Elements.{All-from_recursion}
use Rattle.std.proofs.lemmas.Nat.{from_le_bytes-to_le_bytes_4}
use Rattle.std.proofs.lemmas.Grind.{common_steps}
use Rattle.std.proofs.lemmas.Bool.Decides.{nat_tests}
use Rattle.bundle.specs.Bids.{Bid, Bids}
use Rattle.bundle.specs.Units.{Within}
use Rattle.sheets.specs.Reading.{Submission, u32_at, sender_in, number_in, count_in, worth_in, units_in, line_in, lines_in, sheet_in, read_message}
use Rattle.sheets.specs.Writing.{u32_bytes, line_bytes, message_bytes}
use Rattle.sheets.specs.Allowed.{Covered, Taken, Plain}
use Rattle.bundle.proofs.Checks.{then_ok}

-- a number is read back behind any bytes and before any bytes
pub u32_at_bytes : (pre rest : List ℕ) (n : ℕ) → n < 2 ^ 32 → u32_at (pre ++ (u32_bytes n ++ rest)) (length pre) ≡ n
u32_at_bytes pre rest n h =
    let bs = pre ++ (u32_bytes n ++ rest) in
    grind (arith, common_steps, from_le_bytes-to_le_bytes_4 n h)

-- units within the supply are read back
pub units_back : (ss pre us rest : List ℕ) → length us ≡ length ss → Within us ss → units_in ss (pre ++ (us ++ rest)) (length pre) ≡ Ok us
unfolding units_in Within
units_back [] pre [] rest long fits = refl
units_back [] pre (u ∷ us) rest long fits = absurd (omega arith)
units_back (s ∷ ss) pre [] rest long fits = absurd (omega arith)
units_back (s ∷ ss) pre (u ∷ us) rest long fits =
    let bs = pre ++ (u ∷ (us ++ rest)) in
    let more = pre ++ (u ∷ []) in
    let at : length pre + 1 ≡ length more = omega (arith, length-append pre (u ∷ [])) in
    let here : get_or bs (length pre) 0 ≡ u = get_or_at pre u (us ++ rest) 0 (length pre) refl in
    let tail : units_in ss bs (length pre + 1) ≡ Ok us =
    (λ i. units_in ss (sym (append_assoc pre (u ∷ []) (us ++ rest)) i) (at i)) ∙ units_back ss more us rest (omega arith) (λ j. fits (suc j)) in
    let low : u ≤ s = fits 0 in
    grind (arith, nat_tests)

-- a covered line is read back
pub line_back : (supply : List ℕ) (account : ℕ) (pre rest : List ℕ) (l : Bid) → Covered supply account l → l.value < 2 ^ 32 → line_in supply account (pre ++ (line_bytes l ++ rest)) (length pre) ≡ Ok l
line_back supply account pre rest l ok small =
    let bs = pre ++ (line_bytes l ++ rest) in
    let worth = l.value in
    let more = pre ++ u32_bytes worth in
    let at : length pre + 4 ≡ length more = omega (arith, length-append pre (u32_bytes worth)) in
    let is : u32_at bs (length pre) ≡ worth = u32_at_bytes pre (l.want ++ rest) worth small in
    let worthy : worth_in account bs (length pre) ≡ Ok worth = grind (arith, nat_tests) in
    let united : units_in supply bs (length pre + 4) ≡ Ok l.want =
    (λ i. units_in supply (sym (append_assoc pre (u32_bytes worth) (l.want ++ rest)) i) (at i)) ∙ units_back supply more l.want rest ok.long ok.fits in
    grind (arith, worthy, united)

-- a line of m lots takes 4 + m bytes
pub length-line : (supply : List ℕ) (account : ℕ) (l : Bid) → Covered supply account l → length (line_bytes l) ≡ 4 + length supply
length-line supply account l ok = omega arith

-- covered lines are read back
pub lines_back : (supply : List ℕ) (account : ℕ) (pre : List ℕ) (ls : Bids) → AllByRecursion (Covered supply account) ls → AllByRecursion (λ (l : Bid). l.value < 2 ^ 32) ls → lines_in supply account (pre ++ flat_map line_bytes ls) (length pre) (length ls) ≡ Ok ls
unfolding lines_in
lines_back supply account pre [] ok small = refl
lines_back supply account pre (l ∷ ls) ok small =
    let m = length supply in
    let rest = flat_map line_bytes ls in
    let bs = pre ++ (line_bytes l ++ rest) in
    let more = pre ++ line_bytes l in
    let at : length pre + (4 + m) ≡ length more = omega (arith, length-append pre (line_bytes l), length-line supply account l ok.0) in
    let here = line_back supply account pre rest l ok.0 small.0 in
    let tail : lines_in supply account bs (length pre + (4 + m)) (length ls) ≡ Ok ls =
    (λ i. lines_in supply account (sym (append_assoc pre (line_bytes l) rest) i) (at i) (length ls)) ∙ lines_back supply account more ls ok.1 small.1 in
    grind (arith, here, tail)

-- items of one size, written one after the other
pub length_items : {A : Type 0} (bytes : A → List ℕ) (size : ℕ) (xs : List A) → All (λ x. length (bytes x) ≡ size) xs → length (flat_map bytes xs) ≡ length xs * size
length_items bytes size [] sized = omega arith
length_items bytes size (x ∷ xs) sized =
    omega (arith, length-append (bytes x) (flat_map bytes xs), sized 0 x (omega arith), length_items bytes size xs (λ k d h. sized (suc k) d (omega arith)), suc-mul (length xs) size)

-- what is taken is read back from its writing
pub read_back : (supply accounts numbers : List ℕ) (s : Submission) → Taken supply accounts numbers s → Plain s → read_message supply accounts numbers (message_bytes s) ≡ Ok s
read_back supply accounts numbers s taken plain =
    let m = length supply in
    let account = get_or accounts s.farm 0 in
    let last = get_or numbers s.farm 0 in
    let bs = message_bytes s in
    let n = length s.bids in
    let covered = taken.allowed.covered in
    let long : length bs ≡ 6 + n * (4 + m) = omega (arith, length_items line_bytes (4 + m) s.bids (λ k d h. length-line supply account (get_or s.bids k d) (All-from_recursion _ s.bids covered k d h))) in
    let sent : sender_in (length accounts) bs ≡ Ok s.farm = grind (arith, nat_tests) in
    let is : u32_at bs 1 ≡ s.number = from_le_bytes-to_le_bytes_4 s.number plain.number in
    let numbered : number_in last bs ≡ Ok s.number = grind (arith, nat_tests) in
    let counted : count_in m bs ≡ Ok n = grind (arith, nat_tests) in
    let lined : lines_in supply account bs 6 n ≡ Ok s.bids =
    lines_back supply account (s.farm ∷ (u32_bytes s.number ++ (n ∷ []))) s.bids covered plain.worths in
    let sheet : sheet_in supply account bs ≡ Ok s.bids = then_ok _ _ n counted ∙ lined in
    grind (arith, sent, numbered, sheet)
