-- Units and lines read one after the other. Assumes nothing.
use Rattle.std.proofs.Common.{◌≡◌, ℕ, zero, suc, ◌+◌, ◌-◌, ◌*◌, ◌<◌, ◌≤◌, cond, leb, ltb, List, [], ◌∷◌, ◌++◌, length, get_or, take, drop, Some, None, Ok, Err, Option, Result, ◌==◌, sym, refl, ap, ◌∙◌, ◌/◌, Bool, true, false, add-mul, one-mul, div-lt_iff_lt-mul, mul-div_cancel, ⊎_elim, arith}
use Rattle.std.specs.Bool.{then_some}
use Rattle.std.specs.List.{zip, position, position_from}
use Rattle.std.specs.Option.{option_map, unwrap_or}
use Rattle.std.proofs.lemmas.Iterator.Adapters.{position_from-zero}
use Rattle.std.proofs.lemmas.List.Quantifiers.{position-Some}
use Rattle.std.proofs.lemmas.Slice.Zip.{length-zip}
use Rattle.std.proofs.lemmas.List.{length-append, length-drop, drop-drop, drop_at, take_all}
use Rattle.std.proofs.lemmas.Grind.{common_steps}
use Rattle.std.proofs.lemmas.Bool.Decides.{nat_tests}
use Rattle.std.proofs.lemmas.Bool.{cases_lt}
use Rattle.bundle.specs.Bids.{Bid, Bids}
use Rattle.bundle.specs.Checks.{and_then}
use Rattle.bundle.proofs.Checks.{then_ok}
use Rattle.sheets.specs.declared.refusals.MessageRefusal.{MessageRefusal}
use Rattle.sheets.specs.declared.refusals.MessageRefusal.TheVariants.{WorthAboveAccount, UnitsAboveSupply}
use Rattle.sheets.specs.Reading.{u32_at, sender_in, number_in, count_in, units_in, line_in, lines_in, sheet_in, read_message, placed}

-- what is read after xs
abbrev pub behind : {A : Type 0} → List A → Result (List A) MessageRefusal → Result (List A) MessageRefusal
behind xs r = and_then r (λ ys. Ok (xs ++ ys))

behind_push : {A : Type 0} (xs : List A) (x : A) (r : Result (List A) MessageRefusal) → behind (xs ++ x ∷ []) r ≡ behind xs (and_then r (λ ys. Ok (x ∷ ys)))
behind_push xs x (Ok ys) = grind (arith, common_steps)
behind_push xs x (Err e) = refl

pub get_or_placed : (p j : ℕ) (bs : List ℕ) → get_or (placed p bs) (p + j) 0 ≡ get_or bs j 0
get_or_placed p j bs = grind (arith, common_steps)

-- a part of what is placed stands where it stood
get_or_part : (p a k : ℕ) (xs : List ℕ) → p + a ≤ k → get_or (placed (p + a) (drop a xs)) k 0 ≡ get_or (placed p xs) k 0
get_or_part p a k xs h = grind (arith, common_steps)

-- the units cs, or that of lot k there are too many
abbrev pub units_but : List ℕ → Option ℕ → Result (List ℕ) MessageRefusal
units_but cs None = Ok cs
units_but cs (Some k) = Err (UnitsAboveSupply k)

-- a count is above what there is
abbrev pub above : ℕ × ℕ → Bool
above q = ltb q.1 q.0

pub above_within : (cs ms : List ℕ) (k : ℕ) → Some k ≡ position above (zip cs ms) → k < length cs
above_within cs ms k e = let none : ℕ × ℕ = (0, 0) in omega (arith, (position-Some above (zip cs ms) k none (sym e)).0, length-zip cs ms)

-- by recursion: `units_in` goes over the supply, and each step is needed itself
units_from : (ss cs bs : List ℕ) (p : ℕ) → length cs ≡ length ss → ((j : ℕ) → get_or bs (p + j) 0 ≡ get_or cs j 0) →
    units_in ss bs p ≡ units_but cs (position_from above p (zip cs ss))
unfolding units_in
units_from [] [] bs p l e = refl
units_from [] (c ∷ cs) bs p l e = absurd (omega arith)
units_from (s ∷ ss) [] bs p l e = absurd (omega arith)
units_from (s ∷ ss) (c ∷ cs) bs p l e =
    let first : p ≡ p + 0 = omega arith in
    let here : get_or bs p 0 ≡ c = ap (λ k. get_or bs k 0) first ∙ e 0 in
    let more = units_from ss cs bs (p + 1) (omega arith) (λ j. let next : p + 1 + j ≡ p + suc j = omega arith in ap (λ k. get_or bs k 0) next ∙ e (suc j)) in
    (λ t. cond (ltb s (here t)) (Err (UnitsAboveSupply p)) (and_then (more t) (λ us. Ok (here t ∷ us))))
    ∙ step (ltb s c) (position_from above (p + 1) (zip cs ss))
  where
    step : (b : Bool) (o : Option ℕ) → cond b (Err (UnitsAboveSupply p)) (and_then (units_but cs o) (λ us. Ok (c ∷ us))) ≡ units_but (c ∷ cs) (cond b (Some p) o)
    step true o = refl
    step false None = refl
    step false (Some k) = refl

position_shift : {X : Type 0} (t : X → Bool) (i j : ℕ) (xs : List X) → position_from t (i + j) xs ≡ option_map (λ k. i + k) (position_from t j xs)
position_shift t i j [] = refl
position_shift t i j (x ∷ xs) = go (t x) (let next : i + j + 1 ≡ i + (j + 1) = omega arith in ap (λ k. position_from t k xs) next ∙ position_shift t i (j + 1) xs)
  where
    go : (b : Bool) → position_from t (i + j + 1) xs ≡ option_map (λ k. i + k) (position_from t (j + 1) xs) →
        cond b (Some (i + j)) (position_from t (i + j + 1) xs) ≡ option_map (λ k. i + k) (cond b (Some j) (position_from t (j + 1) xs))
    go true e = refl
    go false e = e

-- the units of all lots, by the first of which there are too many
pub units_read : (ss ms cs : List ℕ) (p : ℕ) (o : Option ℕ) → length cs ≡ length ss → ms ≡ ss → o ≡ position above (zip cs ms) →
    units_in ss (placed p cs) p ≡ units_but cs (option_map (λ k. p + k) o)
units_read ss ms cs p o l same e =
    let first : p ≡ p + 0 = omega arith in
    units_from ss cs (placed p cs) p l (λ j. get_or_placed p j cs)
    ∙ ap (λ k. units_but cs (position_from above k (zip cs ss))) first
    ∙ ap (units_but cs) (position_shift above p 0 (zip cs ss) ∙ ap (option_map (λ k. p + k)) (sym (position_from-zero above (zip cs ss)) ∙ ap (λ l. position above (zip cs l)) (sym same) ∙ sym e))

-- the units of all lots, where the first w of them are within what there is
pub units_within : (ss ms cs : List ℕ) (p w : ℕ) (o : Option ℕ) → length cs ≡ length ss → ms ≡ ss → o ≡ position above (zip cs ms) → w ≡ unwrap_or o (length cs) →
    (w ≤ length cs) × (units_in ss (placed p cs) p ≡ cond (w == length cs) (Ok cs) (Err (UnitsAboveSupply (p + w))))
units_within ss ms cs p w None l same o e = let read = units_read ss ms cs p None l same o in (omega (arith, e), grind (arith, nat_tests, common_steps, read, e))
units_within ss ms cs p w (Some k) l same o e =
    let read = units_read ss ms cs p (Some k) l same o in
    let below = above_within cs ms k o in
    (omega (arith, e, below), grind (arith, nat_tests, common_steps, read, e, below))

-- the same bytes from p on, n of them
abbrev pub SameBytes : ℕ → ℕ → List ℕ → List ℕ → Type 0
SameBytes p n bs cs = (k : ℕ) → p ≤ k → k < p + n → get_or bs k 0 ≡ get_or cs k 0

-- by recursion, as `units_from`, and not by it: here neither side is a list of counts
pub units_same : (ss bs cs : List ℕ) (p : ℕ) → SameBytes p (length ss) bs cs → units_in ss bs p ≡ units_in ss cs p
unfolding units_in
units_same [] bs cs p h = refl
units_same (s ∷ ss) bs cs p h =
    let here : get_or bs p 0 ≡ get_or cs p 0 = h p (omega arith) (omega arith) in
    let more = units_same ss bs cs (p + 1) (λ k a b. h k (omega arith) (omega arith)) in
    λ t. cond (ltb s (here t)) (Err (UnitsAboveSupply p)) (and_then (more t) (λ us. Ok (here t ∷ us)))

pub line_same : (ss : List ℕ) (account : ℕ) (bs cs : List ℕ) (p : ℕ) → SameBytes p (4 + length ss) bs cs → line_in ss account bs p ≡ line_in ss account cs p
line_same ss account bs cs p h =
    let a : get_or bs p 0 ≡ get_or cs p 0 = h p (omega arith) (omega arith) in
    let b : get_or bs (p + 1) 0 ≡ get_or cs (p + 1) 0 = h (p + 1) (omega arith) (omega arith) in
    let d : get_or bs (p + 2) 0 ≡ get_or cs (p + 2) 0 = h (p + 2) (omega arith) (omega arith) in
    let e : get_or bs (p + 3) 0 ≡ get_or cs (p + 3) 0 = h (p + 3) (omega arith) (omega arith) in
    let is : u32_at bs p ≡ u32_at cs p = λ t. a t + b t * 256 + d t * 65536 + e t * 16777216 in
    let more = units_same ss bs cs (p + 4) (λ k f g. h k (omega arith) (omega arith)) in
    λ t. and_then (cond (ltb account (is t)) (Err (WorthAboveAccount p)) (Ok (is t))) (λ worth. and_then (more t) (λ units. Ok (record { want = units; value = worth })))

-- a line's row, cut into its first four bytes, which make w, and the others
module _ (ss : List ℕ) (account : ℕ) (row front counts : List ℕ) (p w : ℕ) (first : front ≡ take 4 row) (others : counts ≡ drop 4 row) (is : w ≡ u32_at front 0) where
  worth_placed : u32_at (placed p row) p ≡ w
  worth_placed = grind (arith, common_steps, get_or_placed)

  units_placed : units_in ss (placed (p + 4) counts) (p + 4) ≡ units_in ss (placed p row) (p + 4)
  units_placed =
      units_same ss (placed (p + 4) counts) (placed p row) (p + 4) (λ k h g. ap (λ l. get_or (placed (p + 4) l) k 0) others ∙ get_or_part p 4 k row h)

pub line_go : (ss : List ℕ) (account p : ℕ) (row : List ℕ) {front counts : List ℕ} {w m : ℕ} {r : Result (List ℕ) MessageRefusal} → (front ≡ take 4 row) × (counts ≡ drop 4 row) → w ≡ u32_at front 0 →
    Some m ≡ then_some (leb w account) w → r ≡ units_in ss (placed (p + 4) counts) (p + 4) → and_then r (λ units. Ok (record { want = units; value = m })) ≡ line_in ss account (placed p row) p
line_go ss account p row {front = front} {counts = counts} {w = w} cut is g h =
    grind (arith, nat_tests, worth_placed ss account row front counts p w cut.0 cut.1 is, units_placed ss account row front counts p w cut.0 cut.1 is, g, h)

-- k of n lines are read, the next stands at p
module _ (supply : List ℕ) (account : ℕ) (bs : List ℕ) (xs : Bids) (p k n : ℕ) where
  lines_more : k < n →
      lines_in supply account bs p (n - k)
      ≡ and_then (line_in supply account bs p) (λ l. and_then (lines_in supply account bs (p + (4 + length supply)) (n - (k + 1))) (λ ls. Ok (l ∷ ls)))
  unfolding lines_in
  lines_more h = let e : n - k ≡ suc (n - (k + 1)) = omega arith in grind (arith, e)

  pub lines_stop : (e : MessageRefusal) → k < n → Err e ≡ line_in supply account bs p → behind xs (lines_in supply account bs p (n - k)) ≡ Err e
  lines_stop e h g = grind (arith, lines_more, g)

  pub lines_go : (l : Bid) → k < n → Ok l ≡ line_in supply account bs p →
      behind (xs ++ l ∷ []) (lines_in supply account bs (p + (4 + length supply)) (n - (k + 1))) ≡ behind xs (lines_in supply account bs p (n - k))
  lines_go l h g = grind (arith, common_steps, lines_more, behind_push, g)

  pub lines_end : n ≤ k → behind xs (lines_in supply account bs p (n - k)) ≡ Ok xs
  unfolding lines_in
  lines_end h = let e : n - k ≡ 0 = omega arith in grind (arith, common_steps, e)

pub lines_same : (ss : List ℕ) (account : ℕ) (bs cs : List ℕ) (p n : ℕ) → ((k : ℕ) → p ≤ k → get_or bs k 0 ≡ get_or cs k 0) → lines_in ss account bs p n ≡ lines_in ss account cs p n
unfolding lines_in
lines_same ss account bs cs p zero h = refl
lines_same ss account bs cs p (suc n) h =
    let here = line_same ss account bs cs p (λ k f g. h k f) in
    let more = lines_same ss account bs cs (p + (4 + length ss)) n (λ k f. h k (omega arith)) in
    λ t. and_then (here t) (λ l. and_then (more t) (λ ls. Ok (l ∷ ls)))

-- rows of w bytes: row k and the rest are what stands there
module _ (ss : List ℕ) (account : ℕ) (rows row rest : List ℕ) (k w : ℕ) (each : w ≡ 4 + length ss) (cut : drop (k * w) rows ≡ row ++ rest) (whole : length row ≡ w) where
  next_row : k * w + w ≡ (k + 1) * w
  next_row = omega (arith, add-mul k 1 w, one-mul w)

  row_within : k < length rows / w
  row_within =
      ⊎_elim
      (λ h. h)
      (λ h.
      let some : 0 < w = omega arith in
      let past : length rows / w < k + 1 = omega arith in
      absurd (omega (arith, (div-lt_iff_lt-mul some).0 past, next_row, length-drop (k * w) rows, length-append row rest, ap length cut)))
      (cases_lt k (length rows / w))

  rest_cut : drop ((k + 1) * w) rows ≡ rest
  rest_cut = ap (λ p. drop p rows) (sym next_row) ∙ sym (drop-drop w (k * w) rows) ∙ ap (drop w) cut ∙ drop_at row rest w whole

  line_there : line_in ss account (placed (6 + k * w) row) (6 + k * w) ≡ line_in ss account (placed 6 rows) (6 + k * w)
  line_there =
      let p = 6 + k * w in
      line_same ss account (placed p row) (placed 6 rows) p (λ i h g.
      let here : get_or (placed p row) i 0 ≡ get_or (placed p (row ++ rest)) i 0 = grind (arith, common_steps) in
      here ∙ ap (λ l. get_or (placed p l) i 0) (sym cut) ∙ get_or_part 6 (k * w) i rows h)

  pub row_here : (k < length rows / w) × (drop ((k + 1) * w) rows ≡ rest)
  row_here = (row_within, rest_cut)

  pub row_stop : (xs : Bids) (e : MessageRefusal) → Err e ≡ line_in ss account (placed (6 + k * w) row) (6 + k * w) →
      behind xs (lines_in ss account (placed 6 rows) (6 + k * w) (length rows / w - k)) ≡ Err e
  row_stop xs e g = lines_stop ss account (placed 6 rows) xs (6 + k * w) k (length rows / w) e row_within (g ∙ line_there)

  pub row_go : (xs : Bids) (l : Bid) → Ok l ≡ line_in ss account (placed (6 + k * w) row) (6 + k * w) →
      behind (xs ++ l ∷ []) (lines_in ss account (placed 6 rows) (6 + (k + 1) * w) (length rows / w - (k + 1))) ≡ behind xs (lines_in ss account (placed 6 rows) (6 + k * w) (length rows / w - k))
  row_go xs l g =
      let next : 6 + (k + 1) * w ≡ 6 + k * w + (4 + length ss) = omega (arith, next_row) in
      ap (λ p. behind (xs ++ l ∷ []) (lines_in ss account (placed 6 rows) p (length rows / w - (k + 1)))) next
      ∙ lines_go ss account (placed 6 rows) xs (6 + k * w) k (length rows / w) l row_within (g ∙ line_there)

-- where no row is left, all are read
pub rows_end : (rows rest : List ℕ) (k w : ℕ) → 0 < w → drop (k * w) rows ≡ rest → length rest < w → length rows / w ≤ k
rows_end rows rest k w some cut short =
    let below : length rows < (k + 1) * w = omega (arith, add-mul k 1 w, one-mul w, length-drop (k * w) rows, ap length cut) in
    omega (arith, (div-lt_iff_lt-mul some).1 below)

-- the lines of a message are those of the rows behind its first six bytes
pub rows_in : (ss : List ℕ) (account : ℕ) (bs : List ℕ) (n w : ℕ) → w ≡ 4 + length ss → length bs ≡ 6 + n * w →
    lines_in ss account (placed 6 (take (length bs - 6) (drop 6 bs))) 6 (length (take (length bs - 6) (drop 6 bs)) / w) ≡ lines_in ss account bs 6 n
rows_in ss account bs n w each long =
    let rows = drop 6 bs in
    let whole : take (length bs - 6) rows ≡ rows = take_all (length bs - 6) rows (omega (arith, length-drop 6 bs)) in
    let some : 0 < w = omega arith in
    let count : length rows ≡ n * w = omega (arith, length-drop 6 bs) in
    let many : length rows / w ≡ n = ap (λ k. k / w) count ∙ mul-div_cancel n some in
    ap (λ l. lines_in ss account (placed 6 l) 6 (length l / w)) whole
    ∙ ap (lines_in ss account (placed 6 rows) 6) many
    ∙ lines_same ss account (placed 6 rows) bs 6 n (λ k h. get_or_part 0 6 k bs h)

-- the checks that a message passed before its lines, with what they found
pub record Passed (supply accounts numbers bs : List ℕ) (account number n w : ℕ) : Type 0 where
  pub long : 6 ≤ length bs
  pub known : get_or bs 0 0 < length accounts
  pub has : account ≡ get_or accounts (get_or bs 0 0) 0
  pub above : get_or numbers (get_or bs 0 0) 0 < number
  pub is : number ≡ u32_at bs 1
  pub few : n ≤ 32
  pub count : n ≡ get_or bs 5 0
  pub each : w ≡ 4 + length supply
  pub whole : length bs ≡ 6 + n * w

-- what is left of the message is its lines
pub message_read : {supply accounts numbers bs : List ℕ} {account number n w : ℕ} (r : Result Bids MessageRefusal) → Passed supply accounts numbers bs account number n w →
    r ≡ lines_in supply account (placed 6 (take (length bs - 6) (drop 6 bs))) 6 (length (take (length bs - 6) (drop 6 bs)) / w) →
    and_then r (λ bids. Ok (record { farm = get_or bs 0 0; number = number; bids = bids })) ≡ read_message supply accounts numbers bs
message_read {supply = supply} {accounts = accounts} {numbers = numbers} {bs = bs} {account = account} {number = number} {n = n} {w = w} r p e =
    let farm = get_or bs 0 0 in
    let m = length supply in
    let size : w ≡ 4 + m = p.each in
    let whole : length bs ≡ 6 + n * (4 + m) = (rw size at p.whole) in
    let sent : sender_in (length accounts) bs ≡ Ok farm = grind (arith, nat_tests, p.long, p.known) in
    let numbered : number_in (get_or numbers farm 0) bs ≡ Ok number = grind (arith, nat_tests, p.above, p.is) in
    let counted : count_in m bs ≡ Ok n = grind (arith, nat_tests, p.few, p.count) in
    let lined : r ≡ lines_in supply (get_or accounts farm 0) bs 6 n = e ∙ rows_in supply account bs n w p.each p.whole ∙ ap (λ a. lines_in supply a bs 6 n) p.has in
    let sheet : sheet_in supply (get_or accounts farm 0) bs ≡ r = then_ok _ _ n counted ∙ sym lined in
    sym (grind (arith, sent, numbered, sheet))
