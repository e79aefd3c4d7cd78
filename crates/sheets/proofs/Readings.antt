-- What is read is taken, and its writing is what was read. Assumes nothing.
use Rattle.std.proofs.Common.{◌≡◌, ℕ, zero, suc, ◌+◌, ◌*◌, ◌^◌, ◌<◌, ◌≤◌, List, [], ◌∷◌, ◌++◌, length, get_or, drop, Ok, sym, refl, ap, ◌∙◌, subst, suc-mul, zero-mul, arith}
use Rattle.std.specs.List.{flat_map, AllByRecursion}
use Rattle.std.proofs.lemmas.List.{drop_more}
use Rattle.std.proofs.lemmas.Bool.Decides.{nat_tests}
use Rattle.std.proofs.lemmas.Nat.{le_bytes_4}
use Rattle.std.proofs.lemmas.Grind.{common_steps}
use Rattle.bundle.specs.Bids.{Bid, Bids}
use Rattle.bundle.specs.Units.{Within}
use Rattle.bundle.proofs.Bundles.{nil_within}
use Rattle.bundle.specs.Checks.{and_then}
use Rattle.sheets.specs.Reading.{Submission, u32_at, sender_in, number_in, count_in, worth_in, units_in, line_in, lines_in, sheet_in, submission_in, read_message}
use Rattle.sheets.specs.Writing.{u32_bytes, line_bytes, message_bytes}
use Rattle.sheets.specs.Allowed.{Covered, Allowed, Taken, Plain, ReadExactly}
use Rattle.bundle.proofs.Checks.{then_back}
use Rattle.sheets.proofs.Writings.{read_back}

-- Each check that was passed, with what it found.

-- there are six bytes, and the first names a farm
pub sender_read : (f : ℕ) (bs : List ℕ) (a : ℕ) → sender_in f bs ≡ Ok a → (6 ≤ length bs) × (get_or bs 0 0 ≡ a) × (a < f)
sender_read f bs a e = (grind (arith, nat_tests), grind (arith, nat_tests), grind (arith, nat_tests))

-- the number is above the last
pub number_read : (last : ℕ) (bs : List ℕ) (n : ℕ) → number_in last bs ≡ Ok n → (u32_at bs 1 ≡ n) × (last < n)
number_read last bs n e = (grind (arith, nat_tests), grind (arith, nat_tests))

-- at most 32 lines, and as many as the length says
pub count_read : (m : ℕ) (bs : List ℕ) (n : ℕ) → count_in m bs ≡ Ok n → (get_or bs 5 0 ≡ n) × (n ≤ 32) × (length bs ≡ 6 + n * (4 + m))
count_read m bs n e = (grind (arith, nat_tests), grind (arith, nat_tests), grind (arith, nat_tests))

-- the first of the units and the others
pub units_step : (s : ℕ) (ss bs : List ℕ) (p : ℕ) (us : List ℕ) → units_in (s ∷ ss) bs p ≡ Ok us →
    (vs : List ℕ) × (get_or bs p 0 ≤ s) × (units_in ss bs (p + 1) ≡ Ok vs) × (get_or bs p 0 ∷ vs ≡ us)
unfolding units_in
units_step s ss bs p us e =
    let h : and_then (units_in ss bs (p + 1)) (λ vs. Ok (get_or bs p 0 ∷ vs)) ≡ Ok us = grind (arith, nat_tests) in
    let more = then_back (units_in ss bs (p + 1)) (λ vs. Ok (get_or bs p 0 ∷ vs)) us h in
    let f = more.2 in
    (more.0, grind (arith, nat_tests), more.1, cc f)

units_none : (bs : List ℕ) (p : ℕ) (us : List ℕ) → units_in [] bs p ≡ Ok us → [] ≡ us
unfolding units_in
units_none bs p us e = cc

within_cons : (x y : ℕ) (xs ys : List ℕ) → x ≤ y → Within xs ys → Within (x ∷ xs) (y ∷ ys)
unfolding Within
within_cons x y xs ys h w zero = h
within_cons x y xs ys h w (suc j) = w j

-- the units that are read name every lot and are within the supply
pub units_taken : (ss bs : List ℕ) (p : ℕ) (us : List ℕ) → units_in ss bs p ≡ Ok us → (length us ≡ length ss) × Within us ss
units_taken [] bs p us e = rw (← units_none bs p us e) (refl, nil_within [])
units_taken (s ∷ ss) bs p us e =
    let step = units_step s ss bs p us e in
    let more = units_taken ss bs (p + 1) step.0 step.2 in
    rw (← step.3) (ap suc more.0, within_cons (get_or bs p 0) s step.0 ss step.1 more.1)

-- they are the bytes that stand there
pub units_written : (ss bs : List ℕ) (p : ℕ) (us : List ℕ) → units_in ss bs p ≡ Ok us → p + length ss ≤ length bs → drop p bs ≡ us ++ drop (p + length ss) bs
units_written [] bs p us e h =
    let at : p ≡ p + 0 = omega arith in
    rw (← units_none bs p us e) (ap (λ q. drop q bs) at)
units_written (s ∷ ss) bs p us e h =
    let step = units_step s ss bs p us e in
    let more = units_written ss bs (p + 1) step.0 step.2 (omega arith) in
    rw (← step.3) (grind (arith, common_steps, more))

-- the worth and the units of a line
pub line_step : (supply : List ℕ) (account : ℕ) (bs : List ℕ) (p : ℕ) (l : Bid) → line_in supply account bs p ≡ Ok l →
    (u32_at bs p ≤ account) × (u32_at bs p ≡ l.value) × (units_in supply bs (p + 4) ≡ Ok l.want)
line_step supply account bs p l e =
    let worthy = then_back (worth_in account bs p) (λ worth. and_then (units_in supply bs (p + 4)) (λ units. Ok (record { want = units; value = worth }))) l e in
    let worth = worthy.0 in
    let united = then_back (units_in supply bs (p + 4)) (λ units. Ok (record { want = units; value = worth })) l worthy.2 in
    let f = worthy.1 in
    let g = united.2 in
    let all : ◌≡◌ {A = Bid} (record { want = united.0; value = worth }) l = cc g in
    let is : u32_at bs p ≡ worth = grind (arith, nat_tests, f) in
    (grind (arith, nat_tests, f), is ∙ ap (λ (x : Bid). x.value) all, united.1 ∙ ap (λ (x : Bid). Ok x.want) all)

-- a line that is read is covered
pub line_taken : (supply : List ℕ) (account : ℕ) (bs : List ℕ) (p : ℕ) (l : Bid) → line_in supply account bs p ≡ Ok l → Covered supply account l
line_taken supply account bs p l e =
    let step = line_step supply account bs p l e in
    let units = units_taken supply bs (p + 4) l.want step.2 in
    record { worth = subst (λ x. x ≤ account) step.1 step.0; long = units.0; fits = units.1 }

-- the first of the lines and the others
pub lines_step : (supply : List ℕ) (account : ℕ) (bs : List ℕ) (p n : ℕ) (ls : Bids) → lines_in supply account bs p (suc n) ≡ Ok ls →
    (l : Bid) × (ms : Bids) × (line_in supply account bs p ≡ Ok l) × (lines_in supply account bs (p + (4 + length supply)) n ≡ Ok ms) × (l ∷ ms ≡ ls)
unfolding lines_in
lines_step supply account bs p n ls e =
    let others = lines_in supply account bs (p + (4 + length supply)) n in
    let here = then_back (line_in supply account bs p) (λ l. and_then others (λ ms. Ok (l ∷ ms))) ls e in
    let more = then_back others (λ ms. Ok (here.0 ∷ ms)) ls here.2 in
    let f = more.2 in
    (here.0, more.0, here.1, more.1, cc f)

lines_none : (supply : List ℕ) (account : ℕ) (bs : List ℕ) (p : ℕ) (ls : Bids) → lines_in supply account bs p zero ≡ Ok ls → [] ≡ ls
unfolding lines_in
lines_none supply account bs p ls e = cc

-- so many lines as are read, all of them covered
pub lines_taken : (supply : List ℕ) (account : ℕ) (bs : List ℕ) (p n : ℕ) (ls : Bids) → lines_in supply account bs p n ≡ Ok ls → (length ls ≡ n) × AllByRecursion (Covered supply account) ls
lines_taken supply account bs p zero ls e = rw (← lines_none supply account bs p ls e) (refl, tt)
lines_taken supply account bs p (suc n) ls e =
    let step = lines_step supply account bs p n ls e in
    let more = lines_taken supply account bs (p + (4 + length supply)) n step.1 step.3 in
    rw (← step.4) (ap suc more.0, (line_taken supply account bs p step.0 step.2, more.1))

-- a sheet that is read is allowed
pub sheet_allowed : (supply : List ℕ) (account : ℕ) (bs : List ℕ) (bids : Bids) → sheet_in supply account bs ≡ Ok bids → Allowed supply account bids
sheet_allowed supply account bs bids e =
    let counted = then_back (count_in (length supply) bs) (lines_in supply account bs 6) bids e in
    let count = count_read (length supply) bs counted.0 counted.1 in
    let lines = lines_taken supply account bs 6 counted.0 bids counted.2 in
    record { few = omega (arith, lines.0, count.1); covered = lines.1 }

-- the number and the sheet of a submission
pub submission_step : (supply : List ℕ) (farm account last : ℕ) (bs : List ℕ) (s : Submission) → submission_in supply farm account last bs ≡ Ok s →
    (farm ≡ s.farm) × (number_in last bs ≡ Ok s.number) × (sheet_in supply account bs ≡ Ok s.bids)
submission_step supply farm account last bs s e =
    let numbered = then_back (number_in last bs) (λ number. and_then (sheet_in supply account bs) (λ bids. Ok (record { farm = farm; number = number; bids = bids }))) s e in
    let number = numbered.0 in
    let lined = then_back (sheet_in supply account bs) (λ bids. Ok (record { farm = farm; number = number; bids = bids })) s numbered.2 in
    let f = lined.2 in
    let is : ◌≡◌ {A = Submission} (record { farm = farm; number = number; bids = lined.0 }) s = cc f in
    (ap (λ (x : Submission). x.farm) is, numbered.1 ∙ ap (λ (x : Submission). Ok x.number) is, lined.1 ∙ ap (λ (x : Submission). Ok x.bids) is)

-- the farm, the number and the sheet of a message
pub message_step : (supply accounts numbers bs : List ℕ) (s : Submission) → read_message supply accounts numbers bs ≡ Ok s →
    (sender_in (length accounts) bs ≡ Ok s.farm) × (number_in (get_or numbers s.farm 0) bs ≡ Ok s.number) × (sheet_in supply (get_or accounts s.farm 0) bs ≡ Ok s.bids)
message_step supply accounts numbers bs s e =
    let sent = then_back (sender_in (length accounts) bs) (λ farm. submission_in supply farm (get_or accounts farm 0) (get_or numbers farm 0) bs) s e in
    let farm = sent.0 in
    let step = submission_step supply farm (get_or accounts farm 0) (get_or numbers farm 0) bs s sent.2 in
    rw (← step.0) (sent.1, step.1, step.2)

-- what is read is taken
pub taken_if_read : (supply accounts numbers bs : List ℕ) (s : Submission) → read_message supply accounts numbers bs ≡ Ok s → Taken supply accounts numbers s
taken_if_read supply accounts numbers bs s e =
    let step = message_step supply accounts numbers bs s e in
    record {
      known = (sender_read (length accounts) bs s.farm step.0).2;
      above = (number_read (get_or numbers s.farm 0) bs s.number step.1).1;
      allowed = sheet_allowed supply (get_or accounts s.farm 0) bs s.bids step.2;
    }

-- What was read is the writing of what is taken, where the bytes are bytes.

-- bytes are below 256, and so is the 0 past the last
-- By recursion: std's lemma on the elements asks for a place before the end, so that there would be two cases here.
pub under : (bs : List ℕ) → AllByRecursion (λ b. b < 256) bs → (p : ℕ) → get_or bs p 0 < 256
under [] h p = omega arith
under (b ∷ bs) h zero = h.0
under (b ∷ bs) h (suc p) = under bs h.1 p

module _ (bs : List ℕ) (bytes : (p : ℕ) → get_or bs p 0 < 256) where
  pub u32_below : (p : ℕ) → u32_at bs p < 2 ^ 32
  u32_below p = omega (arith, bytes p, bytes (p + 1), bytes (p + 2), bytes (p + 3))

  -- four bytes are the writing of their number
  pub u32_written : (p : ℕ) → p + 4 ≤ length bs → drop p bs ≡ u32_bytes (u32_at bs p) ++ drop (p + 4) bs
  u32_written p h =
      let front = get_or bs p 0 ∷ get_or bs (p + 1) 0 ∷ get_or bs (p + 2) 0 ∷ get_or bs (p + 3) 0 ∷ [] in
      let split : drop p bs ≡ front ++ drop (p + 4) bs = grind (arith, common_steps) in
      split ∙ ap (λ x. x ++ drop (p + 4) bs) (sym (le_bytes_4 front (u32_at bs p) refl (under front (bytes p, (bytes (p + 1), (bytes (p + 2), (bytes (p + 3), tt))))) refl))

  module _ (supply : List ℕ) (account : ℕ) where
    -- a line is the writing of what is read there
    pub line-written : (p : ℕ) (l : Bid) → line_in supply account bs p ≡ Ok l → p + (4 + length supply) ≤ length bs → (drop p bs ≡ line_bytes l ++ drop (p + (4 + length supply)) bs) × (l.value < 2 ^ 32)
    line-written p l e h =
        let step = line_step supply account bs p l e in
        let at : p + 4 + length supply ≡ p + (4 + length supply) = omega arith in
        let units = units_written supply bs (p + 4) l.want step.2 (omega arith) in (
          grind (arith, u32_written p (omega arith), step, units, at),
          subst (λ x. x < 2 ^ 32) step.1 (u32_below p),
        )

    -- lines are the writing of what is read there
    pub lines_written : (p n : ℕ) (ls : Bids) → lines_in supply account bs p n ≡ Ok ls → p + n * (4 + length supply) ≤ length bs →
        (drop p bs ≡ flat_map line_bytes ls ++ drop (p + n * (4 + length supply)) bs) × AllByRecursion (λ (l : Bid). l.value < 2 ^ 32) ls
    lines_written p zero ls e h =
        let at : p ≡ p + zero * (4 + length supply) = omega (arith, zero-mul (4 + length supply)) in
        rw (← lines_none supply account bs p ls e) (ap (λ q. drop q bs) at, tt)
    lines_written p (suc n) ls e h =
        let w = 4 + length supply in
        let step = lines_step supply account bs p n ls e in
        let l = step.0 in
        let ms = step.1 in
        let at : p + w + n * w ≡ p + suc n * w = omega (arith, suc-mul n w) in
        let here = line-written p l step.2 (omega arith) in
        let more = lines_written (p + w) n ms step.3 (omega arith) in
        rw (← step.4) (
          grind (arith, common_steps, here, more, at),
          (here.1, more.1),
        )

  -- the message is its writing
  pub written_if_read : (supply accounts numbers : List ℕ) (s : Submission) → read_message supply accounts numbers bs ≡ Ok s → (bs ≡ message_bytes s) × Plain s
  written_if_read supply accounts numbers s e =
      let step = message_step supply accounts numbers bs s e in
      let account = get_or accounts s.farm 0 in
      let w = 4 + length supply in
      let sender = sender_read (length accounts) bs s.farm step.0 in
      let number = number_read (get_or numbers s.farm 0) bs s.number step.1 in
      let counted = then_back (count_in (length supply) bs) (lines_in supply account bs 6) s.bids step.2 in
      let n = counted.0 in
      let count = count_read (length supply) bs n counted.1 in
      let taken = lines_taken supply account bs 6 n s.bids counted.2 in
      let end : 6 + n * w ≤ length bs = omega (arith, count.2) in
      let lines = lines_written supply account 6 n s.bids counted.2 end in
      let front : bs ≡ get_or bs 0 0 ∷ drop 1 bs = drop_more bs 0 0 (omega (arith, sender.0)) in
      let next : drop 1 bs ≡ u32_bytes (u32_at bs 1) ++ drop 5 bs = u32_written 1 (omega (arith, sender.0)) in
      let then : drop 5 bs ≡ get_or bs 5 0 ∷ drop 6 bs = drop_more bs 5 0 (omega (arith, sender.0)) in
      let rest : drop 6 bs ≡ flat_map line_bytes s.bids = grind (arith, common_steps, lines.0, count.2) in
      let many : get_or bs 5 0 ≡ length s.bids = count.0 ∙ sym taken.0 in (
        front
            ∙ (λ i. sender.1 i ∷ next i)
            ∙ ap (λ x. s.farm ∷ (u32_bytes x ++ drop 5 bs)) number.0
            ∙ ap (λ x. s.farm ∷ (u32_bytes s.number ++ x)) (then ∙ (λ i. many i ∷ rest i)),
        record { number = subst (λ x. x < 2 ^ 32) number.0 (u32_below 1); worths = lines.1 },
      )

pub read_exactly : ReadExactly
read_exactly supply accounts numbers bs s bytes = (
  (λ e. let w = written_if_read bs (under bs bytes) supply accounts numbers s e in (w.0, taken_if_read supply accounts numbers bs s e, w.1)),
  (λ h. ap (read_message supply accounts numbers) h.0 ∙ read_back supply accounts numbers s h.1 h.2),
)
