-- What the farms pay is covered by their accounts. Assumes nothing.
use Rattle.std.proofs.Common.{◌≡◌, ℕ, zero, suc, ◌+◌, ◌-◌, ◌*◌, ◌^◌, ◌<◌, ◌≤◌, List, [], ◌∷◌, map, length, get_or, set, take, sum, sym, refl, ap, ◌∙◌, ⊎_elim, arith}
use Rattle.std.proofs.ByRecursion.{All-get_or, All-from_get_or, sum_by_le}
use Rattle.std.proofs.lemmas.List.{get_or_past, length-map, length-take-le}
use Rattle.std.proofs.lemmas.List.Sums.{sum_by-cons}
use Rattle.std.proofs.lemmas.Bool.{cases_lt}
use Rattle.bundle.specs.Bids.{Bid, Bids}
use Rattle.bundle.specs.Units.{less, Within}
use Rattle.bundle.proofs.Bundles.{get_or-less, length-less, less_nil, nil_within}
use Rattle.sheets.specs.Allowed.{Covered, Allowed}
use Rattle.sheets.specs.Sheets.{bids_of}
use Rattle.sheets.specs.declared.parts.Sheet.{Sheet}
use Rattle.vcg.specs.Auction.{no_bid, chosen}
use Rattle.vcg.specs.Charges.{gets}
use Rattle.vcg.specs.Optimum.{outcome_of}
use Rattle.vcg.proofs.Outcomes.{length-charges}
use Rattle.vcg.proofs.Rule.{charge_at_most, nothing_for_nothing}
use Rattle.table.specs.Tables.{at_reserve}
use Rattle.table.proofs.Sheets.{stated_cap}
use Rattle.award.proofs.Reserves.{charge_covers_reserve, sale_is_settled}
use Rattle.book.specs.Places.{AllAllowed}
use Rattle.book.specs.Posting.{Entry, no_entry, accounts_of, numbers_of, bids_in, emptied}
use Rattle.book.proofs.Steps.{account-at, bids-at, length-accounts_of, length-bids_in}
use Rattle.accounts.specs.Closing.{auction_for, charges_for, settled}
use Rattle.accounts.specs.Promises.{Fair}

-- before account k is paid it is as it was
pub unpaid : (was charges : List ℕ) (k : ℕ) → k < length charges → get_or (less was (take k charges)) k 0 ≡ get_or was k 0
unpaid was charges k g = omega (arith, get_or-less was (take k charges) k, get_or_past (take k charges) k 0 (omega (arith, length-take-le k charges (omega arith))))

pub paid_more : (was charges : List ℕ) (k : ℕ) → k < length was → k < length charges →
    set (less was (take k charges)) k (get_or was k 0 - get_or charges k 0) ≡ less was (take (suc k) charges)
unfolding less
paid_more [] charges k h g = absurd (omega arith)
paid_more (x ∷ was) [] k h g = absurd (omega arith)
paid_more (x ∷ was) (c ∷ charges) zero h g = ap (λ l. (x - c) ∷ l) (sym (less_nil was))
paid_more (x ∷ was) (c ∷ charges) (suc k) h g = ap (λ l. (x - c) ∷ l) (paid_more was charges k (omega arith) (omega arith))

-- the line that a choice names, also where it names none
pub record Held (supply : List ℕ) (account : ℕ) (l : Bid) : Type 0 where
  pub worth : l.value ≤ account
  pub short : length l.want ≤ length supply
  pub fits : Within l.want supply

none_held : (supply : List ℕ) (account : ℕ) → Held supply account no_bid
none_held supply account = record { worth = omega arith; short = omega arith; fits = nil_within supply }

pub chosen_held : (supply : List ℕ) (account : ℕ) (b : Bids) (c : ℕ) → Allowed supply account b → Held supply account (chosen b c)
unfolding chosen
chosen_held supply account b zero a = none_held supply account
chosen_held supply account b (suc k) a =
    ⊎_elim
    (λ h. let l = All-get_or (Covered supply account) b k no_bid h a.covered in record { worth = l.worth; short = omega (arith, l.long); fits = l.fits })
    (λ h. rw (get_or_past b k no_bid h) (none_held supply account))
    (cases_lt k (length b))

pub allowed_at : (supply : List ℕ) (es : List Entry) (i : ℕ) → i < length es → AllAllowed supply es → Allowed supply (get_or (accounts_of es) i 0) (get_or (bids_in es) i [])
allowed_at supply es i h all =
    rw (account-at es i, bids-at es i) (All-get_or (λ (e : Entry). Allowed supply e.account e.bids) es i no_entry h all)

-- the charge of a farm whose sheet is allowed
pub charge-within : (supply prices : List ℕ) (sheets : List Bids) (i account : ℕ) → i < length sheets → Allowed supply account (get_or sheets i []) →
    get_or (outcome_of (at_reserve supply prices sheets)).charge i 0 ≤ account
unfolding gets
charge-within supply prices sheets i account h a =
    let s = at_reserve supply prices sheets in
    omega (
      arith,
      charge_at_most s (outcome_of s) i h (sale_is_settled supply prices sheets).ruled,
      (chosen_held supply account (get_or sheets i []) (get_or (outcome_of s).choice i 0) a).worth,
    )

-- no charge is above the account that it is taken from
pub never_below_zero : (supply prices : List ℕ) (es : List Entry) (i : ℕ) → AllAllowed supply es → get_or (charges_for supply prices es) i 0 ≤ get_or (accounts_of es) i 0
never_below_zero supply prices es i all =
    let sheets = bids_in es in
    ⊎_elim
    (λ h. charge-within supply prices sheets i (get_or (accounts_of es) i 0) (omega (arith, length-bids_in es)) (allowed_at supply es i h all))
    (λ h. omega (arith, get_or_past (charges_for supply prices es) i 0 (omega (arith, length-charges (auction_for supply prices es), length-bids_in es))))
    (cases_lt i (length es))

-- no charge is above what a line can state
pub charge-small : (supply prices : List ℕ) (sheets : List Sheet) (i : ℕ) → get_or (outcome_of (at_reserve supply prices (map bids_of sheets))).charge i 0 ≤ 2 ^ 32
unfolding gets chosen
charge-small supply prices sheets i =
    let bs = map bids_of sheets in
    let s = at_reserve supply prices bs in
    let o = outcome_of s in
    let stated : (c : ℕ) → (chosen (get_or bs i []) c).value ≤ 2 ^ 32 = λ c. elim c as (λ n. (chosen (get_or bs i []) n).value ≤ 2 ^ 32) [ zero ↦ omega arith | suc k ↦ stated_cap sheets i k ] in
    ⊎_elim
    (λ h. omega (arith, charge_at_most s o i h (sale_is_settled supply prices bs).ruled, stated (get_or o.choice i 0)))
    (λ h. omega (arith, get_or_past o.charge i 0 (omega (arith, length-charges s))))
    (cases_lt i (length bs))

-- so what the farms pay together is small
pub charges_small : (supply prices : List ℕ) (sheets : List Sheet) → length sheets ≤ 48 → sum (outcome_of (at_reserve supply prices (map bids_of sheets))).charge ≤ 48 * 2 ^ 32
charges_small supply prices sheets few =
    let a = at_reserve supply prices (map bids_of sheets) in
    let cs = (outcome_of a).charge in
    omega (
      arith,
      length-charges a,
      length-map sheets bids_of,
      sum_by_le (λ (n : ℕ). n) (2 ^ 32) cs (All-from_get_or (λ (n : ℕ). n ≤ 2 ^ 32) cs 0 (λ i _. charge-small supply prices sheets i)),
    )

pub accounts_emptied : (xs ns : List ℕ) → length xs ≤ length ns → accounts_of (emptied xs ns) ≡ xs
accounts_emptied [] ns h = refl
accounts_emptied (x ∷ xs) [] h = absurd (omega arith)
accounts_emptied (x ∷ xs) (n ∷ ns) h = ap (λ l. x ∷ l) (accounts_emptied xs ns (omega arith))

-- the accounts after the close
pub accounts_settled : (es : List Entry) (cs : List ℕ) → accounts_of (emptied (less (accounts_of es) cs) (numbers_of es)) ≡ less (accounts_of es) cs
accounts_settled es cs =
    accounts_emptied (less (accounts_of es) cs) (numbers_of es)
    (omega (arith, length-less (accounts_of es) cs, length-accounts_of es, length-map es (λ (e : Entry). e.number)))

-- each is the one before less its charge
pub each_pays : (supply prices : List ℕ) (es : List Entry) (i : ℕ) → AllAllowed supply es →
    get_or (accounts_of (settled es (charges_for supply prices es))) i 0 + get_or (charges_for supply prices es) i 0 ≡ get_or (accounts_of es) i 0
each_pays supply prices es i all =
    let cs = charges_for supply prices es in
    omega (
      arith,
      ap (λ l. get_or l i 0) (accounts_settled es cs),
      get_or-less (accounts_of es) cs i,
      never_below_zero supply prices es i all,
    )

sum_less : (xs ys : List ℕ) → length ys ≡ length xs → ((i : ℕ) → get_or ys i 0 ≤ get_or xs i 0) → sum (less xs ys) + sum ys ≡ sum xs
unfolding less
sum_less [] [] h w = refl
sum_less [] (y ∷ ys) h w = absurd (omega arith)
sum_less (x ∷ xs) [] h w = absurd (omega arith)
sum_less (x ∷ xs) (y ∷ ys) h w =
    let here : y ≤ x = w 0 in
    omega (
      arith,
      here,
      sum_less xs ys (omega arith) (λ i. w (suc i)),
      sum_by-cons (λ (n : ℕ). n) (x - y) (less xs ys),
      sum_by-cons (λ (n : ℕ). n) y ys,
      sum_by-cons (λ (n : ℕ). n) x xs,
    )

-- and together they and what is paid are what they were
pub money_kept : (supply prices : List ℕ) (es : List Entry) → AllAllowed supply es →
    sum (accounts_of (settled es (charges_for supply prices es))) + sum (charges_for supply prices es) ≡ sum (accounts_of es)
money_kept supply prices es all =
    let cs = charges_for supply prices es in
    rw (accounts_settled es cs)
    (sum_less (accounts_of es) cs
    (length-charges (auction_for supply prices es) ∙ length-bids_in es ∙ sym (length-accounts_of es))
    (λ i. never_below_zero supply prices es i all))

pub charges_fair : (supply prices : List ℕ) (es : List Entry) (i : ℕ) → i < length es → AllAllowed supply es → Fair supply prices es i
unfolding gets chosen
charges_fair supply prices es i h all =
    let sheets = bids_in es in
    let a = auction_for supply prices es in
    let o = outcome_of a in
    let here : i < length sheets = omega (arith, length-bids_in es) in
    let ruled = (sale_is_settled supply prices sheets).ruled in
    let held = chosen_held supply (get_or (accounts_of es) i 0) (get_or sheets i []) (get_or o.choice i 0) (allowed_at supply es i h all) in
    record {
      covered = charge_at_most a o i here ruled;
      reserved = charge_covers_reserve supply prices sheets o i here ruled held.short;
      nothing = λ e. nothing_for_nothing a o i here ruled (ap (λ c. chosen (get_or sheets i []) c) e);
    }
