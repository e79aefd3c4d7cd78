-- What a sale promises from its opening to its close, whatever messages come in. Assumes nothing: these are statements.
use Rattle.std.specs.Prelude.{◌≡◌, ℕ, ◌+◌, ◌<◌, ◌≤◌, true, List, length, is_ok, Ok, sum, slice_index}
use Rattle.vcg.specs.Best.{worth_of}
use Rattle.vcg.specs.Charges.{Settled}
use Rattle.book.specs.Posting.{accounts_of, own, own_answers}
use Rattle.book.specs.Promises.{Shuffled, OneNumber}
use Rattle.accounts.specs.Promises.{Fair}
use Rattle.accounts.specs.Closing.{Rows}
use Rattle.sale.specs.Closing.{auction_in, close_answer, close_sale, close_rows}
use Rattle.sale.specs.Opening.{State, opened}
use Rattle.sale.specs.States.{after, replies}
use Rattle.sale.specs.declared.lots.Lot.{Lot}

-- the order in which messages come does not matter, where no farm sends two under one number
abbrev pub OrderFree : Type 0
OrderFree =
    (lots : List Lot) (accounts : List ℕ) (company : ℕ) (ms ns : List (List ℕ)) (rows : Rows) → Shuffled ms ns → OneNumber ms →
    (close_sale (after (opened lots accounts company) ms) rows ≡ close_sale (after (opened lots accounts company) ns) rows)
    × (close_rows (after (opened lots accounts company) ms) rows ≡ close_rows (after (opened lots accounts company) ns) rows)

-- what farm i is told of its messages depends on the lots, how many farms there are, its own account and its own messages, and on nothing that others have or send
abbrev pub ToldOwn : Type 0
ToldOwn =
    (lots : List Lot) (xs ys : List ℕ) (c d : ℕ) (ms ns : List (List ℕ)) (i : ℕ) →
    length xs ≡ length ys → slice_index xs i ≡ slice_index ys i → own i ms ≡ own i ns →
    own_answers i ms (replies (opened lots xs c) ms) ≡ own_answers i ns (replies (opened lots ys d) ns)

-- what a close that is taken leaves in the lent rows is by the rule: the first of the best choices, from each farm what the rest could have had without
-- it less what the rest has; and the answer is what the choice is worth
pub record RuledClose (h : State) (rows : Rows) (worth : ℕ) : Type 0 where
  pub settled : Settled (auction_in h) (record { choice = (close_rows h rows).award; charge = (close_rows h rows).charges })
  pub is : worth ≡ worth_of (auction_in h) (close_rows h rows).award

abbrev pub ClosedByRule : Type 0
ClosedByRule = (h : State) (rows : Rows) (worth : ℕ) → close_answer h rows ≡ Ok worth → RuledClose h rows worth

-- the accounts of the farms and of the company hold the same sum together as when the sale was opened
abbrev pub MoneyKept : Type 0
MoneyKept =
    (lots : List Lot) (accounts : List ℕ) (company : ℕ) (ms : List (List ℕ)) (rows : Rows) →
    let h = (close_sale (after (opened lots accounts company) ms) rows).state in
    sum (accounts_of h.entries) + h.company ≡ sum accounts + company

-- no account falls below zero: no charge is above the account that it is taken from
abbrev pub NeverBelowZero : Type 0
NeverBelowZero =
    (lots : List Lot) (accounts : List ℕ) (company : ℕ) (ms : List (List ℕ)) (rows : Rows) (i : ℕ) →
    let h = after (opened lots accounts company) ms in
    is_ok (close_answer h rows) ≡ true →
    slice_index (close_rows h rows).charges i ≤ slice_index accounts i

-- each account is the one before less its charge
abbrev pub EachPays : Type 0
EachPays =
    (lots : List Lot) (accounts : List ℕ) (company : ℕ) (ms : List (List ℕ)) (rows : Rows) (i : ℕ) →
    let h = after (opened lots accounts company) ms in
    is_ok (close_answer h rows) ≡ true →
    slice_index (accounts_of (close_sale h rows).state.entries) i + slice_index (close_rows h rows).charges i ≡ slice_index accounts i

-- a charge is at most the stated worth of the line awarded and at least the reserve of its units, and a farm that gets no line pays nothing
abbrev pub ChargesAreFair : Type 0
ChargesAreFair =
    (lots : List Lot) (accounts : List ℕ) (company : ℕ) (ms : List (List ℕ)) (i : ℕ) → i < length accounts →
    let h = after (opened lots accounts company) ms in
    Fair h.supply h.reserve h.entries i
