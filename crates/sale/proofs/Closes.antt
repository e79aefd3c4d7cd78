-- What stands of a sale from its opening to its close. Assumes nothing.
use Rattle.std.proofs.Common.{◌≡◌, ℕ, ◌+◌, Bool, true, false, cond, List, map, length, get_or, is_ok, Ok, Err, sum, Result, sym, ap, ◌∙◌, arith}
use Rattle.std.proofs.Math.ListN.{get_or-map}
use Rattle.std.proofs.lemmas.List.{length-map, map-id}
use Rattle.std.proofs.lemmas.Simd.{map-map}
use Rattle.std.proofs.lemmas.Bool.{cond-true}
use Rattle.std.proofs.lemmas.Bool.Decides.{nat_tests}
use Rattle.bundle.specs.Units.{bundles}
use Rattle.vcg.specs.Best.{worth_of}
use Rattle.vcg.specs.Optimum.{best_worth}
use Rattle.vcg.proofs.Optimal.{award-worth}
use Rattle.award.specs.Deciding.{decision}
use Rattle.award.specs.declared.refusals.AwardRefusal.{AwardRefusal}
use Rattle.award.proofs.Reserves.{sale_is_settled}
use Rattle.book.specs.Places.{AllAllowed}
use Rattle.book.specs.Posting.{Entry, fresh, accounts_of, bids_in}
use Rattle.book.proofs.Allows.{always_allowed}
use Rattle.book.proofs.Orders as orders
use Rattle.book.proofs.Steps.{accounts_posts, length-posts}
use Rattle.book.proofs.Tells as tells
use Rattle.accounts.specs.Closing.{charges_for, settlement, Rows, filled}
use Rattle.accounts.proofs.Payments as payments
use Rattle.sale.specs.Closing.{Stage, worth_or_row, auction_in, closed_sale, close_answer, close_sale, close_rows}
use Rattle.sale.specs.Opening.{State, opened}
use Rattle.sale.specs.Promises.{OrderFree, ToldOwn, ClosedByRule, MoneyKept, NeverBelowZero, EachPays, ChargesAreFair}
use Rattle.sale.specs.States.{after}
use Rattle.sale.specs.declared.lots.Lot.{Lot}

module _ (lots : List Lot) (accounts : List ℕ) (company : ℕ) (ms : List (List ℕ)) where
  -- the sale after the messages
  abbrev posted : State
  posted = after (opened lots accounts company) ms

  allowed : AllAllowed posted.supply posted.entries
  allowed = always_allowed posted.supply accounts ms

  accounts_fresh : (xs : List ℕ) → accounts_of (map fresh xs) ≡ xs
  accounts_fresh xs = map-map (λ (e : Entry). e.account) fresh xs ∙ map-id xs

  -- messages leave the accounts
  accounts_are : accounts_of posted.entries ≡ accounts
  accounts_are = accounts_posts posted.supply (map fresh accounts) ms ∙ accounts_fresh accounts

  money_by : (b : Bool) →
      let h = (cond {A = Stage} b (record { state = closed_sale posted; closed = true }) (record { state = posted; closed = false })).state in
      sum (accounts_of h.entries) + h.company ≡ sum accounts + company
  money_by true = omega (arith, payments.money_kept posted.supply posted.reserve posted.entries allowed, ap sum accounts_are)
  money_by false = ap (λ l. sum l + company) accounts_are

pub money_kept : MoneyKept
money_kept lots accounts company ms rows = money_by lots accounts company ms (is_ok (close_answer (posted lots accounts company ms) rows))

-- a close that is taken
pub closed_so : (h : State) (rows : Rows) → is_ok (close_answer h rows) ≡ true → (close_sale h rows ≡ record { state = closed_sale h; closed = true }) × (close_rows h rows ≡ filled (auction_in h) rows)
closed_so h rows ok = (cond-true _ _ _ ok, cond-true _ _ _ ok)

pub never_below_zero : NeverBelowZero
never_below_zero lots accounts company ms rows i ok =
    let h = posted lots accounts company ms in
    omega (
      arith,
      ap (λ (r : Rows). get_or r.charges i 0) (closed_so h rows ok).1,
      payments.never_below_zero h.supply h.reserve h.entries i (allowed lots accounts company ms),
      ap (λ l. get_or l i 0) (accounts_are lots accounts company ms),
    )

pub each_pays : EachPays
each_pays lots accounts company ms rows i ok =
    let h = posted lots accounts company ms in
    let end = closed_so h rows ok in
    (λ j. get_or (accounts_of (end.0 j).state.entries) i 0 + get_or (end.1 j).charges i 0)
    ∙ payments.each_pays h.supply h.reserve h.entries i (allowed lots accounts company ms)
    ∙ ap (λ l. get_or l i 0) (accounts_are lots accounts company ms)

pub charges_are_fair : ChargesAreFair
charges_are_fair lots accounts company ms i here =
    let h = posted lots accounts company ms in
    let long : length h.entries ≡ length accounts = length-posts h.supply (map fresh accounts) ms ∙ length-map accounts fresh in
    payments.charges_fair h.supply h.reserve h.entries i (omega (arith, here, long)) (allowed lots accounts company ms)

pub order_free : OrderFree
order_free lots accounts company ms ns rows shuffled one =
    let home = opened lots accounts company in
    let same : after home ms ≡ after home ns =
    λ i. record { supply = home.supply; reserve = home.reserve; entries = orders.order_free home.supply (map fresh accounts) ms ns shuffled one i; company = company } in
    (ap (λ (h : State). close_sale h rows) same, ap (λ (h : State). close_rows h rows) same)

pub told_own : ToldOwn
told_own lots xs ys c d ms ns i long account same =
    tells.told_own (opened lots xs c).supply (map fresh xs) (map fresh ys) i ms ns
    (length-map xs fresh ∙ long ∙ sym (length-map ys fresh))
    (get_or-map fresh xs i 0 ∙ ap fresh account ∙ sym (get_or-map fresh ys i 0))
    same

-- what is answered to a close that is taken
worth_back : (r : Result ℕ AwardRefusal) (n w : ℕ) → worth_or_row (settlement r n) ≡ Ok w → r ≡ Ok w
worth_back (Ok v) n w e = cc
worth_back (Err d) n w e = cc

decided : (farms many t a c w v : ℕ) → decision farms many t a c w ≡ Ok v → v ≡ w
decided farms many t a c w v e = grind (arith, nat_tests)

pub closed_by_rule : ClosedByRule
closed_by_rule h rows worth e =
    let a = auction_in h in
    let best : worth ≡ best_worth a =
    decided (length h.entries) (bundles h.supply) (length rows.table) (length rows.award) (length rows.charges) (best_worth a) worth
    (worth_back _ (sum (charges_for h.supply h.reserve h.entries)) worth e) in
    let end : close_rows h rows ≡ filled a rows = cond-true _ _ _ (ap is_ok e) in
    record {
      settled = rw end (sale_is_settled h.supply h.reserve (bids_in h.entries));
      is = best ∙ sym (award-worth a) ∙ ap (λ (r : Rows). worth_of a r.award) (sym end);
    }
