-- When a sale is opened, check by check. Assumes nothing.
use Rattle.std.proofs.Common.{◌≡◌, ℕ, suc, ◌+◌, ◌≤◌, ◌||◌, eqb, ltb, List, [], ◌∷◌, map, length, get_or, Some, None, Ok, Err, Option, Result, refl, ap, ◌∙◌, subst, ⊎_elim, arith}
use Rattle.std.specs.List.{position_or_len}
use Rattle.std.specs.Result.{result_map_both}
use Rattle.std.proofs.lemmas.List.{length-map, get_or_past}
use Rattle.std.proofs.lemmas.List.Sums.{fails_before_first, position_or_len_is}
use Rattle.std.proofs.lemmas.Bool.{cases_lt, le-ltb, ltb-false}
use Rattle.std.proofs.lemmas.Bool.Decides.{nat_tests}
use Rattle.bundle.proofs.Checks.{then_back, cond_past, cond_none}
use Rattle.bundle.proofs.Supplies.{overpriced_none, sold-own, sold_exactly}
use Rattle.bundle.specs.Reserves.{overpriced_lot, priced_but, reserve_in}
use Rattle.bundle.specs.Supplies.{Sold, unsold_lot, sold_but, supply_in}
use Rattle.bundle.specs.declared.refusals.SupplyRefusal.TheVariants.{LotCount as NoSupply}
use Rattle.book.specs.Posting.{fresh}
use Rattle.sale.specs.Opening.{State, units_of_lots, prices_of_lots, supply_refused, price_refused, lots_checked, prices_checked, farms_checked, overfull, full_but, accounts_checked, company_checked, open_sale, Opens, opened, OpensExactly}
use Rattle.sale.specs.declared.lots.Lot.{Lot}
use Rattle.sale.specs.declared.refusals.OpeningRefusal.{OpeningRefusal}

-- no account is overfull exactly if each is within its bound
pub funded_if : (xs : List ℕ) → overfull xs ≡ None → (k : ℕ) → get_or xs k 0 ≤ 1000000000
funded_if xs e k =
    let first = position_or_len (ltb 1000000000) xs in
    let none : length xs ≤ first = ltb-false first (length xs) (cond_none (ltb first (length xs)) first None e).0 in
    ⊎_elim
    (λ h. ltb-false 1000000000 (get_or xs k 0) (fails_before_first (ltb 1000000000) xs k 0 (omega arith)))
    (λ h. omega (arith, get_or_past xs k 0 h))
    (cases_lt k (length xs))

pub funded_none : (xs : List ℕ) → ((k : ℕ) → get_or xs k 0 ≤ 1000000000) → overfull xs ≡ None
funded_none xs h =
    let end = position_or_len_is (ltb 1000000000) xs (length xs) 0 (omega arith) (λ k _. le-ltb 1000000000 (get_or xs k 0) (h k)) (λ z. absurd (omega arith)) in
    grind (arith, nat_tests, end)

-- no price is too high where each is within its bound, of at most twelve lots
pub priced_none : (ps : List ℕ) (j : ℕ) → j + length ps ≤ 12 → ((k : ℕ) → get_or ps k 0 ≤ 1000000) → overpriced_lot ps j ≡ None
priced_none [] j few h = refl
priced_none (p ∷ ps) j few h =
    let here : p ≤ 1000000 = h 0 in
    let rest : overpriced_lot ps (j + 1) ≡ None = priced_none ps (j + 1) (omega arith) (λ k. h (suc k)) in
    grind (arith, nat_tests)

-- what a reader gives, if it gives anything, is what it was given
priced-own : (o : Option ℕ) (ps x : List ℕ) → priced_but o ps ≡ Ok x → (o ≡ None) × (x ≡ ps)
priced-own None ps x e = (refl, cc)
priced-own (Some j) ps x e = cc

full_own : (o : Option ℕ) (xs x : List ℕ) → full_but o xs ≡ Ok x → (o ≡ None) × (x ≡ xs)
full_own None xs x e = (refl, cc)
full_own (Some i) xs x e = cc

-- a check that keeps what it takes took it
kept_back : {E : Type 0} (refused : E → OpeningRefusal) (r : Result (List ℕ) E) (x : List ℕ) → result_map_both (λ (y : List ℕ). y) refused r ≡ Ok x → r ≡ Ok x
kept_back refused (Ok y) x e = cc
kept_back refused (Err d) x e = cc

-- what each check says, if it takes what it was given
lots_taken : (us x : List ℕ) → lots_checked (supply_in us) ≡ Ok x → Sold us × (x ≡ us)
lots_taken us x e =
    let read = kept_back supply_refused (supply_in us) x e in
    let past = cond_past (eqb (length us) 0 || ltb 12 (length us)) NoSupply (sold_but (unsold_lot us 0 1) us) x read in
    let own = (sold-own (unsold_lot us 0 1) us x past.1).1 in
    ((sold_exactly us).0 (read ∙ ap Ok own), own)

prices-taken : (ps x : List ℕ) → prices_checked (reserve_in ps) ≡ Ok x → ((j : ℕ) → get_or ps j 0 ≤ 1000000) × (x ≡ ps)
prices-taken ps x e =
    let own = priced-own (overpriced_lot ps 0) ps x (kept_back price_refused (reserve_in ps) x e) in
    ((overpriced_none ps 0 (omega arith) own.0).1, own.1)

farms_taken : (xs x : List ℕ) → farms_checked xs ≡ Ok x → (1 ≤ length xs) × (length xs ≤ 48) × (x ≡ xs)
farms_taken xs x e = (grind (arith, nat_tests), grind (arith, nat_tests), grind (arith, nat_tests))

accounts_taken : (xs x : List ℕ) → accounts_checked xs ≡ Ok x → ((i : ℕ) → get_or xs i 0 ≤ 1000000000) × (x ≡ xs)
accounts_taken xs x e =
    let own = full_own (overfull xs) xs x e in
    (funded_if xs own.0, own.1)

company-taken : (n x : ℕ) → company_checked n ≡ Ok x → (n ≤ 1000000000000000) × (x ≡ n)
company-taken n x e = (grind (arith, nat_tests), grind (arith, nat_tests))

-- and that each check takes it
pub lots_ok : (us : List ℕ) → Sold us → lots_checked (supply_in us) ≡ Ok us
lots_ok us s = ap lots_checked ((sold_exactly us).1 s)

pub prices_ok : (ps : List ℕ) → length ps ≤ 12 → ((j : ℕ) → get_or ps j 0 ≤ 1000000) → prices_checked (reserve_in ps) ≡ Ok ps
prices_ok ps few h = ap (λ o. prices_checked (priced_but o ps)) (priced_none ps 0 (omega arith) h)

pub farms_ok : (xs : List ℕ) → 1 ≤ length xs → length xs ≤ 48 → farms_checked xs ≡ Ok xs
farms_ok xs some few = grind (arith, nat_tests)

pub accounts_ok : (xs : List ℕ) → ((i : ℕ) → get_or xs i 0 ≤ 1000000000) → accounts_checked xs ≡ Ok xs
accounts_ok xs h = ap (λ o. full_but o xs) (funded_none xs h)

pub company_ok : (n : ℕ) → n ≤ 1000000000000000 → company_checked n ≡ Ok n
company_ok n h = grind (arith, nat_tests)

-- the sale that is opened holds what was given
state-own : (us s ps r xs x : List ℕ) (n m : ℕ) (h : State) → ◌≡◌ {A = Result State OpeningRefusal} (Ok (record { supply = s; reserve = r; entries = map fresh x; company = m })) (Ok h) →
    s ≡ us → r ≡ ps → x ≡ xs → m ≡ n → h ≡ record { supply = us; reserve = ps; entries = map fresh xs; company = n }
state-own us s ps r xs x n m h e p q t u = cc

opens_back : (lots : List Lot) (accounts : List ℕ) (company : ℕ) (h : State) → open_sale lots accounts company ≡ Ok h →
    Opens lots accounts company × (h ≡ opened lots accounts company)
opens_back lots accounts company h e =
    let a = then_back (lots_checked (supply_in (units_of_lots lots))) _ h e in
    let b = then_back (prices_checked (reserve_in (prices_of_lots lots))) _ h a.2 in
    let c = then_back (farms_checked accounts) _ h b.2 in
    let d = then_back (accounts_checked c.0) _ h c.2 in
    let f = then_back (company_checked company) _ h d.2 in
    let lot = lots_taken (units_of_lots lots) a.0 a.1 in
    let price = prices-taken (prices_of_lots lots) b.0 b.1 in
    let farm = farms_taken accounts c.0 c.1 in
    let held = accounts_taken c.0 d.0 d.1 in
    let purse = company-taken company f.0 f.1 in (
      record {
        sold = lot.0;
        priced = price.0;
        some = farm.0;
        few = farm.1;
        funded = subst (λ (xs : List ℕ). (i : ℕ) → get_or xs i 0 ≤ 1000000000) farm.2 held.0;
        covered = purse.0;
      },
      state-own (units_of_lots lots) a.0 (prices_of_lots lots) b.0 accounts d.0 company f.0 h f.2
          lot.1 price.1 (held.1 ∙ farm.2) purse.1,
    )

-- there are as many prices as units
few-prices : (lots : List Lot) → length (units_of_lots lots) ≤ 12 → length (prices_of_lots lots) ≤ 12
few-prices lots few = omega (arith, length-map lots (λ (l : Lot). l.units), length-map lots (λ (l : Lot). l.reserve))

opens_ok : (lots : List Lot) (accounts : List ℕ) (company : ℕ) → Opens lots accounts company → open_sale lots accounts company ≡ Ok (opened lots accounts company)
opens_ok lots accounts company o =
    rw (
      lots_ok (units_of_lots lots) o.sold,
      prices_ok (prices_of_lots lots) (few-prices lots o.sold.few) o.priced,
      farms_ok accounts o.some o.few,
      accounts_ok accounts o.funded,
      company_ok company o.covered,
    )
    refl

pub opens_exactly : OpensExactly
opens_exactly lots accounts company = (opens_back lots accounts company, opens_ok lots accounts company)
