-- Which supplies and prices are taken, lot by lot. Assumes nothing.
use Rattle.std.proofs.Common.{◌≡◌, ℕ, zero, suc, ◌+◌, ◌*◌, ◌<◌, ◌≤◌, false, cond, ◌||◌, eqb, leb, ltb, ◌⊎◌, List, [], ◌∷◌, length, get_or, drop, Some, None, Ok, Err, Option, refl, sym, ap, ◌∙◌, inl, inr, mul_assoc, arith}
use Rattle.std.proofs.lemmas.Nat.{mul-le}
use Rattle.std.proofs.lemmas.List.{at_drop_more}
use Rattle.std.proofs.lemmas.Bool.{cond-false}
use Rattle.std.proofs.lemmas.Bool.Decides.{nat_tests}
use Rattle.std.specs.List.{enumerate_from, position, position_from}
use Rattle.std.proofs.lemmas.Iterator.Adapters.{position_from-zero}
use Rattle.bundle.specs.Reserves.{overpriced_lot}
use Rattle.bundle.specs.Supplies.{Sold, unsold_lot, sold_but, supply_in, SoldExactly}
use Rattle.bundle.specs.Units.{bundles}
use Rattle.bundle.specs.declared.refusals.SupplyRefusal.TheVariants.{LotCount}
use Rattle.bundle.proofs.Bundles.{bundles_pos}

abbrev pub Right : ℕ → ℕ → Type 0
Right n u = (1 ≤ u) × (u ≤ 64) × (n * (u + 1) ≤ 4096)

test_right : (n u : ℕ) → Right n u → (eqb u 0 || (ltb 64 u || ltb 4096 (n * (u + 1)))) ≡ false
test_right n u r = grind (arith, nat_tests)

pub unsold_next : (us : List ℕ) (i n : ℕ) → i < length us → Right n (get_or us i 0) →
    unsold_lot (drop i us) i n ≡ unsold_lot (drop (i + 1) us) (i + 1) (n * (get_or us i 0 + 1))
unsold_next us i n h r = at_drop_more (λ l. unsold_lot l i n) us i 0 h ∙ cond-false _ _ _ (test_right n (get_or us i 0) r)

most_cons : (m u : ℕ) (us : List ℕ) → u ≤ m → ((k : ℕ) → get_or us k 0 ≤ m) → (k : ℕ) → get_or (u ∷ us) k 0 ≤ m
most_cons m u us most rest zero = most
most_cons m u us most rest (suc k) = rest k

-- no lot is wrong exactly if each is right
none_wrong : (us : List ℕ) (j n : ℕ) → n ≤ 4096 → unsold_lot us j n ≡ None →
    ((k : ℕ) → k < length us → 1 ≤ get_or us k 0) × ((k : ℕ) → get_or us k 0 ≤ 64) × (n * bundles us ≤ 4096)
unfolding bundles
none_wrong [] j n h e = (λ k l. absurd (omega arith), λ k. omega arith, omega arith)
none_wrong (u ∷ us) j n h e =
    let right : Right n u = (grind (arith, nat_tests), grind (arith, nat_tests), grind (arith, nat_tests)) in
    let rest = none_wrong us (j + 1) (n * (u + 1)) right.2 (grind (arith, nat_tests)) in
    (first right.0 rest.0, most_cons 64 u us right.1 rest.1, omega (arith, rest.2, mul_assoc n (u + 1) (bundles us)))
  where
    first : 1 ≤ u → ((k : ℕ) → k < length us → 1 ≤ get_or us k 0) → (k : ℕ) → k < length (u ∷ us) → 1 ≤ get_or (u ∷ us) k 0
    first some rest zero l = omega arith
    first some rest (suc k) l = rest k (omega arith)

none_right : (us : List ℕ) (j n : ℕ) → ((k : ℕ) → k < length us → 1 ≤ get_or us k 0) → ((k : ℕ) → get_or us k 0 ≤ 64) → n * bundles us ≤ 4096 → unsold_lot us j n ≡ None
unfolding bundles
none_right [] j n some most small = refl
none_right (u ∷ us) j n some most small =
    let all : n * (u + 1) * bundles us ≤ 4096 = omega (arith, mul_assoc n (u + 1) (bundles us)) in
    let part : n * (u + 1) * 1 ≤ n * (u + 1) * bundles us = mul-le (n * (u + 1)) 1 (n * (u + 1)) (bundles us) (omega arith) (omega (arith, bundles_pos us)) in
    cond-false _ _ _ (test_right n u (some 0 (omega arith), most 0, omega arith))
    ∙ none_right us (j + 1) (n * (u + 1)) (λ k h. some (suc k) (omega arith)) (λ k. most (suc k)) all

pub sold_if : (us : List ℕ) → 1 ≤ length us → length us ≤ 12 → unsold_lot us 0 1 ≡ None → Sold us
sold_if us some few e =
    let p = none_wrong us 0 1 (omega arith) e in
    record { some = some; few = few; least = p.0; most = p.1; small = omega (arith, p.2) }

-- the count of lots
pub lots_wrong : (us : List ℕ) → (length us ≡ 0) ⊎ (12 < length us) → supply_in us ≡ Err LotCount
lots_wrong us (inl e) = grind (arith, nat_tests)
lots_wrong us (inr h) = grind (arith, nat_tests)

pub lots_right : (us : List ℕ) (o : Option ℕ) → 1 ≤ length us → length us ≤ 12 → unsold_lot us 0 1 ≡ o → supply_in us ≡ sold_but o us
lots_right us o h k e = grind (arith, nat_tests)

-- what is sold is what was asked, and no lot was wrong
pub sold-own : (o : Option ℕ) (us x : List ℕ) → sold_but o us ≡ Ok x → (o ≡ None) × (x ≡ us)
sold-own None us x e = (refl, cc)
sold-own (Some j) us x e = cc

taken-sold : (us : List ℕ) → supply_in us ≡ Ok us → Sold us
taken-sold us e =
    let taken : sold_but (unsold_lot us 0 1) us ≡ Ok us = grind (arith, nat_tests) in
    sold_if us (grind (arith, nat_tests)) (grind (arith, nat_tests)) (sold-own (unsold_lot us 0 1) us us taken).0

pub sold_exactly : SoldExactly
sold_exactly us = (
  taken-sold us,
  λ s. lots_right us None s.some s.few (none_right us 0 1 s.least s.most (omega (arith, s.small))),
)

-- the first price that is wrong, and that none is
overpriced_from : (ps : List ℕ) (j : ℕ) → position_from (λ (p : ℕ × ℕ). ltb 1000000 p.1 || leb 12 p.0) j (enumerate_from j ps) ≡ overpriced_lot ps j
overpriced_from [] j = refl
overpriced_from (p ∷ ps) j = ap (cond (ltb 1000000 p || ltb 11 j) (Some j)) (overpriced_from ps (j + 1))

pub overpriced_first : (ps : List ℕ) → position (λ (p : ℕ × ℕ). ltb 1000000 p.1 || leb 12 p.0) (enumerate_from 0 ps) ≡ overpriced_lot ps 0
overpriced_first ps = position_from-zero (λ (p : ℕ × ℕ). ltb 1000000 p.1 || leb 12 p.0) (enumerate_from 0 ps) ∙ overpriced_from ps 0

pub overpriced_none : (ps : List ℕ) (j : ℕ) → j ≤ 12 → overpriced_lot ps j ≡ None → (j + length ps ≤ 12) × ((k : ℕ) → get_or ps k 0 ≤ 1000000)
overpriced_none [] j h e = (omega arith, λ k. omega arith)
overpriced_none (p ∷ ps) j h e =
    let few : j + 1 ≤ 12 = grind (arith, nat_tests) in
    let rest = overpriced_none ps (j + 1) few (grind (arith, nat_tests)) in
    (omega (arith, rest.0), most_cons 1000000 p ps (grind (arith, nat_tests)) rest.1)

-- where no price is wrong
pub prices_right : (ps : List ℕ) (o : Option ℕ) → o ≡ position (λ (p : ℕ × ℕ). ltb 1000000 p.1 || leb 12 p.0) (enumerate_from 0 ps) → o ≡ None →
    (overpriced_lot ps 0 ≡ None) × (length ps ≤ 12) × ((k : ℕ) → get_or ps k 0 ≤ 1000000)
prices_right ps o e n =
    let none : overpriced_lot ps 0 ≡ None = sym (overpriced_first ps) ∙ sym e ∙ n in
    let right = overpriced_none ps 0 (omega arith) none in
    (none, omega (arith, right.0), right.1)
