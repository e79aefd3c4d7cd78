use Rattle.std.proofs.Common.{◌≡◌, ℕ, ◌≤◌, None, length, get_or, Ok, refl, sym, ap, ◌∙◌, ⊎_elim, arith}
use Rattle.std.proofs.lemmas.List.{get_or-take}
use Rattle.std.proofs.lemmas.Bool.{cases_lt}
use Rattle.bundle.specs.Reserves.{prices_of, overpriced_lot, priced_but}
use Rattle.bundle.proofs.Supplies.{overpriced_first, prices_right}
use Rattle.bundle.proofs.prices.Reserve.new.Goals.{In_default}
use Rattle.bundle.proofs.prices.Reserve.new.Goals as goal

pub returns-in-Some : goal.returns-in-Some
returns-in-Some c = let ps = c.args.prices.now in ap (λ o. priced_but o ps) (sym c.in-Some.is ∙ c.overpriced.ensures ∙ overpriced_first ps)

right : (c : In_default) → let ps = c.args.prices.now in (overpriced_lot ps 0 ≡ None) × (length ps ≤ 12) × ((k : ℕ) → get_or ps k 0 ≤ 1000000)
right c = prices_right c.args.prices.now c.overpriced.result c.overpriced.ensures c.in_default.is

pub front-requires : goal.front-requires
front-requires c = (omega arith, (right (goal.at.front-requires c).In_default).1)

pub invariant_of-result-clause-small : goal.invariant_of-result-clause-small
invariant_of-result-clause-small c = λ j.
    let ps = c.args.prices.now in
    let xs = c.front.result in
    ⊎_elim
    (λ h. omega (arith, (right (goal.at.invariant_of-result-clause-small c).In_default).2 j, get_or-take (length ps) xs j 0 h, ap (λ l. get_or l j 0) c.front.ensures.same))
    (λ h. omega (arith, c.front.ensures.rest j 0 h refl))
    (cases_lt j (length ps))

pub returns : goal.returns
unfolding prices_of
returns c = ap (λ l. Ok l) c.front.ensures.same ∙ ap (λ o. priced_but o c.args.prices.now) (sym (right (goal.at.returns c).In_default).0)
