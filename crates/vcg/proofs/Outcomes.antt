-- The computed outcome is by the rule, and the only one that is. Assumes nothing.
use Rattle.std.proofs.Common.{◌≡◌, ℕ, ◌+◌, ◌<◌, ◌≤◌, List, [], length, get_or, sym, ap, ◌∙◌, subst, arith}
use Rattle.std.proofs.lemmas.List.FromFn.{length-map-range_with_len, get_or-map-range_with_len}
use Rattle.std.proofs.lemmas.List.{ext_get_or}
use Rattle.vcg.specs.Auction.{Auction, chosen, with_bids}
use Rattle.vcg.specs.Charges.{Outcome, gets, Ruled, Settled, Grows}
use Rattle.vcg.specs.Optimum.{best_worth, worth_without, best_choice, charge_at, outcome_of, OutcomeExactly}
use Rattle.vcg.proofs.Optimal.{award_best, award-worth, award_is_first}
use Rattle.vcg.proofs.Order.{one_choice}
use Rattle.vcg.proofs.Rule.{best_same, room}

pub length-charges : (a : Auction) → length (outcome_of a).charge ≡ length a.bidders
length-charges a = length-map-range_with_len (charge_at a) 0 (length a.bidders)

get_or-charge : (a : Auction) (i : ℕ) → i < length a.bidders → get_or (outcome_of a).charge i 0 ≡ charge_at a i
get_or-charge a i h = get_or-map-range_with_len (charge_at a) 0 (length a.bidders) i i 0 h (omega arith)

-- a charge does not stop at 0
pub charge_room : (a : Auction) (i : ℕ) → i < length a.bidders → Grows a
    → best_worth a ≤ worth_without a i + (chosen (get_or a.bidders i []) (get_or (best_choice a) i 0)).value
unfolding with_bids
charge_room a i h grows =
    omega (
      arith,
      award-worth a,
      award-worth (with_bids a i []),
      room a i (best_choice a) (best_choice (with_bids a i [])) h grows (award_best a).can (award_best (with_bids a i [])),
    )

outcome-is-ruled : (a : Auction) → Grows a → Ruled a (outcome_of a)
unfolding with_bids gets charge_at
outcome-is-ruled a grows = record {
  best = award_best a;
  charges = λ i h. record {
    without = best_choice (with_bids a i []);
    best = award_best (with_bids a i []);
    sum = omega (arith, get_or-charge a i h, award-worth a, award-worth (with_bids a i []), charge_room a i h grows);
  };
}

outcome-is-settled : (a : Auction) → Grows a → Settled a (outcome_of a)
outcome-is-settled a grows = record {
  ruled = outcome-is-ruled a grows;
  first = award_is_first a;
  each_once = length-charges a;
}

-- by the rule the choice is the award, so the charge is what is computed
charge-is : (a : Auction) (o : Outcome) (i : ℕ) → i < length a.bidders → Ruled a o → o.choice ≡ best_choice a → get_or o.charge i 0 ≡ charge_at a i
unfolding with_bids gets charge_at
charge-is a o i h r e =
    let c = r.charges i h in
    let v : (chosen (get_or a.bidders i []) (get_or o.choice i 0)).value ≡ (chosen (get_or a.bidders i []) (get_or (best_choice a) i 0)).value = rw e in
    omega (
      arith,
      award-worth a,
      award-worth (with_bids a i []),
      best_same a o.choice (best_choice a) r.best (award_best a),
      best_same (with_bids a i []) c.without (best_choice (with_bids a i [])) c.best (award_best (with_bids a i [])),
    )

charges_are : (a : Auction) (o : Outcome) → Settled a o → o.choice ≡ best_choice a → o.charge ≡ (outcome_of a).charge
charges_are a o s e =
    ext_get_or 0 o.charge (outcome_of a).charge
    (s.each_once ∙ sym (length-charges a))
    (λ i h. let k : i < length a.bidders = omega arith in charge-is a o i k s.ruled e ∙ sym (get_or-charge a i k))

settled-is-outcome : (a : Auction) (o : Outcome) → Settled a o → o ≡ outcome_of a
settled-is-outcome a o s =
    let e : o.choice ≡ best_choice a = one_choice a o.choice (best_choice a) s.ruled.best (award_best a) s.first (award_is_first a) in
    let with-choice : List ℕ → Outcome = λ c. record { choice = c; charge = o.charge } in
    let with-charge : List ℕ → Outcome = λ c. record { choice = best_choice a; charge = c } in
    ap with-choice e ∙ ap with-charge (charges_are a o s e)

pub outcome_exactly : OutcomeExactly
outcome_exactly a o grows = (λ e. subst (Settled a) (sym e) (outcome-is-settled a grows), settled-is-outcome a o)
