use Rattle.std.proofs.Common.{◌≡◌, [], get_or, set, ◌+◌, ◌-◌, ◌<◌, length, ap, ◌∙◌, arith}
use Rattle.std.proofs.lemmas.List.FromFn.{fill_by_all, get_or-map-range_with_len, length-map-range_with_len}
use Rattle.std.proofs.lemmas.List.Edits.{fill_by_more}
use Rattle.std.proofs.lemmas.List.{get_or-set_other, length-map}
use Rattle.bundle.specs.Reserves.{prices_of}
use Rattle.sheets.specs.Sheets.{bids_of}
use Rattle.table.specs.Tables.{lent_auction}
use Rattle.vcg.specs.Auction.{chosen}
use Rattle.vcg.specs.Optimum.{best_choice, worth_without, charge_at}
use Rattle.vcg.proofs.Optimal.{length-award}
use Rattle.vcg.proofs.Outcomes.{charge_room}
use Rattle.award.proofs.Bounds.{without-small}
use Rattle.award.proofs.Reserves.{reserve_grows}
use Rattle.award.proofs.Picks.{stated-is}
use Rattle.award.proofs.charging.charge_all.Goals.{After-from-stated}
use Rattle.award.proofs.charging.charge_all.Goals as goal

pub bounds-award-farm : goal.bounds-award-farm
bounds-award-farm c =
    let a = lent_auction c.args.auction.now in
    omega (arith, ap length c.requires.chosen, length-award a.keep a.bidders a.supply, length-map c.args.auction.now.sheets.now bids_of)

known : (c : After-from-stated) → c.loop-farm.farm < length (lent_auction c.args.auction.now).bidders
known c = omega (arith, length-map c.args.auction.now.sheets.now bids_of)

-- what stands in the farm's place, and what it stated for its line
without : (c : After-from-stated) → get_or c.loop-farm.charges c.loop-farm.farm 0 ≡ worth_without (lent_auction c.args.auction.now) c.loop-farm.farm
without c = c.loop-farm.invariant.left c.loop-farm.farm (omega arith) (known c)

stated : (c : After-from-stated) → let a = lent_auction c.args.auction.now in
    c.from-stated.result ≡ (chosen (get_or a.bidders c.loop-farm.farm []) (get_or (best_choice a) c.loop-farm.farm 0)).value
stated c =
    c.from-stated.ensures
    ∙ stated-is c.args.auction.now.sheets.now c.args.award.now (best_choice (lent_auction c.args.auction.now)) c.loop-farm.farm c.sheet-item.result c.chosen_line.result
    c.loop-farm-test.true c.sheet-item.is c.requires.chosen c.chosen_line.ensures

fits : (c : After-from-stated) → c.loop-farm.farm < length c.loop-farm.charges
fits c =
    let a = lent_auction c.args.auction.now in
    omega (arith, known c, c.loop-farm.auto.charges, ap length c.requires.without, length-map-range_with_len (worth_without a) 0 (length a.bidders))

pub bounds-charges-farm : goal.bounds-charges-farm
bounds-charges-farm c = fits (goal.at.bounds-charges-farm c).After-from-stated

pub bounds-charges-farm-in-loop-farm : goal.bounds-charges-farm-in-loop-farm
bounds-charges-farm-in-loop-farm c = fits (goal.at.bounds-charges-farm-in-loop-farm c).After-from-stated

pub overflow_add-charges : goal.overflow_add-charges
overflow_add-charges c =
    let l = c.args.auction.now in
    omega (
      arith,
      without (goal.at.overflow_add-charges c).After-from-stated,
      without-small l c.loop-farm.farm,
      c.from-stated.ensures,
      c.chosen_line.result.small,
    )

pub overflow_sub-charges : goal.overflow_sub-charges
overflow_sub-charges c =
    let a = lent_auction c.args.auction.now in
    let here = (goal.at.overflow_sub-charges c).After-from-stated in
    omega (arith, c.requires.best, without here, stated here, charge_room a c.loop-farm.farm (known here) (reserve_grows a.supply (prices_of c.args.auction.now.reserve.now) a.bidders))

pub loop-farm-init : goal.loop-farm-init
loop-farm-init c =
    let a = lent_auction c.args.auction.now in
    let n = length a.bidders in
    record {
      charged = λ k h. absurd (omega arith);
      left = λ k _ h. ap (λ l. get_or l k 0) c.requires.without ∙ get_or-map-range_with_len (worth_without a) 0 n k k 0 h (omega arith);
    }

pub loop-farm-preserved : goal.loop-farm-preserved
unfolding charge_at
loop-farm-preserved c =
    let a = lent_auction c.args.auction.now in
    let here = (goal.at.loop-farm-preserved c).After-from-stated in
    let cs = c.loop-farm.charges in
    let farm = c.loop-farm.farm in
    record {
      charged = λ k h. ap (λ v. get_or (set cs farm v) k 0) (λ i. (without here i + stated here i) - c.requires.best i) ∙ fill_by_more (charge_at a) cs farm 0 (fits here) c.loop-farm.invariant.charged k h;
      left = λ k h l. get_or-set_other cs farm k _ 0 (λ e. omega arith) ∙ c.loop-farm.invariant.left k (omega arith) l;
    }

pub returns : goal.returns
returns c =
    let a = lent_auction c.args.auction.now in
    let n = length a.bidders in
    let long : length c.loop-farm.charges ≡ n = omega (arith, c.loop-farm.auto.charges, ap length c.requires.without, length-map-range_with_len (worth_without a) 0 n) in
    fill_by_all (charge_at a) c.loop-farm.charges n 0 long (λ k h. c.loop-farm.invariant.charged k (omega (arith, length-map c.args.auction.now.sheets.now bids_of)))
