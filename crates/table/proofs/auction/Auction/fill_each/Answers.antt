use Rattle.std.proofs.Common.{◌≡◌, ◌+◌, ◌-◌, map, length, drop, set, sym, refl, ap, ◌∙◌, subst, arith, rules}
use Rattle.std.specs.List.{range_with_len}
use Rattle.std.proofs.lemmas.List.{drop_all, length-map}
use Rattle.sheets.specs.Sheets.{bids_of}
use Rattle.vcg.specs.Optimum.{worth_without}
use Rattle.table.specs.Tables.{lent_auction, from_row}
use Rattle.table.proofs.Backs.{Turn, all_to_come, to_come, turn_back, end_back}
use Rattle.table.proofs.Layers.{FilledFrom, below_filled, counted_more, filled_all, filled_last, filled_more, small_filled, without_is}
use Rattle.table.proofs.Sheets.{kept_cap, kept_small}
use Rattle.table.proofs.auction.Auction.fill_each.Goals.{In-Some}
use Rattle.table.proofs.auction.Auction.fill_each.Goals as goal

pub loop-farm-init : goal.loop-farm-init
loop-farm-init c =
    let a = lent_auction c.args.self.now in
    let sheets = c.args.self.now.sheets.now in
    let n = length a.bidders in
    let t = c.args.table.now in
    let u = c.keep_row.new.table in
    let f = worth_without a in
    let all : to_come c.into_iter-farm-iterator.result ≡ sheets = cc in
    let count : n ≡ length sheets = length-map sheets bids_of in
    let here = count ∙ sym (ap length all) in
    let over : n - n ≡ 0 = omega arith in
    record {
      can = search rules;
      ends = search rules;
      walk = all_to_come sheets c.into_iter-farm-iterator.result (cc) all;
      filled = subst (λ j. FilledFrom a.supply a.keep a.bidders (from_row a.supply (n + 1) t) j u) here
          (filled_last a.supply a.keep a.bidders (from_row a.supply (n + 1) t) u
          c.keep_row.ensures);
      counted = subst (λ j. drop j c.args.without.now ≡ map f (range_with_len j (n - j))) here
          (drop_all n c.args.without.now (omega (arith, c.requires.room)) ∙ ap (λ k. map f (range_with_len n k)) (sym over));
    }

turn : (c : In-Some) → Turn c.args.self.now.sheets.now c.loop-farm.farm-iterator c.next.new.self c.in-Some.farm c.in-Some.sheet
turn c =
    turn_back c.args.self.now.sheets.now c.loop-farm.farm-iterator c.next.new.self c.next.result c.in-Some.farm c.in-Some.sheet c.loop-farm.invariant.walk c.in-Some.is c.next.ensures.steps

filled : (c : In-Some) → let a = lent_auction c.args.self.now in
    FilledFrom a.supply a.keep a.bidders (from_row a.supply (length a.bidders + 1) c.args.table.now) (c.in-Some.farm + 1) c.loop-farm.table
filled c =
    let a = lent_auction c.args.self.now in
    subst (λ j. FilledFrom a.supply a.keep a.bidders (from_row a.supply (length a.bidders + 1) c.args.table.now) j c.loop-farm.table) (turn c).here c.loop-farm.invariant.filled

pub worth_without_farm-requires-clause-row : goal.worth_without_farm-requires-clause-row
worth_without_farm-requires-clause-row c =
    let a = lent_auction c.args.self.now in
    small_filled a.supply a.keep (kept_cap c.args.self.now) c.args.self.now.sheets.now c.args.self.now.few (c.in-Some.farm + 1) c.loop-farm.table
    (from_row a.supply (length a.bidders + 1) c.args.table.now) (filled (goal.at.worth_without_farm-requires-clause-row c).In-Some)

pub fill_row-requires : goal.fill_row-requires
fill_row-requires c =
    let a = lent_auction c.args.self.now in
    below_filled a.supply a.keep (kept_small c.args.self.now) c.args.self.now.sheets.now c.args.self.now.few (c.in-Some.farm + 1) _ _ (c.worth_without_farm.ensures.after ∙ filled (goal.at.fill_row-requires c).In-Some)

pub loop-farm-preserved : goal.loop-farm-preserved
loop-farm-preserved c =
    let a = lent_auction c.args.self.now in
    let sheets = c.args.self.now.sheets.now in
    let n = length a.bidders in
    let k = c.in-Some.farm in
    let f = worth_without a in
    let here = turn (goal.at.loop-farm-preserved c).In-Some in
    let after = filled (goal.at.loop-farm-preserved c).In-Some in
    let rest = from_row a.supply (n + 1) c.args.table.now in
    let many : n ≡ length sheets = length-map sheets bids_of in
    let known = here.known in
    record {
      can = search rules;
      ends = search rules;
      walk = here.on;
      filled = subst (λ j. FilledFrom a.supply a.keep a.bidders rest j c.fill_row.new.table) (sym here.there)
          (filled_more a.supply a.keep sheets rest c.worth_without_farm.new.table c.fill_row.new.table k c.in-Some.sheet.now known here.item (c.worth_without_farm.ensures.after ∙ after) c.fill_row.ensures);
      counted = subst (λ j. drop j (set c.loop-farm.without k c.worth_without_farm.result) ≡ map f (range_with_len j (n - j))) (sym here.there)
          (counted_more f c.loop-farm.without k (k + 1) n c.worth_without_farm.result refl (omega arith) (omega (arith, c.requires.room, c.loop-farm.auto.without))
          (c.worth_without_farm.ensures.value ∙ without_is a.supply a.keep a.bidders k c.loop-farm.table rest (omega arith) after)
          (subst (λ j. drop j c.loop-farm.without ≡ map f (range_with_len j (n - j))) here.here c.loop-farm.invariant.counted));
    }

pub returns-clause-filled : goal.returns-clause-filled
returns-clause-filled c =
    let a = lent_auction c.args.self.now in
    filled_all a.supply a.keep a.bidders (length (to_come c.loop-farm.farm-iterator)) c.args.table.now c.loop-farm.table
    (end_back c.loop-farm.farm-iterator c.next.new.self c.next.result c.in-None.is c.next.ensures.steps) c.loop-farm.invariant.filled
