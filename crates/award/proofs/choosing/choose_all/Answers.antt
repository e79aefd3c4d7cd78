use Rattle.std.proofs.Common.{◌≡◌, ℕ, ◌+◌, ◌-◌, ◌*◌, ◌<◌, ◌≤◌, List, [], ◌++◌, length, get_or, take, drop, set, sym, refl, ap, ◌∙◌, mul_comm, arith}
use Rattle.std.proofs.lemmas.Nat.{mul-add-lt, mul-le}
use Rattle.std.proofs.lemmas.List.{append-nil, drop_all, get_or-drop, get_or-take, length-drop, length-map, length-take-le, take_all}
use Rattle.bundle.specs.Bids.{Bid, Bids}
use Rattle.bundle.specs.Bundles.{units_of}
use Rattle.bundle.specs.Units.{bundles, less, within}
use Rattle.bundle.proofs.Bundles.{bundles_pos, length-less, less-held, true-within, within_refl, within-true}
use Rattle.sheets.specs.Sheets.{bids_of}
use Rattle.table.specs.Tables.{lent_auction, table_of, from_row, entry}
use Rattle.table.proofs.Layers.{below_filled, bids_from}
use Rattle.table.proofs.Sheets.{kept_small}
use Rattle.table.proofs.TableRows.{drop-rows, table-long}
use Rattle.vcg.specs.Auction.{chosen}
use Rattle.vcg.specs.Optimum.{award}
use Rattle.award.proofs.Bounds.{place_small}
use Rattle.award.proofs.Picks.{award_more, award-written, below_is, lent_below, target_is}
use Rattle.award.proofs.choosing.choose_all.Goals.{After-place, After-row_below, In-loop-farm}
use Rattle.award.proofs.choosing.choose_all.Goals as goal

pub loop-farm-init : goal.loop-farm-init
loop-farm-init c =
    let a = lent_auction c.args.auction.now in
    record {
      long = ap length c.units-x.ensures;
      held = ap (λ x. within x a.supply) c.units-x.ensures ∙ true-within a.supply a.supply (within_refl a.supply);
      written = ap (award a.keep a.bidders) c.units-x.ensures;
    }

-- the row of a farm is in the table
own_entry : (c : In-loop-farm) (p : ℕ) → p < bundles (lent_auction c.args.auction.now).supply → c.loop-farm.farm * c.bundles-row.result + p < length c.args.table.now
own_entry c p h =
    let l = c.args.auction.now in
    let a = lent_auction l in
    omega (
      arith,
      ap (λ m. c.loop-farm.farm * m) c.bundles-row.ensures,
      mul-add-lt c.loop-farm.farm (bundles a.supply) p (length a.bidders + 1) (omega (arith, length-map l.sheets.now bids_of)) h,
      mul_comm (bundles a.supply) (length a.bidders + 1),
      table-long a.supply a.keep a.bidders c.args.table.now _ (sym c.requires.filled),
    )

start : (c : In-loop-farm) → c.loop-farm.farm * c.bundles-row.result < length c.args.table.now
start c = omega (arith, own_entry c 0 (omega (arith, bundles_pos (lent_auction c.args.auction.now).supply)))

-- the place of the target in that row
spot : (c : After-place) → (c.place.result < bundles (lent_auction c.args.auction.now).supply) × (c.place.result < 4096)
spot c = place_small c.args.auction.now.supply.now (units_of c.loop-farm.x) c.place.result c.loop-farm.invariant.held c.place.ensures

pub overflow_mul-own : goal.overflow_mul-own
overflow_mul-own c =
    let l = c.args.auction.now in
    let s = l.supply.now in
    omega (arith, mul-le c.loop-farm.farm c.bundles-row.result 48 4096 (omega (arith, l.few)) (omega (arith, s.counted, s.small, c.bundles-row.ensures)))

pub slice_bounds-own-count : goal.slice_bounds-own-count
slice_bounds-own-count c = omega (arith, start (goal.at.slice_bounds-own-count c).In-loop-farm)

pub slice_bounds-own-start : goal.slice_bounds-own-start
slice_bounds-own-start c = omega (arith, start (goal.at.slice_bounds-own-start c).In-loop-farm)

pub offset_bounds-own-place : goal.offset_bounds-own-place
offset_bounds-own-place c =
    omega (arith, (spot (goal.at.offset_bounds-own-place c).After-place).1)

pub bounds-own-place : goal.bounds-own-place
bounds-own-place c =
    let here = own_entry (goal.at.bounds-own-place c).In-loop-farm c.place.result (spot (goal.at.bounds-own-place c).After-place).0 in
    omega (arith, here, length-drop (c.loop-farm.farm * c.bundles-row.result) c.args.table.now)

-- the row below, as it is lent
lent : (c : After-row_below) → let a = lent_auction c.args.auction.now in c.row_below.result.now ≡ take (bundles a.supply) (from_row a.supply (c.loop-farm.farm + 1) c.args.table.now)
lent c =
    let l = c.args.auction.now in
    let a = lent_auction l in
    let n = length l.sheets.now in
    let t = c.args.table.now in
    let long : (n + 1) * bundles a.supply ≤ length t = omega (arith, table-long a.supply a.keep a.bidders t _ (sym c.requires.filled), ap (λ j. (j + 1) * bundles a.supply) (length-map l.sheets.now bids_of)) in
    lent_below t c.row_below.result.now n (bundles a.supply) c.loop-farm.farm c.loop-farm-test.true l.few long c.row_below.ensures

pub invariant_of-turn : goal.invariant_of-turn
invariant_of-turn c =
    let l = c.args.auction.now in
    let a = lent_auction l in
    let b = bundles a.supply in
    let j = c.loop-farm.farm + 1 in
    let t = c.args.table.now in
    let rest = drop (length (table_of a)) t in
    let here = lent (goal.at.invariant_of-turn c).After-row_below in
    let after = from_row a.supply j t in
    let roomy = below_filled a.supply a.keep (kept_small l) l.sheets.now l.few j after rest
    (ap (from_row a.supply j) (sym c.requires.filled) ∙ drop-rows a.supply a.keep a.bidders j rest (omega (arith, length-map l.sheets.now bids_of))) in
    record {
      roomy = record {
        long = omega (arith, ap length here, length-take-le b after roomy.long);
        small = λ p h. omega (arith, ap (λ r. get_or r p 0) here, get_or-take b after p 0 h, roomy.small p h);
      };
      held = c.loop-farm.invariant.held;
    }

pub loop-farm-preserved : goal.loop-farm-preserved
loop-farm-preserved c =
    let l = c.args.auction.now in
    let a = lent_auction l in
    let s = a.supply in
    let k = c.loop-farm.farm in
    let t = c.args.table.now in
    let x = units_of c.loop-farm.x in
    let sheet = c.sheet-item.result in
    let rest = drop (length (table_of a)) t in
    let many = length-map l.sheets.now bids_of in
    let held = within-true x s c.loop-farm.invariant.held in
    let later = drop (k + 1) a.bidders in
    let like = below_is s a.keep a.bidders t rest (sym c.requires.filled) (k + 1) c.row_below.result.now (lent (goal.at.loop-farm-preserved c).After-row_below) (omega (arith, many)) in
    let from = k * c.bundles-row.result in
    let target = ap (λ l. get_or l c.place.result 0) (take_all (length t - from) (drop from t) (omega (arith, length-drop from t)))
    ∙ get_or-drop from t c.place.result 0
    ∙ ap (λ j. get_or t (from + j) 0) c.place.ensures
    ∙ target_is s a.keep a.bidders t rest (sym c.requires.filled) k c.bundles-row.result c.bundles-row.ensures (omega (arith, many)) x c.loop-farm.invariant.long held in
    let left : units_of c.minus-x.result ≡ less x (chosen (bids_of sheet) c.choose-number.result).want = c.minus-x.ensures ∙ ap (λ (b : Bid). less x b.want) c.chosen_line.ensures in
    let more = award_more s a.keep (entry s c.row_below.result.now) (bids_of sheet) later (drop k a.bidders) x c.choose-number.result _
    (bids_from l.sheets.now k (k + 1) sheet refl c.loop-farm-test.true c.sheet-item.is) c.loop-farm.invariant.long held like target c.choose-number.ensures in
    record {
      long = ap length left ∙ length-less x _ ∙ c.loop-farm.invariant.long;
      held = ap (λ y. within y s) left ∙ true-within _ s (less-held s x _ held);
      written = ap (λ y. take (k + 1) (set c.loop-farm.award k c.choose-number.result) ++ award a.keep later y) left
          ∙ award-written c.loop-farm.award (award a.keep (drop k a.bidders) x) _ k c.choose-number.result (omega (arith, c.requires.room, c.loop-farm.auto.award)) more
          ∙ c.loop-farm.invariant.written;
    }

pub returns : goal.returns
unfolding award
returns c =
    let a = lent_auction c.args.auction.now in
    let k = c.loop-farm.farm in
    let none : drop k a.bidders ≡ [] = drop_all k a.bidders (omega (arith, length-map c.args.auction.now.sheets.now bids_of)) in
    sym (take_all k c.loop-farm.award (omega (arith, c.requires.room, c.loop-farm.auto.award, length-map c.args.auction.now.sheets.now bids_of)))
    ∙ sym (append-nil (take k c.loop-farm.award))
    ∙ ap (λ (ds : List Bids). take k c.loop-farm.award ++ award a.keep ds (units_of c.loop-farm.x)) (sym none)
    ∙ c.loop-farm.invariant.written
