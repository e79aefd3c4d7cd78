use Rattle.std.proofs.Common.{◌≡◌, ◌+◌, length, sym, subst, ap, ◌∙◌, rules}
use Rattle.std.proofs.lemmas.List.{length-map}
use Rattle.sheets.specs.Sheets.{bids_of}
use Rattle.table.specs.Tables.{lent_auction, entry, from_row}
use Rattle.table.proofs.Backs.{Turn, all_to_come, to_come, turn_back, end_back}
use Rattle.table.proofs.Layers.{FilledFrom, below_filled, filled_own, filled_more, filled_all, small-keep}
use Rattle.table.proofs.auction.Auction.fill_rows.Goals.{In-Some}
use Rattle.table.proofs.auction.Auction.fill_rows.Goals as goal

pub loop-row-init : goal.loop-row-init
loop-row-init c =
    let a = lent_auction c.args.self.now in
    let sheets = c.args.self.now.sheets.now in
    let t = c.args.table.now in
    let last = from_row a.supply (length a.bidders) t in
    let all : to_come c.into_iter-row-iterator.result ≡ sheets = cc in
    record {
      can = search rules;
      ends = search rules;
      walk = all_to_come sheets c.into_iter-row-iterator.result (cc) all;
      filled = subst (λ j. FilledFrom a.supply (entry a.supply last) a.bidders (from_row a.supply (length a.bidders + 1) t) j t)
          (length-map sheets bids_of ∙ sym (ap length all)) (filled_own a.supply a.bidders t c.requires.long);
    }

turn : (c : In-Some) → Turn c.args.self.now.sheets.now c.loop-row.row-iterator c.next.new.self c.in-Some.row c.in-Some.sheet
turn c = turn_back c.args.self.now.sheets.now c.loop-row.row-iterator c.next.new.self c.next.result c.in-Some.row c.in-Some.sheet c.loop-row.invariant.walk c.in-Some.is c.next.ensures.steps

filled : (c : In-Some) → let a = lent_auction c.args.self.now in
    FilledFrom a.supply (entry a.supply (from_row a.supply (length a.bidders) c.args.table.now)) a.bidders (from_row a.supply (length a.bidders + 1) c.args.table.now) (c.in-Some.row + 1) c.loop-row.table
filled c =
    let a = lent_auction c.args.self.now in
    let t = c.args.table.now in
    let n = length a.bidders in
    subst (λ j. FilledFrom a.supply (entry a.supply (from_row a.supply n t)) a.bidders (from_row a.supply (n + 1) t) j c.loop-row.table) (turn c).here c.loop-row.invariant.filled

pub fill_row-requires : goal.fill_row-requires
fill_row-requires c =
    let a = lent_auction c.args.self.now in
    let n = length a.bidders in
    let t = c.args.table.now in
    below_filled a.supply (entry a.supply (from_row a.supply n t)) (small-keep a.supply t n c.requires) c.args.self.now.sheets.now c.args.self.now.few (c.in-Some.row + 1) _ (from_row a.supply (n + 1) t)
    (filled (goal.at.fill_row-requires c).In-Some)

pub loop-row-preserved : goal.loop-row-preserved
loop-row-preserved c =
    let a = lent_auction c.args.self.now in
    let n = length a.bidders in
    let t = c.args.table.now in
    let keep = entry a.supply (from_row a.supply n t) in
    let here = turn (goal.at.loop-row-preserved c).In-Some in
    let rest = from_row a.supply (n + 1) t in
    record {
      can = search rules;
      ends = search rules;
      walk = here.on;
      filled = subst (λ j. FilledFrom a.supply keep a.bidders rest j c.fill_row.new.table) (sym here.there)
          (filled_more a.supply keep c.args.self.now.sheets.now rest c.loop-row.table c.fill_row.new.table c.in-Some.row c.in-Some.sheet.now here.known here.item
          (filled (goal.at.loop-row-preserved c).In-Some) c.fill_row.ensures);
    }

pub returns : goal.returns
returns c =
    let a = lent_auction c.args.self.now in
    let t = c.args.table.now in
    filled_all a.supply (entry a.supply (from_row a.supply (length a.bidders) t)) a.bidders (length (to_come c.loop-row.row-iterator)) t c.loop-row.table
    (end_back c.loop-row.row-iterator c.next.new.self c.next.result c.in-None.is c.next.ensures.steps) c.loop-row.invariant.filled
