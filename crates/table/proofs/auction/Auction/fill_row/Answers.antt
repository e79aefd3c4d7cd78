use Rattle.std.proofs.Common.{◌≡◌, ℕ, ◌+◌, ◌*◌, ◌≤◌, List, [], ◌++◌, map, length, take, drop, rules, sym, ap, ◌∙◌, subst, append_assoc, arith, add-mul}
use Rattle.std.proofs.lemmas.List.{append-nil, drop_all, drop_at, length-drop, length-take-le}
use Rattle.std.proofs.lemmas.Nat.{mul-le}
use Rattle.bundle.proofs.Bundles.{bundles_pos}
use borrow.Rule.Slice.PartMut.{put_mid}
use Rattle.bundle.specs.Stocks.{supply_of}
use Rattle.bundle.specs.Units.{bundles, bundle_at}
use Rattle.sheets.specs.Sheets.{bid_of, bids_of}
use Rattle.sheets.proofs.Over.{few_lines}
use Rattle.table.specs.Offers.{Below}
use Rattle.table.specs.Tables.{from_row, made}
use Rattle.table.proofs.auction.Auction.fill_row.Goals.{After-split_at_mut-above}
use Rattle.table.proofs.auction.Auction.fill_row.Goals as goal

-- what follows a part that was written up to the end of its slice
part_written : (above entries below : List ℕ) (a k j : ℕ) → j ≡ a → a ≤ length above → length above ≤ a + k → drop j (put_mid a k above entries ++ below) ≡ entries ++ below
part_written above entries below a k j same h whole =
    let none : drop k (drop a above) ≡ [] = drop_all k (drop a above) (omega (arith, length-drop a above)) in
    ap (drop j) (ap (λ l. (take a above ++ (entries ++ l)) ++ below) none ∙ ap (λ l. (take a above ++ l) ++ below) (append-nil entries) ∙ append_assoc (take a above) entries below)
    ∙ drop_at (take a above) (entries ++ below) j (length-take-le a above h ∙ sym same)

after : (c : After-split_at_mut-above) → c.split_at_mut-above.result.1.now ≡ from_row (supply_of c.args.self.now.supply.now) (c.args.farm + 1) c.args.table.now
after c = c.split_at_mut-above.ensures.back ∙ ap (λ n. drop ((c.args.farm + 1) * n) c.args.table.now) c.bundles-many.ensures

pub overflow_add-farm : goal.overflow_add-farm
overflow_add-farm c =
    let b = bundles (supply_of c.args.self.now.supply.now) in
    let k = c.args.farm + 1 in
    omega (arith, c.requires.long, length-drop (k * b) c.args.table.now, bundles_pos (supply_of c.args.self.now.supply.now), mul-le k 1 k b (omega arith) (omega (arith, bundles_pos (supply_of c.args.self.now.supply.now))))

pub places_of-places-requires : goal.places_of-places-requires
places_of-places-requires c = few_lines c.args.sheet.now c.lines-lines.result.now c.lines-lines.ensures

pub write_row-requires-clause-able : goal.write_row-requires-clause-able
write_row-requires-clause-able c =
    let s = supply_of c.args.self.now.supply.now in
    λ x p low at _ _ _ _ _ _ _. (subst (Below s) (sym (after (goal.at.write_row-requires-clause-able c).After-split_at_mut-above)) c.requires, (low, at))

pub returns : goal.returns
returns c =
    let s = supply_of c.args.self.now.supply.now in
    let here = after (goal.at.returns c).After-split_at_mut-above in
    let below = c.split_at_mut-above.result.1.now in
    let ls = c.lines-lines.result.now in
    let wrote = c.write_row.ensures (made s (from_row s (c.args.farm + 1) c.args.table.now) (bids_of c.args.sheet.now)) (λ x p w low at post.
    let best : w ≡ made s below (map bid_of ls) (bundle_at s p) = search rules in
    best ∙ (λ i. made s (here i) (c.lines-lines.ensures i) (bundle_at s p))) in
    part_written c.split_at_mut-above.result.0.now c.write_row.new.entries below (c.args.farm * c.bundles-many.result) _ _ (ap (λ n. c.args.farm * n) (sym c.bundles-many.ensures))
    (omega (arith, c.split_at_mut-above.ensures.front_len, add-mul c.args.farm 1 c.bundles-many.result)) (omega arith)
    ∙ (λ i. wrote i ++ here i)
