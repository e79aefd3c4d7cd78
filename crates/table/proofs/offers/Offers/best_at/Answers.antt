use Rattle.std.proofs.Common.{◌≡◌, ℕ, ◌+◌, ◌-◌, max, map, length, get_or, drop, sym, ap, ◌∙◌, arith, rules, inl, inr}
use Rattle.std.specs.Slice.Iter.{iter_rest}
use Rattle.std.proofs.lemmas.List.{length-map}
use Rattle.bundle.specs.Bundles.{units_of}
use Rattle.bundle.specs.Stocks.{supply_of}
use Rattle.bundle.specs.Units.{bundle_at, place, less, within}
use Rattle.sheets.specs.Sheets.{bid_of}
use Rattle.sheets.specs.declared.parts.Line.{Line}
use Rattle.table.specs.Offers.{places_of}
use Rattle.table.specs.Tables.{entry, made}
use Rattle.table.proofs.Sweeps.{left_of, better-fits, better_misfits, sweep_start, sweep_step, sweep_end}
use Rattle.vcg.specs.Optimum.{best_among, better}
use Rattle.table.proofs.offers.Offers.best_at.Goals.{In-Some, Then-fits}
use Rattle.table.proofs.offers.Offers.best_at.Goals as goal

pub loop-line-init : goal.loop-line-init
loop-line-init c =
    let o = c.args.self.now in
    let s = supply_of o.supply.now in
    let it = c.into_iter-line-iterator.result in
    let all : iter_rest it.a ≡ o.lines.now = search rules in
    let places : iter_rest it.b ≡ o.places.now = search rules in
    record {
      can = search rules;
      ends = search rules;
      placed = places ∙ o.placed ∙ ap (places_of s) (sym all);
      best = sweep_start s c.args.below.now o.lines.now (iter_rest it.a) c.args.at all c.requires.known;
    }

-- the place of what is left where a line fits
left : (c : Then-fits) → place (supply_of c.args.self.now.supply.now) (less (bundle_at (supply_of c.args.self.now.supply.now) c.args.at) (units_of c.in-Some.line.now.units)) + c.in-Some.place.now ≡ c.args.at
left c =
    let it = c.loop-line.line-iterator in
    let next = c.next.new.self in
    left_of (supply_of c.args.self.now.supply.now) (iter_rest it.a) (iter_rest next.a) c.in-Some.line.now (iter_rest it.b) (iter_rest next.b) c.in-Some.place.now (units_of c.args.x) c.args.at
    c.loop-line.invariant.placed c.in-Some.ensures.steps.0 c.in-Some.ensures.steps.1 c.requires.known c.requires.stands c.if-fits.ensures

pub overflow_sub-at : goal.overflow_sub-at
overflow_sub-at c = omega (arith, left (goal.at.overflow_sub-at c).Then-fits)

-- the places that are left are those of the lines that are left, and what these make
placed_later : (c : In-Some) → iter_rest c.next.new.self.b ≡ places_of (supply_of c.args.self.now.supply.now) (iter_rest c.next.new.self.a)
placed_later c =
    let s = supply_of c.args.self.now.supply.now in
    ap (drop 1) (sym c.in-Some.ensures.steps.1 ∙ c.loop-line.invariant.placed ∙ ap (places_of s) c.in-Some.ensures.steps.0)

best_later : (c : In-Some) (r : ℕ) → let s = supply_of c.args.self.now.supply.now in
    let x = bundle_at s c.args.at in
    r ≡ better (entry s c.args.below.now) x (bid_of c.in-Some.line.now) c.loop-line.most
    → best_among (entry s c.args.below.now) x (map bid_of (iter_rest c.next.new.self.a)) r ≡ made s c.args.below.now (map bid_of c.args.self.now.lines.now) x
best_later c r is =
    let s = supply_of c.args.self.now.supply.now in
    sweep_step (entry s c.args.below.now) (bundle_at s c.args.at) (iter_rest c.loop-line.line-iterator.a) (iter_rest c.next.new.self.a) c.in-Some.line.now c.loop-line.most r c.in-Some.ensures.steps.0 is
    ∙ c.loop-line.invariant.best

pub loop-line-preserved-then-fits : goal.loop-line-preserved-then-fits
loop-line-preserved-then-fits c =
    let s = supply_of c.args.self.now.supply.now in
    let b = c.args.below.now in
    let n = c.args.at in
    let x = bundle_at s n in
    let l = c.in-Some.line.now in
    let w = units_of l.units in
    let m = c.loop-line.most in
    let p = c.in-Some.place.now in
    let here = (goal.at.loop-line-preserved-then-fits c).In-Some in
    let spot : n - p ≡ place s (less x w) = omega (arith, left (goal.at.loop-line-preserved-then-fits c).Then-fits) in
    record {
      can = search rules;
      ends = search rules;
      placed = placed_later here;
      best = best_later here c.max-most.result
          (better-fits (entry s b) x (bid_of l) m _ c.max-most.result (c.if-fits.ensures ∙ ap (within w) c.requires.stands) (ap (λ q. l.worth + get_or b q 0) spot)
          (c.max-most.ensures ∙ ap (λ v. max m (v + get_or b (n - p) 0)) c.from.ensures));
    }

pub loop-line-preserved : goal.loop-line-preserved
loop-line-preserved c =
    let s = supply_of c.args.self.now.supply.now in
    let l = c.in-Some.line.now in
    let m = c.loop-line.most in
    let here = (goal.at.loop-line-preserved c).In-Some in
    record {
      can = search rules;
      ends = search rules;
      placed = placed_later here;
      best = best_later here m
          (better_misfits (entry s c.args.below.now) (bundle_at s c.args.at) (bid_of l) m m (c.if-fits.ensures ∙ ap (within (units_of l.units)) c.requires.stands) (λ _. m));
    }

pub returns : goal.returns
returns c =
    let s = supply_of c.args.self.now.supply.now in
    let it = c.loop-line.line-iterator in
    let same : length (iter_rest it.b) ≡ length (iter_rest it.a) = ap length c.loop-line.invariant.placed ∙ length-map (iter_rest it.a) (λ (l : Line). place s (units_of l.units)) in
    let none : length (iter_rest it.a) ≡ 0 = elim c.in-None.ensures.steps [ inl ended ↦ ended.1.0 | inr ended ↦ sym same ∙ ended.1.0 ] in
    sym (sweep_end (entry s c.args.below.now) (bundle_at s c.args.at) (iter_rest c.loop-line.line-iterator.a) c.loop-line.most none) ∙ c.loop-line.invariant.best
