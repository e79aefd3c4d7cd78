use Rattle.std.proofs.Common.{◌≡◌, ◌+◌, ◌<◌, length, ◌≢◌, get_or, take, set, sym, ap, ◌∙◌, arith, length-set}
use lib.Seq.{take-set-lt}
use Rattle.std.proofs.lemmas.List.{get_or-set_other, get_or-take, length-take-le}
use Rattle.bundle.specs.Bundles.{units_of}
use Rattle.bundle.specs.Stocks.{supply_of}
use Rattle.bundle.proofs.Padding.{length_units, get_or_units}
use Rattle.bundle.proofs.Steps.{next_room, next_carry, next_end}
use Rattle.bundle.proofs.stock.Supply.next.Goals.{In-loop-lot}
use Rattle.bundle.proofs.stock.Supply.next.Goals as goal

-- the lot is one of both
here : (c : In-loop-lot) → let s = c.args.self.now in let us = take c.args.x.now.lots c.loop-lot.counts in let i = c.loop-lot.lot in
    (i < length (supply_of s)) × (i < length us) × (get_or us i 0 ≡ get_or c.loop-lot.counts i 0) × (get_or (take c.min-lots.result s.units.counts) i 0 ≡ get_or (supply_of s) i 0)
here c =
    let u = c.args.self.now.units in
    let n = c.args.x.now.lots in
    let i = c.loop-lot.lot in
    let xs = c.loop-lot.counts in
    (omega (arith, length_units u), omega (arith, length-take-le n xs (omega arith)), get_or-take n xs i 0 (omega arith), get_or-take c.min-lots.result u.counts i 0 (omega arith) ∙ sym (get_or_units u i))

pub returns-then-counts-lot : goal.returns-then-counts-lot
unfolding units_of
returns-then-counts-lot c =
    let n = c.args.x.now.lots in
    let i = c.loop-lot.lot in
    let xs = c.loop-lot.counts in
    let h = here (goal.at.returns-then-counts-lot c).In-loop-lot in
    take-set-lt n xs i (get_or xs i 0 + 1) (omega arith)
    ∙ ap (λ v. set (take n xs) i (v + 1)) (sym h.2)
    ∙ next_room (supply_of c.args.self.now) (take n xs) i h.0 h.1 (omega (arith, h.2, h.3))
    ∙ c.loop-lot.invariant.1

pub loop-lot-preserved : goal.loop-lot-preserved
loop-lot-preserved c =
    let n = c.args.x.now.lots in
    let i = c.loop-lot.lot in
    let xs = c.loop-lot.counts in
    let h = here (goal.at.loop-lot-preserved c).In-loop-lot in (
      simp length-set c.loop-lot.invariant.0,
      rw (take-set-lt n xs i _ (omega arith))
          (next_carry (supply_of c.args.self.now) (take n xs) i h.0 h.1 (omega (arith, h.2, h.3))
          ∙ c.loop-lot.invariant.1),
      λ k h. let ne : k ≢ i = omega arith in rw get_or-set_other (c.loop-lot.invariant.2 k h),
    )

pub returns : goal.returns
unfolding units_of
returns c =
    let s = c.args.self.now in
    let n = c.args.x.now.lots in
    let xs = c.loop-lot.counts in
    sym (next_end (supply_of s) (take n xs) c.loop-lot.lot (omega (arith, length_units s.units, length-take-le n xs (omega arith)))) ∙ c.loop-lot.invariant.1
