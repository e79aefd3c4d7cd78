use Rattle.std.proofs.Common.{◌≡◌, ◌-◌, ◌++◌, length, replicate, ap, ◌∙◌, arith, length-set}
use Rattle.std.proofs.lemmas.List.{take_all}
use Rattle.bundle.specs.Bundles.{units_of}
use Rattle.bundle.specs.Stocks.{supply_of}
use Rattle.bundle.specs.Units.{place}
use Rattle.sheets.specs.declared.parts.Line.{Line}
use Rattle.table.specs.Offers.{places_of}
use Rattle.table.proofs.Sweeps.{places_more, places_front}
use Rattle.table.proofs.offers.places_of.Goals.{After-loop-k}
use Rattle.table.proofs.offers.places_of.Goals as goal

pub loop-k-preserved : goal.loop-k-preserved
loop-k-preserved c = record {
  long = simp length-set c.loop-k.invariant.long;
  front = places_more (supply_of c.args.supply.now) c.args.lines.now c.loop-k.places c.loop-k.k c.index-lines-k.result c.place.result
      c.loop-k-test.true (omega (arith, c.requires))
      (c.place.ensures ∙ ap (λ (l : Line). place (supply_of c.args.supply.now) (units_of l.units)) c.index-lines-k.is) c.loop-k.invariant.front;
}

whole : (c : After-loop-k) → c.loop-k.places ≡ places_of (supply_of c.args.supply.now) c.args.lines.now ++ replicate (32 - length c.args.lines.now) 0
whole c =
    let s = supply_of c.args.supply.now in
    let all : c.loop-k.k ≡ length c.args.lines.now = omega arith in
    c.loop-k.invariant.front
    ∙ (λ i. ap (places_of s) (take_all c.loop-k.k c.args.lines.now (omega arith)) i ++ replicate (32 - all i) 0)

pub returns : goal.returns
returns c =
    let s = supply_of c.args.supply.now in
    let ls = c.args.lines.now in
    record {
      whole = whole c;
      long = c.loop-k.invariant.long;
      front = places_front s ls c.loop-k.places (replicate (32 - length ls) 0) (whole c);
    }
