use Rattle.std.proofs.Common.{get_or, set, ap, ◌∙◌, arith}
use Rattle.std.proofs.lemmas.List.Edits.{fill_by_more}
use Rattle.std.proofs.lemmas.List.FromFn.{fill_by_all}
use Rattle.bundle.specs.Stocks.{supply_of}
use Rattle.bundle.specs.Units.{bundles, bundle_at, next}
use Rattle.bundle.proofs.Bundles.{next_place}
use Rattle.table.proofs.rows.write_row.Goals as goal

pub loop-p-preserved : goal.loop-p-preserved
loop-p-preserved g c =
    let s = supply_of c.args.supply.now in
    let p = c.loop-p.p in
    record {
      here = c.next-x.ensures ∙ ap (next s) c.loop-p.invariant.here ∙ next_place s p;
      written = λ f computes k h. ap (λ v. get_or (set c.loop-p.entries p v) k 0)
          (computes c.loop-p.x p c.worth.result (omega (arith, c.requires.long, c.loop-p.auto.entries)) c.loop-p.invariant.here c.worth.ensures)
          ∙ fill_by_more (λ q. f (bundle_at s q)) c.loop-p.entries p 0 (omega (arith, c.loop-p.auto.entries)) (c.loop-p.invariant.written f computes) k h;
    }

pub returns : goal.returns
returns g c = λ f computes.
    let s = supply_of c.args.supply.now in
    fill_by_all (λ p. f (bundle_at s p)) c.loop-p.entries (bundles s) 0 (omega (arith, c.requires.long, c.loop-p.auto.entries)) (λ k h. c.loop-p.invariant.written f computes k (omega (arith, c.requires.long, c.loop-p.auto.entries)))
