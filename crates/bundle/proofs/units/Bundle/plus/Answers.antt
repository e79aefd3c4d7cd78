use Rattle.std.proofs.Common.{◌≡◌, ℕ, ◌+◌, ◌<◌, get_or, take, Some, sym, ap, ◌∙◌, ⊎_elim, arith}
use Rattle.std.proofs.lemmas.Bool.{cases_lt, cond-true, cond-false}
use Rattle.std.specs.Option.{option_map}
use Rattle.bundle.specs.Bundles.{units_of}
use Rattle.bundle.proofs.Padding.{sum_too_large, sum_units, sum-within}
use Rattle.bundle.proofs.units.Bundle.plus.Goals as goal

over : (x y z : ℕ) → (z + y < 256 → ⊥) → z ≡ x → 255 < x + y
over x y z n e = ⊎_elim (λ h. absurd (n (omega arith))) (λ h. omega arith) (cases_lt (x + y) 256)

pub returns-in_err-counts : goal.returns-in_err-counts
returns-in_err-counts c =
    let a = c.args.self.now in
    let b = c.args.other.now in
    let i = c.loop-lot.lot in
    ap (option_map units_of) c.from_residual.ensures ∙ sym (cond-false _ _ _ (sum_too_large a b i
    (over (get_or a.counts i 0) (get_or b.counts i 0) (get_or c.loop-lot.counts i 0) c.in_err-counts.ensures (c.loop-lot.invariant.2 i (omega arith)))))

pub returns : goal.returns
unfolding units_of
returns c =
    let a = c.args.self.now in
    let b = c.args.other.now in
    let zs = c.loop-lot.counts in
    let each : (k : ℕ) → k < 12 → get_or zs k 0 ≡ get_or a.counts k 0 + get_or b.counts k 0 = λ k h. c.loop-lot.invariant.1 k (omega arith) in
    ap (λ n. Some (take n zs)) c.max.ensures
    ∙ ap (λ l. Some l) (sum_units a b zs c.loop-lot.invariant.0 each)
    ∙ sym (cond-true _ _ _ (sum-within a b zs c.loop-lot.invariant.0 each (λ k h. c.loop-lot.invariant.3 k (omega arith))))
