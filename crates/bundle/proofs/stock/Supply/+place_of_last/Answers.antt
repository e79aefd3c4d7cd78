use Rattle.std.proofs.Common.{◌≡◌, ℕ, ◌+◌, ◌-◌, ◌*◌, ◌≤◌, get_or, drop, sym, ◌∙◌, arith}
use Rattle.std.proofs.lemmas.Nat.{mul-le}
use Rattle.bundle.specs.Stocks.{supply_of}
use Rattle.bundle.specs.Units.{bundles}
use Rattle.bundle.proofs.Padding.{length_units, get_or_units}
use Rattle.bundle.proofs.Steps.{place_step, place_end, bundles-drop, place-small}
use Rattle.bundle.proofs.stock.Supply.+place_of_last.Goals as goal

next : {t : ℕ} (c : goal.After-place_of_last t) → c.args.self.now.units.lots - (c.args.left - 1) ≡ c.args.self.now.units.lots - c.args.left + 1
next c = omega arith

base : {t : ℕ} (c : goal.After-place_of_last t) → c.from-base.result ≡ get_or (supply_of c.args.self.now) (c.args.self.now.units.lots - c.args.left) 0
base c = let u = c.args.self.now.units in c.from-base.ensures ∙ sym (get_or_units u (u.lots - c.args.left))

-- the bound at this lot, from the bound at the next
small : {t : ℕ} (c : goal.After-place_of_last t)
    → c.from.result + (c.from-base.result + 1) * c.place_of_last.result ≤ 255 * c.args.left * bundles (drop (c.args.self.now.units.lots - c.args.left) (supply_of c.args.self.now))
small c =
    let u = c.args.self.now.units in
    let i = u.lots - c.args.left in
    let count : c.args.left - 1 + 1 ≡ c.args.left = omega arith in
    let below = rw (next c) at c.place_of_last.ensures.small in
    rw (base c) (rw count at (place-small (supply_of c.args.self.now) i c.from.result c.place_of_last.result (c.args.left - 1) (omega (arith, length_units u)) (omega arith) below))

fits : {t : ℕ} (c : goal.After-place_of_last t) → c.from.result + (c.from-base.result + 1) * c.place_of_last.result ≤ 3060 * 4096
fits c =
    let s = c.args.self.now in
    let i = s.units.lots - c.args.left in
    omega (arith, small c, mul-le (255 * c.args.left) (bundles (drop i (supply_of s))) 3060 4096 (omega arith) (omega (arith, bundles-drop i (supply_of s))))

pub returns-then-left-eq0-clause-is : goal.returns-then-left-eq0-clause-is
returns-then-left-eq0-clause-is t c =
    let s = c.args.self.now in
    sym (place_end (supply_of s) c.args.x.now.counts (s.units.lots - c.args.left) (omega (arith, length_units s.units)))

pub overflow_mul-result : goal.overflow_mul-result
overflow_mul-result t c = omega (arith, fits c)

pub overflow_add-result : goal.overflow_add-result
overflow_add-result t c = omega (arith, fits c)

pub returns : goal.returns
returns t c =
    let s = c.args.self.now in
    let i = s.units.lots - c.args.left in
    let is = rw (next c) at c.place_of_last.ensures.is in
    let step = place_step (supply_of s) c.args.x.now.counts i (omega (arith, length_units s.units)) (omega arith) in
    record { is = (λ n. c.from.ensures n + (base c n + 1) * is n) ∙ sym step; small = small c }
