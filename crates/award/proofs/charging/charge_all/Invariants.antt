use Rattle.std.proofs.Common.{◌≡◌, ℕ, ◌<◌, ◌≤◌, length, get_or}
use Rattle.table.specs.Tables.{lent_auction}
use Rattle.vcg.specs.Optimum.{worth_without, charge_at}
use Rattle.award.proofs.charging.charge_all.Given as goal

abbrev pub invariant-loop-farm : goal.invariant-loop-farm
invariant-loop-farm l =
    let a = lent_auction l.auction in
    record {
      charged : (k : ℕ) → k < l.farm → get_or l.charges k 0 ≡ charge_at a k;
      left : (k : ℕ) → l.farm ≤ k → k < length a.bidders → get_or l.charges k 0 ≡ worth_without a k;
    }
