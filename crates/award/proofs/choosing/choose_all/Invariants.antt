use Rattle.std.proofs.Common.{◌≡◌, true, ◌++◌, length, take, drop}
use Rattle.bundle.specs.Bundles.{units_of}
use Rattle.bundle.specs.Units.{within}
use Rattle.table.specs.Tables.{lent_auction}
use Rattle.vcg.specs.Optimum.{award, best_choice}
use Rattle.award.proofs.choosing.choose_all.Given as goal

abbrev pub invariant-loop-farm : goal.invariant-loop-farm
invariant-loop-farm l =
    let a = lent_auction l.auction in
    record {
      long : length (units_of l.x) ≡ length a.supply;
      held : within (units_of l.x) a.supply ≡ true;
      written : take l.farm l.award ++ award a.keep (drop l.farm a.bidders) (units_of l.x) ≡ best_choice a;
    }
