use Rattle.std.proofs.Common.{◌≡◌, ◌-◌, ◌++◌, length, take, replicate}
use Rattle.bundle.specs.Stocks.{supply_of}
use Rattle.table.specs.Offers.{places_of}
use Rattle.table.proofs.offers.places_of.Given as goal

abbrev pub invariant-loop-k : goal.invariant-loop-k
invariant-loop-k l = record {
  long : length l.places ≡ 32;
  front : l.places ≡ places_of (supply_of l.supply) (take l.k l.lines) ++ replicate (32 - l.k) 0;
}
