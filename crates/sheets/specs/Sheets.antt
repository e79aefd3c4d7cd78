-- What lines, sheets and messages stand for. Assumes nothing: these are definitions.
use Rattle.std.specs.Prelude.{map, take}
use Rattle.bundle.specs.Bids.{Bid, Bids}
use Rattle.bundle.specs.Bundles.{units_of}
use Rattle.sheets.specs.Reading.{Submission}
use Rattle.sheets.specs.declared.parts.Line.{Line}
use Rattle.sheets.specs.declared.parts.Message.{Message}
use Rattle.sheets.specs.declared.parts.Sheet.{Sheet}

abbrev pub bid_of : Line → Bid
bid_of l = record { want = units_of l.units; value = l.worth }

unfoldable pub bids_of : Sheet → Bids
bids_of s = map bid_of (take s.count s.lines)

abbrev pub submission_of : Message → Submission
submission_of m = record { farm = m.farm; number = m.number; bids = bids_of m.sheet }
