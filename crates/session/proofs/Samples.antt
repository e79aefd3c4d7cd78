-- The sample by computation. Assumes nothing.
use Rattle.std.specs.Prelude.{⊤}
use Rattle.std.proofs.Common.{ℕ, [], ◌∷◌, refl}
use Rattle.bundle.specs.Reserves.{priced}
use Rattle.bundle.specs.Units.{less, within, bundles, bundle_at}
use Rattle.sheets.specs.Reading.{units_in, lines_in}
use Rattle.sheets.specs.Writing.{message_bytes}
use Rattle.vcg.specs.Auction.{chosen}
use Rattle.vcg.specs.Optimum.{best_among, optimum, first_among, pick, award, charge_at}
use Rattle.table.specs.Tables.{rows}
use Rattle.sale.specs.Opening.{opened}
use Rattle.sale.specs.States.{after, replies}
use Rattle.session.specs.Closing.{CloseOutcome, close_outcome}
use Rattle.session.specs.Frames.{frames}
use Rattle.session.specs.Samples.{sample_lots, sample_accounts, one_bid, sample_rows, SampleCloses, SamplesClose}
use Rattle.session.specs.Session.{lots_at, accounts_at}

-- what unfolds to compute the sample
unfoldable on_samples : ⊤
unfolding priced less within bundles bundle_at units_in lines_in chosen best_among optimum first_among pick award charge_at rows frames lots_at accounts_at
on_samples = tt

-- what the run leaves where farm 1 states this worth
abbrev left_by : ℕ → CloseOutcome
left_by value =
    let h = opened sample_lots sample_accounts 1000 in
    let ms = message_bytes (one_bid 0 120 (1 ∷ 1 ∷ [])) ∷ message_bytes (one_bid 1 value (1 ∷ 0 ∷ [])) ∷ message_bytes (one_bid 2 60 (0 ∷ 1 ∷ [])) ∷ [] in
    close_outcome (record { state = after h ms; told = replies h ms }) sample_rows

closes_70 : SampleCloses 70 110
unfolding on_samples
closes_70 = record { outcome = left_by 70; closes = record { runs = refl; closed = refl; last = record { taken = refl; last = tt } }; has = refl }

closes_100 : SampleCloses 100 110
unfolding on_samples
closes_100 = record { outcome = left_by 100; closes = record { runs = refl; closed = refl; last = record { taken = refl; last = tt } }; has = refl }

closes_40 : SampleCloses 40 100
unfolding on_samples
closes_40 = record { outcome = left_by 40; closes = record { runs = refl; closed = refl; last = record { taken = refl; last = tt } }; has = refl }

pub samples_close : SamplesClose
samples_close = (closes_70, closes_100, closes_40)
