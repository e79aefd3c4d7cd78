-- A sale that meets the premises of the promise on true sheets: farm 1 wants the first of two lots, which is worth 70 to it. Assumes nothing: these are
-- definitions and a statement.
use Rattle.std.specs.Prelude.{◌≡◌, ℕ, List, [], ◌∷◌, replicate}
use Rattle.sheets.specs.Reading.{Submission}
use Rattle.sheets.specs.Writing.{message_bytes}
use Rattle.vcg.specs.Truth.{worth}
use Rattle.accounts.specs.Closing.{Rows, lent}
use Rattle.sale.specs.declared.lots.Lot.{Lot}
use Rattle.session.specs.Frames.{framed}
use Rattle.session.specs.Promises.{wealth_after, Closes}
use Rattle.session.specs.Closing.{CloseOutcome}

abbrev pub sample_lots : List Lot
sample_lots = record { units = 1; reserve = 10 } ∷ record { units = 1; reserve = 10 } ∷ []

abbrev pub sample_accounts : List ℕ
sample_accounts = 200 ∷ 100 ∷ 100 ∷ []

-- what a farm submits who wants one bundle
abbrev pub one_bid : ℕ → ℕ → List ℕ → Submission
one_bid farm value want = record { farm = farm; number = 1; bids = record { want = want; value = value } ∷ [] }

abbrev pub sample_rows : Rows
sample_rows = lent (replicate 16 0) (replicate 3 0) (replicate 3 0)

-- farm 1 writes this worth between the messages of farms 0 and 2: the run over that file closes the sale, and farm 1 then has so much
pub record SampleCloses (value wealth : ℕ) : Type 0 where
  pub outcome : CloseOutcome
  pub closes : Closes sample_lots sample_accounts 1000 (message_bytes (one_bid 0 120 (1 ∷ 1 ∷ [])) ∷ []) (message_bytes (one_bid 1 value (1 ∷ 0 ∷ []))) (framed (message_bytes (one_bid 2 60 (0 ∷ 1 ∷ [])))) sample_rows (one_bid 1 value (1 ∷ 0 ∷ [])) outcome
  pub has : wealth_after outcome 1 (one_bid 1 value (1 ∷ 0 ∷ [])).bids (worth (one_bid 1 70 (1 ∷ 0 ∷ [])).bids) ≡ wealth

-- by its true sheet it has 40 in its account and the lot; so it has by one that states 100; by one that states 40 it keeps its 100, and has no lot
abbrev pub SamplesClose : Type 0
SamplesClose = SampleCloses 70 110 × SampleCloses 100 110 × SampleCloses 40 100
