-- Of two files that differ in the last taken message of a farm, the one with the true sheet leaves it no worse off. Assumes nothing.
use Rattle.std.proofs.Common.{◌≡◌, ℕ, ◌+◌, ◌^◌, ◌<◌, List, [], ◌∷◌, ◌++◌, get_or, is_ok, sym, ap, ◌∙◌, append_assoc}
use Rattle.std.specs.List.{flat_map, AllByRecursion}
use Rattle.bundle.specs.Bids.{Bids}
use Rattle.bundle.proofs.Checks.{then_back}
use Rattle.sheets.specs.Reading.{Submission}
use Rattle.vcg.specs.Auction.{chosen}
use Rattle.vcg.specs.Charges.{gets}
use Rattle.vcg.specs.Optimum.{outcome_of}
use Rattle.book.specs.Posting.{accounts_of, posts}
use Rattle.accounts.specs.Closing.{auction_for, Rows}
use Rattle.accounts.specs.Promises.{wealth}
use Rattle.accounts.proofs.Truths.{sheet_stands, true_message_is_best}
use Rattle.sale.specs.Closing.{closed_sale}
use Rattle.sale.specs.Opening.{opened}
use Rattle.sale.specs.States.{after, replies}
use Rattle.sale.specs.declared.lots.Lot.{Lot}
use Rattle.sale.proofs.Closes.{closed_so}
use Rattle.sale.proofs.Openings.{opens_exactly}
use Rattle.session.specs.Frames.{framed, messages}
use Rattle.session.specs.Promises.{file_with, wealth_after, Closes, TrueFileIsBest}
use Rattle.session.specs.Closing.{CloseOutcome, close_outcome}
use Rattle.session.specs.Session.{Outcome, opening_in, messages_in, run}
use Rattle.session.proofs.Filing.{messages_behind, opening_back}
use Rattle.session.proofs.Framing.{frames_back}

-- the messages of such a file
messages_are : (lots : List Lot) (accounts : List ℕ) (company : ℕ) (before : List (List ℕ)) (m rest : List ℕ) →
    messages_in (file_with lots accounts company before m rest) ≡ before ++ m ∷ messages rest
messages_are lots accounts company before m rest =
    messages_behind lots accounts company (flat_map framed (before ++ m ∷ []) ++ rest)
    ∙ frames_back (before ++ m ∷ []) rest
    ∙ append_assoc before (m ∷ []) (messages rest)

module _ (lots : List Lot) (accounts : List ℕ) (company : ℕ) (priced : AllByRecursion (λ (l : Lot). l.reserve < 2 ^ 32) lots) (held : AllByRecursion (λ (a : ℕ). a < 2 ^ 32) accounts) (small : company < 2 ^ 64) where
  -- the sale that the file opens, after these messages
  ran_to : List (List ℕ) → Outcome
  ran_to ms = record { state = after (opened lots accounts company) ms; told = replies (opened lots accounts company) ms }

  ran_so : (before : List (List ℕ)) (m rest : List ℕ) (rows : Rows) (s : Submission) (o : CloseOutcome) → Closes lots accounts company before m rest rows s o →
      o ≡ close_outcome (ran_to (before ++ m ∷ messages rest)) rows
  unfolding ran_to
  ran_so before m rest rows s o closes =
      let f = file_with lots accounts company before m rest in
      let ended = then_back (run f) _ o closes.runs in
      let opening = then_back (opening_in f) _ ended.0 ended.1 in
      let read = sym (opening_back lots accounts company (flat_map framed (before ++ m ∷ []) ++ rest) priced held small) ∙ opening.1 in
      let same : opening.0 ≡ opened lots accounts company = ((opens_exactly lots accounts company).0 opening.0 read).1 in
      let ran : record { state = after opening.0 (messages_in f); told = replies opening.0 (messages_in f) } ≡ ended.0 = let e = opening.2 in cc in
      let is : close_outcome ended.0 rows ≡ o = let e = ended.2 in cc in
      sym is ∙ ap (λ (q : Outcome). close_outcome q rows) (sym ran)
      ∙ (λ i. close_outcome (record { state = after (same i) (messages_are lots accounts company before m rest i); told = replies (same i) (messages_are lots accounts company before m rest i) }) rows)

  -- what the farm has by the run is what it has by its messages
  wealth-is : (before : List (List ℕ)) (m rest : List ℕ) (rows : Rows) (s : Submission) (o : CloseOutcome) (value : List ℕ → ℕ) → Closes lots accounts company before m rest rows s o →
      wealth_after o s.farm s.bids value
      ≡ wealth (opened lots accounts company).supply (opened lots accounts company).reserve (posts (opened lots accounts company).supply (opened lots accounts company).entries (before ++ m ∷ messages rest)) value s.farm
  unfolding gets ran_to
  wealth-is before m rest rows s o value closes =
      let h = opened lots accounts company in
      let ms = before ++ m ∷ messages rest in
      let g = after h ms in
      let ran = ran_so before m rest rows s o closes in
      let end = closed_so g rows (sym (ap (λ (q : CloseOutcome). is_ok q.answer) ran) ∙ closes.closed) in
      let state = ap (λ (q : CloseOutcome). q.stage) ran ∙ end.0 in
      let left = ap (λ (q : CloseOutcome). q.rows) ran ∙ end.1 in
      let choice = (outcome_of (auction_for h.supply h.reserve g.entries)).choice in
      let mine = sheet_stands h.supply h.entries before m (messages rest) s closes.last in
      (λ i. get_or (accounts_of (state i).state.entries) s.farm 0 + value (chosen s.bids (get_or (left i).award s.farm 0)).want)
      ∙ ap (λ (b : Bids). get_or (accounts_of (closed_sale g).entries) s.farm 0 + value (chosen b (get_or choice s.farm 0)).want) (sym mine)

pub true_file_is_best : TrueFileIsBest
true_file_is_best lots accounts company before m n rest rows s t o p value priced held small first second same true-one =
    let h = opened lots accounts company in
    let best = true_message_is_best h.supply h.reserve h.entries before (messages rest) m n s t value first.last second.last same true-one in
    let mine = wealth-is lots accounts company priced held small before m rest rows s o value first in
    let other = wealth-is lots accounts company priced held small before n rest rows t p value second in
    let there : wealth_after p t.farm t.bids value ≡ wealth h.supply h.reserve (posts h.supply h.entries (before ++ n ∷ messages rest)) value s.farm =
    other ∙ ap (λ i. wealth h.supply h.reserve (posts h.supply h.entries (before ++ n ∷ messages rest)) value i) (sym same) in
    rw (there, mine) best
