-- What the run over a file tells. Assumes nothing.
use Rattle.std.proofs.Common.{◌≡◌, ℕ, Bool, false, ltb, List, ◌++◌, length, is_ok, Ok, Err, Result, IfOk, string_bytes, sym, refl, ap, ◌∙◌, arith}
use Rattle.std.proofs.lemmas.List.{append-nil, drop_all}
use Rattle.std.proofs.lemmas.Bool.{cond-false, le-ltb}
use Rattle.std.proofs.lemmas.Result.{IfOk-weaker}
use Rattle.bundle.specs.Checks.{and_then}
use Rattle.book.proofs.Steps.{length-answers}
use Rattle.book.specs.Posting.{Reply, accounts_of}
use Rattle.accounts.specs.Closing.{Rows}
use Rattle.sale.specs.Opening.{State}
use Rattle.sale.specs.States.{after, replies}
use Rattle.sale.specs.declared.refusals.OpeningRefusal.{OpeningRefusal}
use Rattle.session.specs.Closing.{CloseOutcome, Ending, close_outcome, close_ran, close_within, left, rows_within}
use Rattle.session.specs.Session.{Outcome, opening_in, messages_in, noted, told_within}
use Rattle.session.specs.declared.refusals.RunRefusal.{RunRefusal}
use Rattle.session.specs.declared.refusals.RunRefusal.TheVariants.{Opening}
use Rattle.report.specs.Lines.{not_opened_text, told_text}
use Rattle.report.specs.Printing.{outcome_text, is_closed, printed, closes}
use Rattle.settle_sale.specs.Telling.{Tells}
use Rattle.settle_sale.specs.declared.telling.Told.{Told}

-- a row of answers with a place for each message
module _ (bs : List ℕ) (rows : Rows) (row : List Reply) (each : length row ≡ length (messages_in bs)) where
  room : ltb (length row) (length (messages_in bs)) ≡ false
  room = le-ltb (length row) (length (messages_in bs)) (omega arith)

  -- the run to the end of the messages, and to the close, from this opening
  abbrev run_from : Result State OpeningRefusal → Result Outcome OpeningRefusal
  run_from q = and_then q (λ h. Ok (record { state = after h (messages_in bs); told = replies h (messages_in bs) }))

  abbrev close_from : Result State OpeningRefusal → Result CloseOutcome OpeningRefusal
  close_from q = and_then (run_from q) (λ o. Ok (close_outcome o rows))

  session_from : (q : Result State OpeningRefusal) (e : Ending) (told : List Reply) (end : Rows) →
      Ok e ≡ close_ran (close_from q) → told ≡ noted (run_from q) row → end ≡ left (close_from q) rows →
      (told_text e.answer told end.award end.charges (accounts_of e.stage.state.entries) e.stage.state.company ≡ outcome_text (close_from q)) × (is_ok e.answer ≡ is_closed (close_from q))
  session_from (Ok h) e told end value tells filled =
      let o = close_outcome (record { state = after h (messages_in bs); told = replies h (messages_in bs) }) rows in
      let ended : e ≡ record { stage = o.stage; answer = o.answer } = cc in
      let all : told ≡ o.told =
      tells ∙ ap (λ l. o.told ++ l) (drop_all (length o.told) row (omega (arith, length-answers h.supply h.entries (messages_in bs)))) ∙ append-nil o.told in (
        λ i. told_text (ended i).answer (all i) (filled i).award (filled i).charges (accounts_of (ended i).stage.state.entries) (ended i).stage.state.company,
        ap (λ (x : Ending). is_ok x.answer) ended,
      )
  session_from (Err d) e told end value tells filled = cc

  refusal_from : (q : Result State OpeningRefusal) (d : OpeningRefusal) → Err (Opening d) ≡ close_ran (close_from q) →
      (not_opened_text d ≡ outcome_text (close_from q)) × (false ≡ is_closed (close_from q))
  refusal_from (Ok h) d value = cc
  refusal_from (Err c) d value = let here : d ≡ c = cc in (ap not_opened_text here, refl)

  module _ {E : Type 0} (r : Result Told E) (text : List ℕ) (closed : Bool) (report : IfOk r (λ t. (string_bytes t.text ≡ text) × (t.closed ≡ closed))) where
    told_by : (text ≡ printed rows bs) × (closed ≡ closes rows bs) → IfOk r (λ t. Tells rows bs t)
    told_by same = IfOk-weaker r _ _ (λ t h. record { text = h.0 ∙ same.0; closed = h.1 ∙ same.1 }) report

    -- what is told by the report of a session
    pub session_told : (e : Ending) (told : List Reply) (end : Rows) →
        Ok e ≡ close_within (length row) bs rows → told ≡ told_within row bs → end ≡ rows_within (length row) bs rows →
        text ≡ told_text e.answer told end.award end.charges (accounts_of e.stage.state.entries) e.stage.state.company → closed ≡ is_ok e.answer →
        IfOk r (λ t. Tells rows bs t)
    session_told e told end value tells filled said shut =
        let same = session_from (opening_in bs) e told end (value ∙ cond-false _ _ _ room) (tells ∙ cond-false _ _ _ room) (filled ∙ cond-false _ _ _ room) in
        told_by (said ∙ same.0, shut ∙ same.1)

    -- and by that of a refused opening
    pub refusal_told : (f : RunRefusal) (d : OpeningRefusal) → Err f ≡ close_within (length row) bs rows → f ≡ Opening d →
        text ≡ not_opened_text d → closed ≡ false →
        IfOk r (λ t. Tells rows bs t)
    refusal_told f d value is said shut =
        let same = refusal_from (opening_in bs) d (ap (λ x. Err x) (sym is) ∙ value ∙ cond-false _ _ _ room) in
        told_by (said ∙ same.0, shut ∙ same.1)
