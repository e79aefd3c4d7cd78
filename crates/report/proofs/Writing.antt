-- A text that is written line by line in a loop. Assumes nothing.
use Rattle.std.proofs.Common.{◌≡◌, ℕ, List, [], ◌++◌, sym, ap, ◌∙◌, append_assoc, append-nil}
use Rattle.std.specs.Fmt.{IsPlainFormatter, HasWritten}
use Rattle.std.specs.declared.fmt.Formatter.{Formatter}
use Rattle.std.proofs.Output.{writes_in_calls_nil, has_written_append, has_written_of_eq}

module _ {W : Type 0} (took : W → List ℕ → W → Type 0) where
  -- nothing is written
  pub written_none : (f : Formatter W) → IsPlainFormatter f → HasWritten took f [] f
  written_none f plain = record { wrote = writes_in_calls_nil took f.writer; plain = plain }

  -- f became g, and `rest` of the text is left to write
  abbrev pub Left : Formatter W → List ℕ → Formatter W → List ℕ → Type 0
  Left f text g rest = IsPlainFormatter f → (so : List ℕ) × HasWritten took f so g × (so ++ rest ≡ text)

  pub left_all : (f : Formatter W) (text rest : List ℕ) → rest ≡ text → Left f text f rest
  left_all f text rest e plain = ([], written_none f plain, e)

  -- one line more
  pub left_less : (f : Formatter W) (text : List ℕ) (g : Formatter W) (rest line less : List ℕ) (h : Formatter W) → Left f text g rest → rest ≡ line ++ less → (IsPlainFormatter g → HasWritten took g line h) → Left f text h less
  left_less f text g rest line less h left e put plain =
      let so = left plain in
      (so.0 ++ line, has_written_append took f so.0 g line h so.1 (put so.1.plain), append_assoc so.0 line less ∙ ap (λ (l : List ℕ). so.0 ++ l) (sym e) ∙ so.2)

  pub left_none : (f : Formatter W) (text : List ℕ) (g : Formatter W) (rest : List ℕ) → Left f text g rest → rest ≡ [] → IsPlainFormatter f → HasWritten took f text g
  left_none f text g rest left e plain =
      let so = left plain in
      has_written_of_eq took f so.0 text g (sym (append-nil so.0) ∙ ap (λ (l : List ℕ). so.0 ++ l) (sym e) ∙ so.2) so.1
