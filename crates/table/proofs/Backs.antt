-- A walk over a list from its last element to its first, each with its place. Assumes nothing.
use Rattle.std.proofs.Common.{◌≡◌, ℕ, ◌+◌, ◌^◌, ◌<◌, List, [], ◌∷◌, ◌++◌, length, get_or, drop, Some, None, Option, Bor, Iter, sym, refl, ap, ◌∙◌, append_assoc, arith}
use Rattle.std.specs.Iterator.Adapters.{rev_source, enumerate_source, enumerate_count}
use Rattle.std.specs.List.{push}
use Rattle.std.specs.Option.{MatchOption}
use Rattle.std.specs.Slice.Iter.{iter_rest}
use Rattle.std.specs.declared.iter.Enumerate.{Enumerate}
use Rattle.std.specs.declared.iter.Rev.{Rev}
use Rattle.std.proofs.lemmas.List.{append-nil, drop_all, drop_at, get_or_at, length-append, length_push}

-- the elements that are still to come
abbrev pub to_come : {A : Type 0} → Rev (Enumerate (Iter A)) → List A
to_come w = iter_rest (enumerate_source (rev_source w))

-- they are the first of xs
pub record Backwards {A : Type 0} (xs : List A) (w : Rev (Enumerate (Iter A))) : Type 0 where
  pub counted : enumerate_count (rev_source w) ≡ 0
  pub split : xs ≡ to_come w ++ drop (length (to_come w)) xs

pub all_to_come : {A : Type 0} (xs : List A) (w : Rev (Enumerate (Iter A))) → enumerate_count (rev_source w) ≡ 0 → to_come w ≡ xs → Backwards xs w
all_to_come xs w counted is =
    record {
      counted = counted;
      split = sym (append-nil xs) ∙ (λ i. sym is i ++ sym (drop_all (length (to_come w)) xs (omega (arith, ap length is))) i);
    }

-- what a call of the walk at s that leaves it at t answers
abbrev pub StepBack : {A : Type 0} → Rev (Enumerate (Iter A)) → Option (ℕ × Bor A) → Rev (Enumerate (Iter A)) → Type 0
StepBack s r t =
    (enumerate_count (rev_source t) ≡ enumerate_count (rev_source s))
    × MatchOption r ((length (to_come s) ≡ 0) × (enumerate_source (rev_source t) ≡ enumerate_source (rev_source s)))
    (λ p. (to_come s ≡ push (to_come t) p.1.now) × (p.0 ≡ enumerate_count (rev_source s) + length (to_come t)) × (p.0 + 1 < 2 ^ 64))

-- the element at i comes, and those before it are left
pub record Turn {A : Type 0} (xs : List A) (s t : Rev (Enumerate (Iter A))) (i : ℕ) (x : Bor A) : Type 0 where
  pub here : length (to_come s) ≡ i + 1
  pub there : length (to_come t) ≡ i
  pub known : i < length xs
  pub item : x.now ≡ get_or xs i x.now
  pub on : Backwards xs t

pub turn_back : {A : Type 0} (xs : List A) (s t : Rev (Enumerate (Iter A))) (r : Option (ℕ × Bor A)) (i : ℕ) (x : Bor A) → Backwards xs s → r ≡ Some (i, x) → StepBack s r t → Turn xs s t i x
turn_back xs s t r i x w is step =
    let e = rw is at step in
    let later = drop (length (to_come s)) xs in
    let all : xs ≡ to_come t ++ (x.now ∷ later) = w.split ∙ ap (λ l. l ++ later) e.1.0 ∙ append_assoc (to_come t) (x.now ∷ []) later in
    let there : length (to_come t) ≡ i = omega (arith, w.counted, e.1.1) in
    record {
      here = ap length e.1.0 ∙ length_push (to_come t) x.now ∙ ap (λ n. n + 1) there;
      there = there;
      known = omega (arith, ap length all, length-append (to_come t) (x.now ∷ later));
      item = sym (ap (λ l. get_or l i x.now) all ∙ get_or_at (to_come t) x.now later x.now i there);
      on = record {
        counted = e.0 ∙ w.counted;
        split = all ∙ ap (λ l. to_come t ++ l) (sym (ap (drop (length (to_come t))) all ∙ drop_at (to_come t) (x.now ∷ later) (length (to_come t)) refl));
      };
    }

pub end_back : {A : Type 0} (s t : Rev (Enumerate (Iter A))) (r : Option (ℕ × Bor A)) → r ≡ None → StepBack s r t → length (to_come s) ≡ 0
end_back s t r is step = let e = rw is at step in e.1.0
