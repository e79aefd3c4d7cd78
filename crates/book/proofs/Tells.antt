-- What a farm is told, and what stands in its place. Assumes nothing.
use Rattle.std.proofs.Common.{◌≡◌, ℕ, ◌<◌, Bool, true, false, cond, List, [], ◌∷◌, length, get_or, Ok, Err, Result, sym, refl, ap, ◌∙◌, ⊎_elim, arith}
use Rattle.std.proofs.lemmas.List.{get_or-set_same}
use Rattle.sheets.specs.declared.refusals.MessageRefusal.{MessageRefusal}
use Rattle.sheets.specs.Reading.{Submission, sender_in}
use Rattle.book.specs.Posting.{Entry, no_entry, read_for, post, posts, Reply, answer_of, names, own, told}
use Rattle.book.specs.Promises.{ToldOwn, PlaceOwn}
use Rattle.book.proofs.Steps.{read_by, read_is, after, sender_cases, post-at, post_none, length-post, named, post_other}

-- a message of a farm with the entry h, one of f
abbrev mine : List ℕ → ℕ → Entry → List ℕ → Result Submission MessageRefusal
mine supply f h m = read_by supply f (λ farm. h) m

abbrev kept_or : Entry → Entry → Result ℕ MessageRefusal → Entry
kept_or h k (Ok a) = k
kept_or h k (Err e) = h

-- its entry then
abbrev next : List ℕ → ℕ → Entry → List ℕ → Entry
next supply f h m = kept_or h (after supply m h) (sender_in f m)

-- the entry of a farm, from its entry before and its own messages alone
abbrev pub hold : List ℕ → ℕ → Entry → List (List ℕ) → Entry
hold supply f h [] = h
hold supply f h (m ∷ ms) = hold supply f (next supply f h m) ms

-- what it is told, from the same
abbrev pub tell : List ℕ → ℕ → Entry → List (List ℕ) → List Reply
tell supply f h [] = []
tell supply f h (m ∷ ms) = answer_of (mine supply f h m) ∷ tell supply f (next supply f h m) ms

-- the cases of a sender stand here and in `post-own`: each has another statement, and needs the case itself
read_own : (supply : List ℕ) (es : List Entry) (i : ℕ) (m : List ℕ) → names i m ≡ true → read_for supply es m ≡ mine supply (length es) (get_or es i no_entry) m
read_own supply es i m e =
    read_is supply es m
    ∙ ⊎_elim
    (λ s. let is = named i m e s.0 in rw (s.2, is) refl)
    (λ s. rw s.1 refl)
    (sender_cases (length es) m)

post-own : (supply : List ℕ) (es : List Entry) (i : ℕ) (m : List ℕ) → names i m ≡ true → get_or (post supply es m) i no_entry ≡ next supply (length es) (get_or es i no_entry) m
post-own supply es i m e =
    ⊎_elim
    (λ s.
    let d : sender_in (length es) m ≡ Ok i = s.2 ∙ ap (λ a. Ok a) (named i m e s.0) in
    let g : i < length es = omega (arith, named i m e s.0) in
    rw (post-at supply es m i d, get_or-set_same es i (after supply m (get_or es i no_entry)) no_entry g, d) refl)
    (λ s. rw (post_none supply es m s.0 s.1, s.1) refl)
    (sender_cases (length es) m)

-- one message more, whether its farm is i or not
told-by : (supply : List ℕ) (es : List Entry) (i : ℕ) (m : List ℕ) (ms : List (List ℕ)) (b : Bool) → names i m ≡ b →
    told supply (post supply es m) i ms ≡ tell supply (length (post supply es m)) (get_or (post supply es m) i no_entry) (own i ms) →
    cond b (answer_of (read_for supply es m) ∷ told supply (post supply es m) i ms) (told supply (post supply es m) i ms)
    ≡ tell supply (length es) (get_or es i no_entry) (cond b (m ∷ own i ms) (own i ms))
told-by supply es i m ms true e rest =
    (λ j. answer_of (read_own supply es i m e j) ∷ rest j)
    ∙ (λ j. answer_of (mine supply (length es) (get_or es i no_entry) m) ∷ tell supply (length-post supply es m j) (post-own supply es i m e j) (own i ms))
told-by supply es i m ms false e rest = rest ∙ (λ j. tell supply (length-post supply es m j) (post_other supply es i m e j) (own i ms))

pub told_is : (supply : List ℕ) (es : List Entry) (i : ℕ) (ms : List (List ℕ)) → told supply es i ms ≡ tell supply (length es) (get_or es i no_entry) (own i ms)
told_is supply es i [] = refl
told_is supply es i (m ∷ ms) = told-by supply es i m ms (names i m) refl (told_is supply (post supply es m) i ms)

pub told_own : ToldOwn
told_own supply es fs i ms ns long place same =
    told_is supply es i ms ∙ (λ j. tell supply (long j) (place j) (same j)) ∙ sym (told_is supply fs i ns)

hold_by : (supply : List ℕ) (es : List Entry) (i : ℕ) (m : List ℕ) (ms : List (List ℕ)) (b : Bool) → names i m ≡ b →
    hold supply (length (post supply es m)) (get_or (post supply es m) i no_entry) (own i ms)
    ≡ hold supply (length es) (get_or es i no_entry) (cond b (m ∷ own i ms) (own i ms))
hold_by supply es i m ms true e = λ j. hold supply (length-post supply es m j) (post-own supply es i m e j) (own i ms)
hold_by supply es i m ms false e = λ j. hold supply (length-post supply es m j) (post_other supply es i m e j) (own i ms)

pub hold_is : (supply : List ℕ) (es : List Entry) (i : ℕ) (ms : List (List ℕ)) → get_or (posts supply es ms) i no_entry ≡ hold supply (length es) (get_or es i no_entry) (own i ms)
hold_is supply es i [] = refl
hold_is supply es i (m ∷ ms) = hold_is supply (post supply es m) i ms ∙ hold_by supply es i m ms (names i m) refl

pub place_own : PlaceOwn
place_own supply es fs i ms ns long place same =
    hold_is supply es i ms ∙ (λ j. hold supply (long j) (place j) (same j)) ∙ sym (hold_is supply fs i ns)
