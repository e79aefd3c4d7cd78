-- The order of messages. Assumes nothing.
use Rattle.std.proofs.Common.{◌≡◌, ℕ, ◌<◌, ◌≤◌, List, length, get_or, set, Ok, sym, refl, ap, ◌∙◌, inl, inr, ⊎_elim}
use Rattle.std.proofs.lemmas.List.{length-set, get_or-set_same, get_or-set_other, set-set, set_comm}
use Rattle.std.proofs.lemmas.Bool.{cases_eq}
use Rattle.sheets.specs.Reading.{u32_at, sender_in}
use Rattle.book.specs.Posting.{Entry, no_entry, post, posts}
use Rattle.book.specs.Promises.{Shuffled, same, swap, skip, then, Among, OneNumber, OrderFree}
use Rattle.book.proofs.Steps.{after, after-swap, sender_cases, post-at, post_none, length-post}

-- two messages of farms a and b, posted one after the other
two_at : (supply : List ℕ) (es : List Entry) (m n : List ℕ) (a b : ℕ) → sender_in (length es) m ≡ Ok a → sender_in (length es) n ≡ Ok b →
    post supply (post supply es m) n ≡ set (set es a (after supply m (get_or es a no_entry))) b (after supply n (get_or (set es a (after supply m (get_or es a no_entry))) b no_entry))
two_at supply es m n a b d e =
    rw (post-at supply es m a d) (post-at supply (set es a (after supply m (get_or es a no_entry))) n b (rw (length-set es a (after supply m (get_or es a no_entry))) e))

-- of different farms
apart : (supply : List ℕ) (es : List Entry) (m n : List ℕ) (a b : ℕ) → (b ≡ a → ⊥) → sender_in (length es) m ≡ Ok a → sender_in (length es) n ≡ Ok b →
    post supply (post supply es m) n ≡ set (set es a (after supply m (get_or es a no_entry))) b (after supply n (get_or es b no_entry))
apart supply es m n a b ne d e =
    rw (two_at supply es m n a b d e, get_or-set_other es a b (after supply m (get_or es a no_entry)) no_entry ne) refl

-- of one farm
beside : (supply : List ℕ) (es : List Entry) (m n : List ℕ) (a : ℕ) → a < length es → sender_in (length es) m ≡ Ok a → sender_in (length es) n ≡ Ok a →
    post supply (post supply es m) n ≡ set es a (after supply n (after supply m (get_or es a no_entry)))
beside supply es m n a g d e =
    rw (two_at supply es m n a a d e, set-set, get_or-set_same es a (after supply m (get_or es a no_entry)) no_entry g) refl

swap-posts : (supply : List ℕ) (es : List Entry) (m n : List ℕ) →
    (6 ≤ length m → 6 ≤ length n → get_or m 0 0 ≡ get_or n 0 0 → u32_at m 1 ≡ u32_at n 1 → m ≡ n) →
    post supply (post supply es m) n ≡ post supply (post supply es n) m
swap-posts supply es m n one =
    let a = get_or m 0 0 in
    let b = get_or n 0 0 in
    ⊎_elim
    (λ s.
    ⊎_elim
    (λ t.
    ⊎_elim
    (λ e.
    let f : sender_in (length es) n ≡ Ok a = t.2 ∙ ap (λ k. Ok k) (sym e) in
    beside supply es m n a s.1 s.2 f
    ∙ ap (set es a) (after-swap supply m n (get_or es a no_entry) (one s.0 t.0 e))
    ∙ sym (beside supply es n m a s.1 f s.2))
    (λ ne.
    apart supply es m n a b (λ e. ne (sym e)) s.2 t.2
    ∙ set_comm es a b (after supply m (get_or es a no_entry)) (after supply n (get_or es b no_entry)) ne
    ∙ sym (apart supply es n m b a ne t.2 s.2))
    (cases_eq a b))
    (λ t. rw (post_none supply es n t.0 t.1) (post_none supply (post supply es m) n t.0 (rw (length-post supply es m) t.1)))
    (sender_cases (length es) n))
    (λ s. rw (post_none supply es m s.0 s.1) (sym (post_none supply (post supply es n) m s.0 (rw (length-post supply es n) s.1))))
    (sender_cases (length es) m)

-- what is among the shuffled messages was among them before
among_back : (x : List ℕ) {ms ns : List (List ℕ)} → Shuffled ms ns → Among x ns → Among x ms
among_back x same h = h
among_back x swap h = ⊎_elim (λ e. inr (inl e)) (⊎_elim (λ e. inl e) (λ r. inr (inr r))) h
among_back x (skip s) h = ⊎_elim (λ e. inl e) (λ r. inr (among_back x s r)) h
among_back x (then s t) h = among_back x s (among_back x t h)

pub in_any_order : (supply : List ℕ) (es : List Entry) {ms ns : List (List ℕ)} → Shuffled ms ns → OneNumber ms → posts supply es ms ≡ posts supply es ns
in_any_order supply es same one = refl
in_any_order supply es (swap {m} {n} {ms}) one = ap (λ ks. posts supply ks ms) (swap-posts supply es m n (one m n (inl refl) (inr (inl refl))))
in_any_order supply es (skip {m} s) one = in_any_order supply (post supply es m) s (λ x y a b. one x y (inr a) (inr b))
in_any_order supply es (then s t) one = in_any_order supply es s one ∙ in_any_order supply es t (λ x y a b. one x y (among_back x s a) (among_back y s b))

pub order_free : OrderFree
order_free supply es ms ns s one = in_any_order supply es s one
