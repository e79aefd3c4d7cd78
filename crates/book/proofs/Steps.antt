-- One message. Assumes nothing.
use Rattle.std.proofs.Common.{◌≡◌, ℕ, suc, ◌<◌, ◌≤◌, Bool, true, false, cond, ltb, ◌⊎◌, List, [], ◌∷◌, length, get_or, set, Ok, Err, Result, sym, refl, ap, ◌∙◌, inl, inr, ⊎_elim, subst, arith}
use Rattle.std.proofs.Math.ListN.{get_or-map}
use Rattle.std.proofs.lemmas.List.{length-map, length-set, get_or-set_other, map-set, set-get_or}
use Rattle.std.proofs.lemmas.Bool.{cases_lt, eqb-true, eqb-false}
use Rattle.std.proofs.lemmas.Bool.Decides.{nat_tests}
use Rattle.bundle.specs.Bids.{Bids}
use Rattle.sheets.specs.declared.refusals.MessageRefusal.{MessageRefusal}
use Rattle.sheets.specs.declared.refusals.MessageRefusal.TheVariants.{Short, NoFarm, OldNumber}
use Rattle.bundle.specs.Checks.{and_then}
use Rattle.sheets.specs.Reading.{Submission, u32_at, sender_in, sheet_in, submission_in}
use Rattle.book.specs.Posting.{Entry, no_entry, accounts_of, bids_in, read_for, put, post, posts, names, answers}

-- the account of a place, also where there is none
pub account-at : (es : List Entry) (i : ℕ) → get_or (accounts_of es) i 0 ≡ (get_or es i no_entry).account
account-at es i = get_or-map (λ (e : Entry). e.account) es i no_entry

pub bids-at : (es : List Entry) (i : ℕ) → get_or (bids_in es) i [] ≡ (get_or es i no_entry).bids
bids-at es i = get_or-map (λ (e : Entry). e.bids) es i no_entry

pub length-accounts_of : (es : List Entry) → length (accounts_of es) ≡ length es
length-accounts_of es = length-map es (λ (e : Entry). e.account)

pub length-bids_in : (es : List Entry) → length (bids_in es) ≡ length es
length-bids_in es = length-map es (λ (e : Entry). e.bids)

-- a message of one of f farms, of which entry_of has the entries
abbrev pub read_by : List ℕ → ℕ → (ℕ → Entry) → List ℕ → Result Submission MessageRefusal
read_by supply f entry_of m = and_then (sender_in f m) (λ farm. submission_in supply farm (entry_of farm).account (entry_of farm).number m)

pub read_is : (supply : List ℕ) (es : List Entry) (m : List ℕ) → read_for supply es m ≡ read_by supply (length es) (λ farm. get_or es farm no_entry) m
read_is supply es m =
    λ j. and_then (sender_in (length-accounts_of es j) m) (λ farm. submission_in supply farm (account-at es farm j) (get_or-map (λ (e : Entry). e.number) es farm no_entry j) m)

-- an entry under a number and bids, where the bids were read
abbrev pub under : Entry → ℕ → Result Bids MessageRefusal → Entry
under h x (Ok bids) = record { account = h.account; number = x; bids = bids }
under h x (Err e) = h

-- an entry after a message under the number x, of which the bids are r
abbrev pub renew : ℕ → Result Bids MessageRefusal → Entry → Entry
renew x r h = cond (ltb h.number x) (under h x r) h

-- an entry after a message of its farm
abbrev pub after : List ℕ → List ℕ → Entry → Entry
after supply m h = renew (u32_at m 1) (sheet_in supply h.account m) h

renew_swap : (x y : ℕ) (q r : Result Bids MessageRefusal) (h : Entry) → (x ≡ y → q ≡ r) → renew y r (renew x q h) ≡ renew x q (renew y r h)
renew_swap x y (Err e) (Err d) h same = grind (arith, nat_tests)
renew_swap x y (Err e) (Ok ls) h same = grind (arith, nat_tests)
renew_swap x y (Ok ks) (Err e) h same = grind (arith, nat_tests)
renew_swap x y (Ok ks) (Ok ls) h same = grind (arith, nat_tests)

-- a message leaves the account as it is
account_kept : (x : ℕ) (r : Result Bids MessageRefusal) (h : Entry) → (renew x r h).account ≡ h.account
account_kept x (Ok ls) h = grind (arith, nat_tests)
account_kept x (Err e) h = grind (arith, nat_tests)

-- two messages of one farm, in either order
pub after-swap : (supply m n : List ℕ) (h : Entry) → (u32_at m 1 ≡ u32_at n 1 → m ≡ n) → after supply n (after supply m h) ≡ after supply m (after supply n h)
after-swap supply m n h same =
    ap (λ a. renew (u32_at n 1) (sheet_in supply a n) (after supply m h)) (account_kept (u32_at m 1) (sheet_in supply h.account m) h)
    ∙ renew_swap (u32_at m 1) (u32_at n 1) (sheet_in supply h.account m) (sheet_in supply h.account n) h (λ e. ap (sheet_in supply h.account) (same e))
    ∙ sym (ap (λ a. renew (u32_at m 1) (sheet_in supply a m) (after supply n h)) (account_kept (u32_at n 1) (sheet_in supply h.account n) h))

-- the submission of a farm, put into its place
put_from : (es : List Entry) (farm x : ℕ) (b : Bool) (r : Result Bids MessageRefusal) →
    put es (and_then (cond b (Ok x) (Err (OldNumber 1))) (λ number. and_then r (λ bids. Ok (record { farm = farm; number = number; bids = bids }))))
    ≡ set es farm (cond b (under (get_or es farm no_entry) x r) (get_or es farm no_entry))
put_from es farm x true (Ok ls) = refl
put_from es farm x true (Err e) = sym (set-get_or es farm no_entry)
put_from es farm x false r = sym (set-get_or es farm no_entry)

-- a message is of one of f farms, or of none
pub sender_cases : (f : ℕ) (m : List ℕ) → ((6 ≤ length m) × (get_or m 0 0 < f) × (sender_in f m ≡ Ok (get_or m 0 0))) ⊎ ((e : MessageRefusal) × (sender_in f m ≡ Err e))
sender_cases f m =
    ⊎_elim
    (λ short. inr (Short (length m), grind (arith, nat_tests)))
    (λ long.
    ⊎_elim
    (λ g. inl (long, g, grind (arith, nat_tests)))
    (λ g. inr (NoFarm 0, grind (arith, nat_tests)))
    (cases_lt (get_or m 0 0) f))
    (cases_lt (length m) 6)

-- a message with a sender changes that farm's place at most
pub post-at : (supply : List ℕ) (es : List Entry) (m : List ℕ) (a : ℕ) → sender_in (length es) m ≡ Ok a → post supply es m ≡ set es a (after supply m (get_or es a no_entry))
post-at supply es m a e =
    rw (read_is supply es m, e)
    (put_from es a (u32_at m 1) (ltb (get_or es a no_entry).number (u32_at m 1)) (sheet_in supply (get_or es a no_entry).account m))

-- a message without a sender changes nothing
pub post_none : (supply : List ℕ) (es : List Entry) (m : List ℕ) (e : MessageRefusal) → sender_in (length es) m ≡ Err e → post supply es m ≡ es
post_none supply es m e h = rw (read_is supply es m, h) refl

-- so what holds of the places before, and of those with the sender's place changed, holds after a message
after_post : (P : List Entry → Type 0) (supply : List ℕ) (es : List Entry) (m : List ℕ) →
    (6 ≤ length m → P (set es (get_or m 0 0) (after supply m (get_or es (get_or m 0 0) no_entry)))) → P es → P (post supply es m)
after_post P supply es m one none =
    ⊎_elim
    (λ s. subst P (sym (post-at supply es m (get_or m 0 0) s.2)) (one s.0))
    (λ s. subst P (sym (post_none supply es m s.0 s.1)) none)
    (sender_cases (length es) m)

pub length-post : (supply : List ℕ) (es : List Entry) (m : List ℕ) → length (post supply es m) ≡ length es
length-post supply es m = after_post (λ ks. length ks ≡ length es) supply es m (λ _. length-set es _ _) refl

pub length-posts : (supply : List ℕ) (es : List Entry) (ms : List (List ℕ)) → length (posts supply es ms) ≡ length es
length-posts supply es [] = refl
length-posts supply es (m ∷ ms) = length-posts supply (post supply es m) ms ∙ length-post supply es m

-- messages leave the accounts
accounts_put : (es : List Entry) (r : Result Submission MessageRefusal) → accounts_of (put es r) ≡ accounts_of es
accounts_put es (Ok s) =
    map-set (λ (e : Entry). e.account) es s.farm _ ∙ ap (set (accounts_of es) s.farm) (sym (account-at es s.farm)) ∙ set-get_or (accounts_of es) s.farm 0
accounts_put es (Err e) = refl

pub accounts_posts : (supply : List ℕ) (es : List Entry) (ms : List (List ℕ)) → accounts_of (posts supply es ms) ≡ accounts_of es
accounts_posts supply es [] = refl
accounts_posts supply es (m ∷ ms) = accounts_posts supply (post supply es m) ms ∙ accounts_put es (read_for supply es m)

pub named : (i : ℕ) (m : List ℕ) → names i m ≡ true → 6 ≤ length m → get_or m 0 0 ≡ i
named i [] e g = absurd (omega arith)
named i (b ∷ bs) e g = eqb-true b i e

pub unnamed : (i : ℕ) (m : List ℕ) → names i m ≡ false → 6 ≤ length m → get_or m 0 0 ≡ i → ⊥
unnamed i [] e g = absurd (omega arith)
unnamed i (b ∷ bs) e g = eqb-false b i e

-- a message leaves the places of all farms that it does not name
pub post_other : (supply : List ℕ) (es : List Entry) (i : ℕ) (m : List ℕ) → names i m ≡ false → get_or (post supply es m) i no_entry ≡ get_or es i no_entry
post_other supply es i m e =
    after_post (λ ks. get_or ks i no_entry ≡ get_or es i no_entry) supply es m
    (λ long. get_or-set_other es (get_or m 0 0) i _ no_entry (λ z. unnamed i m e long (sym z)))
    refl

pub length-answers : (supply : List ℕ) (es : List Entry) (ms : List (List ℕ)) → length (answers supply es ms) ≡ length ms
length-answers supply es [] = refl
length-answers supply es (m ∷ ms) = ap suc (length-answers supply (post supply es m) ms)
