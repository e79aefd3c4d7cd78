-- The places of the farms, from their accounts, numbers and sheets. Assumes nothing.
use Rattle.std.proofs.Common.{◌≡◌, ℕ, zero, suc, ◌<◌, List, [], ◌∷◌, map, length, get_or, take, set, replicate, Result, sym, refl, ap, ◌∙◌, arith, cond, ltb, count_by, sum}
use lib.Seq.{take-set-lt}
use Rattle.std.proofs.lemmas.List.{get_or-take, length-take-le}
use Rattle.std.proofs.lemmas.List.Sums.{sum-map}
use Rattle.std.proofs.lemmas.Simd.{map-map}
use Rattle.bundle.specs.Bids.{Bids}
use Rattle.sheets.specs.declared.parts.Sheet.{Sheet}
use Rattle.sheets.specs.declared.refusals.MessageRefusal.{MessageRefusal}
use Rattle.sheets.specs.Reading.{Submission, read_message}
use Rattle.sheets.specs.Sheets.{bids_of}
use Rattle.book.specs.Books.{entries_of, book_supply, standing}
use Rattle.book.specs.Places.{entries}
use Rattle.book.specs.Posting.{Entry, no_entry, fresh, accounts_of, numbers_of, bids_in, emptied, read_for}
use Rattle.book.specs.declared.state.Book.{Book}
use Rattle.book.proofs.Steps.{length-accounts_of}

-- the accounts, the numbers and the sheets of the first f farms
parts : (f : ℕ) (xs ns : List ℕ) (ss : List Sheet) → length ns ≡ length xs → length ss ≡ length xs → let es = take f (entries xs ns ss) in
    (accounts_of es ≡ take f xs) × (numbers_of es ≡ take f ns) × (bids_in es ≡ map bids_of (take f ss))
parts zero xs ns ss h k = (refl, refl, refl)
parts (suc f) [] [] [] h k = (refl, refl, refl)
parts (suc f) [] [] (s ∷ ss) h k = absurd (omega arith)
parts (suc f) [] (n ∷ ns) ss h k = absurd (omega arith)
parts (suc f) (x ∷ xs) [] ss h k = absurd (omega arith)
parts (suc f) (x ∷ xs) (n ∷ ns) [] h k = absurd (omega arith)
parts (suc f) (x ∷ xs) (n ∷ ns) (s ∷ ss) h k =
    let rest = parts f xs ns ss (omega arith) (omega arith) in
    (ap (λ l. x ∷ l) rest.0, ap (λ l. n ∷ l) rest.1, ap (λ (l : List Bids). bids_of s ∷ l) rest.2)

-- farm i's number and sheet replaced
pub entries-set : (xs ns : List ℕ) (ss : List Sheet) (i n : ℕ) (s : Sheet) → length ns ≡ length xs → length ss ≡ length xs →
    entries xs (set ns i n) (set ss i s)
    ≡ set (entries xs ns ss) i (record { account = (get_or (entries xs ns ss) i no_entry).account; number = n; bids = bids_of s })
entries-set [] ns ss i n s h k = refl
entries-set (x ∷ xs) [] ss i n s h k = absurd (omega arith)
entries-set (x ∷ xs) (m ∷ ns) [] i n s h k = absurd (omega arith)
entries-set (x ∷ xs) (m ∷ ns) (t ∷ ss) zero n s h k = refl
entries-set (x ∷ xs) (m ∷ ns) (t ∷ ss) (suc i) n s h k = ap (λ l. record { account = x; number = m; bids = bids_of t } ∷ l) (entries-set xs ns ss i n s (omega arith) (omega arith))

-- among the first f farms
pub put_entries : (f : ℕ) (xs ns : List ℕ) (ss : List Sheet) (i n : ℕ) (s : Sheet) → length ns ≡ length xs → length ss ≡ length xs → i < f →
    take f (entries xs (set ns i n) (set ss i s))
    ≡ set (take f (entries xs ns ss)) i (record { account = (get_or (take f (entries xs ns ss)) i no_entry).account; number = n; bids = bids_of s })
put_entries f xs ns ss i n s h k l =
    let es = entries xs ns ss in
    rw (entries-set xs ns ss i n s h k, take-set-lt f es i (record { account = (get_or es i no_entry).account; number = n; bids = bids_of s }) l, get_or-take f es i no_entry l) refl

-- no messages yet: numbers 0 and a sheet of no bids, k of them
pub entries-fresh : (f k : ℕ) (xs : List ℕ) (s : Sheet) → length xs ≡ k → bids_of s ≡ [] → take f (entries xs (replicate k 0) (replicate k s)) ≡ map fresh (take f xs)
entries-fresh zero k xs s h e = refl
entries-fresh (suc f) zero [] s h e = refl
entries-fresh (suc f) (suc k) [] s h e = absurd (omega arith)
entries-fresh (suc f) zero (x ∷ xs) s h e = absurd (omega arith)
entries-fresh (suc f) (suc k) (x ∷ xs) s h e = λ i. record { account = x; number = 0; bids = e i } ∷ entries-fresh f k xs s (omega arith) e i

-- a sheet of no bids for each, k of them
pub entries-emptied : (f k : ℕ) (xs ns : List ℕ) (s : Sheet) → length xs ≡ k → length ns ≡ k → bids_of s ≡ [] → take f (entries xs ns (replicate k s)) ≡ emptied (take f xs) (take f ns)
entries-emptied zero k xs ns s h l e = refl
entries-emptied (suc f) k [] ns s h l e = refl
entries-emptied (suc f) k (x ∷ xs) [] s h l e = absurd (omega arith)
entries-emptied (suc f) zero (x ∷ xs) (n ∷ ns) s h l e = absurd (omega arith)
entries-emptied (suc f) (suc k) (x ∷ xs) (n ∷ ns) s h l e = λ i. record { account = x; number = n; bids = e i } ∷ entries-emptied f k xs ns s (omega arith) (omega arith) e i

-- in a book that is opened
pub opened_places : (xs all : List ℕ) (s : Sheet) → length all ≡ 48 → take (length xs) all ≡ xs → bids_of s ≡ [] → take (length xs) (entries all (replicate 48 0) (replicate 48 s)) ≡ map fresh xs
opened_places xs all s long front none = entries-fresh (length xs) 48 all s long none ∙ ap (map fresh) front

-- of a book
pub accounts_book : (b : Book) → accounts_of (entries_of b) ≡ take b.farms b.accounts
unfolding entries_of
accounts_book b = (parts b.farms b.accounts b.numbers b.sheets (omega arith) (omega arith)).0

pub numbers_book : (b : Book) → numbers_of (entries_of b) ≡ take b.farms b.numbers
unfolding entries_of
numbers_book b = (parts b.farms b.accounts b.numbers b.sheets (omega arith) (omega arith)).1

pub bids_book : (b : Book) → bids_in (entries_of b) ≡ map bids_of (take b.farms b.sheets)
unfolding entries_of
bids_book b = (parts b.farms b.accounts b.numbers b.sheets (omega arith) (omega arith)).2

pub length_accounts : (b : Book) → length (accounts_of (entries_of b)) ≡ b.farms
length_accounts b = omega (arith, ap length (accounts_book b), length-take-le b.farms b.accounts (omega arith))

pub length_book : (b : Book) → length (entries_of b) ≡ b.farms
length_book b = sym (length-accounts_of (entries_of b)) ∙ length_accounts b

-- the sheets that have bids, counted by their bids alone
abbrev one : Bids → ℕ
one b = cond (ltb 0 (length b)) 1 0

by_bids : {X : Type 0} (bids : X → Bids) (xs : List X) → count_by (λ x. ltb 0 (length (bids x))) xs ≡ sum (map one (map bids xs))
by_bids bids xs = sym (sum-map (λ x. one (bids x)) xs) ∙ ap sum (sym (map-map one bids xs))

pub standing_by : (sheets : List Sheet) (es : List Entry) → map bids_of sheets ≡ bids_in es → count_by (λ (s : Sheet). ltb 0 (length (bids_of s))) sheets ≡ standing es
standing_by sheets es e = by_bids bids_of sheets ∙ ap (λ bs. sum (map one bs)) e ∙ sym (by_bids (λ (e : Entry). e.bids) es)

-- a message read for the farms of a book
pub read_book : (b : Book) (xs m : List ℕ) (r : Result Submission MessageRefusal) → xs ≡ accounts_of (entries_of b) →
    r ≡ read_message (book_supply b) xs (take b.farms b.numbers) m → r ≡ read_for (book_supply b) (entries_of b) m
read_book b xs m r accounts e = e ∙ (λ i. read_message (book_supply b) (accounts i) (sym (numbers_book b) i) m)

-- in a book that is emptied
pub emptied_places : (b : Book) (xs all : List ℕ) (s : Sheet) → length all ≡ 48 → length xs ≡ b.farms → take (length xs) all ≡ xs → bids_of s ≡ [] →
    take b.farms (entries all b.numbers (replicate 48 s)) ≡ emptied xs (numbers_of (entries_of b))
emptied_places b xs all s long same front none =
    entries-emptied b.farms 48 all b.numbers s long (omega arith) none
    ∙ (λ i. emptied ((ap (λ n. take n all) (sym same) ∙ front) i) (sym (numbers_book b) i))
