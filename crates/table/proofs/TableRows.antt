-- The rows of the table as lists: one row, one more in front of those that are filled, and what stands in the first. Assumes nothing.
use Rattle.std.proofs.Common.{◌≡◌, ℕ, zero, suc, ◌+◌, ◌*◌, ◌<◌, ◌≤◌, List, [], ◌∷◌, ◌++◌, length, get_or, take, drop, sym, refl, ap, ◌∙◌, subst, append_assoc, add-mul, arith}
use Rattle.std.proofs.lemmas.List.FromFn.{length-map-range_with_len, get_or-map-range_with_len, fill_by_all}
use Rattle.std.proofs.lemmas.List.{append-nil, length-append, get_or_append_left, get_or-drop, get_or-take, length-take-le, take-append-drop, drop_at, drop-drop}
use Rattle.bundle.specs.Bids.{Bids}
use Rattle.bundle.specs.Units.{place, bundles, bundle_at}
use Rattle.bundle.proofs.Bundles.{length-bundle_at, bundle_at-within, bundle_at-place, place_below, place-bundle_at}
use Rattle.vcg.specs.Optimum.{best_among, optimum, Most}
use Rattle.vcg.proofs.Alike.{EachWithin, best_among_like, optimum_like}
use Rattle.vcg.proofs.Optimal.{optimum_is_most}
use Rattle.table.specs.Promises.{part_of, EntriesAreMost, EntriesAreAll}
use Rattle.table.specs.Tables.{row, rows, table_of, entry, made, onto}

pub length-row : (s : List ℕ) (f : List ℕ → ℕ) → length (row s f) ≡ bundles s
length-row s f = length-map-range_with_len (λ p. f (bundle_at s p)) 0 (bundles s)

pub get_or-row : (s : List ℕ) (f : List ℕ → ℕ) (t : List ℕ) (p : ℕ) → p < bundles s → get_or (row s f ++ t) p 0 ≡ f (bundle_at s p)
get_or-row s f t p h =
    get_or_append_left (row s f) t 0 p (omega (arith, length-row s f))
    ∙ get_or-map-range_with_len (λ p. f (bundle_at s p)) 0 (bundles s) p p 0 h (omega arith)

-- the entry of a bundle within the supply
pub entry_row : (s : List ℕ) (f : List ℕ → ℕ) (t below : List ℕ) → below ≡ row s f ++ t → EachWithin s (λ y. entry s below y ≡ f y)
entry_row s f t below is y long held = ap (λ l. entry s l y) is ∙ get_or-row s f t (place s y) (place_below s y held) ∙ ap f (bundle_at-place s y long held)

-- a row depends on the bundles within the supply alone
pub row_like : (s : List ℕ) (f g : List ℕ → ℕ) → EachWithin s (λ y. f y ≡ g y) → row s f ≡ row s g
row_like s f g like =
    fill_by_all (λ p. g (bundle_at s p)) (row s f) (bundles s) 0 (length-row s f)
    (λ p h. get_or-map-range_with_len (λ p. f (bundle_at s p)) 0 (bundles s) p p 0 h (omega arith) ∙ like (bundle_at s p) (length-bundle_at s p) (bundle_at-within s p))

-- any row is the row of its entries
pub row_of : (s t : List ℕ) → bundles s ≤ length t → t ≡ row s (entry s t) ++ drop (bundles s) t
row_of s t h =
    let same : take (bundles s) t ≡ row s (entry s t) =
    fill_by_all (λ p. entry s t (bundle_at s p)) (take (bundles s) t) (bundles s) 0 (length-take-le (bundles s) t h)
    (λ p k. get_or-take (bundles s) t p 0 k ∙ ap (λ n. get_or t n 0) (sym (place-bundle_at s p k))) in
    sym (take-append-drop (bundles s) t) ∙ ap (λ l. l ++ drop (bundles s) t) same

pub length-rows : (s : List ℕ) (keep : List ℕ → ℕ) (bs : List Bids) → length (rows s keep bs) ≡ (length bs + 1) * bundles s
unfolding rows
length-rows s keep [] = omega (arith, length-row s keep)
length-rows s keep (b ∷ bs) =
    omega (arith, length-append (row s (optimum keep (b ∷ bs))) (rows s keep bs), length-row s (optimum keep (b ∷ bs)), length-rows s keep bs, add-mul (length bs + 1) 1 (bundles s))

-- a table in which they are filled is as long
pub table-long : (s : List ℕ) (keep : List ℕ → ℕ) (bs : List Bids) (t rest : List ℕ) → t ≡ rows s keep bs ++ rest → (length bs + 1) * bundles s ≤ length t
table-long s keep bs t rest is = omega (arith, ap length is, length-append (rows s keep bs) rest, length-rows s keep bs)

pub rows-onto : (s : List ℕ) (keep : List ℕ → ℕ) (bs : List Bids) (t : List ℕ) → rows s keep bs ++ drop ((length bs + 1) * bundles s) t ≡ onto (rows s keep bs) t
rows-onto s keep bs t = ap (λ k. rows s keep bs ++ drop k t) (sym (length-rows s keep bs))

-- the table depends on what the seller keeps of the bundles within the supply alone
pub rows_like : (s : List ℕ) (f g : List ℕ → ℕ) → EachWithin s (λ y. f y ≡ g y) → (bs : List Bids) → rows s f bs ≡ rows s g bs
unfolding rows
rows_like s f g like [] = row_like s f g like
rows_like s f g like (b ∷ bs) =
    (λ i. row_like s (optimum f (b ∷ bs)) (optimum g (b ∷ bs)) (optimum_like s f g like (b ∷ bs)) i ++ rows_like s f g like bs i)

-- the rows after the first
later : (s : List ℕ) (keep : List ℕ → ℕ) (bs : List Bids) → List ℕ
later s keep [] = []
later s keep (b ∷ bs) = rows s keep bs

first_row : (s : List ℕ) (keep : List ℕ → ℕ) (bs : List Bids) (t : List ℕ) → rows s keep bs ++ t ≡ row s (optimum keep bs) ++ (later s keep bs ++ t)
unfolding rows optimum later
first_row s keep [] t = refl
first_row s keep (b ∷ bs) t = append_assoc (row s (optimum keep (b ∷ bs))) (rows s keep bs) t

-- the entries of the first row
pub get_or-rows : (s : List ℕ) (keep : List ℕ → ℕ) (bs : List Bids) (t : List ℕ) (p : ℕ) → p < bundles s → get_or (rows s keep bs ++ t) p 0 ≡ optimum keep bs (bundle_at s p)
get_or-rows s keep bs t p h = ap (λ l. get_or l p 0) (first_row s keep bs t) ∙ get_or-row s (optimum keep bs) (later s keep bs ++ t) p h

pub entry-rows : (s : List ℕ) (keep : List ℕ → ℕ) (bs : List Bids) (t below : List ℕ) → below ≡ rows s keep bs ++ t → EachWithin s (λ y. entry s below y ≡ optimum keep bs y)
entry-rows s keep bs t below is = entry_row s (optimum keep bs) (later s keep bs ++ t) below (is ∙ first_row s keep bs t)

-- one more row in front
pub rows_more : (s : List ℕ) (keep : List ℕ → ℕ) (b : Bids) (bs : List Bids) (t below : List ℕ) → below ≡ rows s keep bs ++ t
    → row s (made s below b) ++ below ≡ rows s keep (b ∷ bs) ++ t
unfolding rows optimum
rows_more s keep b bs t below is =
    let like = entry-rows s keep bs t below is in
    let same : row s (made s below b) ≡ row s (optimum keep (b ∷ bs)) =
    row_like s (made s below b) (optimum keep (b ∷ bs)) (λ y long held.
    best_among_like s (entry s below) (optimum keep bs) like y long held b (entry s below y) ∙ ap (best_among (optimum keep bs) y b) (like y long held)) in
    (λ i. same i ++ is i) ∙ sym (append_assoc (row s (optimum keep (b ∷ bs))) (rows s keep bs) t)

-- the rows of the bidders from k on
pub drop-rows : (s : List ℕ) (keep : List ℕ → ℕ) (bs : List Bids) (k : ℕ) (t : List ℕ) → k ≤ length bs → drop (k * bundles s) (rows s keep bs ++ t) ≡ rows s keep (drop k bs) ++ t
unfolding rows
drop-rows s keep bs zero t h = ap (λ n. drop n (rows s keep bs ++ t)) (let none : 0 * bundles s ≡ 0 = omega arith in none)
drop-rows s keep [] (suc k) t h = absurd (omega arith)
drop-rows s keep (b ∷ bs) (suc k) t h =
    let first = row s (optimum keep (b ∷ bs)) in
    let spot : suc k * bundles s ≡ bundles s + k * bundles s = omega (arith, add-mul k 1 (bundles s)) in
    ap (λ n. drop n ((first ++ rows s keep bs) ++ t)) spot
    ∙ sym (drop-drop (k * bundles s) (bundles s) ((first ++ rows s keep bs) ++ t))
    ∙ ap (drop (k * bundles s)) (ap (drop (bundles s)) (append_assoc first (rows s keep bs) t) ∙ drop_at first (rows s keep bs ++ t) (bundles s) (length-row s (optimum keep (b ∷ bs))))
    ∙ drop-rows s keep bs k t (omega arith)

-- the entry of the bidders from k on for a bundle
pub get_or-table : (s : List ℕ) (keep : List ℕ → ℕ) (bs : List Bids) (k : ℕ) (t : List ℕ) → k ≤ length bs
    → EachWithin s (λ x. get_or (rows s keep bs ++ t) (k * bundles s + place s x) 0 ≡ optimum keep (drop k bs) x)
get_or-table s keep bs k t h x long held =
    sym (get_or-drop (k * bundles s) (rows s keep bs ++ t) (place s x) 0)
    ∙ entry-rows s keep (drop k bs) t _ (drop-rows s keep bs k t h) x long held

pub entries_are_all : EntriesAreAll
entries_are_all a = length-rows a.supply a.keep a.bidders

pub entries_are_most : EntriesAreMost
entries_are_most a k x h long held =
    let is : get_or (table_of a) (k * bundles a.supply + place a.supply x) 0 ≡ optimum a.keep (drop k a.bidders) x =
    ap (λ l. get_or l (k * bundles a.supply + place a.supply x) 0) (sym (append-nil (table_of a))) ∙ get_or-table a.supply a.keep a.bidders k [] h x long held in
    subst (Most (part_of a k x)) (sym is) (optimum_is_most (part_of a k x))
