-- A row written into the table in front of those that are filled. Assumes nothing.
use Rattle.std.proofs.Common.{◌≡◌, ℕ, suc, ◌+◌, ◌-◌, ◌*◌, ◌^◌, ◌<◌, ◌≤◌, List, [], ◌∷◌, ◌++◌, map, length, get_or, take, drop, set, sym, refl, ap, ◌∙◌, add-mul, add-one, arith}
use Rattle.std.specs.List.{range_with_len}
use Rattle.std.proofs.lemmas.List.{drop_all, drop_at, drop-drop, drop_more, drop-set, get_or-drop, get_or-map, length-append, length-drop, length-map, length-take-le, set_split}
use Rattle.bundle.specs.Bids.{Bids}
use Rattle.bundle.specs.Units.{bundles, bundle_at, place}
use Rattle.bundle.proofs.Bundles.{bundles_pos, length-bundle_at, bundle_at-within, place_below, within_refl}
use Rattle.sheets.specs.Sheets.{bids_of}
use Rattle.sheets.specs.declared.parts.Sheet.{Sheet}
use Rattle.vcg.specs.Auction.{no_bid}
use Rattle.vcg.specs.Optimum.{best_among, optimum}
use Rattle.vcg.proofs.Alike.{EachWithin, optimum-append, optimum_like}
use Rattle.table.specs.Offers.{Below, SmallRow}
use Rattle.table.specs.Tables.{row, rows, entry, made, onto}
use Rattle.table.proofs.Sheets.{few_cap, stated_cap}
use Rattle.table.proofs.TableRows.{length-row, get_or-row, entry_row, entry-rows, get_or-rows, row_of, rows_like, rows_more, rows-onto, table-long}

-- the rows from row j on are those of the bidders from the j-th on, by what the seller keeps, and then the rest
abbrev pub FilledFrom : List ℕ → (List ℕ → ℕ) → List Bids → List ℕ → ℕ → List ℕ → Type 0
FilledFrom s keep bs rest j t = drop (j * bundles s) t ≡ rows s keep (drop j bs) ++ rest

-- with the last row alone
pub filled_last : (s : List ℕ) (keep : List ℕ → ℕ) (bs : List Bids) (rest t : List ℕ) → drop (length bs * bundles s) t ≡ row s keep ++ rest → FilledFrom s keep bs rest (length bs) t
unfolding rows
filled_last s keep bs rest t is = is ∙ ap (λ (ds : List Bids). rows s keep ds ++ rest) (sym (drop_all (length bs) bs (omega arith)))

-- by whatever stands in that row
pub filled_own : (s : List ℕ) (bs : List Bids) (t : List ℕ) → (length bs + 1) * bundles s ≤ length t
    → FilledFrom s (entry s (drop (length bs * bundles s) t)) bs (drop ((length bs + 1) * bundles s) t) (length bs) t
filled_own s bs t long =
    let last = drop (length bs * bundles s) t in
    let next : length bs * bundles s + bundles s ≡ (length bs + 1) * bundles s = omega (arith, add-mul (length bs) 1 (bundles s)) in
    filled_last s (entry s last) bs (drop ((length bs + 1) * bundles s) t) t
    (row_of s last (omega (arith, length-drop (length bs * bundles s) t)) ∙ ap (λ l. row s (entry s last) ++ l) (drop-drop (bundles s) (length bs * bundles s) t ∙ ap (λ k. drop k t) next))

-- with all rows
pub filled_all : (s : List ℕ) (keep : List ℕ → ℕ) (bs : List Bids) (j : ℕ) (t u : List ℕ) → j ≡ 0 → FilledFrom s keep bs (drop ((length bs + 1) * bundles s) t) j u → u ≡ onto (rows s keep bs) t
filled_all s keep bs j t u none is =
    let first : 0 ≡ j * bundles s = omega (arith, ap (λ n. n * bundles s) none) in
    ap (λ n. drop n u) first ∙ is ∙ ap (λ n. rows s keep (drop n bs) ++ drop ((length bs + 1) * bundles s) t) none ∙ rows-onto s keep bs t

-- the bids from one sheet on
pub bids_from : (sheets : List Sheet) (k j : ℕ) (sheet : Sheet) → j ≡ k + 1 → k < length sheets → sheet ≡ get_or sheets k sheet
    → drop k (map bids_of sheets) ≡ bids_of sheet ∷ drop j (map bids_of sheets)
bids_from sheets k j sheet next h is =
    drop_more (map bids_of sheets) k [] (omega (arith, length-map sheets bids_of))
    ∙ (λ i. (get_or-map bids_of sheets k sheet [] h ∙ ap bids_of (sym is)) i ∷ drop (sym next i) (map bids_of sheets))

-- one row more
pub filled_more : (s : List ℕ) (keep : List ℕ → ℕ) (sheets : List Sheet) (rest t u : List ℕ) (k : ℕ) (sheet : Sheet) → k < length sheets → sheet ≡ get_or sheets k sheet
    → FilledFrom s keep (map bids_of sheets) rest (k + 1) t
    → drop (k * bundles s) u ≡ row s (made s (drop ((k + 1) * bundles s) t) (bids_of sheet)) ++ drop ((k + 1) * bundles s) t
    → FilledFrom s keep (map bids_of sheets) rest k u
filled_more s keep sheets rest t u k sheet h here filled is =
    is
    ∙ rows_more s keep (bids_of sheet) (drop (k + 1) (map bids_of sheets)) rest (drop ((k + 1) * bundles s) t) filled
    ∙ ap (λ (ds : List Bids). rows s keep ds ++ rest) (sym (bids_from sheets k (k + 1) sheet refl h here))

-- what stands after row k
pub after-row : (s : List ℕ) (f : List ℕ → ℕ) (t rest : List ℕ) (k : ℕ) → drop (k * bundles s) t ≡ row s f ++ rest → drop ((k + 1) * bundles s) t ≡ rest
after-row s f t rest k is =
    let next : (k + 1) * bundles s ≡ k * bundles s + bundles s = omega (arith, add-mul k 1 (bundles s)) in
    ap (λ n. drop n t) next ∙ sym (drop-drop (bundles s) (k * bundles s) t) ∙ ap (drop (bundles s)) is ∙ drop_at (row s f) rest (bundles s) (length-row s f)

-- rows filled by the row of `keep` after them
pub filled-rows : (s : List ℕ) (keep : List ℕ → ℕ) (bs : List Bids) (rest t u : List ℕ) → drop (length bs * bundles s) t ≡ row s keep ++ rest
    → u ≡ onto (rows s (entry s (drop (length bs * bundles s) t)) bs) t → u ≡ rows s keep bs ++ rest
filled-rows s keep bs rest t u last is =
    let own = entry s (drop (length bs * bundles s) t) in
    is ∙ sym (rows-onto s own bs t) ∙ (λ i. rows_like s own keep (entry_row s keep rest _ last) bs i ++ after-row s keep t rest (length bs) last i)

-- the row of the bidder k, where it has no alternatives, is the row after it
pub empty_row : (s : List ℕ) (bs : List Bids) (k : ℕ) (below rest t : List ℕ) (none : Bids) → k < length bs → none ≡ []
    → drop (k * bundles s) t ≡ row s (made s below none) ++ rest → drop (length (take k bs) * bundles s) t ≡ row s (entry s below) ++ rest
unfolding best_among
empty_row s bs k below rest t none h is wrote =
    ap (λ n. drop (n * bundles s) t) (length-take-le k bs (omega arith)) ∙ wrote ∙ ap (λ (b : Bids). row s (made s below b) ++ rest) is

-- no entry is above what the seller keeps at most and 2^32 for each of 48 bidders
pub row_cap : (s : List ℕ) (keep : List ℕ → ℕ) (n : ℕ) → EachWithin s (λ y. keep y ≤ n) → (sheets : List Sheet) → length sheets ≤ 48 →
    (j : ℕ) (rest : List ℕ) (p : ℕ) → p < bundles s → get_or (rows s keep (drop j (map bids_of sheets)) ++ rest) p 0 ≤ n + 48 * 2 ^ 32
row_cap s keep n low sheets few j rest p h =
    let bs = drop j (map bids_of sheets) in
    let most : (i k : ℕ) → (get_or (get_or bs i []) k no_bid).value ≤ 2 ^ 32 = λ i k. rw (get_or-drop j (map bids_of sheets) i []) (stated_cap sheets (j + i) k) in
    let count : length bs ≤ 48 = omega (arith, length-drop j (map bids_of sheets), length-map sheets bids_of) in
    omega (
      arith,
      get_or-rows s keep bs rest p h,
      few_cap keep s n low bs count most (bundle_at s p) (length-bundle_at s p) (bundle_at-within s p),
    )

-- where the rows from j on are filled, row j has room above its entries, so that the one before it can be filled
pub below_filled : (s : List ℕ) (keep : List ℕ → ℕ) → EachWithin s (λ y. keep y ≤ 2 ^ 40) → (sheets : List Sheet) → length sheets ≤ 48
    → (j : ℕ) (below rest : List ℕ) → below ≡ rows s keep (drop j (map bids_of sheets)) ++ rest → Below s below
below_filled s keep low sheets few j below rest is =
    let bs = drop j (map bids_of sheets) in
    record {
      long = omega (arith, table-long s keep bs below rest is, add-mul (length bs) 1 (bundles s));
      small = λ p l. omega (arith, ap (λ r. get_or r p 0) is, row_cap s keep (2 ^ 40) low sheets few j rest p l);
    }

-- where they are filled by little, row j is small
pub small_filled : (s : List ℕ) (keep : List ℕ → ℕ) → EachWithin s (λ y. keep y ≤ 2 ^ 32) → (sheets : List Sheet) → length sheets ≤ 48
    → (j : ℕ) (t rest : List ℕ) → FilledFrom s keep (map bids_of sheets) rest j t → SmallRow s j t
small_filled s keep low sheets few j t rest is =
    let bs = drop j (map bids_of sheets) in
    record {
      long = omega (arith, table-long s keep bs (drop (j * bundles s) t) rest is, length-drop (j * bundles s) t, add-mul (length bs) 1 (bundles s), add-mul j 1 (bundles s), bundles_pos s);
      small = λ p l. omega (arith, get_or-drop (j * bundles s) t p 0, ap (λ r. get_or r p 0) is, row_cap s keep (2 ^ 32) low sheets few j rest p l);
    }

-- a row of small numbers
pub small_row : (s : List ℕ) (f : List ℕ → ℕ) (t rest : List ℕ) (k : ℕ) → drop (k * bundles s) t ≡ row s f ++ rest
    → EachWithin s (λ y. f y ≤ 2 ^ 40) → SmallRow s k t
small_row s f t rest k is low =
    record {
      long = omega (arith, ap length is, length-append (row s f) rest, length-row s f, length-drop (k * bundles s) t, add-mul k 1 (bundles s), bundles_pos s);
      small = λ p h. omega (arith, get_or-drop (k * bundles s) t p 0, ap (λ l. get_or l p 0) is, get_or-row s f rest p h, low (bundle_at s p) (length-bundle_at s p) (bundle_at-within s p));
    }

-- a small row keeps little
pub small-keep : (s t : List ℕ) (k : ℕ) → SmallRow s k t → EachWithin s (λ y. entry s (drop (k * bundles s) t) y ≤ 2 ^ 40)
small-keep s t k row y long held = omega (arith, get_or-drop (k * bundles s) t (place s y) 0, row.small (place s y) (place_below s y held))

-- the most without the bidder k, by the rows after it
pub without_is : (s : List ℕ) (keep : List ℕ → ℕ) (bs : List Bids) (k : ℕ) (t rest : List ℕ) → k < length bs → FilledFrom s keep bs rest (k + 1) t
    → optimum (entry s (drop ((k + 1) * bundles s) t)) (take k bs) s ≡ optimum keep (set bs k []) s
unfolding optimum best_among
without_is s keep bs k t rest h filled =
    let after : List Bids = drop (k + 1) bs in
    optimum_like s (entry s (drop ((k + 1) * bundles s) t)) (optimum keep after) (entry-rows s keep after rest _ filled) (take k bs) s refl (within_refl s)
    ∙ sym (optimum-append keep (take k bs) ([] ∷ after) s)
    ∙ ap (λ (ds : List Bids). optimum keep ds s) (ap (λ n. take k bs ++ ([] ∷ drop n bs)) (add-one k) ∙ sym (set_split bs k [] h))

-- a list that is written from its end
pub counted_more : (f : ℕ → ℕ) (ws : List ℕ) (k j n v : ℕ) → j ≡ k + 1 → j ≤ n → k < length ws → v ≡ f k → drop j ws ≡ map f (range_with_len j (n - j)) → drop k (set ws k v) ≡ map f (range_with_len k (n - k))
counted_more f ws k j n v next h l is later =
    let more : n - k ≡ suc (n - j) = omega arith in
    drop-set ws k v l
    ∙ (λ i. is i ∷ drop (sym next i) ws)
    ∙ ap (λ r. f k ∷ r) later
    ∙ (λ i. f k ∷ map f (range_with_len (next i) (n - j)))
    ∙ ap (λ r. map f (range_with_len k r)) (sym more)
