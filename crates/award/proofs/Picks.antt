-- One farm's choice, read from the table, in front of the choices of those after it. Assumes nothing.
use Rattle.std.proofs.Common.{◌≡◌, ℕ, zero, suc, Bool, Some, None, Option, position, ◌+◌, ◌-◌, ◌*◌, ◌<◌, ◌≤◌, true, false, cond, ◌&&◌, ltb, leb, List, [], ◌∷◌, ◌++◌, map, length, get_or, take, drop, set, sym, refl, ap, ◌∙◌, append_assoc, add-one, arith}
use Rattle.std.proofs.Math.ListN.{get_or-map as get_or-map_own}
use Rattle.std.proofs.lemmas.Nat.{mul-le}
use Rattle.std.proofs.lemmas.List.{get_or-map, get_or-take, take_more_set}
use Rattle.std.specs.List.{position_from}
use Rattle.std.proofs.lemmas.Iterator.Adapters.{position_from-zero}
use Rattle.std.proofs.lemmas.Bool.{and_from, cond-true, cond-false, ne_eqb, le-leb, lt-ltb}
use Rattle.bundle.specs.Bids.{Bid, Bids}
use Rattle.bundle.specs.Units.{place, bundles, less, Within}
use Rattle.bundle.proofs.Bundles.{bundle_at-last, bundles_pos, place_below}
use Rattle.sheets.specs.Sheets.{bid_of, bids_of}
use Rattle.sheets.specs.declared.parts.Line.{Line}
use Rattle.sheets.specs.declared.parts.Sheet.{Sheet}
use Rattle.table.specs.Tables.{rows, table_of, entry, onto}
use Rattle.table.proofs.TableRows.{drop-rows, entry-rows, get_or-rows, get_or-table}
use Rattle.vcg.specs.Auction.{Auction, no_bid, chosen}
use Rattle.vcg.specs.Optimum.{optimum, best_worth, makes, first_among, pick, award}
use Rattle.vcg.proofs.Alike.{EachWithin, pick_like}

-- the number of a line at a place, and 0 for none
abbrev pub number_of : Option ℕ → ℕ
number_of None = 0
number_of (Some k) = k + 1

module _ (rest : List ℕ → ℕ) (x : List ℕ) (t : ℕ) where
  abbrev pub made_by : Line → Bool
  made_by l = makes rest x t (bid_of l)

  numbered : (ls : List Line) (n : ℕ) → number_of (position_from made_by n ls) ≡ first_among rest x t (map bid_of ls) (n + 1)
  unfolding first_among
  numbered [] n = refl
  numbered (l ∷ ls) n =
      let later = numbered ls (n + 1) ∙ ap (first_among rest x t (map bid_of ls)) (add-one (n + 1)) in
      elim (makes rest x t (bid_of l)) as (λ b. number_of (cond b (Some n) (position_from made_by (n + 1) ls)) ≡ cond b (n + 1) (first_among rest x t (map bid_of ls) (suc (n + 1)))) [
        | true ↦ refl
        | false ↦ later
      ]

  -- the first line that makes t, where t is not made without it
  pub picked_line : (b : Bids) (ls : List Line) (o : Option ℕ) → map bid_of ls ≡ b → (rest x ≡ t → ⊥) → o ≡ position made_by ls → number_of o ≡ pick rest x t b
  unfolding pick
  picked_line b ls o same other is =
      ap number_of (is ∙ position_from-zero made_by ls) ∙ numbered ls 0 ∙ ap (λ (c : Bids). first_among rest x t c 1) same ∙ sym (cond-false _ _ _ (ne_eqb (rest x) t other))

-- the line that a choice names
pub chosen_none : (b : Bids) (n : ℕ) → (1 ≤ n → ⊥) → chosen b n ≡ no_bid
unfolding chosen
chosen_none b zero h = refl
chosen_none b (suc k) h = absurd (h (omega arith))

pub chosen_at : (b : Bids) (ls : List Line) (n k : ℕ) (d : Line) → map bid_of ls ≡ b → 1 ≤ n → k ≡ n - 1 → bid_of d ≡ no_bid → bid_of (get_or ls k d) ≡ chosen b n
unfolding chosen
chosen_at b ls zero k d same h is none = absurd (omega arith)
chosen_at b ls (suc j) k d same h is none =
    let spot : k ≡ j = omega arith in
    sym (get_or-map_own bid_of ls k d) ∙ (λ i. get_or (same i) (spot i) (none i))

-- what a farm stated for the line that it gets
pub stated-is : (sheets : List Sheet) (w award : List ℕ) (k : ℕ) (sheet : Sheet) (l : Line) → k < length sheets → sheet ≡ get_or sheets k sheet → w ≡ award
    → bid_of l ≡ chosen (bids_of sheet) (get_or w k 0) → l.worth ≡ (chosen (get_or (map bids_of sheets) k []) (get_or award k 0)).value
stated-is sheets w award k sheet l h here same is =
    ap (λ (b : Bid). b.value) is
    ∙ (λ i. (chosen (ap bids_of here i) (get_or (same i) k 0)).value)
    ∙ ap (λ (b : Bids). (chosen b (get_or award k 0)).value) (sym (get_or-map bids_of sheets k sheet [] h))

module _ (s : List ℕ) (keep : List ℕ → ℕ) (bs : List Bids) (t rest : List ℕ) (filled : t ≡ rows s keep bs ++ rest) (k : ℕ) where
  -- the entry of the bidders from k on
  pub target_is : (m : ℕ) → m ≡ bundles s → k ≤ length bs → EachWithin s (λ x. get_or t (k * m + place s x) 0 ≡ optimum keep (drop k bs) x)
  target_is m many h x long held =
      (λ i. get_or (filled i) (k * many i + place s x) 0) ∙ get_or-table s keep bs k rest h x long held

  -- the row below, as it is lent
  pub below_is : (r : List ℕ) → r ≡ take (bundles s) (drop (k * bundles s) t) → k ≤ length bs → EachWithin s (λ y. entry s r y ≡ optimum keep (drop k bs) y)
  below_is r is h y long held =
      ap (λ l. entry s l y) is
      ∙ get_or-take (bundles s) (drop (k * bundles s) t) (place s y) 0 (place_below s y held)
      ∙ entry-rows s keep (drop k bs) rest _ (ap (drop (k * bundles s)) filled ∙ drop-rows s keep bs k rest h) y long held

-- the row below a farm's, where there is one
pub lent_below : (t r : List ℕ) (n b k : ℕ) → k < n → n ≤ 48 → (n + 1) * b ≤ length t
    → r ≡ cond (ltb k n && (ltb k 48 && leb ((k + 2) * b) (length t))) (take b (drop ((k + 1) * b) t)) [] → r ≡ take b (drop ((k + 1) * b) t)
lent_below t r n b k h few long is =
    let fits : (k + 2) * b ≤ length t = omega (arith, mul-le (k + 2) b (n + 1) b (omega arith) (omega arith)) in
    is
    ∙ cond-true _ _ _ (
    and_from (ltb k n) (ltb k 48 && leb ((k + 2) * b) (length t)) (lt-ltb k n h)
    (and_from (ltb k 48) (leb ((k + 2) * b) (length t)) (lt-ltb k 48 (omega arith)) (le-leb ((k + 2) * b) (length t) fits))
    )

-- a farm's choice in front of those after it
pub award_more : (s : List ℕ) (keep below : List ℕ → ℕ) (b : Bids) (bs ds : List Bids) (x : List ℕ) (n t : ℕ) → ds ≡ b ∷ bs → length x ≡ length s → Within x s
    → EachWithin s (λ y. below y ≡ optimum keep bs y) → t ≡ optimum keep ds x → n ≡ pick below x t b
    → award keep ds x ≡ n ∷ award keep bs (less x (chosen b n).want)
unfolding award
award_more s keep below b bs ds x n t split long held like is picked =
    let same : n ≡ pick (optimum keep bs) x (optimum keep (b ∷ bs) x) b =
    picked ∙ pick_like s below (optimum keep bs) like x long held t b ∙ ap (λ v. pick (optimum keep bs) x v b) (is ∙ ap (λ (l : List Bids). optimum keep l x) split) in
    ap (λ (l : List Bids). award keep l x) split ∙ ap (λ v. v ∷ award keep bs (less x (chosen b v).want)) (sym same)

-- and written behind those before it
pub award-written : (w rest later : List ℕ) (k n : ℕ) → k < length w → rest ≡ n ∷ later → take (k + 1) (set w k n) ++ later ≡ take k w ++ rest
award-written w rest later k n h is = ap (λ l. l ++ later) (take_more_set w k n h) ∙ append_assoc (take k w) (n ∷ []) later ∙ ap (λ l. take k w ++ l) (sym is)

-- the entry of all bidders for the whole supply
pub first_entry : (a : Auction) (t u : List ℕ) (m : ℕ) → m ≡ bundles a.supply → u ≡ onto (table_of a) t → get_or u (m - 1) 0 ≡ best_worth a
first_entry a t u m many is =
    let s = a.supply in
    (λ i. get_or (is i) (many i - 1) 0)
    ∙ get_or-rows s a.keep a.bidders (drop (length (table_of a)) t) (bundles s - 1) (omega (arith, bundles_pos s))
    ∙ ap (optimum a.keep a.bidders) (bundle_at-last s)
