-- A sweep over the lines of a sheet for one bundle: its start, one line more, and its end. Assumes nothing.
use Rattle.std.proofs.Common.{◌≡◌, ℕ, suc, ◌+◌, ◌-◌, ◌<◌, max, true, false, List, [], ◌∷◌, ◌++◌, map, length, get_or, take, set, replicate, refl, sym, ap, ◌∙◌, append_assoc, arith}
use Rattle.std.proofs.lemmas.List.{length-map, length-take-le, map_more, set_at, take_at}
use Rattle.std.proofs.lemmas.Bool.{cond-true, cond-false}
use Rattle.bundle.specs.Bids.{Bid}
use Rattle.bundle.specs.Bundles.{units_of}
use Rattle.bundle.specs.Units.{place, bundles, bundle_at, less, within}
use Rattle.bundle.proofs.Bundles.{place-less, place-bundle_at, within-true}
use Rattle.sheets.specs.Sheets.{bid_of}
use Rattle.vcg.specs.Optimum.{better, best_among}
use Rattle.sheets.specs.declared.parts.Line.{Line}
use Rattle.table.specs.Offers.{places_of}
use Rattle.table.specs.Tables.{entry, made}

-- one place more
pub places_more : (s : List ℕ) (ls : List Line) (ps : List ℕ) (k : ℕ) (d : Line) (v : ℕ) → k < length ls → k < 32 → v ≡ place s (units_of (get_or ls k d).units)
    → ps ≡ places_of s (take k ls) ++ replicate (32 - k) 0 → set ps k v ≡ places_of s (take (k + 1) ls) ++ replicate (32 - (k + 1)) 0
places_more s ls ps k d v h g is before =
    let some = places_of s (take k ls) in
    let rest = replicate {A = ℕ} (32 - (k + 1)) 0 in
    let more : 32 - k ≡ suc (32 - (k + 1)) = omega arith in
    let long : length some ≡ k = length-map (take k ls) (λ (l : Line). place s (units_of l.units)) ∙ length-take-le k ls (omega arith) in
    ap (λ l. set l k v) (before ∙ ap (λ n. some ++ replicate n 0) more)
    ∙ set_at some 0 rest v k long
    ∙ ap (λ n. some ++ n ∷ rest) is
    ∙ sym (append_assoc some (place s (units_of (get_or ls k d).units) ∷ []) rest)
    ∙ ap (λ l. l ++ rest) (sym (map_more (λ (l : Line). place s (units_of l.units)) ls k d h))

pub places_front : (s : List ℕ) (ls : List Line) (ps rest : List ℕ) → ps ≡ places_of s ls ++ rest → take (length ls) ps ≡ places_of s ls
places_front s ls ps rest is = ap (take (length ls)) is ∙ take_at (places_of s ls) rest (length ls) (length-map ls (λ (l : Line). place s (units_of l.units)))

-- the place of what the first line leaves of the bundle at the place n
pub left_of : (s : List ℕ) (ls ms : List Line) (l : Line) (ps qs : List ℕ) (p : ℕ) (x : List ℕ) (n : ℕ) → ps ≡ places_of s ls → ls ≡ l ∷ ms → ps ≡ p ∷ qs
    → n < bundles s → x ≡ bundle_at s n → true ≡ within (units_of l.units) x → place s (less (bundle_at s n) (units_of l.units)) + p ≡ n
left_of s ls ms l ps qs p x n placed first here low stands fits =
    let w = units_of l.units in
    let spot : p ≡ place s w = ap (λ (xs : List ℕ). get_or xs 0 0) (sym here ∙ placed ∙ ap (places_of s) first) in
    omega (
      arith,
      spot,
      place-less s (bundle_at s n) w (within-true w (bundle_at s n) (ap (within w) (sym stands) ∙ sym fits)),
      place-bundle_at s n low,
    )

-- a line that fits, and one that does not
pub better-fits : (rest : List ℕ → ℕ) (x : List ℕ) (l : Bid) (m v r : ℕ) → true ≡ within l.want x → v ≡ l.value + rest (less x l.want) → r ≡ max m v → r ≡ better rest x l m
better-fits rest x l m v r fits is most = most ∙ ap (max m) is ∙ sym (cond-true (within l.want x) (max m (l.value + rest (less x l.want))) m (sym fits))

pub better_misfits : (rest : List ℕ → ℕ) (x : List ℕ) (l : Bid) (m r : ℕ) → false ≡ within l.want x → r ≡ m → r ≡ better rest x l m
better_misfits rest x l m r fits most = most ∙ sym (cond-false (within l.want x) (max m (l.value + rest (less x l.want))) m (sym fits))

pub sweep_start : (s below : List ℕ) (ls rest : List Line) (n : ℕ) → rest ≡ ls → n < bundles s
    → best_among (entry s below) (bundle_at s n) (map bid_of rest) (get_or below n 0) ≡ made s below (map bid_of ls) (bundle_at s n)
sweep_start s below ls rest n all low = λ i. best_among (entry s below) (bundle_at s n) (map bid_of (all i)) (get_or below (sym (place-bundle_at s n low) i) 0)

pub sweep_step : (rest : List ℕ → ℕ) (x : List ℕ) (ls later : List Line) (l : Line) (m r : ℕ) → ls ≡ l ∷ later → r ≡ better rest x (bid_of l) m
    → best_among rest x (map bid_of later) r ≡ best_among rest x (map bid_of ls) m
unfolding best_among
sweep_step rest x ls later l m r first is = ap (best_among rest x (map bid_of later)) is ∙ ap (λ (ks : List Line). best_among rest x (map bid_of ks) m) (sym first)

pub sweep_end : (rest : List ℕ → ℕ) (x : List ℕ) (ls : List Line) (m : ℕ) → length ls ≡ 0 → best_among rest x (map bid_of ls) m ≡ m
unfolding best_among
sweep_end rest x [] m h = refl
sweep_end rest x (l ∷ ls) m h = absurd (omega arith)
