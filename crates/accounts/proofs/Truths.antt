-- Of two runs of messages that differ in the last taken one of a farm, the one with the true sheet leaves it no worse off. Assumes nothing.
use Rattle.std.proofs.Common.{◌≡◌, ℕ, ◌+◌, ◌-◌, ◌<◌, ◌≤◌, Bool, true, false, cond, List, [], ◌∷◌, ◌++◌, length, get_or, set, Ok, Err, IsErr, Result, sym, refl, ap, ◌∙◌, subst, ⊎_elim, arith}
use Rattle.std.specs.List.{AllByRecursion}
use Rattle.std.proofs.lemmas.List.{ext_get_or, get_or-set_other, get_or-set_same, length-set, map-set, set-get_or}
use Rattle.std.proofs.lemmas.Bool.{cases_eq, false≢true}
use Rattle.bundle.specs.Bids.{Bids}
use Rattle.bundle.proofs.Bundles.{get_or-less}
use Rattle.sheets.specs.Allowed.{Allowed}
use Rattle.sheets.specs.Reading.{Submission}
use Rattle.sheets.specs.declared.refusals.MessageRefusal.{MessageRefusal}
use Rattle.sheets.proofs.Readings.{taken_if_read}
use Rattle.vcg.specs.Auction.{chosen}
use Rattle.vcg.specs.Charges.{gets}
use Rattle.vcg.specs.Optimum.{outcome_of}
use Rattle.vcg.specs.Truth.{worth}
use Rattle.table.specs.Tables.{at_reserve}
use Rattle.award.proofs.Reserves.{true_sheet_is_best}
use Rattle.book.specs.Posting.{Entry, no_entry, accounts_of, numbers_of, bids_in, Reply, read_for, put, post, posts, answer_of, names, told}
use Rattle.book.proofs.Steps.{account-at, bids-at, length-accounts_of, length-bids_in, length-post, length-posts, post_other}
use Rattle.book.proofs.Tells.{place_own}
use Rattle.accounts.specs.Promises.{wealth, TrueSheet, LastTaken, TrueMessageIsBest}
use Rattle.accounts.proofs.Payments.{accounts_settled, charge-within, chosen_held}

-- messages before and after one
posts-at : (supply : List ℕ) (es : List Entry) (before : List (List ℕ)) (m : List ℕ) (later : List (List ℕ)) →
    posts supply es (before ++ m ∷ later) ≡ posts supply (post supply (posts supply es before) m) later
posts-at supply es [] m later = refl
posts-at supply es (b ∷ before) m later = posts-at supply (post supply es b) before m later

-- a refused message changes nothing
refused_post : (supply : List ℕ) (es : List Entry) (m : List ℕ) (r : Result Submission MessageRefusal) → read_for supply es m ≡ r → IsErr (answer_of r) → post supply es m ≡ es
refused_post supply es m (Ok s) e refused = absurd (false≢true refused)
refused_post supply es m (Err d) e refused = ap (put es) e

-- so a farm whose messages are all refused keeps its place
keeps_by : (supply : List ℕ) (es : List Entry) (i : ℕ) (m : List ℕ) (rest : List Reply) (b : Bool) → names i m ≡ b →
    AllByRecursion IsErr (cond b (answer_of (read_for supply es m) ∷ rest) rest) → AllByRecursion IsErr rest × (get_or (post supply es m) i no_entry ≡ get_or es i no_entry)
keeps_by supply es i m rest true e all = (all.1, ap (λ (ks : List Entry). get_or ks i no_entry) (refused_post supply es m (read_for supply es m) refl all.0))
keeps_by supply es i m rest false e all = (all, post_other supply es i m e)

keeps_place : (supply : List ℕ) (es : List Entry) (i : ℕ) (ms : List (List ℕ)) → AllByRecursion IsErr (told supply es i ms) → get_or (posts supply es ms) i no_entry ≡ get_or es i no_entry
keeps_place supply es i [] all = refl
keeps_place supply es i (m ∷ ms) all =
    let now = keeps_by supply es i m (told supply (post supply es m) i ms) (names i m) refl all in
    keeps_place supply (post supply es m) i ms now.0 ∙ now.1

-- fs holds the submission s in its farm's place, as it was taken where es stood
record Stands (supply : List ℕ) (es fs : List Entry) (s : Submission) : Type 0 where
  long : length fs ≡ length es
  known : s.farm < length es
  mine : get_or fs s.farm no_entry ≡ record { account = (get_or es s.farm no_entry).account; number = s.number; bids = s.bids }
  allowed : Allowed supply (get_or es s.farm no_entry).account s.bids

stands : (supply : List ℕ) (es : List Entry) (m : List ℕ) (later : List (List ℕ)) (s : Submission) → read_for supply es m ≡ Ok s →
    AllByRecursion IsErr (told supply (post supply es m) s.farm later) → Stands supply es (posts supply (post supply es m) later) s
stands supply es m later s read last =
    let i = s.farm in
    let taken = taken_if_read supply (accounts_of es) (numbers_of es) m s read in
    let known : i < length es = omega (arith, taken.known, length-accounts_of es) in
    let e : Entry = record { account = (get_or es i no_entry).account; number = s.number; bids = s.bids } in
    record {
      long = length-posts supply (post supply es m) later ∙ length-post supply es m;
      known = known;
      mine = rw (keeps_place supply (post supply es m) i later last, read) (get_or-set_same es i e no_entry known);
      allowed = subst (λ (n : ℕ). Allowed supply n s.bids) (account-at es i) taken.allowed;
    }

-- its bids are those that stand there
stands-bids : {supply : List ℕ} {es fs : List Entry} {s : Submission} → Stands supply es fs s → get_or (bids_in fs) s.farm [] ≡ s.bids
stands-bids {supply} {es} {fs} {s} st = bids-at fs s.farm ∙ ap (λ (e : Entry). e.bids) st.mine

-- the places of all other farms are the same with either message
others_same : (supply : List ℕ) (es : List Entry) (m n : List ℕ) (later : List (List ℕ)) (s t : Submission) (j : ℕ) → read_for supply es m ≡ Ok s → read_for supply es n ≡ Ok t →
    (j ≡ s.farm → ⊥) → (j ≡ t.farm → ⊥) →
    get_or (posts supply (post supply es m) later) j no_entry ≡ get_or (posts supply (post supply es n) later) j no_entry
others_same supply es m n later s t j first second apart other =
    let e : Entry = record { account = (get_or es s.farm no_entry).account; number = s.number; bids = s.bids } in
    let f : Entry = record { account = (get_or es t.farm no_entry).account; number = t.number; bids = t.bids } in
    place_own supply (post supply es m) (post supply es n) j later later
    (length-post supply es m ∙ sym (length-post supply es n))
    (rw (first, second, get_or-set_other es s.farm j e no_entry apart, get_or-set_other es t.farm j f no_entry other) refl)
    refl

-- so the sheets differ in the farm's own alone
sheets_differ : (fs gs : List Entry) (i : ℕ) (b : Bids) → length gs ≡ length fs → i < length fs → (get_or gs i no_entry).bids ≡ b →
    ((j : ℕ) → (j ≡ i → ⊥) → get_or gs j no_entry ≡ get_or fs j no_entry) → bids_in gs ≡ set (bids_in fs) i b
sheets_differ fs gs i b long h mine rest =
    let e : Entry = get_or gs i no_entry in
    ap bids_in (ext_get_or no_entry gs (set fs i e) (long ∙ sym (length-set fs i e))
    (λ j _. ⊎_elim
    (λ same. ap (λ k. get_or gs k no_entry) same ∙ sym (get_or-set_same fs i e no_entry h) ∙ ap (λ k. get_or (set fs i e) k no_entry) (sym same))
    (λ apart. rest j apart ∙ sym (get_or-set_other fs i j e no_entry apart))
    (cases_eq j i)))
    ∙ map-set (λ (x : Entry). x.bids) fs i e
    ∙ ap (set (bids_in fs) i) mine

-- what a farm has after the close, by its account and its charge
wealth-is : (supply prices : List ℕ) (es fs : List Entry) (s : Submission) (honest : Bids) (value : List ℕ → ℕ) → Stands supply es fs s → TrueSheet supply value honest →
    let a = at_reserve supply prices (bids_in fs) in
    (get_or (outcome_of a).charge s.farm 0 ≤ (get_or es s.farm no_entry).account)
    × (wealth supply prices fs value s.farm
    ≡ (get_or es s.farm no_entry).account - get_or (outcome_of a).charge s.farm 0 + worth honest (gets a (outcome_of a) s.farm).want)
unfolding gets
wealth-is supply prices es fs s honest value st true-one =
    let i = s.farm in
    let sheets = bids_in fs in
    let o = outcome_of (at_reserve supply prices sheets) in
    let account : get_or (accounts_of fs) i 0 ≡ (get_or es i no_entry).account = account-at fs i ∙ ap (λ (e : Entry). e.account) st.mine in
    let allowed = subst (λ (b : Bids). Allowed supply (get_or es i no_entry).account b) (sym (stands-bids st)) st.allowed in
    let here : i < length sheets = omega (arith, st.known, st.long, length-bids_in fs) in
    let fits = (chosen_held supply (get_or es i no_entry).account (get_or sheets i []) (get_or o.choice i 0) allowed).fits in (
      charge-within supply prices sheets i (get_or es i no_entry).account here allowed,
      omega (
        arith,
        ap (λ l. get_or l i 0) (accounts_settled fs o.charge),
        get_or-less (accounts_of fs) o.charge i,
        account,
        true-one (chosen (get_or sheets i []) (get_or o.choice i 0)).want fits,
      ),
    )

true_one_first : (supply prices : List ℕ) (es : List Entry) (m n : List ℕ) (later : List (List ℕ)) (s t : Submission) (value : List ℕ → ℕ) →
    read_for supply es m ≡ Ok s → read_for supply es n ≡ Ok t → s.farm ≡ t.farm →
    Stands supply es (posts supply (post supply es m) later) s → Stands supply es (posts supply (post supply es n) later) t → TrueSheet supply value s.bids →
    wealth supply prices (posts supply (post supply es n) later) value s.farm ≤ wealth supply prices (posts supply (post supply es m) later) value s.farm
true_one_first supply prices es m n later s t value first second same st su true-one =
    let i = s.farm in
    let fs = posts supply (post supply es m) later in
    let gs = posts supply (post supply es n) later in
    let sheets = bids_in fs in
    let known : i < length fs = omega (arith, st.known, st.long) in
    let own : sheets ≡ set sheets i s.bids = sym (set-get_or sheets i []) ∙ ap (set sheets i) (stands-bids st) in
    let other : bids_in gs ≡ set sheets i t.bids =
    sheets_differ fs gs i t.bids (su.long ∙ sym st.long) known
    (ap (λ k. (get_or gs k no_entry).bids) same ∙ ap (λ (e : Entry). e.bids) su.mine)
    (λ j apart. sym (others_same supply es m n later s t j first second apart (λ e. apart (e ∙ sym same)))) in
    let charge : List Bids → ℕ = λ bs. get_or (outcome_of (at_reserve supply prices bs)).charge i 0 in
    let got : List Bids → ℕ = λ bs. worth s.bids (gets (at_reserve supply prices bs) (outcome_of (at_reserve supply prices bs)) i).want in
    let best : got (set sheets i t.bids) + charge (set sheets i s.bids) ≤ got (set sheets i s.bids) + charge (set sheets i t.bids) =
    true_sheet_is_best supply prices sheets i s.bids t.bids (omega (arith, known, length-bids_in fs)) in
    let x = wealth-is supply prices es fs s s.bids value st true-one in
    let y = wealth-is supply prices es gs t s.bids value su true-one in
    let y-charge : charge (bids_in gs) ≤ (get_or es i no_entry).account = subst (λ (k : ℕ). get_or (outcome_of (at_reserve supply prices (bids_in gs))).charge k 0 ≤ (get_or es k no_entry).account) (sym same) y.0 in
    let y-wealth : wealth supply prices gs value i ≡ (get_or es i no_entry).account - charge (bids_in gs) + got (bids_in gs) =
    ap (λ k. wealth supply prices gs value k) same ∙ y.1
    ∙ ap (λ k. (get_or es k no_entry).account - get_or (outcome_of (at_reserve supply prices (bids_in gs))).charge k 0 + worth s.bids (gets (at_reserve supply prices (bids_in gs)) (outcome_of (at_reserve supply prices (bids_in gs))) k).want) (sym same) in
    omega (arith, best, x.0, x.1, y-charge, y-wealth, ap charge own, ap got own, ap charge other, ap got other)

pub true_message_is_best : TrueMessageIsBest
true_message_is_best supply prices es before later m n s t value first second same true-one =
    let fs = posts supply es before in
    let refused : AllByRecursion IsErr (told supply (post supply fs n) t.farm later) = second.last in
    rw (posts-at supply es before n later, posts-at supply es before m later)
    (true_one_first supply prices fs m n later s t value first.taken second.taken same
    (stands supply fs m later s first.taken first.last) (stands supply fs n later t second.taken refused) true-one)

-- the sheet that stands for the farm then
pub sheet_stands : (supply : List ℕ) (es : List Entry) (before : List (List ℕ)) (m : List ℕ) (later : List (List ℕ)) (s : Submission) → LastTaken supply es before m later s →
    get_or (bids_in (posts supply es (before ++ m ∷ later))) s.farm [] ≡ s.bids
sheet_stands supply es before m later s taken =
    rw (posts-at supply es before m later) (stands-bids (stands supply (posts supply es before) m later s taken.taken taken.last))
