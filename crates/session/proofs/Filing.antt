-- A file that is written is read as that opening and those messages. Assumes nothing.
use Rattle.std.proofs.Common.{◌≡◌, ℕ, ◌+◌, ◌*◌, ◌/◌, ◌%◌, ◌^◌, ◌<◌, ◌≤◌, List, [], ◌∷◌, ◌++◌, length, drop, map, sym, refl, ap, ◌∙◌, arith}
use Rattle.std.specs.List.{flat_map, AllByRecursion}
use Rattle.std.proofs.lemmas.List.{append-nil, append_assoc, length-append, get_or_at, take_at, drop_at, drop-drop}
use Rattle.std.proofs.lemmas.Bool.{le-ltb, cond-false}
use Rattle.std.specs.Simd.{first_chunks}
use Rattle.sheets.specs.Reading.{u32_at}
use Rattle.sheets.specs.Writing.{u32_bytes}
use Rattle.sheets.proofs.Writings.{u32_at_bytes, length_items}
use Rattle.sale.specs.Opening.{open_sale}
use Rattle.sale.specs.declared.lots.Lot.{Lot}
use Rattle.session.specs.Frames.{framed, frames, messages}
use Rattle.session.specs.Files.{u64_bytes, lot_bytes, opening_bytes, FileBack}
use Rattle.session.specs.Session.{u64_at, lot_in, account_in, lots_at, accounts_at, lot_count, farm_count, opening_size, opening_in, messages_in}
use Rattle.session.proofs.Framing.{frames_back}
use Rattle.session.proofs.Rows.{number_from, lots_parts, accounts_parts}

-- a number of eight bytes is read back where it stands
pub u64_back : (bs rest : List ℕ) (p n : ℕ) → drop p bs ≡ u64_bytes n ++ rest → n < 2 ^ 64 → u64_at bs p ≡ n
u64_back bs rest p n at h =
    let low : n % 4294967296 < 2 ^ 32 = omega arith in
    let high : n / 4294967296 < 2 ^ 32 = omega arith in
    let first : u32_at bs p ≡ n % 4294967296 =
    sym (number_from bs p 0 p (omega arith)) ∙ ap (λ l. u32_at l 0) at ∙ u32_at_bytes [] (u32_bytes (n / 4294967296) ++ rest) (n % 4294967296) low in
    let second : u32_at bs (p + 4) ≡ n / 4294967296 =
    sym (number_from bs p 4 (p + 4) (omega arith)) ∙ ap (λ l. u32_at l 4) at ∙ u32_at_bytes (u32_bytes (n % 4294967296)) rest (n / 4294967296) high in
    (λ i. first i + second i * 4294967296) ∙ omega arith

-- items of one size that are written one after the other are read back, where each is
module _ {A : Type 0} (bytes : A → List ℕ) (size : ℕ) (sized : (x : A) → length (bytes x) ≡ size) where
  items_back : (read : List ℕ → A) (Fits : A → Type 0) → ((x : A) → Fits x → read (bytes x) ≡ x) → (xs : List A) (rest : List ℕ) → AllByRecursion Fits xs →
      map read (first_chunks size (length xs) (flat_map bytes xs ++ rest)) ≡ xs
  items_back read Fits back [] rest fit = refl
  items_back read Fits back (x ∷ xs) rest fit =
      let after = flat_map bytes xs ++ rest in
      rw (append_assoc (bytes x) (flat_map bytes xs) rest, take_at (bytes x) after size (sized x), drop_at (bytes x) after size (sized x))
      (λ i. back x fit.0 i ∷ items_back read Fits back xs rest fit.1 i)

-- a lot takes five bytes, an account four
pub length_lots : (ls : List Lot) → length (flat_map lot_bytes ls) ≡ length ls * 5
length_lots ls = length_items lot_bytes 5 ls (λ k d h. refl)

pub length_accounts : (held : List ℕ) → length (flat_map u32_bytes held) ≡ length held * 4
length_accounts held = length_items u32_bytes 4 held (λ k d h. refl)

-- lots are read back, and accounts
pub lots_back : (bs rest : List ℕ) (p : ℕ) (ls : List Lot) → drop p bs ≡ flat_map lot_bytes ls ++ rest → AllByRecursion (λ (l : Lot). l.reserve < 2 ^ 32) ls →
    lots_at bs p (length ls) ≡ ls
lots_back bs rest p ls at small =
    sym (lots_parts bs p (length ls)) ∙ ap (λ l. map lot_in (first_chunks 5 (length ls) l)) at
    ∙ items_back lot_bytes 5 (λ l. refl) lot_in (λ l. l.reserve < 2 ^ 32) (λ l fits i. record { units = l.units; reserve = u32_at_bytes (l.units ∷ []) [] l.reserve fits i }) ls rest small

pub accounts_back : (bs rest : List ℕ) (p : ℕ) (held : List ℕ) → drop p bs ≡ flat_map u32_bytes held ++ rest → AllByRecursion (λ (a : ℕ). a < 2 ^ 32) held →
    accounts_at bs p (length held) ≡ held
accounts_back bs rest p held at small =
    sym (accounts_parts bs p (length held)) ∙ ap (λ l. map account_in (first_chunks 4 (length held) l)) at
    ∙ items_back u32_bytes 4 (λ a. refl) account_in (λ a. a < 2 ^ 32) (λ a fits. u32_at_bytes [] [] a fits) held rest small

-- the opening and what follows it, part by part
opening_parts : (lots : List Lot) (accounts : List ℕ) (company : ℕ) (rest : List ℕ) →
    opening_bytes lots accounts company ++ rest
    ≡ length lots ∷ (flat_map lot_bytes lots ++ (length accounts ∷ (flat_map u32_bytes accounts ++ (u64_bytes company ++ rest))))
opening_parts lots accounts company rest =
    ap (λ l. length lots ∷ l) (append_assoc (flat_map lot_bytes lots) (length accounts ∷ (flat_map u32_bytes accounts ++ u64_bytes company)) rest
    ∙ ap (λ l. flat_map lot_bytes lots ++ (length accounts ∷ l)) (append_assoc (flat_map u32_bytes accounts) (u64_bytes company) rest))

-- how long the opening is
pub length_opening : (lots : List Lot) (accounts : List ℕ) (company : ℕ) →
    length (opening_bytes lots accounts company) ≡ 2 + length lots * 5 + length accounts * 4 + 8
length_opening lots accounts company =
    let farms = flat_map u32_bytes accounts ++ u64_bytes company in
    omega (
      arith,
      length-append (flat_map lot_bytes lots) (length accounts ∷ farms),
      length-append (flat_map u32_bytes accounts) (u64_bytes company),
      length_lots lots,
      length_accounts accounts,
    )

-- where the farms and the parts are told, the sale is that of the parts
opened-by : (bs : List ℕ) (m : ℕ) (lots : List Lot) (accounts : List ℕ) (company : ℕ) → farm_count bs ≡ m → 2 + lot_count bs * 5 + m * 4 + 8 ≤ length bs →
    lots_at bs 1 (lot_count bs) ≡ lots → accounts_at bs (2 + lot_count bs * 5) m ≡ accounts → u64_at bs (2 + lot_count bs * 5 + m * 4) ≡ company →
    opening_in bs ≡ open_sale lots accounts company
opened-by bs m lots accounts company f long sold held purse =
    let from = 2 + lot_count bs * 5 in
    let held' : accounts_at bs from (farm_count bs) ≡ accounts = ap (accounts_at bs from) f ∙ held in
    let purse' : u64_at bs (from + farm_count bs * 4) ≡ company = ap (λ j. u64_at bs (from + j * 4)) f ∙ purse in
    cond-false _ _ _ (le-ltb (length bs) (opening_size bs) (omega arith)) ∙ (λ i. open_sale (sold i) (held' i) (purse' i))

-- the byte after the lots counts the farms
farms_told : (n m : ℕ) (xs rest : List ℕ) → length xs ≡ n * 5 → farm_count (n ∷ (xs ++ (m ∷ rest))) ≡ m
farms_told n m xs rest e = get_or_at (n ∷ xs) m rest 0 (1 + n * 5) (omega arith)

-- the size of an opening is read back, whatever follows it
pub opening_sized : (lots : List Lot) (accounts : List ℕ) (company : ℕ) (rest : List ℕ) →
    opening_size (opening_bytes lots accounts company ++ rest) ≡ length (opening_bytes lots accounts company)
opening_sized lots accounts company rest =
    let n = length lots in
    ap opening_size (opening_parts lots accounts company rest)
    ∙ ap (λ x. 2 + n * 5 + x * 4 + 8)
    (farms_told n (length accounts) (flat_map lot_bytes lots) (flat_map u32_bytes accounts ++ (u64_bytes company ++ rest)) (length_lots lots))
    ∙ sym (length_opening lots accounts company)

-- and so are the messages that follow it
pub messages_behind : (lots : List Lot) (accounts : List ℕ) (company : ℕ) (rest : List ℕ) →
    messages_in (opening_bytes lots accounts company ++ rest) ≡ messages rest
messages_behind lots accounts company rest =
    let bs = opening_bytes lots accounts company ++ rest in
    ap messages (drop_at (opening_bytes lots accounts company) rest (opening_size bs) (sym (opening_sized lots accounts company rest)))

-- an opening is read back, whatever follows it
pub opening_back : (lots : List Lot) (accounts : List ℕ) (company : ℕ) (rest : List ℕ) →
    AllByRecursion (λ (l : Lot). l.reserve < 2 ^ 32) lots → AllByRecursion (λ (a : ℕ). a < 2 ^ 32) accounts → company < 2 ^ 64 →
    opening_in (opening_bytes lots accounts company ++ rest) ≡ open_sale lots accounts company
opening_back lots accounts company rest priced held small =
    let n = length lots in
    let m = length accounts in
    let ls = flat_map lot_bytes lots in
    let hs = flat_map u32_bytes accounts in
    let tail = u64_bytes company ++ rest in
    let bs = n ∷ (ls ++ (m ∷ (hs ++ tail))) in
    let pre = (n ∷ ls) ++ m ∷ [] in
    let five : length ls ≡ n * 5 = length_lots lots in
    let four : length hs ≡ m * 4 = length_accounts accounts in
    let parts : opening_bytes lots accounts company ++ rest ≡ bs = opening_parts lots accounts company rest in
    let size : length (opening_bytes lots accounts company) ≡ 2 + n * 5 + m * 4 + 8 = length_opening lots accounts company in
    let farms : farm_count bs ≡ m = farms_told n m ls (hs ++ tail) five in
    let long : 2 + n * 5 + m * 4 + 8 ≤ length bs =
    omega (arith, ap length parts, length-append (opening_bytes lots accounts company) rest, size) in
    let far : length pre ≡ 2 + n * 5 = omega (arith, length-append (n ∷ ls) (m ∷ []), five) in
    let owned : drop (2 + n * 5) bs ≡ hs ++ tail =
    ap (drop (2 + n * 5)) (sym (append_assoc (n ∷ ls) (m ∷ []) (hs ++ tail))) ∙ drop_at pre (hs ++ tail) (2 + n * 5) far in
    let purse : drop (2 + n * 5 + m * 4) bs ≡ tail = sym (drop-drop (m * 4) (2 + n * 5) bs) ∙ ap (drop (m * 4)) owned ∙ drop_at hs tail (m * 4) four in
    ap opening_in parts
    ∙ opened-by bs m lots accounts company farms long (lots_back bs (m ∷ (hs ++ tail)) 1 lots refl priced) (accounts_back bs tail (2 + n * 5) accounts owned held) (u64_back bs rest (2 + n * 5 + m * 4) company purse small)

-- messages one after the other, and nothing after them
pub messages_back : (ms : List (List ℕ)) → messages (flat_map framed ms) ≡ ms
unfolding frames
messages_back ms = ap messages (sym (append-nil (flat_map framed ms))) ∙ frames_back ms [] ∙ append-nil ms

pub file_back : FileBack
file_back lots accounts company ms priced held small = (
  opening_back lots accounts company (flat_map framed ms) priced held small,
  messages_behind lots accounts company (flat_map framed ms) ∙ messages_back ms,
)
