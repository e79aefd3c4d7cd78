-- The parts of an opening, one behind the other. Assumes nothing.
use Rattle.std.proofs.Common.{◌≡◌, ℕ, zero, suc, ◌+◌, ◌≤◌, List, ◌∷◌, get_or, take, drop, map, refl, ap, ◌∙◌, arith}
use Rattle.std.proofs.lemmas.List.{drop-drop, get_or-drop}
use Rattle.std.proofs.lemmas.Simd.{get_or-chunk}
use Rattle.std.specs.Simd.{first_chunks}
use Rattle.sheets.specs.Reading.{u32_at}
use Rattle.session.specs.Session.{lot_in, account_in, lots_at, accounts_at}

-- a number is the same in the bytes from p on
pub number_from : (bs : List ℕ) (p i q : ℕ) → p + i ≡ q → u32_at (drop p bs) i ≡ u32_at bs q
number_from bs p i q e = grind (arith, get_or-drop)

-- and in the first n of these
pub number_at : (bs : List ℕ) (p n i q : ℕ) → i + 4 ≤ n → p + i ≡ q → u32_at (take n (drop p bs)) i ≡ u32_at bs q
number_at bs p n i q h e = grind (arith, get_or-chunk)

pub lots_parts : (bs : List ℕ) (p n : ℕ) → map lot_in (first_chunks 5 n (drop p bs)) ≡ lots_at bs p n
unfolding lots_at
lots_parts bs p zero = refl
lots_parts bs p (suc n) =
    let units : get_or (take 5 (drop p bs)) 0 0 ≡ get_or bs p 0 = get_or-chunk p 5 bs 0 0 (omega arith) ∙ ap (λ q. get_or bs q 0) (omega arith) in
    let reserve = number_at bs p 5 1 (p + 1) (omega arith) refl in
    let rest = ap (λ l. map lot_in (first_chunks 5 n l)) (drop-drop 5 p bs) ∙ lots_parts bs (p + 5) n in
    λ i. record { units = units i; reserve = reserve i } ∷ rest i

pub accounts_parts : (bs : List ℕ) (p n : ℕ) → map account_in (first_chunks 4 n (drop p bs)) ≡ accounts_at bs p n
unfolding accounts_at
accounts_parts bs p zero = refl
accounts_parts bs p (suc n) =
    let rest = ap (λ l. map account_in (first_chunks 4 n l)) (drop-drop 4 p bs) ∙ accounts_parts bs (p + 4) n in
    λ i. number_at bs p 4 0 p (omega arith) (omega arith) i ∷ rest i

-- of the first m parts the first k are the first k
pub parts_front : (n k m : ℕ) (xs : List ℕ) → k ≤ m → take k (first_chunks n m xs) ≡ first_chunks n k xs
parts_front n zero m xs h = refl
parts_front n (suc k) zero xs h = absurd (omega arith)
parts_front n (suc k) (suc m) xs h = ap (λ l. take n xs ∷ l) (parts_front n k m (drop n xs) (omega arith))
