-- Sales at reserve prices: more units kept are worth no less, so the rule's theorems hold, and a charge covers the reserve. Assumes nothing.
use Rattle.std.proofs.Common.{◌≡◌, ℕ, ◌<◌, List, [], length, get_or, set, sym, refl, ap, ◌∙◌, arith}
use Rattle.std.proofs.lemmas.List.{set-get_or}
use Rattle.bundle.specs.Bids.{Bids}
use Rattle.bundle.specs.Reserves.{priced}
use Rattle.bundle.specs.Units.{less, plus, Within}
use Rattle.bundle.proofs.Bundles.{less_back}
use Rattle.bundle.proofs.Worths.{priced_grows, priced-plus}
use Rattle.table.specs.Tables.{at_reserve}
use Rattle.vcg.specs.Auction.{taken, with_bids}
use Rattle.vcg.specs.Charges.{gets, Grows}
use Rattle.vcg.specs.Optimum.{outcome_of}
use Rattle.vcg.proofs.Outcomes.{outcome_exactly}
use Rattle.vcg.proofs.Rule.{charge_at_least, taken_at, truthful}
use Rattle.award.specs.Promises.{SaleIsSettled, ChargeCoversReserve, TrueSheetIsBest}

pub reserve_grows : (supply prices : List ℕ) (sheets : List Bids) → Grows (at_reserve supply prices sheets)
unfolding Grows
reserve_grows supply prices sheets x y _ _ w _ = priced_grows prices x y w

pub sale_is_settled : SaleIsSettled
sale_is_settled supply prices sheets =
    let a = at_reserve supply prices sheets in
    (outcome_exactly a (outcome_of a) (reserve_grows supply prices sheets)).0 refl

pub charge_covers_reserve : ChargeCoversReserve
unfolding gets
charge_covers_reserve supply prices sheets o i h ruled short =
    let a = at_reserve supply prices sheets in
    let g : List ℕ = (gets a o i).want in
    let others : List ℕ = taken (set sheets i []) o.choice in
    let here : i < length o.choice = omega (arith, ruled.best.can.long) in
    let all : taken sheets o.choice ≡ plus g others =
    ap (λ (bs : List Bids). taken bs o.choice) (sym (set-get_or sheets i [])) ∙ taken_at sheets i (get_or sheets i []) o.choice h here in
    let fits : Within (plus g others) supply = rw (← all) ruled.best.can.fits in
    let back : plus g (less supply (plus g others)) ≡ less supply others = less_back supply g others short fits in
    omega (
      arith,
      charge_at_least a o i h ruled,
      ap (λ t. priced prices (less supply t)) all,
      ap (priced prices) back,
      priced-plus prices g (less supply (plus g others)),
    )

pub true_sheet_is_best : TrueSheetIsBest
unfolding with_bids
true_sheet_is_best supply prices sheets i honest other h =
    let a = at_reserve supply prices (set sheets i honest) in
    let b = at_reserve supply prices (set sheets i other) in
    truthful (at_reserve supply prices sheets) i honest other (outcome_of a) (outcome_of b) h (reserve_grows supply prices sheets)
    (sale_is_settled supply prices (set sheets i honest)).ruled (sale_is_settled supply prices (set sheets i other)).ruled
