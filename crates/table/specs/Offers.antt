-- What a row needs to be filled. Assumes nothing: these are definitions.
use Rattle.std.specs.Prelude.{◌≡◌, ℕ, ◌+◌, ◌*◌, ◌^◌, ◌<◌, ◌≤◌, List, map, length, slice_index}
use Rattle.bundle.specs.Bundles.{units_of}
use Rattle.bundle.specs.Units.{place, bundles, bundle_at}
use Rattle.bundle.specs.declared.units.Bundle.{Bundle}
use Rattle.sheets.specs.declared.parts.Line.{Line}
use Rattle.vcg.specs.Auction.{Auction}

-- the place of what each line wants
abbrev pub places_of : List ℕ → List Line → List ℕ
places_of supply lines = map (λ (l : Line). place supply (units_of l.units)) lines

-- a row for each bidder and one for the seller
abbrev pub HasRoom : Auction → List ℕ → Type 0
HasRoom a t = (length a.bidders + 1) * bundles a.supply ≤ length t

-- a row of the table, with room above its entries for a worth
pub record Below (supply below : List ℕ) : Type 0 where
  pub long : bundles supply ≤ length below
  pub small : (p : ℕ) → p < bundles supply → slice_index below p ≤ 2 ^ 62

-- row k, with entries that are small
pub record SmallRow (supply : List ℕ) (k : ℕ) (t : List ℕ) : Type 0 where
  pub long : (k + 1) * bundles supply ≤ length t
  pub small : (p : ℕ) → p < bundles supply → slice_index t (k * bundles supply + p) ≤ 2 ^ 40

-- Asked holds of each bundle within the supply, with its place
abbrev pub AtEach : List ℕ → (Bundle → ℕ → Type 0) → Type 0
AtEach supply Asked = (x : Bundle) (p : ℕ) → p < bundles supply → units_of x ≡ bundle_at supply p → Asked x p

-- whatever is answered for such a bundle and its place is f of it
abbrev pub Computes : List ℕ → (Bundle → ℕ → ℕ → Type 0) → (List ℕ → ℕ) → Type 0
Computes supply Answered f =
    (x : Bundle) (p w : ℕ) → p < bundles supply → units_of x ≡ bundle_at supply p → Answered x p w → w ≡ f (bundle_at supply p)
