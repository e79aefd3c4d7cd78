-- A table that passes its own steps bounds every choice. Assumes nothing.
use Rattle.std.proofs.Common.{◌≡◌, ℕ, suc, ◌+◌, ◌≤◌, List, [], ◌∷◌, length, get_or, refl, ap, ◌∙◌, arith}
use Rattle.bundle.specs.Bids.{Bids}
use Rattle.bundle.specs.Units.{less, Within}
use Rattle.bundle.proofs.Bundles.{less_nil, less-plus, length-less, less-held, within_refl, within-plus_left, within-plus_right}
use Rattle.vcg.specs.Auction.{Auction, no_bid, chosen, taken, stated}
use Rattle.vcg.specs.Best.{worth_of}
use Rattle.vcg.specs.Certificates.{Bounds, TableProof}
use Rattle.vcg.proofs.Alternatives.{choice_cases}

abbrev auction : List ℕ → (List ℕ → ℕ) → List Bids → Auction
auction s keep bs = record { supply = s; keep = keep; bidders = bs }

bounds_tail : (s : List ℕ) (keep : List ℕ → ℕ) (b : Bids) (bs : List Bids) (F : ℕ → List ℕ → ℕ)
    → Bounds (auction s keep (b ∷ bs)) F → Bounds (auction s keep bs) (λ k. F (suc k))
bounds_tail s keep b bs F h = record {
  last = λ x l w. h.last x l w;
  skip = λ k x i l w.
      let e : suc k + 1 ≡ suc (k + 1) = omega arith in
      omega (arith, h.skip (suc k) x (omega arith) l w, ap (λ (n : ℕ). F n x) e);
  take = λ k j x i g l w f.
      let e : suc k + 1 ≡ suc (k + 1) = omega arith in
      let y : List ℕ = less x (get_or (get_or bs k []) j no_bid).want in
      omega (arith, h.take (suc k) j x (omega arith) g l w f, ap (λ (n : ℕ). F n y) e);
}

bounds_step : (s : List ℕ) (keep : List ℕ → ℕ) (b : Bids) (bs : List Bids) (F : ℕ → List ℕ → ℕ) (x : List ℕ) (c : ℕ)
    → Bounds (auction s keep (b ∷ bs)) F → length x ≡ length s → Within x s → Within (chosen b c).want x
    → (chosen b c).value + F 1 (less x (chosen b c).want) ≤ F 0 x
bounds_step s keep b bs F x c h l w =
    choice_cases (λ g. Within g.want x → g.value + F 1 (less x g.want) ≤ F 0 x) b
    (λ _. rw (less_nil x) (omega (arith, h.skip 0 x (omega arith) l w)))
    (λ j i. h.take 0 j x (omega arith) i l w)
    c

table_bound : (s : List ℕ) (keep : List ℕ → ℕ) (bs : List Bids) (F : ℕ → List ℕ → ℕ) (x cs : List ℕ)
    → Bounds (auction s keep bs) F → length x ≡ length s → Within x s → length cs ≡ length bs → Within (taken bs cs) x
    → stated bs cs + keep (less x (taken bs cs)) ≤ F 0 x
unfolding stated taken
table_bound s keep [] F x cs h l w m f = rw (less_nil x) (omega (arith, h.last x l w))
table_bound s keep (b ∷ bs) F x [] h l w m f = absurd (omega arith)
table_bound s keep (b ∷ bs) F x (c ∷ cs) h l w m f =
    let g : List ℕ = (chosen b c).want in
    let p : Within g x = within-plus_left g (taken bs cs) x f in
    let q : Within (taken bs cs) (less x g) = within-plus_right g (taken bs cs) x f in
    omega (
      arith,
      table_bound s keep bs (λ k. F (suc k)) (less x g) cs (bounds_tail s keep b bs F h) (length-less x g ∙ l) (less-held s x g w) (omega arith) q,
      bounds_step s keep b bs F x c h l w p,
      ap keep (less-plus x g (taken bs cs)),
    )

pub table_proof : TableProof
unfolding worth_of
table_proof a F cs h can e = record {
  can = can;
  most = λ ds f. omega (arith, table_bound a.supply a.keep a.bidders F a.supply ds h refl (within_refl a.supply) f.long f.fits);
}
