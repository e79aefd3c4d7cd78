-- The order of choices. Assumes nothing.
use Rattle.std.proofs.Common.{◌≡◌, ℕ, ◌<◌, ◌⊎◌, List, [], ◌∷◌, length, sym, refl, ◌∙◌, subst, inl, inr, arith}
use Rattle.std.proofs.lemmas.Bool.{cases_order}
use Rattle.vcg.specs.Best.{Sooner, here, later, First, OneChoice}

-- of two choices as long as each other one comes sooner, or they are the same
pub sooner_or : (cs ds : List ℕ) → length cs ≡ length ds → (cs ≡ ds) ⊎ ((Sooner cs ds) ⊎ (Sooner ds cs))
sooner_or [] [] l = inl refl
sooner_or [] (d ∷ ds) l = absurd (omega arith)
sooner_or (c ∷ cs) [] l = absurd (omega arith)
sooner_or (c ∷ cs) (d ∷ ds) l = go (cases_order c d) (sooner_or cs ds (omega arith))
  where
    go : (c ≡ d) ⊎ ((c < d) ⊎ (d < c)) → (cs ≡ ds) ⊎ ((Sooner cs ds) ⊎ (Sooner ds cs))
        → ((c ∷ cs) ≡ (d ∷ ds)) ⊎ ((Sooner (c ∷ cs) (d ∷ ds)) ⊎ (Sooner (d ∷ ds) (c ∷ cs)))
    go (inl e) (inl f) = inl (cc)
    go (inl e) (inr (inl s)) = inr (inl (subst (λ (n : ℕ). Sooner (c ∷ cs) (n ∷ ds)) e (later s)))
    go (inl e) (inr (inr s)) = inr (inr (subst (λ (n : ℕ). Sooner (n ∷ ds) (c ∷ cs)) e (later s)))
    go (inr (inl h)) t = inr (inl (here h))
    go (inr (inr h)) t = inr (inr (here h))

pub one_choice : OneChoice
unfolding First
one_choice a cs ds p q f g =
    elim (sooner_or cs ds (p.can.long ∙ sym q.can.long)) [
      | inl e ↦ e
      | inr (inl s) ↦ absurd (g cs p s)
      | inr (inr s) ↦ absurd (f ds q s)
    ]
