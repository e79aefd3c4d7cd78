-- An array made by a closure of the index that changes nothing. Assumes nothing.
use Rattle.std.proofs.Common.{◌≡◌, ℕ, zero, suc, ◌+◌, ◌<◌, ◌≤◌, List, get_or, ap, ◌∙◌, sym, subst, ⊎_elim, arith}
use Rattle.std.specs.Array.{IsFromFnResult, IsFromFnResultFrom}
use Rattle.std.specs.Fn.{Called, Mut}
use Rattle.std.proofs.lemmas.Bool.{cases_lt}

module _ {F : Type 0} (g : Mut F (ℕ × Unit {0}) ℕ) (v : ℕ → ℕ) (f : F) (ys : List ℕ) (pure : (i y : ℕ) (q : F) → Called g f (i, tt) y q → (q ≡ f) × (y ≡ v i)) where
  from_fn_from : (n i : ℕ) → IsFromFnResultFrom g f ys i n → (k : ℕ) → i ≤ k → k < i + n → get_or ys k 0 ≡ v k
  from_fn_from zero i m k l h = absurd (omega arith)
  from_fn_from (suc n) i (q, y, at, call, rest) k l h =
      ⊎_elim
      (λ p. from_fn_from n (i + 1) (subst (λ s. IsFromFnResultFrom g s ys (i + 1) n) (pure i y q call).0 rest) k (omega arith) (omega arith))
      (λ p. let here : k ≡ i = omega arith in ap (λ j. get_or ys j 0) here ∙ at.1 0 ∙ (pure i y q call).1 ∙ ap v (sym here))
      (cases_lt i k)

pub from_fn_gives : {F : Type 0} {g : Mut F (ℕ × Unit {0}) ℕ} {f : F} {ys : List ℕ} {n : ℕ} → IsFromFnResult g f ys n → (v : ℕ → ℕ) →
    ((i y : ℕ) (q : F) → Called g f (i, tt) y q → (q ≡ f) × (y ≡ v i)) → (k : ℕ) → k < n → get_or ys k 0 ≡ v k
from_fn_gives {g = g} {f = f} {ys = ys} {n = n} m v pure k h = from_fn_from g v f ys pure n 0 m.each k (omega arith) (omega arith)
