-- What an `Ok` at the end of a chain of checks says of each check. Assumes nothing.
use Rattle.std.proofs.Common.{◌≡◌, Bool, true, false, cond, Some, None, Ok, Err, Option, Result, refl, ap}
use Rattle.bundle.specs.Checks.{and_then}

-- an `Ok` came from an `Ok`
pub then_back : {A B E : Type 0} (r : Result A E) (f : A → Result B E) (y : B) → and_then r f ≡ Ok y → (x : A) × (r ≡ Ok x) × (f x ≡ Ok y)
then_back (Ok x) f y e = (x, refl, e)
then_back (Err d) f y e = cc

pub then_ok : {A B E : Type 0} (r : Result A E) (f : A → Result B E) (x : A) → r ≡ Ok x → and_then r f ≡ f x
then_ok r f x h = ap (λ s. and_then s f) h

-- a check that would have refused did not
pub cond_past : {A E : Type 0} (b : Bool) (d : E) (r : Result A E) (y : A) → cond b (Err d) r ≡ Ok y → (b ≡ false) × (r ≡ Ok y)
cond_past true d r y e = cc
cond_past false d r y e = (refl, e)

-- a fault that would have been found was not
pub cond_none : {X : Type 0} (b : Bool) (x : X) (o : Option X) → cond b (Some x) o ≡ None → (b ≡ false) × (o ≡ None)
cond_none true x o e = cc
cond_none false x o e = (refl, e)
