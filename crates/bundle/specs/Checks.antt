-- Checks one after the other. Assumes nothing: these are definitions.
use Rattle.std.specs.Prelude.{Ok, Err, Result}

-- the first refusal, or what comes after
abbrev pub and_then : {A B E : Type 0} → Result A E → (A → Result B E) → Result B E
and_then (Ok x) f = f x
and_then (Err e) f = Err e

-- an answer, by what its value stands for
abbrev pub viewed : {A B E : Type 0} → (A → B) → Result A E → Result B E
viewed f (Ok x) = Ok (f x)
viewed f (Err e) = Err e
