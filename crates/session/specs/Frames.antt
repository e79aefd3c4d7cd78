-- Messages in a file: each after two bytes of length, low byte first. Assumes nothing: these are definitions and a statement.
use Rattle.std.specs.Prelude.{◌≡◌, ℕ, zero, suc, ◌+◌, ◌*◌, ◌/◌, ◌%◌, List, [], ◌∷◌, ◌++◌, length, take, drop}
use Rattle.std.specs.List.{flat_map}

-- at most n messages; one that the file cuts short has the bytes that are there, and none where its length is cut short
unfoldable pub frames : ℕ → List ℕ → List (List ℕ)
frames zero bs = []
frames (suc n) [] = []
frames (suc n) (a ∷ []) = [] ∷ []
frames (suc n) (a ∷ b ∷ bs) = take (a + b * 256) bs ∷ frames n (drop (a + b * 256) bs)

-- all of them: there are no more messages than bytes
abbrev pub messages : List ℕ → List (List ℕ)
messages bs = frames (length bs) bs

-- a message with its length
abbrev pub framed : List ℕ → List ℕ
framed m = (length m % 256) ∷ (length m / 256) ∷ m

-- what is written message by message is read message by message, whatever comes after it
abbrev pub FramesBack : Type 0
FramesBack =
    (ms : List (List ℕ)) (rest : List ℕ) →
    messages (flat_map framed ms ++ rest) ≡ ms ++ messages rest
