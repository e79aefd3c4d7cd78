-- How a file falls into messages, message by message. Assumes nothing.
use Rattle.std.proofs.Common.{◌≡◌, ℕ, zero, suc, ◌+◌, ◌*◌, ◌/◌, ◌%◌, ◌<◌, ◌≤◌, min, List, [], ◌∷◌, ◌++◌, length, get_or, take, drop, sym, refl, ap, ◌∙◌, arith}
use Rattle.std.proofs.lemmas.List.{append_assoc, length-drop, take_at, drop_at, take_min, drop_min}
use Rattle.std.specs.List.{flat_map}
use Rattle.session.specs.Frames.{frames, messages, framed, FramesBack}

-- how many messages are asked for does not matter, if there are no more bytes
pub frames_enough : (n k : ℕ) (bs : List ℕ) → length bs ≤ n → length bs ≤ k → frames n bs ≡ frames k bs
unfolding frames
frames_enough zero zero bs h g = refl
frames_enough zero (suc k) [] h g = refl
frames_enough zero (suc k) (a ∷ bs) h g = absurd (omega arith)
frames_enough (suc n) zero [] h g = refl
frames_enough (suc n) zero (a ∷ bs) h g = absurd (omega arith)
frames_enough (suc n) (suc k) [] h g = refl
frames_enough (suc n) (suc k) (a ∷ []) h g = refl
frames_enough (suc n) (suc k) (a ∷ b ∷ bs) h g =
    let left = length-drop (a + b * 256) bs in
    ap (λ l. take (a + b * 256) bs ∷ l) (frames_enough n k (drop (a + b * 256) bs) (omega arith) (omega arith))

-- the first message, and the others
pub messages_more : (a b : ℕ) (bs : List ℕ) → messages (a ∷ b ∷ bs) ≡ take (a + b * 256) bs ∷ messages (drop (a + b * 256) bs)
unfolding frames
messages_more a b bs =
    let left = length-drop (a + b * 256) bs in
    ap (λ l. take (a + b * 256) bs ∷ l) (frames_enough (suc (length bs)) (length (drop (a + b * 256) bs)) (drop (a + b * 256) bs) (omega arith) (omega arith))

-- where the two bytes say the length of m, the first message is m
messages-framed : (m rest : List ℕ) (a b : ℕ) → a + b * 256 ≡ length m → messages (a ∷ b ∷ m ++ rest) ≡ m ∷ messages rest
messages-framed m rest a b e =
    messages_more a b (m ++ rest) ∙ rw (take_at m rest (a + b * 256) (sym e), drop_at m rest (a + b * 256) (sym e))

pub frames_back : FramesBack
unfolding frames
frames_back [] rest = refl
frames_back (m ∷ ms) rest =
    ap (λ l. messages ((length m % 256) ∷ (length m / 256) ∷ l)) (append_assoc m (flat_map framed ms) rest)
    ∙ messages-framed m (flat_map framed ms ++ rest) (length m % 256) (length m / 256) (omega arith)
    ∙ ap (λ l. m ∷ l) (frames_back ms rest)

-- no message where no byte is left
pub messages_none : (bs : List ℕ) → length bs < 1 → messages bs ≡ []
unfolding frames
messages_none [] h = refl
messages_none (a ∷ bs) h = absurd (omega arith)

-- an empty one where one byte is left
pub messages_cut : (bs : List ℕ) → 1 ≤ length bs → length bs < 2 → messages bs ≡ [] ∷ messages []
unfolding frames
messages_cut [] h g = absurd (omega arith)
messages_cut (a ∷ []) h g = refl
messages_cut (a ∷ b ∷ bs) h g = absurd (omega arith)

-- and else one with its length, or with as many bytes as there are
pub messages_next : (bs rest : List ℕ) (n : ℕ) → 2 ≤ length bs → rest ≡ drop 2 bs → n ≡ min (get_or bs 0 0 + get_or bs 1 0 * 256) (length rest) →
    messages bs ≡ take n rest ∷ messages (drop n rest)
messages_next [] rest n h r e = absurd (omega arith)
messages_next (a ∷ []) rest n h r e = absurd (omega arith)
messages_next (a ∷ b ∷ bs) rest n h r e =
    messages_more a b bs ∙ rw (e, r, take_min (a + b * 256) bs, drop_min (a + b * 256) bs) refl

-- there are no more messages than bytes
length-frames : (n : ℕ) (bs : List ℕ) → length (frames n bs) ≤ n
unfolding frames
length-frames zero bs = omega arith
length-frames (suc n) [] = omega arith
length-frames (suc n) (a ∷ []) = omega arith
length-frames (suc n) (a ∷ b ∷ bs) = omega (arith, length-frames n (drop (a + b * 256) bs))

pub length-messages : (bs : List ℕ) → length (messages bs) ≤ length bs
length-messages bs = length-frames (length bs) bs
