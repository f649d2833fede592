-- Laws of frames, and of bytes that hold several.
use Rattle.std.proofs.Common.{◌≡◌, ◌≢◌, ℕ, zero, suc, ◌<◌, ◌≤◌, ◌^◌, ◌+◌, Bool, true, false, List, [], ◌∷◌, ◌++◌, length, take, drop, get_or, Result, Ok, Err, refl, sym, ap, ◌∙◌, arith, append_assoc, append-nil, inl, inr}
use Rattle.std.proofs.lemmas.Bool.{cases_lt}
use Rattle.std.proofs.lemmas.List.{length-append, length-take, take-append-le, get_or-take, take_at, take-append-drop}
use Rattle.vb_msg.specs.declared.frame_error.FrameError.{FrameError}
use Rattle.vb_msg.specs.declared.frame_error.FrameError.TheVariants.{Short}
use Rattle.vb_msg.specs.declared.message.Msg.{Msg}
use Rattle.vb_block.specs.Numbers.{four_bytes}
use Rattle.vb_msg.specs.Frames.{body_length, body_of, covered, frame, frames_of, front_of, has_length, number_in, number_of, AreFrames}
use Rattle.vb_msg.proofs.FrameFronts.{front-cut, front-four, front-none}
use Rattle.vb_msg.proofs.BodyLengths.{body_length-take}
use Rattle.vb_msg.proofs.WholeFrames.{body-few, body_length-frame, frames_same, has_length-body, length-frame, number_in-frame}

-- ---- fronts of a frame

append-none : (m : Msg) → frame m ++ [] ≡ frame m
append-none m = simp append-nil

-- what stands in the first four and in the fifth byte of a front of a frame
front-length : (m : Msg) (n : ℕ) → 4 ≤ n → n < length (frame m) → body_length (take n (frame m)) ≡ length (body_of m)
front-length m n four less = body_length-take n (frame m) four ∙ ap body_length (sym (append-none m)) ∙ body_length-frame m []

front-number : (m : Msg) (n : ℕ) → 5 ≤ n → number_in (take n (frame m)) ≡ number_of m
front-number m n five = get_or-take n (frame m) 4 0 (omega arith) ∙ ap number_in (sym (append-none m)) ∙ number_in-frame m []

long-take : (m : Msg) (n : ℕ) → n < length (frame m) → length (take n (frame m)) ≡ n
long-take m n less = omega (arith, length-take n (frame m), less)

pub fronts-short : (m : Msg) (n : ℕ) → n < length (frame m) → front_of (take n (frame m)) ≡ Err Short
fronts-short m n less =
    let long = long-take m n less in
    let few = body-few m in
    elim (cases_lt n 4) [
      | inl lt ↦ front-none (take n (frame m)) (omega arith)
      | inr four ↦ elim (cases_lt n 5) [
        | inl lt ↦ front-four (take n (frame m)) (omega arith) (omega (arith, front-length m n four less)) (omega arith)
        | inr five ↦
            let len = front-length m n (omega arith) less in
            front-cut (take n (frame m)) (omega arith) (omega arith)
            (ap (λ (k : ℕ). has_length k (body_length (take n (frame m)))) (front-number m n five) ∙ ap (has_length (number_of m)) len ∙ has_length-body m)
            (omega (arith, len, long, less, length-frame m))
      ]
    ]

-- ---- several frames

frames-more : (before : List Msg) (bytes : List ℕ) (messages : List Msg) (rest : List ℕ) → bytes ≡ frames_of messages ++ rest → frames_of before ++ bytes ≡ frames_of (before ++ messages) ++ rest
frames-more [] bytes messages rest is = is
frames-more (m ∷ before) bytes messages rest is =
    append_assoc (frame m) (frames_of before) bytes ∙ ap (λ (t : List ℕ). frame m ++ t) (frames-more before bytes messages rest is)
    ∙ sym (append_assoc (frame m) (frames_of (before ++ messages)) rest)

pub frames-follow : (bytes rest : List ℕ) (before messages : List Msg) → AreFrames bytes messages rest → AreFrames (frames_of before ++ bytes) (before ++ messages) rest
frames-follow bytes rest before messages are = record { whole = frames-more before bytes messages rest are.whole; no_more = are.no_more }

one_list : (messages others : List Msg) (rest other : List ℕ) → frames_of messages ++ rest ≡ frames_of others ++ other → ((m : Msg) (more : List ℕ) → rest ≢ frame m ++ more) → ((m : Msg) (more : List ℕ) → other ≢ frame m ++ more) → (messages ≡ others) × (rest ≡ other)
one_list [] [] rest other e none_a none_b = (refl, e)
one_list [] (b ∷ others) rest other e none_a none_b = absurd (none_a b (frames_of others ++ other) (e ∙ append_assoc (frame b) (frames_of others) other))
one_list (a ∷ messages) [] rest other e none_a none_b = absurd (none_b a (frames_of messages ++ rest) (sym e ∙ append_assoc (frame a) (frames_of messages) rest))
one_list (a ∷ messages) (b ∷ others) rest other e none_a none_b =
    let first = frames_same a b (frames_of messages ++ rest) (frames_of others ++ other) (sym (append_assoc (frame a) (frames_of messages) rest) ∙ e ∙ append_assoc (frame b) (frames_of others) other) in
    let later = one_list messages others rest other first.1 none_a none_b in
    (ap (λ (x : Msg). x ∷ messages) first.0 ∙ ap (λ (t : List Msg). b ∷ t) later.0, later.1)

pub frames-once : (bytes rest other : List ℕ) (messages others : List Msg) → AreFrames bytes messages rest → AreFrames bytes others other → (messages ≡ others) × (rest ≡ other)
frames-once bytes rest other messages others a b = one_list messages others rest other (sym a.whole ∙ b.whole) a.no_more b.no_more

pub ruleset frame_laws = (frames_same, fronts-short, frames-once, frames-follow)
