-- What begins some bytes, as a reader of frames learns it.
use Rattle.std.proofs.Common.{◌≡◌, ℕ, ◌<◌, ◌≤◌, ◌+◌, Bool, true, false, List, [], ◌∷◌, ◌++◌, length, drop, take, Option, Some, None, Result, Ok, Err, refl, sym, ap, ◌∙◌, arith, inl, inr, ◌⊎◌}
use Rattle.std.proofs.lemmas.Bool.{cases_lt}
use Rattle.std.proofs.lemmas.List.{length-append, take_at, take-append-drop, take-append-le, length-take-le, get_or_append_left}
use Rattle.vb_msg.specs.declared.frame_error.FrameError.{FrameError}
use Rattle.vb_msg.specs.declared.frame_error.FrameError.TheVariants.{BadFrame, Short}
use Rattle.vb_msg.specs.declared.message.Msg.{Msg}
use Rattle.vb_msg.specs.Frames.{body_length, body_of, frame, front_of, has_length, number_in, DecodesTo}
use Rattle.vb_msg.proofs.FrameFronts.{front-cut, front-four, front-kind, front-long, front-none, front-whole, whole-front}
use Rattle.vb_msg.proofs.BodyLengths.{body_length-take}
use Rattle.vb_msg.proofs.WholeFrames.{front-frame, length-frame}
use Rattle.vb_cloudlog.specs.Messages.{Whole, Partial, Wrong, message_in, opening_with, opening_by, opening_of}
use Rattle.vb_cloudlog.proofs.Found.{message_in-frame, message_in-is}

pub opening-by_front : (bytes : List ℕ) (front : Result ℕ FrameError) → front_of bytes ≡ front → opening_of bytes ≡ opening_by front bytes
unfolding opening_of
opening-by_front bytes front is = ap (λ (f : Result ℕ FrameError). opening_by f bytes) is

-- the frame of a message, with more behind it
pub opening-frame : (m : Msg) (more : List ℕ) → opening_of (frame m ++ more) ≡ Whole m
opening-frame m more =
    opening-by_front (frame m ++ more) (Ok (length (body_of m))) (front-frame m more)
    ∙ ap (λ (bs : List ℕ). opening_with (message_in bs)) (take_at (frame m) more (length (body_of m) + 37) (length-frame m))
    ∙ ap opening_with (message_in-frame m)

pub opening-nothing : opening_of [] ≡ Partial
unfolding opening_of
opening-nothing = refl

-- ---- fronts

length_there : (bytes more : List ℕ) → 4 ≤ length bytes → body_length (bytes ++ more) ≡ body_length bytes
length_there bytes more four =
    sym (body_length-take 4 (bytes ++ more) (omega arith)) ∙ ap body_length (take-append-le 4 bytes more four) ∙ body_length-take 4 bytes (omega arith)

number_there : (bytes more : List ℕ) → 5 ≤ length bytes → number_in (bytes ++ more) ≡ number_in bytes
number_there bytes more five = get_or_append_left bytes more 0 4 (omega arith)

-- a front is short, or wrong whatever follows, or whole
abbrev IsFront : List ℕ → Type 0
IsFront bytes =
    ((front_of bytes ≡ Err Short) × (length bytes < 4133))
    ⊎ (((front_of bytes ≡ Err BadFrame) × ((more : List ℕ) → front_of (bytes ++ more) ≡ Err BadFrame))
    ⊎ (((len : ℕ) × (front_of bytes ≡ Ok len) × ((more : List ℕ) → front_of (bytes ++ more) ≡ Ok len))))

longer : (bytes more : List ℕ) → length (bytes ++ more) ≡ length bytes + length more
longer bytes more = length-append bytes more

front-by_kind : (bytes : List ℕ) → 5 ≤ length bytes → body_length bytes ≤ 4096 → (kind : Bool) → has_length (number_in bytes) (body_length bytes) ≡ kind → IsFront bytes
front-by_kind bytes five fits false is =
    let again : (more : List ℕ) → front_of (bytes ++ more) ≡ Err BadFrame = λ more.
    let len = length_there bytes more (omega arith) in
    front-kind (bytes ++ more) (omega (arith, longer bytes more)) (omega arith)
    (ap (λ (n : ℕ). has_length n (body_length (bytes ++ more))) (number_there bytes more five) ∙ ap (has_length (number_in bytes)) len ∙ is) in
    inr (inl (front-kind bytes five fits is, again))
front-by_kind bytes five fits true is =
    elim (cases_lt (length bytes) (body_length bytes + 37)) [
      | inl cut ↦ inl (front-cut bytes five fits is cut, omega arith)
      | inr whole ↦
          let again : (more : List ℕ) → front_of (bytes ++ more) ≡ Ok (body_length bytes) = λ more.
          let len = length_there bytes more (omega arith) in
          front-whole (bytes ++ more) (omega arith)
          (ap (λ (n : ℕ). has_length n (body_length (bytes ++ more))) (number_there bytes more five) ∙ ap (has_length (number_in bytes)) len ∙ is)
          (omega (arith, len, longer bytes more)) ∙ ap (λ (n : ℕ). Ok n) len in
          inr (inr (body_length bytes, front-whole bytes fits is whole, again))
    ]

front-told : (bytes : List ℕ) → IsFront bytes
front-told bytes =
    elim (cases_lt (length bytes) 4) [
      | inl few ↦ inl (front-none bytes few, omega arith)
      | inr four ↦ elim (cases_lt 4096 (body_length bytes)) [
        | inl long ↦
            let again : (more : List ℕ) → front_of (bytes ++ more) ≡ Err BadFrame = λ more.
            front-long (bytes ++ more) (omega (arith, longer bytes more)) (omega (arith, length_there bytes more four)) in
            inr (inl (front-long bytes four long, again))
        | inr fits ↦ elim (cases_lt (length bytes) 5) [
          | inl few ↦ inl (front-four bytes four fits few, omega arith)
          | inr five ↦ front-by_kind bytes five fits (has_length (number_in bytes) (body_length bytes)) refl
        ]
      ]
    ]

-- ---- what an opening says

abbrev result_of : ℕ → Result ℕ FrameError
result_of n = Ok n

oks : (a b : ℕ) → result_of a ≡ result_of b → a ≡ b
oks a b e = cc

wholes : (a b : Msg) → Whole a ≡ Whole b → a ≡ b
wholes a b e = cc

-- less than a frame has fewer bytes than the longest one
pub partial-short : (bytes : List ℕ) → opening_of bytes ≡ Partial → length bytes < 4133
partial-short bytes is = by (front-told bytes)
  where
    no_message : (found : Option Msg) → opening_with found ≡ Partial → ⊥
    no_message None e = cc e
    no_message (Some m) e = cc e

    by : IsFront bytes → length bytes < 4133
    by (inl short) = short.1
    by (inr (inl bad)) = absurd (cc (sym (opening-by_front bytes (Err BadFrame) bad.0) ∙ is))
    by (inr (inr (len, front, again))) = absurd (no_message (message_in (take (len + 37) bytes)) (sym (opening-by_front bytes (Ok len) front) ∙ is))

-- bytes that begin with the frame of a message
pub whole-front_is : (bytes : List ℕ) (m : Msg) → opening_of bytes ≡ Whole m → bytes ≡ frame m ++ drop (length (frame m)) bytes
whole-front_is bytes m is = by (front-told bytes)
  where
    by_message : (len : ℕ) → len + 37 ≤ length bytes → (found : Option Msg) → message_in (take (len + 37) bytes) ≡ found → opening_with found ≡ Whole m → bytes ≡ frame m ++ drop (length (frame m)) bytes
    by_message len there None found e = absurd (cc e)
    by_message len there (Some other) found e =
        let is_frame : take (len + 37) bytes ≡ frame m = message_in-is (take (len + 37) bytes) other found ∙ ap frame (wholes other m e) in
        let long : length (frame m) ≡ len + 37 = sym (ap (λ (bs : List ℕ). length bs) is_frame) ∙ length-take-le (len + 37) bytes there in
        sym (take-append-drop (len + 37) bytes) ∙ ap (λ (bs : List ℕ). bs ++ drop (len + 37) bytes) is_frame ∙ ap (λ (n : ℕ). frame m ++ drop n bytes) (sym long)

    by : IsFront bytes → bytes ≡ frame m ++ drop (length (frame m)) bytes
    by (inl short) = absurd (cc (sym (opening-by_front bytes (Err Short) short.0) ∙ is))
    by (inr (inl bad)) = absurd (cc (sym (opening-by_front bytes (Err BadFrame) bad.0) ∙ is))
    by (inr (inr (len, front, again))) = by_message len (whole-front bytes len front).there (message_in (take (len + 37) bytes)) refl (sym (opening-by_front bytes (Ok len) front) ∙ is)

-- what is wrong stays so, whatever follows
pub wrong-stays : (bytes more : List ℕ) → opening_of bytes ≡ Wrong → opening_of (bytes ++ more) ≡ Wrong
wrong-stays bytes more is = by (front-told bytes)
  where
    by : IsFront bytes → opening_of (bytes ++ more) ≡ Wrong
    by (inl short) = absurd (cc (sym (opening-by_front bytes (Err Short) short.0) ∙ is))
    by (inr (inl bad)) = opening-by_front (bytes ++ more) (Err BadFrame) (bad.1 more)
    by (inr (inr (len, front, again))) =
        opening-by_front (bytes ++ more) (Ok len) (again more)
        ∙ ap (λ (bs : List ℕ). opening_with (message_in bs)) (take-append-le (len + 37) bytes more (whole-front bytes len front).there)
        ∙ sym (opening-by_front bytes (Ok len) front) ∙ is

-- what is wrong isn't empty
pub wrong-some : (bytes : List ℕ) → opening_of bytes ≡ Wrong → 1 ≤ length bytes
wrong-some [] is = absurd (cc (sym opening-nothing ∙ is))
wrong-some (b ∷ bs) is = omega arith

-- ---- what a reader of frames answers

pub decoded-short : (bytes : List ℕ) → DecodesTo bytes (Err Short) → opening_of bytes ≡ Partial
decoded-short bytes front = opening-by_front bytes (Err Short) front

pub decoded-bad : (bytes : List ℕ) → DecodesTo bytes (Err BadFrame) → opening_of bytes ≡ Wrong
decoded-bad bytes (inl front) = opening-by_front bytes (Err BadFrame) front
decoded-bad bytes (inr (len, front, none)) = opening-by_front bytes (Ok len) front ∙ by (message_in (take (len + 37) bytes)) refl
  where
    by : (found : Option Msg) → message_in (take (len + 37) bytes) ≡ found → opening_with found ≡ Wrong
    by None found = refl
    by (Some m) found = absurd (none m (message_in-is (take (len + 37) bytes) m found))

pub decoded-whole : (bytes : List ℕ) (m : Msg) (n : ℕ) → DecodesTo bytes (Ok (m, n)) → bytes ≡ frame m ++ drop n bytes
decoded-whole bytes m n decoded = sym (take-append-drop n bytes) ∙ ap (λ (bs : List ℕ). bs ++ drop n bytes) decoded.1
