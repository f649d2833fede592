-- What the parts of some bytes say of the message whose frame begins them.
use Rattle.std.proofs.Common.{◌≡◌, ◌≢◌, ℕ, ◌<◌, ◌≤◌, ◌^◌, ◌+◌, Bool, true, false, not, List, [], ◌∷◌, ◌++◌, length, drop, take, get_or, Result, Ok, Err, refl, sym, ap, ◌∙◌, arith, append_assoc, append-nil, subst, inl, inr}
use Rattle.std.proofs.lemmas.List.{drop_at, length-append, length-drop, length-take, take_at, take-append-drop}
use Rattle.std.specs.Str.{bytes_eq}
use Rattle.std.proofs.lemmas.Slice.Eq.{bytes_eq-Decides}
use Rattle.sha2.specs.Sha256.{sha256}
use Rattle.sha2.proofs.Facts256.{length-sha256}
use Rattle.vb_msg.specs.declared.frame_error.FrameError.{FrameError}
use Rattle.vb_msg.specs.declared.frame_error.FrameError.TheVariants.{BadFrame, Short, Memory}
use Rattle.vb_msg.specs.declared.message.Msg.{Msg}
use Rattle.vb_msg.specs.Bodies.{Understands}
use Rattle.vb_block.specs.Numbers.{four_bytes}
use Rattle.vb_msg.specs.Frames.{body_length, body_of, covered, frame, front_of, has_length, number_in, number_of, DecodesTo, IsUnlessMemory}
use Rattle.vb_msg.proofs.FrameFronts.{IsWholeFront, whole-front}
use Rattle.vb_block.proofs.Numbers.{fronts_same, length-four_bytes, parts_whole}
use Rattle.vb_msg.proofs.BodyLengths.{body_length-again}
use Rattle.vb_msg.proofs.WholeFrames.{front-frame, frames_same, length-covered, length-frame}

-- some bytes in their parts: what a digest covers, the digest that is kept, and what follows
pub record IsSplit (bytes cover body kept after : List ℕ) (n number len : ℕ) : Type 0 where
  pub front : front_of bytes ≡ Ok len
  pub whole : bytes ≡ cover ++ (kept ++ after)
  pub parts : cover ≡ four_bytes n ++ number ∷ body
  pub fits : n < 2 ^ 32
  pub long : length cover ≡ len + 5
  pub digest_long : length kept ≡ 32

-- how the parts are found
pub split-made : (bytes cover rest kept after tail body : List ℕ) (n number len : ℕ) → front_of bytes ≡ Ok len → cover ≡ take (len + 5) bytes → rest ≡ drop (len + 5) bytes → kept ≡ take 32 rest → after ≡ drop 32 rest → cover ≡ four_bytes n ++ tail → tail ≡ number ∷ body → n < 2 ^ 32 → IsSplit bytes cover body kept after n number len
split-made bytes cover rest kept after tail body n number len front c r k a parts t fits =
    let there = (whole-front bytes len front).there in
    let rest_long : 32 ≤ length rest = omega (arith, ap (λ (x : List ℕ). length x) r, length-drop (len + 5) bytes) in
    record {
      front = front;
      whole = parts_whole (len + 5) bytes cover rest c r ∙ ap (λ (x : List ℕ). cover ++ x) (parts_whole 32 rest kept after k a);
      parts = parts ∙ ap (λ (x : List ℕ). four_bytes n ++ x) t;
      fits = fits;
      long = omega (arith, ap (λ (x : List ℕ). length x) c, length-take (len + 5) bytes);
      digest_long = omega (arith, ap (λ (x : List ℕ). length x) k, length-take 32 rest);
    }

-- the number stands behind the four bytes of the length
number-again : (n number : ℕ) (xs : List ℕ) → get_or (four_bytes n ++ number ∷ xs) 4 0 ≡ number
unfolding four_bytes
number-again n number xs = refl

module _ (bytes cover body kept after : List ℕ) (n number len : ℕ) (split : IsSplit bytes cover body kept after n number len) where
  -- the bytes, the length of the body first
  from_left : bytes ≡ four_bytes n ++ (number ∷ (body ++ (kept ++ after)))
  from_left = split.whole ∙ ap (λ (t : List ℕ). t ++ (kept ++ after)) split.parts ∙ append_assoc (four_bytes n) (number ∷ body) (kept ++ after)

  pub split-length : length body ≡ len
  split-length = omega (arith, split.long, ap (λ (t : List ℕ). length t) split.parts, length-append (four_bytes n) (number ∷ body), length-four_bytes n)

  n-is : n ≡ len
  n-is = sym (ap body_length from_left ∙ body_length-again n _ split.fits) ∙ (whole-front bytes len split.front).length_is

  pub split-kind : has_length number (length body) ≡ true
  split-kind =
      let number_is = ap (λ (t : List ℕ). get_or t 4 0) from_left ∙ number-again n number _ in
      ap (has_length number) split-length ∙ ap (λ (k : ℕ). has_length k len) (sym number_is) ∙ (whole-front bytes len split.front).kind

  pub cover-is : cover ≡ covered number body
  cover-is = split.parts ∙ ap (λ (k : ℕ). four_bytes k ++ number ∷ body) (n-is ∙ sym split-length)

  front-is : take (len + 37) bytes ≡ cover ++ kept
  front-is =
      ap (take (len + 37)) (split.whole ∙ sym (append_assoc cover kept after))
      ∙ take_at (cover ++ kept) after (len + 37) (omega (arith, length-append cover kept, split.long, split.digest_long))

  pub split-found : (m : Msg) → kept ≡ sha256 cover → number_of m ≡ number → body_of m ≡ body → (len + 37 ≡ length (frame m)) × (take (len + 37) bytes ≡ frame m)
  split-found m sealed number_is body_is =
      let cover_m : covered (number_of m) (body_of m) ≡ cover = ap (λ (k : ℕ). covered k (body_of m)) number_is ∙ ap (covered number) body_is ∙ sym cover-is in
      let long : length (body_of m) ≡ len = ap (λ (t : List ℕ). length t) body_is ∙ split-length in (
        omega (arith, length-frame m, long),
        front-is ∙ ap (λ (t : List ℕ). cover ++ t) sealed ∙ ap (λ (t : List ℕ). t ++ sha256 t) (sym cover_m),
      )

  pub split-frame : (m : Msg) → take (len + 37) bytes ≡ frame m → (number_of m ≡ number) × (body_of m ≡ body) × (kept ≡ sha256 cover)
  split-frame m is =
      let both : cover ++ kept ≡ frame m = sym front-is ∙ is in
      let cm = covered (number_of m) (body_of m) in
      let long : length cover ≡ length cm = omega (arith, split.long, split.digest_long, length-append cover kept, ap (λ (t : List ℕ). length t) both, length-frame m, length-covered (number_of m) (body_of m)) in
      let fronts = fronts_same cover cm kept (sha256 cm) long both in
      let inner = fronts_same (four_bytes n) (four_bytes (length (body_of m))) (number ∷ body) (number_of m ∷ body_of m) (length-four_bytes n ∙ sym (length-four_bytes (length (body_of m)))) (sym split.parts ∙ fronts.0) in
      (ap (λ (t : List ℕ). get_or t 0 0) (sym inner.1), ap (drop 1) (sym inner.1), fronts.1 ∙ ap sha256 (sym fronts.0))

  pub split-digest : (kept ≡ sha256 cover → ⊥) → (m : Msg) → take (len + 37) bytes ≢ frame m
  split-digest other m is = other (split-frame m is).2

  pub split-err : (error : FrameError) → Understands number body (Err error) → DecodesTo bytes (Err error)
  split-err BadFrame none = inr (len, split.front, λ m is. none m (split-frame m is).0 (split-frame m is).1)
  split-err Short none = absurd none
  split-err Memory free = tt

-- the digest that was computed tells whether the kept one is due
pub other_digest : (kept digest cover : List ℕ) (differs : Bool) → differs ≡ not (bytes_eq kept digest) → differs ≡ true → digest ≡ sha256 cover → kept ≡ sha256 cover → ⊥
other_digest kept digest cover differs is told made due =
    let same = (bytes_eq-Decides kept digest).1 (due ∙ sym made) in
    absurd (cc (sym told ∙ is ∙ ap not same))

pub same_digest : (kept digest cover : List ℕ) (differs : Bool) → differs ≡ not (bytes_eq kept digest) → differs ≡ false → digest ≡ sha256 cover → kept ≡ sha256 cover
same_digest kept digest cover differs is none made =
    (bytes_eq-Decides kept digest).0 (not_false (bytes_eq kept digest) (sym is ∙ none)) ∙ made
  where
    not_false : (b : Bool) → not b ≡ false → b ≡ true
    not_false true e = refl
    not_false false e = absurd cc

-- a frame at the front is read
pub accepted-by : (bytes : List ℕ) (result : Result (Msg × ℕ) FrameError) → DecodesTo bytes result → (m : Msg) (more : List ℕ) → bytes ≡ frame m ++ more → IsUnlessMemory (Ok (m, length (frame m))) result
accepted-by bytes (Ok found) decoded m more is =
    let both = frames_same m found.0 more (drop found.1 bytes) (sym is ∙ sym (take-append-drop found.1 bytes) ∙ ap (λ (t : List ℕ). t ++ drop found.1 bytes) decoded.1) in
    ap (λ (p : Msg × ℕ). Ok p) (pairs m found.0 (length (frame m)) found.1 both.0 (ap (λ (x : Msg). length (frame x)) both.0 ∙ sym decoded.0))
  where
    pairs : (a b : Msg) (k l : ℕ) → a ≡ b → k ≡ l → ◌≡◌ {A = Msg × ℕ} (a, k) (b, l)
    pairs a b k l p q i = (p i, q i)
accepted-by bytes (Err BadFrame) (inl front) m more is = absurd (cc (sym front ∙ ap front_of is ∙ front-frame m more))
accepted-by bytes (Err BadFrame) (inr (len, front, none)) m more is =
    let lens : len ≡ length (body_of m) = oks len (length (body_of m)) (sym front ∙ ap front_of is ∙ front-frame m more) in
    absurd (none m (ap (take (len + 37)) is ∙ take_at (frame m) more (len + 37) (omega (arith, lens, length-frame m))))
  where
    oks : (a b : ℕ) → ◌≡◌ {A = Result ℕ FrameError} (Ok a) (Ok b) → a ≡ b
    oks a b e = cc
accepted-by bytes (Err Short) front m more is = absurd (cc (sym front ∙ ap front_of is ∙ front-frame m more))
accepted-by bytes (Err Memory) free m more is = tt
