-- What one step of a reader leaves.
use Rattle.std.proofs.Common.{◌≡◌, ℕ, zero, suc, ◌<◌, ◌≤◌, ◌+◌, ◌-◌, List, [], ◌∷◌, ◌++◌, length, drop, take, Option, Some, None, refl, sym, ap, ◌∙◌, arith, inl, inr, subst}
use Rattle.std.proofs.lemmas.Bool.{cases_lt}
use Rattle.std.proofs.lemmas.List.{length-append, length-take, take_at, take-append-drop, take-append-le}
use Rattle.vb_msg.specs.declared.message.Msg.{Msg}
use Rattle.vb_msg.specs.Frames.{frame}
use Rattle.vb_cloud.specs.Machine.{CloudState}
use Rattle.vb_cloudlog.specs.declared.stop.Stop.{Stop}
use Rattle.vb_cloudlog.specs.declared.play.Played.{Played}
use Rattle.vb_cloudlog.specs.declared.play.Played.TheVariants.{Taken, Kept, Stopped}
use Rattle.vb_cloudlog.specs.Messages.{Partial, opening_of}
use Rattle.vb_cloudlog.specs.Playing.{Plays}
use Rattle.vb_cloudlog.specs.Replays.{ReplayState, moved, all_taken, fed}
use Rattle.vb_cloudlog.proofs.Openings.{opening-frame, opening-nothing, partial-short}
use Rattle.vb_cloudlog.proofs.Feeding.{kept-there, taken-there}

-- the state of a reader by its parts
abbrev pub state : CloudState → ℕ → List ℕ → Option Stop → ReplayState
state k p rest stop = record { cloud = k; place = p; rest = rest; stop = stop }

-- a reader that goes on, seen by its parts
abbrev pub going : CloudState → ℕ → List ℕ → ReplayState
going k p rest = state k p rest None

stop-of : (R : ReplayState) (k : CloudState) (p : ℕ) (rest : List ℕ) (stop : Option Stop) → state k p rest stop ≡ R → R.stop ≡ None → stop ≡ None
stop-of R k p rest stop view goes = ap (λ (r : ReplayState). r.stop) view ∙ goes

is-going : (R : ReplayState) (k : CloudState) (p : ℕ) (rest : List ℕ) (stop : Option Stop) → state k p rest stop ≡ R → R.stop ≡ None → going k p rest ≡ R
is-going R k p rest stop view goes = ap (state k p rest) (sym (stop-of R k p rest stop view goes)) ∙ view

-- ---- lists

take-past : (xs ys : List ℕ) (n : ℕ) → take (length xs + n) (xs ++ ys) ≡ xs ++ take n ys
take-past [] ys n = let sum : 0 + n ≡ n = omega arith in ap (λ (n : ℕ). take n ys) sum
take-past (x ∷ xs) ys n =
    let sum : length (x ∷ xs) + n ≡ suc (length xs + n) = omega arith in
    ap (λ (n : ℕ). take n (x ∷ (xs ++ ys))) sum ∙ ap (λ (zs : List ℕ). x ∷ zs) (take-past xs ys n)

take-whole : (xs : List ℕ) → take (length xs) xs ≡ xs
take-whole [] = refl
take-whole (x ∷ xs) = ap (λ (zs : List ℕ). x ∷ zs) (take-whole xs)

take-less : (n m : ℕ) (xs : List ℕ) → n ≤ m → take n (take m xs) ≡ take n xs
take-less zero m xs few = refl
take-less (suc n) zero xs few = absurd (omega (arith, few))
take-less (suc n) (suc m) [] few = refl
take-less (suc n) (suc m) (x ∷ xs) few = ap (λ (zs : List ℕ). x ∷ zs) (take-less n m xs (omega (arith, few)))

-- what is kept is shorter than the frame that it begins
pub kept-fewer : (rest front : List ℕ) (m : Msg) (len : ℕ) → opening_of rest ≡ Partial → len ≡ length (frame m) → rest ++ front ≡ frame m ++ drop len (rest ++ front) → length rest < len
kept-fewer rest front m len partial long whole = elim (cases_lt (length rest) len) [
  | inl fewer ↦ fewer
  | inr more ↦
      let front_is : take len rest ≡ frame m =
      sym (take-append-le len rest front more) ∙ ap (take len) whole ∙ take_at (frame m) (drop len (rest ++ front)) len (sym long) in
      let rest_is : rest ≡ frame m ++ drop len rest = sym (take-append-drop len rest) ∙ ap (λ (xs : List ℕ). xs ++ drop len rest) front_is in
      absurd (cc (sym partial ∙ ap opening_of rest_is ∙ opening-frame m (drop len rest)))
]

-- ---- steps

-- a frame was taken, which began with what is kept
pub took : (R : ReplayState) (k after : CloudState) (p p' : ℕ) (rest : List ℕ) (stop : Option Stop) (front piece : List ℕ) (more len : ℕ)
    → state k p rest stop ≡ R → R.stop ≡ None → opening_of rest ≡ Partial → front ≡ take more piece → Plays k p (rest ++ front) after (Taken len) → p' ≡ moved p len
    → state after p' [] stop ≡ fed R (take (len - length rest) piece)
took R k after p p' rest stop front piece more len view goes partial is (m, long, within, whole, step) place =
    let had = kept-fewer rest front m len partial long whole in
    let count : length rest + (len - length rest) ≡ len = omega (arith, had) in
    let few : len - length rest ≤ more = omega (arith, within, length-append rest front, ap (λ (xs : List ℕ). length xs) is, length-take more piece) in
    let frame_is : rest ++ take (len - length rest) piece ≡ frame m =
    ap (λ (xs : List ℕ). rest ++ xs) (sym (take-less (len - length rest) more piece few) ∙ ap (take (len - length rest)) (sym is))
    ∙ sym (take-past rest front (len - length rest)) ∙ ap (λ (n : ℕ). take n (rest ++ front)) count
    ∙ ap (take len) whole ∙ take_at (frame m) (drop len (rest ++ front)) len (sym long) in
    (λ i. state after ((place ∙ ap (moved p) long) i) [] (stop-of R k p rest stop view goes i))
    ∙ sym (taken-there k p (rest ++ take (len - length rest) piece) m after frame_is step)
    ∙ ap (λ (r : ReplayState). fed r (take (len - length rest) piece)) (is-going R k p rest stop view goes)

-- less than a frame is there, and is kept
pub kept : (R : ReplayState) (k after : CloudState) (p : ℕ) (rest : List ℕ) (stop : Option Stop) (front all piece : List ℕ) (more : ℕ)
    → state k p rest stop ≡ R → R.stop ≡ None → front ≡ take more piece → all ≡ rest ++ front → Plays k p (rest ++ front) after Kept
    → state after p all stop ≡ fed R (take more piece)
kept R k after p rest stop front all piece more view goes is whole (partial, same) =
    (λ i. state (same i) p (whole i) (stop-of R k p rest stop view goes i))
    ∙ sym (kept-there k p (rest ++ front) partial)
    ∙ ap (λ (xs : List ℕ). all_taken k p (rest ++ xs)) is
    ∙ ap (λ (r : ReplayState). fed r (take more piece)) (is-going R k p rest stop view goes)

-- the reader stops
pub stopped : (R : ReplayState) (k after : CloudState) (p : ℕ) (rest : List ℕ) (stop : Option Stop) (front piece : List ℕ) (more : ℕ) (at : Stop)
    → state k p rest stop ≡ R → R.stop ≡ None → front ≡ take more piece → Plays k p (rest ++ front) after (Stopped at)
    → state after p [] (Some at) ≡ fed R (take more piece)
stopped R k after p rest stop front piece more at view goes is (stops, same) =
    (λ i. state (same i) p [] (Some at))
    ∙ sym stops
    ∙ ap (λ (xs : List ℕ). all_taken k p (rest ++ xs)) is
    ∙ ap (λ (r : ReplayState). fed r (take more piece)) (is-going R k p rest stop view goes)

-- what is kept and more are less than a frame
pub kept-partial : (k after : CloudState) (p : ℕ) (all bytes : List ℕ) → all ≡ bytes → Plays k p bytes after Kept → opening_of all ≡ Partial
kept-partial k after p all bytes whole (partial, same) = ap opening_of whole ∙ partial

-- how many bytes are taken of a piece
pub took-within : (k after : CloudState) (p : ℕ) (rest front piece : List ℕ) (more len : ℕ) → opening_of rest ≡ Partial → front ≡ take more piece
    → Plays k p (rest ++ front) after (Taken len) → (length rest ≤ len) × (0 < len - length rest) × (len - length rest ≤ length piece)
took-within k after p rest front piece more len partial is (m, long, within, whole, step) =
    let had = kept-fewer rest front m len partial long whole in
    (omega (arith, had), omega (arith, had), omega (arith, within, length-append rest front, ap (λ (xs : List ℕ). length xs) is, length-take more piece))

-- where less than a frame is kept, some of a piece is taken
pub some-more : (rest : List ℕ) → opening_of rest ≡ Partial → length rest < 4133
some-more rest partial = partial-short rest partial

-- ---- the same, as the steps have it

pub began-took : (R : ReplayState) (k after : CloudState) (p p' : ℕ) (rest : List ℕ) (stop : Option Stop) (piece : List ℕ) (len : ℕ)
    → state k p rest stop ≡ R → R.stop ≡ None → R.rest ≡ [] → Plays k p piece after (Taken len) → p' ≡ moved p len
    → state after p' rest stop ≡ fed R (take len piece)
began-took R k after p p' rest stop piece len view goes empty plays place =
    let none : rest ≡ [] = ap (λ (r : ReplayState). r.rest) view ∙ empty in
    let view' : state k p [] stop ≡ R = ap (λ (xs : List ℕ). state k p xs stop) (sym none) ∙ view in
    let count : len - 0 ≡ len = omega arith in
    ap (λ (xs : List ℕ). state after p' xs stop) none
    ∙ took R k after p p' [] stop piece piece (length piece) len view' goes opening-nothing (sym (take-whole piece)) plays place
    ∙ ap (λ (n : ℕ). fed R (take n piece)) count

pub began-kept : (R : ReplayState) (k after : CloudState) (p : ℕ) (rest : List ℕ) (stop : Option Stop) (all piece : List ℕ)
    → state k p rest stop ≡ R → R.stop ≡ None → R.rest ≡ [] → all ≡ rest ++ piece → Plays k p piece after Kept
    → state after p all stop ≡ fed R (take (length piece) piece)
began-kept R k after p rest stop all piece view goes empty whole plays =
    let none : rest ≡ [] = ap (λ (r : ReplayState). r.rest) view ∙ empty in
    let view' : state k p [] stop ≡ R = ap (λ (xs : List ℕ). state k p xs stop) (sym none) ∙ view in
    kept R k after p [] stop piece all piece (length piece) view' goes (sym (take-whole piece)) (whole ∙ ap (λ (xs : List ℕ). xs ++ piece) none) plays

-- what is played is what was kept and a front of the piece
pub played-on : (k after : CloudState) (p : ℕ) (bytes all rest front : List ℕ) (played : Played) → bytes ≡ all → all ≡ rest ++ front
    → Plays k p bytes after played → Plays k p (rest ++ front) after played
played-on k after p bytes all rest front played same whole plays = subst (λ (xs : List ℕ). Plays k p xs after played) (same ∙ whole) plays

pub went-took : (R : ReplayState) (k after : CloudState) (p p' : ℕ) (rest rest' : List ℕ) (stop : Option Stop) (front piece : List ℕ) (more len had : ℕ)
    → state k p rest stop ≡ R → R.stop ≡ None → opening_of rest ≡ Partial → front ≡ take more piece → Plays k p (rest ++ front) after (Taken len)
    → p' ≡ moved p len → had ≡ length rest → rest' ≡ []
    → state after p' rest' stop ≡ fed R (take (len - had) piece)
went-took R k after p p' rest rest' stop front piece more len had view goes partial is plays place count none =
    ap (λ (xs : List ℕ). state after p' xs stop) none
    ∙ took R k after p p' rest stop front piece more len view goes partial is plays place
    ∙ ap (λ (n : ℕ). fed R (take (len - n) piece)) (sym count)

pub ruleset steps = (opening-nothing, some-more)
