-- How what was written grows.
use Rattle.std.proofs.Common.{◌≡◌, ℕ, List, ◌++◌, take, drop, Option, Some, Err, sym, ap, ◌∙◌, append_assoc}
use Rattle.std.proofs.lemmas.List.{take-append-drop}
use Rattle.vb_stream.specs.declared.sink.SinkError.{SinkError}
use Rattle.vb_stream.specs.declared.sink.SinkError.TheVariants.{Failed, Memory}
use Rattle.vb_stream.specs.Streams.{TakesPiece, WritesFront}

-- a front was written, and this is left
abbrev pub HasWritten : List ℕ → List ℕ → Option (List ℕ) → List ℕ → Type 0
HasWritten before text written rest = (front : List ℕ) × (text ≡ front ++ rest) × (written ≡ Some (before ++ front))

-- so a front was written
pub front-written : (before text rest : List ℕ) (written : Option (List ℕ)) → HasWritten before text written rest → WritesFront before text written
front-written before text rest written w = (w.0, (rest, sym w.1), w.2)

-- a front, and n bytes more of what was left
pub front-more : (before text rest : List ℕ) (old new : Option (List ℕ)) (n : ℕ) → HasWritten before text old rest → ((b : List ℕ) → old ≡ Some b → new ≡ Some (b ++ take n rest)) → HasWritten before text new (drop n rest)
front-more before text rest old new n w h = (
  w.0 ++ take n rest,
  w.1 ∙ ap (λ r. w.0 ++ r) (sym (take-append-drop n rest)) ∙ sym (append_assoc w.0 (take n rest) (drop n rest)),
  h (before ++ w.0) w.2 ∙ ap (λ l. Some l) (append_assoc before w.0 (take n rest)),
)

-- a write that failed leaves a front
pub front-failed : (before text rest : List ℕ) (old new : Option (List ℕ)) (e : SinkError) → HasWritten before text old rest → ((b : List ℕ) → old ≡ Some b → TakesPiece b rest (Err e) new) → WritesFront before text new
front-failed before text rest old new Failed w h =
    let t = h (before ++ w.0) w.2 in
    front-written before text (drop t.0 rest) new (
      w.0 ++ take t.0 rest,
      w.1 ∙ ap (λ r. w.0 ++ r) (sym (take-append-drop t.0 rest)) ∙ sym (append_assoc w.0 (take t.0 rest) (drop t.0 rest)),
      t.2 ∙ ap (λ l. Some l) (append_assoc before w.0 (take t.0 rest)),
    )
front-failed before text rest old new Memory w h = front-written before text rest new (w.0, w.1, h (before ++ w.0) w.2)
