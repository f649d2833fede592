-- Two texts, one after the other.
use Rattle.std.proofs.Common.{ℕ, List, ◌++◌, Option, Some, Result, Ok, Err, sym, ap, ◌∙◌, append_assoc}
use Rattle.vb_stream.specs.declared.sink.SinkError.{SinkError}
use Rattle.vb_stream.specs.Streams.{WritesFront, WritesWhole}

-- the second text behind the first
pub written-second : {A : Type 0} (before first second : List ℕ) (r : Result A SinkError) (written : Option (List ℕ)) → WritesWhole (before ++ first) second r written → WritesWhole before (first ++ second) r written
written-second before first second (Ok done) written h = h ∙ ap (λ l. Some l) (append_assoc before first second)
written-second before first second (Err error) written h = (
  first ++ h.0,
  (h.1.0, append_assoc first h.0 h.1.0 ∙ ap (λ l. first ++ l) h.1.1),
  h.2 ∙ ap (λ l. Some l) (append_assoc before first h.0),
)

-- a front of the first text is one of both
pub written-first : (before first second : List ℕ) (written : Option (List ℕ)) → WritesFront before first written → WritesFront before (first ++ second) written
written-first before first second written h =
    (h.0, (h.1.0 ++ second, sym (append_assoc h.0 h.1.0 second) ∙ ap (λ l. l ++ second) h.1.1), h.2)
