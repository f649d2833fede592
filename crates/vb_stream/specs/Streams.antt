-- What one read or write does, and what many of them do in a row.
use Rattle.std.specs.Prelude.{◌≡◌, ℕ, ◌<◌, ◌≤◌, Bool, false, List, [], ◌++◌, length, take, drop, Option, Some, Result, Ok, Err}
use mathlib.Core.List.{IsPrefix}
use Rattle.vb_stream.specs.declared.source.SourceFault.{SourceFault}
use Rattle.vb_stream.specs.declared.whole.ReadError.{ReadError}
use Rattle.vb_stream.specs.declared.sink.SinkError.{SinkError}
use Rattle.vb_stream.specs.declared.sink.SinkError.TheVariants.{Failed, Memory}

-- a read of a buffer of this size took bytes from the front of what was left: none only where nothing is left or the
-- buffer is empty. A fault takes none
abbrev pub TakesFront : List ℕ → Result ℕ SourceFault → List ℕ → Option (List ℕ) → Type 0
TakesFront bytes (Ok n) buffer left =
    (n ≤ length bytes) × (take n buffer ≡ take n bytes) × (left ≡ Some (drop n bytes))
    × (0 < length buffer → n ≡ 0 → bytes ≡ [])
TakesFront bytes (Err fault) buffer left = left ≡ Some bytes

-- a write of a piece took this much of its front
abbrev pub TakesPiece : List ℕ → List ℕ → Result ℕ SinkError → Option (List ℕ) → Type 0
TakesPiece before piece (Ok n) written = written ≡ Some (before ++ take n piece)
TakesPiece before piece (Err Failed) written = (n : ℕ) × (n ≤ length piece) × (written ≡ Some (before ++ take n piece))
TakesPiece before piece (Err Memory) written = written ≡ Some before

-- what was written is a front of the text
abbrev pub WritesFront : List ℕ → List ℕ → Option (List ℕ) → Type 0
WritesFront before text written = (front : List ℕ) × IsPrefix front text × (written ≡ Some (before ++ front))

-- what was written is the whole text, or after an error a front of it
abbrev pub WritesWhole : {A : Type 0} → List ℕ → List ℕ → Result A SinkError → Option (List ℕ) → Type 0
WritesWhole before text (Ok done) written = written ≡ Some (before ++ text)
WritesWhole before text (Err error) written = WritesFront before text written

-- what was got is a front of the bytes that were left, and the rest of them is still left
abbrev pub HasGot : List ℕ → List ℕ → Option (List ℕ) → Type 0
HasGot bytes got left = (front : IsPrefix got bytes) × (left ≡ Some front.0)

-- at most so many bytes were taken from what was left
abbrev pub TakesAtMost : ℕ → List ℕ → Option (List ℕ) → Type 0
TakesAtMost most bytes left = (taken : List ℕ) × (length taken ≤ most) × HasGot bytes taken left

-- after one more read: more was got, or this was the end; after an error as much was taken as may be
abbrev pub GetsMore : ℕ → List ℕ → Result Bool ReadError → List ℕ → Option (List ℕ) → Type 0
GetsMore most bytes (Ok more) got left = HasGot bytes got left × (more ≡ false → left ≡ Some [])
GetsMore most bytes (Err error) got left = TakesAtMost most bytes left

-- at the end of all reads: all that was asked for, or all that there was
abbrev pub GetsFront : ℕ → List ℕ → Result (List ℕ) ReadError → Option (List ℕ) → Type 0
GetsFront most bytes (Ok got) left = (got ≡ take most bytes) × (left ≡ Some (drop most bytes))
GetsFront most bytes (Err error) left = TakesAtMost most bytes left
