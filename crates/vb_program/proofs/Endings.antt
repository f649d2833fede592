-- Which ending a status comes from.
use Rattle.std.proofs.Common.{◌≡◌, ◌≢◌, ◌⊎◌, inl, inr, ℕ, List, Result, Ok, Err, ⊎_elim, refl, sym, ap, ◌∙◌, arith}
use Rattle.vb_script.specs.declared.script.Script.{Script}
use Rattle.vb_script.specs.declared.error.LineKind.{LineKind}
use Rattle.vb_script.specs.declared.error.ScriptError.{ScriptError}
use Rattle.vb_script.specs.declared.error.ScriptError.TheVariants as script
use Rattle.vb_stream.specs.declared.sink.SinkError.{SinkError}
use Rattle.vb_stream.specs.declared.sink.SinkError.TheVariants as sink
use Rattle.vb_program.specs.declared.ending.Ending.{Ending}
use Rattle.vb_program.specs.declared.ending.Ending.TheVariants.{Whole, Words, Source, Wrong, NotYet, Memory}
use Rattle.vb_program.specs.Run.{Reports, IsRefused, ending_at, faults_at, faults_at_status, script_in, status_after, status_of, status_after_fault, status_after_shortage}

-- the status is one that this ending may have
abbrev pub MayEnd : Ending → Type 0 → ℕ → Type 0
MayEnd ending fault status =
    (status ≡ status_of ending) ⊎ (((status ≡ status_after_fault ending) × fault) ⊎ (status ≡ status_after_shortage ending))

-- the status after an outcome is one of these
pub may-end : (ending : Ending) (outcome : Result Unit SinkError) (status : ℕ) → status ≡ status_after ending outcome → MayEnd ending (outcome ≡ Err sink.Failed) status
may-end ending (Ok done) status h = inl h
may-end ending (Err sink.Failed) status h = inr (inl (h, refl))
may-end ending (Err sink.Memory) status h = inr (inr h)

-- at 0 all was written, and at 4 a write failed
pub written-whole : (ending : Ending) (outcome : Result Unit SinkError) → status_after ending outcome ≡ 0 → outcome ≡ Ok tt
written-whole ending (Ok tt) h = refl
written-whole Whole (Err sink.Failed) h = absurd (omega (arith, h))
written-whole Words (Err sink.Failed) h = absurd (omega (arith, h))
written-whole Source (Err sink.Failed) h = absurd (omega (arith, h))
written-whole (Wrong line kind) (Err sink.Failed) h = absurd (omega (arith, h))
written-whole (NotYet line) (Err sink.Failed) h = absurd (omega (arith, h))
written-whole Memory (Err sink.Failed) h = absurd (omega (arith, h))
written-whole Whole (Err sink.Memory) h = absurd (omega (arith, h))
written-whole Words (Err sink.Memory) h = absurd (omega (arith, h))
written-whole Source (Err sink.Memory) h = absurd (omega (arith, h))
written-whole (Wrong line kind) (Err sink.Memory) h = absurd (omega (arith, h))
written-whole (NotYet line) (Err sink.Memory) h = absurd (omega (arith, h))
written-whole Memory (Err sink.Memory) h = absurd (omega (arith, h))

pub failed-four : (ending : Ending) (outcome : Result Unit SinkError) → status_after ending outcome ≡ 4 → outcome ≡ Err sink.Failed
failed-four ending (Err sink.Failed) h = refl
failed-four Whole (Ok done) h = absurd (omega (arith, h))
failed-four Words (Ok done) h = absurd (omega (arith, h))
failed-four Source (Ok done) h = absurd (omega (arith, h))
failed-four (Wrong line kind) (Ok done) h = absurd (omega (arith, h))
failed-four (NotYet line) (Ok done) h = absurd (omega (arith, h))
failed-four Memory (Ok done) h = absurd (omega (arith, h))
failed-four Whole (Err sink.Memory) h = absurd (omega (arith, h))
failed-four Words (Err sink.Memory) h = absurd (omega (arith, h))
failed-four Source (Err sink.Memory) h = absurd (omega (arith, h))
failed-four (Wrong line kind) (Err sink.Memory) h = absurd (omega (arith, h))
failed-four (NotYet line) (Err sink.Memory) h = absurd (omega (arith, h))
failed-four Memory (Err sink.Memory) h = absurd (omega (arith, h))

-- the status tells whether the source failed
pub source-status : (ending : Ending) (outcome : Result Unit SinkError) (faults : ℕ) → faults_at ending faults ≡ faults_at_status (status_after ending outcome) faults
source-status Whole (Ok done) faults = refl
source-status Words (Ok done) faults = refl
source-status Source (Ok done) faults = refl
source-status (Wrong line kind) (Ok done) faults = refl
source-status (NotYet line) (Ok done) faults = refl
source-status Memory (Ok done) faults = refl
source-status Whole (Err sink.Failed) faults = refl
source-status Words (Err sink.Failed) faults = refl
source-status Source (Err sink.Failed) faults = refl
source-status (Wrong line kind) (Err sink.Failed) faults = refl
source-status (NotYet line) (Err sink.Failed) faults = refl
source-status Memory (Err sink.Failed) faults = refl
source-status Whole (Err sink.Memory) faults = refl
source-status Words (Err sink.Memory) faults = refl
source-status Source (Err sink.Memory) faults = refl
source-status (Wrong line kind) (Err sink.Memory) faults = refl
source-status (NotYet line) (Err sink.Memory) faults = refl
source-status Memory (Err sink.Memory) faults = refl

-- only the status of a run that was whole so far comes from the writing
kept : (ending : Ending) (outcome : Result Unit SinkError) → (ending ≡ Whole) ⊎ (status_after ending outcome ≡ status_of ending)
kept Whole outcome = inl refl
kept Words (Ok done) = inr refl
kept Words (Err sink.Failed) = inr refl
kept Words (Err sink.Memory) = inr refl
kept Source (Ok done) = inr refl
kept Source (Err sink.Failed) = inr refl
kept Source (Err sink.Memory) = inr refl
kept (Wrong line kind) (Ok done) = inr refl
kept (Wrong line kind) (Err sink.Failed) = inr refl
kept (Wrong line kind) (Err sink.Memory) = inr refl
kept (NotYet line) (Ok done) = inr refl
kept (NotYet line) (Err sink.Failed) = inr refl
kept (NotYet line) (Err sink.Memory) = inr refl
kept Memory (Ok done) = inr refl
kept Memory (Err sink.Failed) = inr refl
kept Memory (Err sink.Memory) = inr refl

-- a run that was whole so far ends with one of three statuses
whole-statuses : (outcome : Result Unit SinkError) (n : ℕ) → status_after Whole outcome ≡ n → n ≢ 0 → n ≢ 4 → n ≢ 10 → ⊥
whole-statuses (Ok done) n h zero four ten = zero (sym h)
whole-statuses (Err sink.Failed) n h zero four ten = four (sym h)
whole-statuses (Err sink.Memory) n h zero four ten = ten (sym h)

-- 2 comes from faulty words, and 3 from a source that failed
pub words-two : (ending : Ending) (outcome : Result Unit SinkError) → status_after ending outcome ≡ 2 → ending ≡ Words
words-two Whole outcome h = absurd (whole-statuses outcome 2 h (λ e. omega (arith, e)) (λ e. omega (arith, e)) (λ e. omega (arith, e)))
words-two Words outcome h = refl
words-two Source outcome h = ⊎_elim (λ e. cc) (λ e. absurd (omega (arith, sym e ∙ h))) (kept Source outcome)
words-two (Wrong line kind) outcome h = ⊎_elim (λ e. cc) (λ e. absurd (omega (arith, sym e ∙ h))) (kept (Wrong line kind) outcome)
words-two (NotYet line) outcome h = ⊎_elim (λ e. cc) (λ e. absurd (omega (arith, sym e ∙ h))) (kept (NotYet line) outcome)
words-two Memory outcome h = ⊎_elim (λ e. cc) (λ e. absurd (omega (arith, sym e ∙ h))) (kept Memory outcome)

pub source-three : (ending : Ending) (outcome : Result Unit SinkError) → status_after ending outcome ≡ 3 → ending ≡ Source
source-three Whole outcome h = absurd (whole-statuses outcome 3 h (λ e. omega (arith, e)) (λ e. omega (arith, e)) (λ e. omega (arith, e)))
source-three Source outcome h = refl
source-three Words outcome h = ⊎_elim (λ e. cc) (λ e. absurd (omega (arith, sym e ∙ h))) (kept Words outcome)
source-three (Wrong line kind) outcome h = ⊎_elim (λ e. cc) (λ e. absurd (omega (arith, sym e ∙ h))) (kept (Wrong line kind) outcome)
source-three (NotYet line) outcome h = ⊎_elim (λ e. cc) (λ e. absurd (omega (arith, sym e ∙ h))) (kept (NotYet line) outcome)
source-three Memory outcome h = ⊎_elim (λ e. cc) (λ e. absurd (omega (arith, sym e ∙ h))) (kept Memory outcome)

-- 5 comes from a wrong line
pub five-wrong : (words : List (List ℕ)) (input lines : List ℕ) (ending : Ending) (fault : Type 0) (status : ℕ) → Reports words input ending lines → MayEnd ending fault status → status ≡ 5 → (line : ℕ) × (kind : LineKind) × (script_in input ≡ Err (script.Wrong line kind))
five-wrong words input lines Whole fault status r m is =
    absurd (⊎_elim (λ h. omega arith) (⊎_elim (λ h. let e = h.0 in omega arith) (λ h. omega arith)) m)
five-wrong words input lines Words fault status r m is =
    absurd (⊎_elim (λ h. omega arith) (⊎_elim (λ h. let e = h.0 in omega arith) (λ h. omega arith)) m)
five-wrong words input lines Source fault status r m is =
    absurd (⊎_elim (λ h. omega arith) (⊎_elim (λ h. let e = h.0 in omega arith) (λ h. omega arith)) m)
five-wrong words input lines (Wrong line kind) fault status r m is = (line, kind, r.1)
five-wrong words input lines (NotYet line) fault status r m is =
    absurd (⊎_elim (λ h. omega arith) (⊎_elim (λ h. let e = h.0 in omega arith) (λ h. omega arith)) m)
five-wrong words input lines Memory fault status r m is =
    absurd (⊎_elim (λ h. omega arith) (⊎_elim (λ h. let e = h.0 in omega arith) (λ h. omega arith)) m)

-- 11 comes from a line that can't be played yet
pub eleven-not_yet : (words : List (List ℕ)) (input lines : List ℕ) (ending : Ending) (fault : Type 0) (status : ℕ) → Reports words input ending lines → MayEnd ending fault status → status ≡ 11 → (line : ℕ) × (script_in input ≡ Err (script.NotYet line))
eleven-not_yet words input lines Whole fault status r m is =
    absurd (⊎_elim (λ h. omega arith) (⊎_elim (λ h. let e = h.0 in omega arith) (λ h. omega arith)) m)
eleven-not_yet words input lines Words fault status r m is =
    absurd (⊎_elim (λ h. omega arith) (⊎_elim (λ h. let e = h.0 in omega arith) (λ h. omega arith)) m)
eleven-not_yet words input lines Source fault status r m is =
    absurd (⊎_elim (λ h. omega arith) (⊎_elim (λ h. let e = h.0 in omega arith) (λ h. omega arith)) m)
eleven-not_yet words input lines (Wrong line kind) fault status r m is =
    absurd (⊎_elim (λ h. omega arith) (⊎_elim (λ h. let e = h.0 in omega arith) (λ h. omega arith)) m)
eleven-not_yet words input lines (NotYet line) fault status r m is = (line, r.1)
eleven-not_yet words input lines Memory fault status r m is =
    absurd (⊎_elim (λ h. omega arith) (⊎_elim (λ h. let e = h.0 in omega arith) (λ h. omega arith)) m)

-- 0 comes from a run that is whole
pub zero-whole : (words : List (List ℕ)) (input lines : List ℕ) (ending : Ending) (fault : Type 0) (status : ℕ) → Reports words input ending lines → MayEnd ending fault status → status ≡ 0 → (read : Script) × (script_in input ≡ Ok read)
zero-whole words input lines Whole fault status r m is = (r.1, r.2)
zero-whole words input lines Words fault status r m is =
    absurd (⊎_elim (λ h. omega arith) (⊎_elim (λ h. let e = h.0 in omega arith) (λ h. omega arith)) m)
zero-whole words input lines Source fault status r m is =
    absurd (⊎_elim (λ h. omega arith) (⊎_elim (λ h. let e = h.0 in omega arith) (λ h. omega arith)) m)
zero-whole words input lines (Wrong line kind) fault status r m is =
    absurd (⊎_elim (λ h. omega arith) (⊎_elim (λ h. let e = h.0 in omega arith) (λ h. omega arith)) m)
zero-whole words input lines (NotYet line) fault status r m is =
    absurd (⊎_elim (λ h. omega arith) (⊎_elim (λ h. let e = h.0 in omega arith) (λ h. omega arith)) m)
zero-whole words input lines Memory fault status r m is =
    absurd (⊎_elim (λ h. omega arith) (⊎_elim (λ h. let e = h.0 in omega arith) (λ h. omega arith)) m)

-- a script that isn't read is refused
pub unread-refused : (words : List (List ℕ)) (input lines : List ℕ) (ending : Ending) (fault : Type 0) (status : ℕ) (error : ScriptError) → Reports words input ending lines → MayEnd ending fault status → script_in input ≡ Err error → IsRefused error status
unread-refused words input lines Whole fault status error r m is =
    let read = r.2 in
    cc
unread-refused words input lines Words fault status error r m is =
    inr (inl (⊎_elim (λ h. h) (⊎_elim (λ h. h.0) (λ h. h)) m))
unread-refused words input lines Source fault status error r m is =
    inr (inr (inl (⊎_elim (λ h. h) (⊎_elim (λ h. h.0) (λ h. h)) m)))
unread-refused words input lines (Wrong line kind) fault status error r m is =
    let first = r.1 in
    let same : script.Wrong line kind ≡ error = cc in
    inl (⊎_elim (λ h. h) (⊎_elim (λ h. h.0) (λ h. h)) m ∙ ap (λ e. status_of (ending_at e)) same)
unread-refused words input lines (NotYet line) fault status error r m is =
    let first = r.1 in
    let same : script.NotYet line ≡ error = cc in
    inl (⊎_elim (λ h. h) (⊎_elim (λ h. h.0) (λ h. h)) m ∙ ap (λ e. status_of (ending_at e)) same)
unread-refused words input lines Memory fault status error r m is =
    inr (inr (inr (⊎_elim (λ h. h) (⊎_elim (λ h. h.0) (λ h. h)) m)))
