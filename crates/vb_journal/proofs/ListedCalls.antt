-- Each step of a recovery makes the first of the calls that are left.
use Rattle.std.proofs.Common.{◌≡◌, ℕ, zero, suc, ◌+◌, ◌-◌, ◌<◌, false, List, [], ◌∷◌, ◌++◌, length, Option, Some, None, Result, Ok, Err, sym, ap, subst, ◌∙◌, arith}
use Rattle.std.specs.Prelude.{IfErr}
use Rattle.std.proofs.lemmas.List.{length-append}
use Rattle.vb_disk.specs.States.{DiskState, read_at}
use Rattle.vb_head.specs.declared.head.Head.{Head}
use Rattle.vb_head.specs.declared.head.State.{State}
use Rattle.vb_head.specs.declared.head.State.TheVariants.{Opened}
use Rattle.vb_journal.specs.declared.journal.Journal.{Journal}
use Rattle.vb_journal.specs.declared.recover_error.RecoverError.{RecoverError}
use Rattle.vb_journal.specs.declared.recover_error.RecoverError.TheVariants.{NotAStore, Damaged, Unfit, Rebuilding, DiskFault, Memory}
use Rattle.vb_journal.specs.declared.recover_stage.RecoverStage.{RecoverStage}
use Rattle.vb_journal.specs.declared.recover_stage.RecoverStage.TheVariants.{ReadImage, Refused}
use Rattle.vb_journal.specs.declared.refusal.Refusal.{Refusal}
use Rattle.vb_journal.specs.Outcomes.{reads_of}
use Rattle.vb_journal.specs.Recoveries.{image_refusal, is_retried, journal_of, journal_place}
use Rattle.vb_journal.specs.Recovering.{HasRead, ReadPlace, RecoverCall}
use Rattle.vb_journal.specs.RecoveryCalls.{IsFirst, Leaves, calls_left_in, image_reads, recovery_calls_left, replay_calls, unless_refused}
use Rattle.vb_journal.specs.RecoverViews.{AtImage}
use Rattle.vb_journal.specs.Shown.{pages_from}
use Rattle.vb_journal.proofs.JournalReads.{IsWhole-more}

-- no call is made again after this
pub leaves-first : {T : Type 0} (due : Option RecoverCall) (old new : List RecoverCall) (result : Result T RecoverError) → IfErr result (λ e. is_retried e ≡ false) → IsFirst due old new → Leaves due old new result
leaves-first due old new (Ok x) ends first = first
leaves-first due old new (Err (NotAStore place)) ends first = first
leaves-first due old new (Err (Damaged place kept found)) ends first = first
leaves-first due old new (Err (Unfit place why)) ends first = first
leaves-first due old new (Err Rebuilding) ends first = first
leaves-first due old new (Err DiskFault) ends first = absurd (cc ends)
leaves-first due old new (Err Memory) ends first = absurd (cc ends)

-- a refusal leaves none
pub leaves-refused : {T : Type 0} (due : Option RecoverCall) (old : List RecoverCall) (after : RecoverStage) (begun : DiskState) (refusal : Refusal) (result : Result T RecoverError) → after ≡ Refused refusal → result ≡ Err refusal.error → IsFirst due old [] → Leaves due old (recovery_calls_left after begun) result
leaves-refused {T} due old after begun refusal result after_is result_is first =
    let Q : RecoverStage → Type 0 = λ s. Leaves due old (recovery_calls_left s begun) result in
    let R : Result T RecoverError → Type 0 = λ r. Leaves due old [] r in
    let error : Result T RecoverError = Err refusal.error in
    subst Q (sym after_is) (subst R (sym result_is) (leaves-first due old [] error refusal.ends first))

-- ---- images

-- the next of the images that are left is read, and the others are where it isn't refused
reads_next : (reads : ℕ → List ℕ) (nodes place left : ℕ) (before : List (List ℕ)) (image : List ℕ) (rest : List RecoverCall) (refusal : Option RecoverError) → 0 < left → image ≡ reads place → image_refusal nodes place before image ≡ refusal → image_reads nodes place before (pages_from reads place left) rest ≡ ReadPlace place ∷ unless_refused refusal (image_reads nodes (place + 1) (before ++ image ∷ []) (pages_from reads (place + 1) (left - 1)) rest)
reads_next reads nodes place zero before image rest refusal some read is = absurd (omega arith)
reads_next reads nodes place (suc left) before image rest refusal some read is =
    let one : left ≡ suc left - 1 = omega arith in
    let page : reads place ≡ image = sym read in
    let calls : List ℕ → ℕ → List RecoverCall = λ p n. image_reads nodes (place + 1) (before ++ p ∷ []) (pages_from reads (place + 1) n) rest in
    ap (λ (p : List ℕ). ReadPlace place ∷ unless_refused (image_refusal nodes place before p) (calls p left)) page
    ∙ ap (λ (o : Option RecoverError). ReadPlace place ∷ unless_refused o (calls image left)) is
    ∙ ap (λ (n : ℕ). ReadPlace place ∷ unless_refused refusal (calls image n)) one

abbrev next_place : Journal → ℕ
next_place journal = journal_place journal.head + length journal.images

abbrev finish : DiskState → Journal → List RecoverCall
finish begun journal = replay_calls journal.head (journal_of (reads_of begun) journal.head)

-- where it is refused
pub image-refused : (begun : DiskState) (journal : Journal) (image : List ℕ) (e : RecoverError) → image ≡ read_at begun (journal_place journal.head + length journal.images) → image_refusal journal.head.nodes (journal_place journal.head + length journal.images) journal.images image ≡ Some e → recovery_calls_left (ReadImage journal) begun ≡ ReadPlace (journal_place journal.head + length journal.images) ∷ []
image-refused begun journal image e read is = reads_next (reads_of begun) journal.head.nodes (next_place journal) (journal.count - length journal.images) journal.images image (finish begun journal) (Some e) (let left = journal.left in omega (arith, left)) read is

-- where it isn't, and more are left
same_count : (m n : ℕ) (s : State) → s ≡ Opened m → s ≡ Opened n → m ≡ n
same_count m n s a b = let same : Opened m ≡ Opened n = sym a ∙ b in cc same

pub image-more : (begun : DiskState) (journal : Journal) (image : List ℕ) → image ≡ read_at begun (journal_place journal.head + length journal.images) → image_refusal journal.head.nodes (journal_place journal.head + length journal.images) journal.images image ≡ None → recovery_calls_left (ReadImage journal) begun ≡ ReadPlace (journal_place journal.head + length journal.images) ∷ calls_left_in (AtImage journal.head journal.count (journal.images ++ image ∷ [])) begun
image-more begun journal image read is =
    let reads = reads_of begun in
    let more : length (journal.images ++ image ∷ []) ≡ length journal.images + 1 = length-append journal.images (image ∷ []) in
    let place : next_place journal + 1 ≡ journal_place journal.head + length (journal.images ++ image ∷ []) = omega (arith, more) in
    let left : journal.count - length journal.images - 1 ≡ journal.count - length (journal.images ++ image ∷ []) = omega (arith, more) in
    reads_next reads journal.head.nodes (next_place journal) (journal.count - length journal.images) journal.images image (finish begun journal) None (let some = journal.left in omega (arith, some)) read is
    ∙ ap (λ (p : ℕ). ReadPlace (next_place journal) ∷ image_reads journal.head.nodes p (journal.images ++ image ∷ []) (pages_from reads p (journal.count - length journal.images - 1)) (finish begun journal)) place
    ∙ ap (λ (n : ℕ). ReadPlace (next_place journal) ∷ image_reads journal.head.nodes (journal_place journal.head + length (journal.images ++ image ∷ [])) (journal.images ++ image ∷ []) (pages_from reads (journal_place journal.head + length (journal.images ++ image ∷ [])) n) (finish begun journal)) left

-- and where it is the last one
pub image-last : (begun : DiskState) (journal : Journal) (image : List ℕ) (head : Head) (images : List (List ℕ)) (d : DiskState) → HasRead begun journal d → image ≡ read_at begun (journal_place journal.head + length journal.images) → image_refusal journal.head.nodes (journal_place journal.head + length journal.images) journal.images image ≡ None → head ≡ journal.head → images ≡ journal.images ++ image ∷ [] → head.state ≡ Opened (length images) → recovery_calls_left (ReadImage journal) begun ≡ ReadPlace (journal_place journal.head + length journal.images) ∷ replay_calls head images
image-last begun journal image head images d has read is head_is images_are counted =
    let reads = reads_of begun in
    let whole = IsWhole-more begun journal head images image d has read is head_is images_are counted in
    let count : length images ≡ journal.count = same_count (length images) journal.count journal.head.state (ap (λ (h : Head). h.state) (sym head_is) ∙ counted) journal.opened in
    let more : length images ≡ length journal.images + 1 = ap length images_are ∙ length-append journal.images (image ∷ []) in
    let none : journal.count - length journal.images - 1 ≡ 0 = omega (arith, count, more) in
    let same : finish begun journal ≡ replay_calls head images = ap (λ (h : Head). replay_calls h (journal_of reads h)) (sym head_is) ∙ ap (replay_calls head) (sym whole.all) in
    reads_next reads journal.head.nodes (next_place journal) (journal.count - length journal.images) journal.images image (finish begun journal) None (let some = journal.left in omega (arith, some)) read is
    ∙ ap (λ (n : ℕ). ReadPlace (next_place journal) ∷ image_reads journal.head.nodes (next_place journal + 1) (journal.images ++ image ∷ []) (pages_from reads (next_place journal + 1) n) (finish begun journal)) none
    ∙ ap (λ (l : List RecoverCall). ReadPlace (next_place journal) ∷ l) same
