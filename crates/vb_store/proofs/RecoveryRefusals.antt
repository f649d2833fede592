-- A refusal of a recovery is the first one of the metadata.
use Rattle.std.proofs.Common.{◌≡◌, ℕ, zero, suc, ◌+◌, ◌-◌, ◌<◌, nat_lt, Bool, true, false, cond, List, [], ◌∷◌, ◌++◌, length, Option, Some, None, Result, Ok, Err, refl, sym, ap, ◌∙◌, arith}
use Rattle.std.specs.Prelude.{IsSome}
use Rattle.std.proofs.lemmas.List.{length-map}
use Rattle.std.specs.Result.{result_err}
use Rattle.vb_disk.specs.States.{DiskState, DiskCall, Sync}
use Rattle.vb_head.specs.declared.head.Head.{Head}
use Rattle.vb_head.specs.declared.head.HeadRead.{HeadRead}
use Rattle.vb_head.specs.declared.head.State.{State}
use Rattle.vb_head.specs.declared.head.State.TheVariants.{Closed, Opened, Rebuilding}
use Rattle.vb_head.specs.Heads.{count_of, head_page, head_read}
use Rattle.vb_inode.specs.Reading.{node_read}
use Rattle.vb_journal.specs.declared.commit_stage.Turn.TheVariants.{First}
use Rattle.vb_journal.specs.declared.journal.Journal.{Journal}
use Rattle.vb_journal.specs.declared.recover_error.RecoverError.{RecoverError}
use Rattle.vb_journal.specs.declared.recover_error.RecoverError.TheVariants.{NotAStore}
use Rattle.vb_journal.specs.declared.recover_stage.RecoverStage.{RecoverStage}
use Rattle.vb_journal.specs.declared.recover_stage.RecoverStage.TheVariants.{Ask, Settle, ReadFirst, ReadSecond, Mend, SettleMend, ReadImage, Replay, Ready, Refused}
use Rattle.vb_journal.specs.Calls.{turn_calls}
use Rattle.vb_journal.specs.Outcomes.{reads_of, recovery_on}
use Rattle.vb_journal.specs.Plans.{home_calls, opened_head}
use Rattle.vb_journal.specs.Recoveries.{Recovered, are_one_head, choice_of, head_among, image_refusal, images_refusal, journal_of, journal_place, journal_refusal, least_size, or_refusal, recovered_from, settled_head}
use Rattle.vb_journal.specs.Commits.{epoch_of, head_of, images_of}
use Rattle.vb_journal.specs.Images.{slot_of}
use Rattle.vb_journal.specs.Notes.{HasNotedAt}
use Rattle.vb_journal.specs.Recovering.{Change, HasRead, ReadPlace, IsRecovering, RecoverCall, due_of}
use Rattle.vb_journal.specs.RecoveryCalls.{calls_by_choice, calls_after_heads, changes, image_reads, journal_calls_by, journal_calls_of, mending_calls, recovery_calls_left, replay_calls, unless_refused}
use Rattle.vb_journal.specs.Shown.{good_of, greater, pages_from}
use Rattle.vb_journal.proofs.JournalReads.{journal-split, next-decides}
use Rattle.vb_journal.proofs.SameRecoveries.{recovery_of-chosen}
use Rattle.vb_store.specs.Metadata.{image_fault, images_fault, journal_fault, node_or_refusal}
use Rattle.vb_store.specs.Mounts.{AreSoundTo}
use Rattle.vb_store.specs.RecoveredStores.{metadata_on}
use Rattle.vb_store.proofs.SoundImages.{faulty-next, metadata-faulty, metadata-refused}

-- ---- lists that end

-- a list of two calls doesn't end after one
not_one : {A : Type 0} (a b c : RecoverCall) (rest : List RecoverCall) → a ∷ (b ∷ rest) ≡ c ∷ [] → A
not_one a b c rest is = (let none : b ∷ rest ≡ [] = cc is in absurd (cc none))

-- the calls of a commit from its homes on don't end before they begin
not_none : {A : Type 0} (before after : List DiskCall) (call : DiskCall) → changes (before ++ (call ∷ after)) ≡ [] → A
not_none [] after call is = absurd (cc is)
not_none (first ∷ before) after call is = absurd (cc is)

replay_some : {A : Type 0} (head : Head) (images : List (List ℕ)) → replay_calls head images ≡ [] → A
replay_some head images is = not_none (home_calls images) (turn_calls (head_page (settled_head head)) First) Sync is

reads_some : {A : Type 0} (nodes place : ℕ) (before images : List (List ℕ)) (head : Head) (all : List (List ℕ)) → image_reads nodes place before images (replay_calls head all) ≡ [] → A
reads_some nodes place before [] head all is = replay_some head all is
reads_some nodes place before (image ∷ images) head all is = absurd (cc is)

-- where no call is left for a journal, there is none
no_journal : (reads : ℕ → List ℕ) (head : Head) (s : State) → journal_calls_by reads head s ≡ [] → pages_from reads (journal_place head) (count_of s) ≡ []
no_journal reads head Closed is = refl
no_journal reads head (Opened count) is = reads_some head.nodes (journal_place head) [] (journal_of reads head) head (journal_of reads head) is
no_journal reads head Rebuilding is = refl

-- and so it isn't refused
unrefused : {A : Type 0} (reads : ℕ → List ℕ) (head : Head) (e : RecoverError) → journal_calls_of reads head ≡ [] → journal_refusal reads head ≡ Some e → A
unrefused reads head e calls refused =
    let none : journal_refusal reads head ≡ None = ap (images_refusal head.nodes (journal_place head) []) (no_journal reads head head.state calls) in
    let clash : None ≡ Some e = sym none ∙ refused in
    absurd (cc clash)

mending_none : (one : Bool) (call : RecoverCall) (more calls : List RecoverCall) → cond one calls (call ∷ more) ≡ [] → calls ≡ []
mending_none true call more calls is = is
mending_none false call more calls is = absurd (cc is)

-- ---- the refusal of a journal

-- by its next image
first_refused : (refusal : Option RecoverError) (nodes place : ℕ) (before images : List (List ℕ)) (head : Head) (all : List (List ℕ)) → unless_refused refusal (image_reads nodes place before images (replay_calls head all)) ≡ [] → IsSome refusal
first_refused (Some e) nodes place before images head all is = refl
first_refused None nodes place before images head all is = reads_some nodes place before images head all is

-- an image that is refused is a fault
pub record IsRefusedAs (o : Option RecoverError) : Type 0 where
  pub error : RecoverError
  pub is : o ≡ Some error

some_refusal : (o : Option RecoverError) → IsSome o → IsRefusedAs o
some_refusal (Some e) some = record { error = e; is = refl }
some_refusal None some = absurd (cc some)

left_one : (reads : ℕ → List ℕ) (nodes place left : ℕ) (before : List (List ℕ)) (head : Head) (all : List (List ℕ)) (call : RecoverCall) → 0 < left → image_reads nodes place before (pages_from reads place left) (replay_calls head all) ≡ call ∷ [] → IsSome (image_refusal nodes place before (reads place))
left_one reads nodes place zero before head all call some is = absurd (omega arith)
left_one reads nodes place (suc left) before head all call some is =
    first_refused (image_refusal nodes place before (reads place)) nodes (place + 1) (before ++ reads place ∷ []) (pages_from reads (place + 1) left) head all (cc is)

journal_refused : (begun d : DiskState) (journal : Journal) (n : ℕ) (e : RecoverError) (call : RecoverCall) → HasRead begun journal d → length journal.images ≡ n → AreSoundTo begun n → recovery_on begun ≡ Err e → recovery_calls_left (ReadImage journal) begun ≡ call ∷ [] → metadata_on begun ≡ Err e
journal_refused begun d journal n e call has counted sound refused is =
    let reads : ℕ → List ℕ = reads_of begun in
    let head : Head = journal.head in
    let at : ℕ = length journal.images in
    let place : ℕ = journal_place head in
    let some = left_one reads head.nodes (place + at) (journal.count - at) journal.images head (journal_of reads head) call (let left = journal.left in omega (arith, left)) is in
    let found = some_refusal (image_refusal head.nodes (place + at) journal.images (reads (place + at))) some in
    let split = journal-split reads head journal.count journal.images journal.opened journal.left has.images in
    let refusal : journal_refusal reads head ≡ Some found.error =
    ap (images_refusal head.nodes place []) split
    ∙ next-decides head.nodes place journal.images (pages_from reads (place + at + 1) (journal.count - at - 1)) (reads (place + at)) (Some found.error) has.accepted found.is in
    let same : (let r : Result Recovered RecoverError = Err found.error in r ≡ Err e) =
    sym (recovery_of-chosen begun.size reads (Ok head) has.heads.counts ∙ ap (recovered_from reads head) refusal) ∙ refused in
    let error : found.error ≡ e = cc same in
    let pages : pages_from reads place at ≡ journal.images = sym has.images in
    let fault : image_fault head.nodes (place + at) (pages_from reads place at) (reads (place + at)) ≡ Some e =
    ap (λ (l : List (List ℕ)). image_fault head.nodes (place + at) l (reads (place + at))) pages
    ∙ ap (λ (o : Option RecoverError). or_refusal o (result_err (node_or_refusal (place + at) (node_read head.nodes (reads (place + at)))))) found.is
    ∙ ap (λ (x : RecoverError). Some x) error in
    let ok : images_fault head.nodes place [] (pages_from reads place at) ≡ None = ap (λ (k : ℕ). images_fault head.nodes place [] (pages_from reads place k)) counted ∙ sound head has.heads.counts in
    let count : journal_fault reads head ≡ images_fault head.nodes place [] (pages_from reads place journal.count) = ap (λ (s : State). images_fault head.nodes place [] (pages_from reads place (count_of s))) journal.opened in
    metadata-faulty begun.size reads head e has.heads.counts
    (count ∙ faulty-next reads head.nodes place at journal.count e journal.left ok fault)

-- ---- at each stage

-- the refusal of a head
head_refused : (begun : DiskState) (e f : RecoverError) → recovery_on begun ≡ Err e → choice_of begun.size (reads_of begun) ≡ Err f → metadata_on begun ≡ Err e
head_refused begun e f refused choice =
    let same : (let r : Result Recovered RecoverError = Err f in r ≡ Err e) = sym (recovery_of-chosen begun.size (reads_of begun) (Err f) choice) ∙ refused in
    let error : f ≡ e = cc same in
    metadata-refused begun.size (reads_of begun) e (choice ∙ ap (λ (x : RecoverError). Err x) error)

pub from_refused : (reads : ℕ → List ℕ) (head : Head) (o : Option RecoverError) (e : RecoverError) → recovered_from reads head o ≡ Err e → o ≡ Some e
from_refused reads head None e is = absurd (cc is)
from_refused reads head (Some f) e is = ap (λ (x : RecoverError). Some x) (cc is)

-- a journal that was refused, where this head counts
journal_says : (begun : DiskState) (head : Head) (e : RecoverError) → recovery_on begun ≡ Err e → choice_of begun.size (reads_of begun) ≡ Ok head → journal_refusal (reads_of begun) head ≡ Some e
journal_says begun head e refused choice =
    from_refused (reads_of begun) head (journal_refusal (reads_of begun) head) e (sym (recovery_of-chosen begun.size (reads_of begun) (Ok head) choice) ∙ refused)

-- no journal is refused that was accepted
accepted_clash : {A : Type 0} (begun : DiskState) (head : Head) (e : RecoverError) → recovery_on begun ≡ Err e → choice_of begun.size (reads_of begun) ≡ Ok head → journal_refusal (reads_of begun) head ≡ None → A
accepted_clash begun head e refused counts accepted =
    let clash : None ≡ Some e = sym accepted ∙ journal_says begun head e refused counts in
    absurd (cc clash)

-- a size that is too small for a head to count
small_size : {A : Type 0} (small : Bool) (refusal : RecoverError) (rest : Result Head RecoverError) (head : Head) (call : RecoverCall) (more : List RecoverCall) → cond small [] (call ∷ more) ≡ [] → cond small (Err refusal) rest ≡ Ok head → A
small_size true refusal rest head call more calls choice = absurd (cc choice)
small_size false refusal rest head call more calls choice = absurd (cc calls)

-- when the size was asked
asked : (begun : DiskState) (r : Result Head RecoverError) (e : RecoverError) (due : RecoverCall) → choice_of begun.size (reads_of begun) ≡ r → recovery_on begun ≡ Err e → recovery_calls_left Ask begun ≡ due ∷ [] → metadata_on begun ≡ Err e
asked begun (Err f) e due choice refused calls = head_refused begun e f refused choice
asked begun (Ok head) e due choice refused calls =
    let reads : ℕ → List ℕ = reads_of begun in
    let a : HeadRead = head_read (reads 0) in
    let b : HeadRead = head_read (reads 1) in
    let more : List RecoverCall = ReadPlace 0 ∷ (ReadPlace 1 ∷ calls_by_choice begun.size reads) in
    let none : cond (nat_lt begun.size least_size) [] (Change Sync ∷ more) ≡ [] = cc calls in
    small_size (nat_lt begun.size least_size) (NotAStore 0) (head_among begun.size a b (greater (good_of a) (good_of b))) head (Change Sync) more none choice

-- when both heads were read
both_read : (begun : DiskState) (r : Result Head RecoverError) (e : RecoverError) → choice_of begun.size (reads_of begun) ≡ r → recovery_on begun ≡ Err e → calls_by_choice begun.size (reads_of begun) ≡ [] → metadata_on begun ≡ Err e
both_read begun (Err f) e choice refused calls = head_refused begun e f refused choice
both_read begun (Ok head) e choice refused calls =
    let reads : ℕ → List ℕ = reads_of begun in
    let a : HeadRead = head_read (reads 0) in
    let b : HeadRead = head_read (reads 1) in
    let after : mending_calls a b head (journal_calls_of reads head) ≡ [] = ap (calls_after_heads a b reads) (sym choice) ∙ calls in
    let none : journal_calls_of reads head ≡ [] = mending_none (are_one_head a b) _ _ (journal_calls_of reads head) after in
    unrefused reads head e none (journal_says begun head e refused choice)

-- a recovery that was refused by the call that it made, after so many sound images, has the first refusal of the metadata
pub refusal-told : (stage : RecoverStage) (begun d : DiskState) (place : ℕ) (slots : List ℕ) (e : RecoverError) (due : RecoverCall) → IsRecovering stage begun d → HasNotedAt stage place slots begun → AreSoundTo begun (length slots) → due_of stage ≡ Some due → recovery_on begun ≡ Err e → recovery_calls_left stage begun ≡ due ∷ [] → metadata_on begun ≡ Err e
refusal-told Ask begun d place slots e due known noted sound is refused calls = asked begun (choice_of begun.size (reads_of begun)) e due refl refused calls
refusal-told (Settle size) begun d place slots e due known noted sound is refused calls = not_one _ _ due _ calls
refusal-told (ReadFirst size) begun d place slots e due known noted sound is refused calls = not_one _ _ due _ calls
refusal-told (ReadSecond first) begun d place slots e due known noted sound is refused calls = both_read begun (choice_of begun.size (reads_of begun)) e refl refused (cc calls)
refusal-told (Mend mending) begun d place slots e due known noted sound is refused calls = not_one _ _ due _ calls
refusal-told (SettleMend mending) begun d place slots e due known noted sound is refused calls =
    unrefused (reads_of begun) mending.head e (cc calls) (journal_says begun mending.head e refused known.counts)
refusal-told (ReadImage journal) begun d place slots e due known noted sound is refused calls =
    let counted : length journal.images ≡ length slots = sym (ap length noted.slots_are ∙ length-map journal.images slot_of) in
    journal_refused begun d journal (length slots) e due known counted sound refused calls
refusal-told (Replay replay) begun d place slots e due known noted sound is refused calls = accepted_clash begun (opened_head (head_of replay.commit) (epoch_of replay.commit) (images_of replay.commit)) e refused known.counts known.accepted
refusal-told (Ready ready) begun d place slots e due known noted sound is refused calls = absurd (cc is)
refusal-told (Refused refusal) begun d place slots e due known noted sound is refused calls = absurd (cc is)
