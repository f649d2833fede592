-- The calls of a recovery, in their order, by the size of the disk and what reads give.
use Rattle.std.specs.Prelude.{◌≡◌, ℕ, ◌+◌, ◌-◌, ◌*◌, ◌<◌, true, false, nat_lt, IsSome, IfErr, OnOk, if◌then◌else◌, List, [], ◌∷◌, ◌++◌, length, Option, Some, None, Result, Ok, Err}
use Rattle.vb_disk.specs.States.{DiskState, DiskCall, Write, Sync}
use Rattle.vb_head.specs.declared.head.Head.{Head}
use Rattle.vb_head.specs.declared.head.HeadRead.{HeadRead}
use Rattle.vb_head.specs.declared.head.State.{State}
use Rattle.vb_head.specs.declared.head.State.TheVariants.{Closed, Opened, Rebuilding as IsBeingMade}
use Rattle.vb_head.specs.Heads.{count_of, head_page, head_read}
use Rattle.vb_journal.specs.declared.commit_stage.Turn.TheVariants.{First}
use Rattle.vb_journal.specs.declared.recover_error.RecoverError.{RecoverError}
use Rattle.vb_journal.specs.declared.recover_error.RecoverError.TheVariants.{NotAStore, Damaged, Unfit, Rebuilding, DiskFault, Memory}
use Rattle.vb_journal.specs.declared.recover_stage.RecoverStage.{RecoverStage}
use Rattle.vb_journal.specs.Calls.{turn_calls}
use Rattle.vb_journal.specs.Outcomes.{reads_of}
use Rattle.vb_journal.specs.Plans.{calls_from, home_calls}
use Rattle.vb_journal.specs.Recoveries.{are_one_head, choice_of, greater_place, image_refusal, is_retried, journal_of, journal_place, least_size, settled_head}
use Rattle.vb_journal.specs.Recovering.{AskSize, Change, ReadPlace, RecoverCall}
use Rattle.vb_journal.specs.RecoverViews.{RecoverView, AtAsk, AtSettle, AtFirst, AtSecond, AtMend, AtSettleMend, AtImage, AtReplay, AtReady, AtRefused, view_of}
use Rattle.vb_journal.specs.Shown.{good_of, pages_from}

-- calls that change the disk
abbrev pub changes : List DiskCall → List RecoverCall
changes [] = []
changes (call ∷ calls) = Change call ∷ changes calls

-- these calls, unless something is refused
abbrev pub unless_refused : Option RecoverError → List RecoverCall → List RecoverCall
unless_refused None calls = calls
unless_refused (Some refusal) calls = []

-- a read of each of these images, the first of which stands at this place after some others, up to one that is
-- refused, and then these calls
abbrev pub image_reads : ℕ → ℕ → List (List ℕ) → List (List ℕ) → List RecoverCall → List RecoverCall
image_reads nodes place before [] calls = calls
image_reads nodes place before (image ∷ images) calls =
    ReadPlace place ∷ unless_refused (image_refusal nodes place before image) (image_reads nodes (place + 1) (before ++ image ∷ []) images calls)

-- the images at their homes, a sync, and the head that counts them out, at each place with a sync
abbrev pub replay_calls : Head → List (List ℕ) → List RecoverCall
replay_calls head images = changes (home_calls images ++ (Sync ∷ turn_calls (head_page (settled_head head)) First))

-- the calls for the journal, where this head counts it in
abbrev pub journal_calls_by : (ℕ → List ℕ) → Head → State → List RecoverCall
journal_calls_by reads head Closed = []
journal_calls_by reads head (Opened count) = image_reads head.nodes (journal_place head) [] (journal_of reads head) (replay_calls head (journal_of reads head))
journal_calls_by reads head IsBeingMade = []

-- the calls after both copies of the head are whole
abbrev pub journal_calls_of : (ℕ → List ℕ) → Head → List RecoverCall
journal_calls_of reads head = journal_calls_by reads head head.state

-- the head that counts over the other one and a sync, unless both are one, and then these calls
abbrev pub mending_calls : HeadRead → HeadRead → Head → List RecoverCall → List RecoverCall
mending_calls a b head calls =
    if are_one_head a b then calls else Change (Write (1 - greater_place (good_of a) (good_of b)) (head_page head)) ∷ Change Sync ∷ calls

-- the calls after both heads were read
abbrev pub calls_after_heads : HeadRead → HeadRead → (ℕ → List ℕ) → Result Head RecoverError → List RecoverCall
calls_after_heads a b reads (Err refusal) = []
calls_after_heads a b reads (Ok head) = mending_calls a b head (journal_calls_of reads head)

-- the calls after both heads were read, by what reads give
abbrev pub calls_by_choice : ℕ → (ℕ → List ℕ) → List RecoverCall
calls_by_choice size reads = calls_after_heads (head_read (reads 0)) (head_read (reads 1)) reads (choice_of size reads)

-- all calls: the size, and where it is enough a sync, both heads, and what they ask for
abbrev pub recovery_calls : ℕ → (ℕ → List ℕ) → List RecoverCall
recovery_calls size reads = AskSize ∷ (if nat_lt size least_size then [] else Change Sync ∷ ReadPlace 0 ∷ ReadPlace 1 ∷ calls_by_choice size reads)

-- the calls that are left at a stage, where the recovery began on this disk
abbrev pub calls_left_in : RecoverView → DiskState → List RecoverCall
calls_left_in AtAsk begun = recovery_calls begun.size (reads_of begun)
calls_left_in (AtSettle places) begun = Change Sync ∷ ReadPlace 0 ∷ ReadPlace 1 ∷ calls_by_choice begun.size (reads_of begun)
calls_left_in (AtFirst places) begun = ReadPlace 0 ∷ ReadPlace 1 ∷ calls_by_choice begun.size (reads_of begun)
calls_left_in (AtSecond places read) begun = ReadPlace 1 ∷ calls_by_choice begun.size (reads_of begun)
calls_left_in (AtMend head other) begun = Change (Write other (head_page head)) ∷ Change Sync ∷ journal_calls_of (reads_of begun) head
calls_left_in (AtSettleMend head other) begun = Change Sync ∷ journal_calls_of (reads_of begun) head
calls_left_in (AtImage head count images) begun =
    image_reads head.nodes (journal_place head + length images) images
    (pages_from (reads_of begun) (journal_place head + length images) (count - length images))
    (replay_calls head (journal_of (reads_of begun) head))
calls_left_in (AtReplay head epoch images stage) begun = changes (calls_from head epoch images stage)
calls_left_in (AtReady head) begun = []
calls_left_in (AtRefused why) begun = []

-- so it is at a stage
abbrev pub recovery_calls_left : RecoverStage → DiskState → List RecoverCall
recovery_calls_left stage begun = calls_left_in (view_of stage) begun

-- the most calls that a head which counts so many images in may ask for: a read and a write of each, and both heads
abbrev pub most_for : ℕ → ℕ
most_for count = 2 * count + 5

-- the most calls that may be left at a stage, whatever the disk tells: as many as the greatest journal asks for, until
-- the head is known that counts
abbrev pub most_left_in : RecoverView → ℕ
most_left_in AtAsk = most_for 65536 + 6
most_left_in (AtSettle places) = most_for 65536 + 5
most_left_in (AtFirst places) = most_for 65536 + 4
most_left_in (AtSecond places read) = most_for 65536 + 3
most_left_in (AtMend head other) = most_for (count_of head.state) + 2
most_left_in (AtSettleMend head other) = most_for (count_of head.state) + 1
most_left_in (AtImage head count images) = most_for count - length images
most_left_in (AtReplay head epoch images stage) = length (calls_from head epoch images stage)
most_left_in (AtReady head) = 0
most_left_in (AtRefused why) = 0

-- the most calls that may be left of a recovery
abbrev pub most_calls_left : RecoverStage → ℕ
most_calls_left stage = most_left_in (view_of stage)

-- the most calls that may be left fell where a call was due and was made, and stand at a fault and for want of memory.
-- After a refusal none are left.
pub record Falls {T : Type 0} (due : Option RecoverCall) (old new : ℕ) (result : Result T RecoverError) : Type 0 where
  pub fell : IsSome due → OnOk result (new < old)
  pub stood : IfErr result (λ error. is_retried error ≡ true → new ≡ old)
  pub ended : IfErr result (λ error. is_retried error ≡ false → new ≡ 0)

-- this call was the first, and the others are left
abbrev pub IsFirst : Option RecoverCall → List RecoverCall → List RecoverCall → Type 0
IsFirst None old new = (old ≡ []) × (new ≡ [])
IsFirst (Some call) old new = old ≡ call ∷ new

-- the call that was due was the first of those that were left, and the others are left, none after a refusal. After a
-- fault and for want of memory all are left.
abbrev pub Leaves : {T : Type 0} → Option RecoverCall → List RecoverCall → List RecoverCall → Result T RecoverError → Type 0
Leaves due old new (Ok x) = IsFirst due old new
Leaves due old new (Err (NotAStore place)) = IsFirst due old new
Leaves due old new (Err (Damaged place kept found)) = IsFirst due old new
Leaves due old new (Err (Unfit place why)) = IsFirst due old new
Leaves due old new (Err Rebuilding) = IsFirst due old new
Leaves due old new (Err DiskFault) = new ≡ old
Leaves due old new (Err Memory) = new ≡ old
