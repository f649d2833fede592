-- How far a recovery has come, which call of its disk is due, and what is known of the disk.
use Rattle.std.specs.Prelude.{◌≡◌, ◌⊎◌, ℕ, suc, ◌+◌, ◌-◌, ◌<◌, ◌≤◌, ◌==◌, if◌then◌else◌, Bool, true, false, List, [], ◌∷◌, ◌++◌, length, replicate, Option, Some, None, Result, Ok, Err, OnOk, IsErrOf}
use Rattle.vb_disk.specs.declared.cell.Cell.{Cell}
use Rattle.vb_disk.specs.Cells.{candidate_at, synced_cell}
use Rattle.vb_disk.specs.Crashes.{MayCrashTo}
use Rattle.vb_disk.specs.Moments.{EachMoment}
use Rattle.vb_disk.specs.States.{DiskState, DiskCall, Write, Sync, IsDiskState, after_call, read_at}
use Rattle.vb_geometry.specs.Layout.{home_place}
use Rattle.vb_head.specs.declared.head.Head.{Head}
use Rattle.vb_head.specs.declared.head.HeadRead.{HeadRead}
use Rattle.vb_head.specs.declared.head.HeadRead.TheVariants.{Good}
use Rattle.vb_head.specs.declared.head.State.TheVariants.{Closed}
use Rattle.vb_head.specs.Heads.{IsHead, head_page, head_read}
use Rattle.vb_journal.specs.declared.commit_stage.Stage.{Stage}
use Rattle.vb_journal.specs.declared.commit_stage.Stage.TheVariants.{Journal, Opening, Homes, Closing, Rested}
use Rattle.vb_journal.specs.declared.journal.Journal.{Journal as JournalRead}
use Rattle.vb_journal.specs.declared.mending.FirstRead.{FirstRead}
use Rattle.vb_journal.specs.declared.recover_error.RecoverError.{RecoverError}
use Rattle.vb_journal.specs.declared.recover_error.RecoverError.TheVariants.{NotAStore, Damaged, Unfit, Rebuilding, DiskFault, Memory}
use Rattle.vb_journal.specs.declared.recover_stage.RecoverStage.{RecoverStage}
use Rattle.vb_journal.specs.declared.recover_stage.RecoverStage.TheVariants.{Ask, Settle, ReadFirst, ReadSecond, Mend, SettleMend, ReadImage, Replay, Ready, Refused}
use Rattle.vb_journal.specs.Calls.{MayFailTo}
use Rattle.vb_journal.specs.Images.{image_at, slot_of}
use Rattle.vb_journal.specs.Outcomes.{IsHurt, reads_of, recovery_on}
use Rattle.vb_journal.specs.Plans.{calls_from, opened_head}
use Rattle.vb_journal.specs.Progress.{IsCommitting, IsUnnamed}
use Rattle.vb_journal.specs.RecoverViews.{RecoverView, AtAsk, AtSettle, AtFirst, AtSecond, AtMend, AtSettleMend, AtImage, AtReplay, AtReady, AtRefused, view_of}
use Rattle.vb_journal.specs.Recoveries.{choice_of, images_refusal, journal_of, journal_place, journal_refusal, recovery_of, settled_head}
use Rattle.vb_journal.specs.Shown.{image_over, pages_from}

-- ---- its calls

-- a call of a recovery
pub data RecoverCall : Type 0 where
  AskSize : RecoverCall
  ReadPlace : (place : ℕ) → RecoverCall
  Change : (call : DiskCall) → RecoverCall

-- the first of some calls
abbrev pub first_change : List DiskCall → Option RecoverCall
first_change [] = None
first_change (call ∷ calls) = Some (Change call)

-- the call that is due at a stage: the size, a sync, both heads, the head that counts over the other one and a sync,
-- each image of the journal, and what is left of its commit. None is due at the end.
abbrev pub due_in : RecoverView → Option RecoverCall
due_in AtAsk = Some AskSize
due_in (AtSettle places) = Some (Change Sync)
due_in (AtFirst places) = Some (ReadPlace 0)
due_in (AtSecond places read) = Some (ReadPlace 1)
due_in (AtMend head other) = Some (Change (Write other (head_page head)))
due_in (AtSettleMend head other) = Some (Change Sync)
due_in (AtImage head count images) = Some (ReadPlace (journal_place head + length images))
due_in (AtReplay head epoch images stage) = first_change (calls_from head epoch images stage)
due_in (AtReady head) = None
due_in (AtRefused why) = None

-- so it is at a stage
abbrev pub due_of : RecoverStage → Option RecoverCall
due_of stage = due_in (view_of stage)

-- a call that changes a disk was made at Ok, and was not for want of memory
pub record Changes {T : Type 0} (call : DiskCall) (old new : Option DiskState) (result : Result T RecoverError) : Type 0 where
  pub made : (d : DiskState) → old ≡ Some d → OnOk result (new ≡ Some (after_call d call))
  pub failed : (d : DiskState) → old ≡ Some d → IsErrOf result DiskFault → MayFailTo call d new
  pub memory : IsErrOf result Memory → new ≡ old
  pub untold : old ≡ None → new ≡ None

-- this call and no other was made, or failed
abbrev pub MakesCall : {T : Type 0} → Option RecoverCall → Option DiskState → Option DiskState → Result T RecoverError → Type 0
MakesCall None old new result = new ≡ old
MakesCall (Some AskSize) old new result = new ≡ old
MakesCall (Some (ReadPlace place)) old new result = new ≡ old
MakesCall (Some (Change call)) old new result = Changes call old new result

-- the images of the journal that were read
abbrev pub images_in_view : RecoverView → List (List ℕ)
images_in_view AtAsk = []
images_in_view (AtSettle places) = []
images_in_view (AtFirst places) = []
images_in_view (AtSecond places read) = []
images_in_view (AtMend head other) = []
images_in_view (AtSettleMend head other) = []
images_in_view (AtImage head count images) = images
images_in_view (AtReplay head epoch images stage) = images
images_in_view (AtReady head) = []
images_in_view (AtRefused why) = []

-- so it is at a stage
abbrev pub images_by : RecoverStage → List (List ℕ)
images_by stage = images_in_view (view_of stage)

-- how many slots of images may be noted at a stage
abbrev pub most_slots_in : RecoverView → ℕ
most_slots_in AtAsk = 0
most_slots_in (AtSettle places) = 0
most_slots_in (AtFirst places) = 0
most_slots_in (AtSecond places read) = 0
most_slots_in (AtMend head other) = 0
most_slots_in (AtSettleMend head other) = 0
most_slots_in (AtImage head count images) = length images
most_slots_in (AtReplay head epoch images stage) = 65536
most_slots_in (AtReady head) = 65536
most_slots_in (AtRefused why) = 65536

-- so it is at a stage
abbrev pub most_slots : RecoverStage → ℕ
most_slots stage = most_slots_in (view_of stage)

-- how many nodes the store has whose images are read, or taken home
abbrev pub nodes_in : RecoverView → Option ℕ
nodes_in AtAsk = None
nodes_in (AtSettle places) = None
nodes_in (AtFirst places) = None
nodes_in (AtSecond places read) = None
nodes_in (AtMend head other) = None
nodes_in (AtSettleMend head other) = None
nodes_in (AtImage head count images) = Some head.nodes
nodes_in (AtReplay head epoch images stage) = Some head.nodes
nodes_in (AtReady head) = None
nodes_in (AtRefused why) = None

-- so it is at a stage
abbrev pub nodes_of : RecoverStage → Option ℕ
nodes_of stage = nodes_in (view_of stage)

-- the seen size stands, unless it was asked
abbrev pub SeenStays : Option RecoverCall → ℕ → ℕ → Type 0
SeenStays None old new = new ≡ old
SeenStays (Some AskSize) old new = Unit {0}
SeenStays (Some (ReadPlace place)) old new = new ≡ old
SeenStays (Some (Change call)) old new = new ≡ old

-- an image of the journal was taken: what stands at its place, where the disk tells
abbrev pub TakesImage : RecoverStage → RecoverStage → Option DiskState → Type 0
TakesImage Ask new told = Unit {0}
TakesImage (Settle size) new told = Unit {0}
TakesImage (ReadFirst size) new told = Unit {0}
TakesImage (ReadSecond first) new told = Unit {0}
TakesImage (Mend mending) new told = Unit {0}
TakesImage (SettleMend mending) new told = Unit {0}
TakesImage (ReadImage journal) new told =
    (page : List ℕ) × (images_by new ≡ journal.images ++ page ∷ [])
    × ((d : DiskState) → told ≡ Some d → page ≡ read_at d (journal_place journal.head + length journal.images))
TakesImage (Replay replay) new told = Unit {0}
TakesImage (Ready ready) new told = Unit {0}
TakesImage (Refused refusal) new told = Unit {0}

-- the size of the disk as far as the recovery relies on it
abbrev pub blocks_in : RecoverView → ℕ
blocks_in AtAsk = 0
blocks_in (AtSettle places) = places
blocks_in (AtFirst places) = places
blocks_in (AtSecond places read) = places
blocks_in (AtMend head other) = head.blocks
blocks_in (AtSettleMend head other) = head.blocks
blocks_in (AtImage head count images) = head.blocks
blocks_in (AtReplay head epoch images stage) = head.blocks
blocks_in (AtReady head) = head.blocks
blocks_in (AtRefused why) = 0

-- so it is at a stage
abbrev pub blocks_of : RecoverStage → ℕ
blocks_of stage = blocks_in (view_of stage)

-- the stage is the end, with this refusal
abbrev pub HasEnded_in : RecoverView → RecoverError → Type 0
HasEnded_in AtAsk error = ⊥
HasEnded_in (AtSettle places) error = ⊥
HasEnded_in (AtFirst places) error = ⊥
HasEnded_in (AtSecond places read) error = ⊥
HasEnded_in (AtMend head other) error = ⊥
HasEnded_in (AtSettleMend head other) error = ⊥
HasEnded_in (AtImage head count images) error = ⊥
HasEnded_in (AtReplay head epoch images stage) error = ⊥
HasEnded_in (AtReady head) error = ⊥
HasEnded_in (AtRefused why) error = why ≡ error

-- so it is at a stage
abbrev pub HasEnded : RecoverStage → RecoverError → Type 0
HasEnded stage error = HasEnded_in (view_of stage) error

-- whether the stage is the end, with a refusal
abbrev pub is_refused_in : RecoverView → Bool
is_refused_in AtAsk = false
is_refused_in (AtSettle places) = false
is_refused_in (AtFirst places) = false
is_refused_in (AtSecond places read) = false
is_refused_in (AtMend head other) = false
is_refused_in (AtSettleMend head other) = false
is_refused_in (AtImage head count images) = false
is_refused_in (AtReplay head epoch images stage) = false
is_refused_in (AtReady head) = false
is_refused_in (AtRefused why) = true

-- so it is at a stage
abbrev pub is_refused : RecoverStage → Bool
is_refused stage = is_refused_in (view_of stage)

-- after a fault and for want of memory the same call is due, and else the recovery has ended with this error
abbrev pub StandsAfter : RecoverStage → RecoverStage → RecoverError → Type 0
StandsAfter old new (NotAStore place) = HasEnded new (NotAStore place)
StandsAfter old new (Damaged place kept found) = HasEnded new (Damaged place kept found)
StandsAfter old new (Unfit place why) = HasEnded new (Unfit place why)
StandsAfter old new Rebuilding = HasEnded new Rebuilding
StandsAfter old new DiskFault = due_of new ≡ due_of old
StandsAfter old new Memory = due_of new ≡ due_of old

-- ---- what is known of its disk

-- the newest candidate of a place
abbrev pub newest_of : Cell → List ℕ
newest_of cell = candidate_at cell (length cell.later)

-- a whole place with one candidate
abbrev pub whole_cell : List ℕ → Cell
whole_cell page = record { first = page; later = []; hurt = None }

-- the places from this one on stand as they did when the recovery began, but for a sync
pub record StandsFrom (place : ℕ) (begun d : DiskState) : Type 0 where
  pub is : IsDiskState begun
  pub size : d.size ≡ begun.size
  pub each : (other : ℕ) → place ≤ other → d.cells other ≡ synced_cell (begun.cells other)

-- the first head was read, and is the one page of its head where it is one
pub record HasReadHead (begun : DiskState) (places : ℕ) (first : HeadRead) (d : DiskState) : Type 0 where
  pub stands : StandsFrom 0 begun d
  pub size : places ≡ begun.size
  pub read : first ≡ head_read (read_at begun 0)
  pub spelled : (h : Head) → first ≡ Good h → read_at begun 0 ≡ head_page h

-- so it was
abbrev pub HasReadFirst : DiskState → FirstRead → DiskState → Type 0
HasReadFirst begun first d = HasReadHead begun first.size.places first.read d

-- this head counts, and both copies are whole
pub record HasBothHeads (begun : DiskState) (head : Head) (d : DiskState) : Type 0 where
  pub stands : StandsFrom 2 begun d
  pub is : IsHead head
  pub counts : choice_of begun.size (reads_of begun) ≡ Ok head
  pub first : d.cells 0 ≡ whole_cell (head_page head)
  pub second : d.cells 1 ≡ whole_cell (head_page head)

-- the head that counts was written over this place, once or more often
abbrev pub IsMended : DiskState → Head → ℕ → Cell → Type 0
IsMended begun head place cell =
    (times : ℕ) × (cell ≡ record { first = newest_of (begun.cells place); later = replicate (suc times) (head_page head); hurt = None })

-- so it was, or the place stands
abbrev pub MayBeMended : DiskState → Head → ℕ → Cell → Type 0
MayBeMended begun head place cell = (cell ≡ synced_cell (begun.cells place)) ⊎ IsMended begun head place cell

-- this head counts, its place is whole, and the other one has come so far
pub record IsMending (begun : DiskState) (head : Head) (place : ℕ) (Other : DiskState → Head → ℕ → Cell → Type 0) (d : DiskState) : Type 0 where
  pub stands : StandsFrom 2 begun d
  pub counts : choice_of begun.size (reads_of begun) ≡ Ok head
  pub was : read_at begun (1 - place) ≡ head_page head
  pub here : d.cells (1 - place) ≡ whole_cell (head_page head)
  pub other : Other begun head place (d.cells place)

-- the images were read and aren't refused
pub record HasReadImages (begun : DiskState) (head : Head) (taken : List (List ℕ)) (d : DiskState) : Type 0 where
  pub heads : HasBothHeads begun head d
  pub images : taken ≡ pages_from (reads_of begun) (journal_place head) (length taken)
  pub accepted : images_refusal head.nodes (journal_place head) [] taken ≡ None

-- so they were
abbrev pub HasRead : DiskState → JournalRead → DiskState → Type 0
HasRead begun journal d = HasReadImages begun journal.head journal.images d

-- what stood at the homes when the recovery began
abbrev pub homes_of : DiskState → ℕ → List ℕ
homes_of begun = λ slot. newest_of (begun.cells (home_place slot))

-- what stood in the journal then
abbrev pub images_in : DiskState → Head → ℕ → List ℕ
images_in begun head = λ i. newest_of (begun.cells (journal_place head + i))

-- a home is whole at a stage of the commit, where its image was written
abbrev pub IsHomeWhole : ℕ → Stage → Cell → Type 0
IsHomeWhole i (Journal next) cell = ⊥
IsHomeWhole i (Opening turn) cell = ⊥
IsHomeWhole i (Homes next) cell = i < next → cell.hurt ≡ None
IsHomeWhole i (Closing turn) cell = cell.hurt ≡ None
IsHomeWhole i Rested cell = cell.hurt ≡ None

-- what stands besides the candidates of a commit: both copies of the head are whole, and so is each home that was
-- written; each other place is as it was when the recovery began, but for a sync
pub record HasWholePlaces (begun : DiskState) (before : Head) (images : List (List ℕ)) (stage : Stage) (d : DiskState) : Type 0 where
  pub size : d.size ≡ begun.size
  pub first : (d.cells 0).hurt ≡ None
  pub second : (d.cells 1).hurt ≡ None
  pub homes : (i : ℕ) → i < length images → IsHomeWhole i stage (d.cells (home_place (slot_of (image_at images i))))
  pub homes_stand : (slot : ℕ) → slot < before.nodes → IsUnnamed images slot → d.cells (home_place slot) ≡ synced_cell (begun.cells (home_place slot))
  pub others_stand : (place : ℕ) → journal_place before ≤ place → d.cells place ≡ synced_cell (begun.cells place)

-- a commit whose journal was read goes on, at a stage
pub record IsReplaying (begun : DiskState) (before : Head) (epoch : ℕ) (images : List (List ℕ)) (stage : Stage) (d : DiskState) : Type 0 where
  pub is : IsHead (opened_head before epoch images)
  pub counts : choice_of begun.size (reads_of begun) ≡ Ok (opened_head before epoch images)
  pub images_are : journal_of (reads_of begun) (opened_head before epoch images) ≡ images
  pub accepted : journal_refusal (reads_of begun) (opened_head before epoch images) ≡ None
  pub known : IsCommitting before epoch images (homes_of begun) (images_in begun before) stage d
  pub whole : HasWholePlaces begun before images stage d

-- no image of the journal is for the slot, and its home stands as it did when the recovery began, but for a sync
pub record StandsAtHome (begun : DiskState) (images : List (List ℕ)) (slot : ℕ) (cell : Cell) : Type 0 where
  pub unnamed : IsUnnamed images slot
  pub stands : cell ≡ synced_cell (begun.cells (home_place slot))

-- an image of the journal is for the slot, whatever stood at its home, and the home holds it as its one whole candidate
pub record WasTakenHome (images : List (List ℕ)) (slot : ℕ) (cell : Cell) : Type 0 where
  pub image : List ℕ
  pub covers : (home : List ℕ) → image_over images slot home ≡ image
  pub holds : cell ≡ whole_cell image

-- where the home of a slot comes from, once these images of the journal were taken home
abbrev pub IsHomeOf : DiskState → List (List ℕ) → ℕ → Cell → Type 0
IsHomeOf begun images slot cell = StandsAtHome begun images slot cell ⊎ WasTakenHome images slot cell

-- the store was recovered: both copies are the head that recovery leaves where this one was chosen, and each home
-- stands or holds the journal's image for it
pub record IsRecovered (begun : DiskState) (head : Head) (d : DiskState) : Type 0 where
  pub chosen : Head
  pub counts : choice_of begun.size (reads_of begun) ≡ Ok chosen
  pub accepted : journal_refusal (reads_of begun) chosen ≡ None
  pub settles : settled_head chosen ≡ head
  pub is : IsHead head
  pub closed : head.state ≡ Closed
  pub size : d.size ≡ begun.size
  pub first : d.cells 0 ≡ whole_cell (head_page head)
  pub second : d.cells 1 ≡ whole_cell (head_page head)
  pub homes : (slot : ℕ) → slot < head.nodes → IsHomeOf begun (journal_of (reads_of begun) chosen) slot (d.cells (home_place slot))
  pub others_stand : (place : ℕ) → journal_place head ≤ place → d.cells place ≡ synced_cell (begun.cells place)

-- a crash of the disk leaves one that recovers to the same
abbrev pub RecoversAfter : DiskState → DiskState → Type 0
RecoversAfter begun d = (new : DiskState) → MayCrashTo d new → recovery_on new ≡ recovery_on begun

-- the store can't be recovered, also after a crash
pub record IsHopeless (begun : DiskState) (error : RecoverError) (d : DiskState) : Type 0 where
  pub recovery : recovery_on begun ≡ Err error
  pub crashes : RecoversAfter begun d

-- what is known at each stage of the disk, by what it was when the recovery began
abbrev pub IsRecovering_in : RecoverView → DiskState → DiskState → Type 0
IsRecovering_in AtAsk begun d = d ≡ begun
IsRecovering_in (AtSettle places) begun d = (d ≡ begun) × IsDiskState begun × (places ≡ begun.size)
IsRecovering_in (AtFirst places) begun d = StandsFrom 0 begun d × (places ≡ begun.size)
IsRecovering_in (AtSecond places read) begun d = HasReadHead begun places read d
IsRecovering_in (AtMend head other) begun d = IsMending begun head other MayBeMended d
IsRecovering_in (AtSettleMend head other) begun d = IsMending begun head other IsMended d
IsRecovering_in (AtImage head count images) begun d = HasReadImages begun head images d
IsRecovering_in (AtReplay head epoch images stage) begun d = IsReplaying begun head epoch images stage d
IsRecovering_in (AtReady head) begun d = IsRecovered begun head d
IsRecovering_in (AtRefused why) begun d = IsHopeless begun why d

-- so it is at a stage
abbrev pub IsRecovering : RecoverStage → DiskState → DiskState → Type 0
IsRecovering stage begun d = IsRecovering_in (view_of stage) begun d

-- ---- what crashes leave

-- what reads give, were this place whole
abbrev pub reads_whole : DiskState → ℕ → ℕ → List ℕ
reads_whole d place = λ other. if other == place then newest_of (d.cells other) else read_at d other

-- the place was hurt, and it recovers to what it would have, were that place whole
pub record RecoversWhole (begun : DiskState) (place : ℕ) (new : DiskState) : Type 0 where
  pub hurt : IsHurt begun place
  pub recovers : recovery_on new ≡ recovery_of begun.size (reads_whole begun place)

-- what a disk recovers to that a crash leaves at a stage. Up to the first sync nothing was changed. From then on it is
-- what the recovery began with, or, while the other head is mended that was hurt, what that one would have given.
abbrev pub MayRecover : RecoverStage → DiskState → DiskState → Type 0
MayRecover Ask begun new = MayCrashTo begun new
MayRecover (Settle size) begun new = MayCrashTo begun new ⊎ (recovery_on new ≡ recovery_on begun)
MayRecover (ReadFirst size) begun new = recovery_on new ≡ recovery_on begun
MayRecover (ReadSecond first) begun new = recovery_on new ≡ recovery_on begun
MayRecover (Mend mending) begun new = (recovery_on new ≡ recovery_on begun) ⊎ RecoversWhole begun mending.place new
MayRecover (SettleMend mending) begun new = (recovery_on new ≡ recovery_on begun) ⊎ RecoversWhole begun mending.place new
MayRecover (ReadImage journal) begun new = recovery_on new ≡ recovery_on begun
MayRecover (Replay replay) begun new = recovery_on new ≡ recovery_on begun
MayRecover (Ready ready) begun new = recovery_on new ≡ recovery_on begun
MayRecover (Refused refusal) begun new = recovery_on new ≡ recovery_on begun

-- after each crash of the disk
abbrev pub EachRecovers : RecoverStage → DiskState → DiskState → Type 0
EachRecovers stage begun d = (new : DiskState) → MayCrashTo d new → MayRecover stage begun new

-- what a step leaves of a disk that is known at its stage: one that is known at the stage after it. Each moment within
-- it is known at the one stage or the other, and each crash at it leaves what the stage before it says.
pub record RecoversTo (begun : DiskState) (before after : RecoverStage) (d : DiskState) (new : Option DiskState) : Type 0 where
  pub next : DiskState
  pub told : new ≡ Some next
  pub known : IsRecovering after begun next
  pub moments : EachMoment (λ m. IsRecovering before begun m ⊎ IsRecovering after begun m) d next
  pub crashes : EachMoment (EachRecovers before begun) d next

-- so does each step of a disk that is known at its stage
abbrev pub RecoversOn : RecoverStage → RecoverStage → Option DiskState → Option DiskState → Type 0
RecoversOn before after old new =
    (begun d : DiskState) → old ≡ Some d → IsRecovering before begun d → RecoversTo begun before after d new
