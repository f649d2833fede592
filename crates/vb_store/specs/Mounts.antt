-- Mounts: which call is due, what is left to be made, and what is known of the disk.
use Rattle.std.specs.Prelude.{◌≡◌, ◌⊎◌, ℕ, List, [], ◌++◌, length, map, Option, Some, None, Result, Ok, Err, IsSome}
use Rattle.std.specs.Option.{option_map}
use Rattle.vb_disk.specs.Crashes.{MayCrashTo}
use Rattle.vb_disk.specs.Moments.{EachMoment}
use Rattle.vb_disk.specs.States.{DiskState, IsDiskState, read_at}
use Rattle.vb_head.specs.declared.head.Head.{Head}
use Rattle.vb_journal.specs.declared.recover.Ahead.{Ahead}
use Rattle.vb_journal.specs.declared.recover.Ahead.TheVariants.{More, Ready as AllDone}
use Rattle.vb_journal.specs.declared.recover.Recover.{Recover}
use Rattle.vb_journal.specs.declared.recover_error.RecoverError.{RecoverError}
use Rattle.vb_journal.specs.declared.recover_error.RecoverError.TheVariants.{NotAStore, Damaged, Unfit, Rebuilding, DiskFault, Memory}
use Rattle.vb_journal.specs.declared.recover_stage.RecoverStage.{RecoverStage}
use Rattle.vb_journal.specs.declared.recover_stage.RecoverStage.TheVariants.{Ask, Settle, ReadFirst, ReadSecond, Mend, SettleMend, ReadImage, Replay, Ready as RecoveryReady, Refused as RecoveryRefused}
use Rattle.vb_journal.specs.Notes.{HasNoted, slots_noted}
use Rattle.vb_journal.specs.Outcomes.{IsHurt, reads_of}
use Rattle.vb_journal.specs.Recoveries.{choice_of, journal_place}
use Rattle.vb_journal.specs.Recovering.{ReadPlace, RecoverCall, IsRecovered, IsRecovering, blocks_of as blocks_of_recovery, due_of, reads_whole}
use Rattle.vb_journal.specs.RecoveryCalls.{IsFirst, recovery_calls, recovery_calls_left}
use Rattle.vb_journal.specs.Recovers.{recovery_stage}
use Rattle.vb_journal.specs.Shown.{pages_from}
use Rattle.vb_store.specs.declared.mount.Mount.{Mount}
use Rattle.vb_store.specs.declared.mount_phase.MountPhase.{MountPhase}
use Rattle.vb_store.specs.declared.mount_phase.MountPhase.TheVariants.{Recovering, Reading, Ready}
use Rattle.vb_store.specs.declared.mount_stage.MountStage.{MountStage}
use Rattle.vb_store.specs.declared.mount_stage.MountStage.TheVariants.{ReadHome, ReadMap, Finish, Refused}
use Rattle.vb_store.specs.Clear.{IsClear}
use Rattle.vb_store.specs.Metadata.{Metadata, block_of, images_fault, metadata_of, nodes_left}
use Rattle.vb_store.specs.MountLists.{home_places, places_due, places_of_table}
use Rattle.vb_store.specs.MountStages.{HasEnded, blocks_of, due_place, rest_on}
use Rattle.vb_store.specs.Recovered.{recovered}
use Rattle.vb_store.specs.RecoveredStores.{metadata_on, recovered_on}
use Rattle.vb_store.specs.Views.{ViewState}

-- how far a mount has come
abbrev pub mount_phase : {D : Type 0} → Mount D → MountPhase
mount_phase m = m.phase

-- the view of the store, where it was mounted
abbrev pub ready_view : MountPhase → Option ViewState
ready_view (Recovering r) = None
ready_view (Reading stage) = None
ready_view (Ready ready) = Some ready.view

-- the size of the disk as far as the mount relies on it
abbrev pub blocks_of_mount : MountPhase → ℕ
blocks_of_mount (Recovering r) = blocks_of_recovery (recovery_stage r.recover)
blocks_of_mount (Reading stage) = blocks_of stage
blocks_of_mount (Ready ready) = 0

-- the same, and at its end the blocks of the store that was mounted
abbrev pub relied_on : MountPhase → ℕ
relied_on (Recovering r) = blocks_of_recovery (recovery_stage r.recover)
relied_on (Reading stage) = blocks_of stage
relied_on (Ready ready) = ready.view.head.blocks

-- ---- its calls

-- the call that is due: one of the recovery, and then a read of the next home or map page. None is due at the end.
abbrev pub due_of_mount : MountPhase → Option RecoverCall
due_of_mount (Recovering r) = due_of (recovery_stage r.recover)
due_of_mount (Reading stage) = option_map ReadPlace (due_place stage)
due_of_mount (Ready ready) = None

-- the homes and map pages of the store of this head, where there is one
abbrev pub store_places_by : (ℕ → List ℕ) → Result Head RecoverError → List ℕ
store_places_by reads (Ok head) = home_places 0 head.nodes ++ places_of_table head (nodes_left head.nodes (block_of reads head) head.nodes [])
store_places_by reads (Err refusal) = []

-- reads of these places
abbrev pub place_reads : List ℕ → List RecoverCall
place_reads places = map ReadPlace places

-- the reads of a mount after its recovery: the homes by slot, and the map pages by slot of their files
abbrev pub store_reads : DiskState → List RecoverCall
store_reads begun = place_reads (store_places_by (reads_of begun) (choice_of begun.size (reads_of begun)))

-- all calls of a mount, as long as nothing is refused: those of a recovery, and then these reads
abbrev pub mount_calls : DiskState → List RecoverCall
mount_calls begun = recovery_calls begun.size (reads_of begun) ++ store_reads begun

-- the calls that are left of a mount that began on the one disk and goes on over the other
abbrev pub mount_calls_left : MountPhase → DiskState → DiskState → List RecoverCall
mount_calls_left (Recovering r) begun d = recovery_calls_left (recovery_stage r.recover) begun ++ store_reads begun
mount_calls_left (Reading stage) begun d = place_reads (places_due (λ place. read_at d place) stage)
mount_calls_left (Ready ready) begun d = []

-- the call that was due was the first of those that were left, and the others are left. After a fault and for want of
-- memory all are left.
abbrev pub MakesNext : {T : Type 0} → Option RecoverCall → List RecoverCall → List RecoverCall → Result T RecoverError → Type 0
MakesNext due old new (Ok x) = IsFirst due old new
MakesNext due old new (Err (NotAStore place)) = Unit {0}
MakesNext due old new (Err (Damaged place kept found)) = Unit {0}
MakesNext due old new (Err (Unfit place why)) = Unit {0}
MakesNext due old new (Err Rebuilding) = Unit {0}
MakesNext due old new (Err DiskFault) = new ≡ old
MakesNext due old new (Err Memory) = new ≡ old

-- a mount has ended with this refusal
abbrev pub HasMountEnded : MountPhase → RecoverError → Type 0
HasMountEnded (Recovering r) error = ⊥
HasMountEnded (Reading stage) error = HasEnded stage error
HasMountEnded (Ready ready) error = ⊥

-- after a fault and for want of memory the same call is due, and else the mount has ended with this error
abbrev pub MountStandsAfter : MountPhase → MountPhase → RecoverError → Type 0
MountStandsAfter old new (NotAStore place) = HasMountEnded new (NotAStore place)
MountStandsAfter old new (Damaged place kept found) = HasMountEnded new (Damaged place kept found)
MountStandsAfter old new (Unfit place why) = HasMountEnded new (Unfit place why)
MountStandsAfter old new Rebuilding = HasMountEnded new Rebuilding
MountStandsAfter old new DiskFault = due_of_mount new ≡ due_of_mount old
MountStandsAfter old new Memory = due_of_mount new ≡ due_of_mount old

-- More comes where a call is due, and Ready where none is and there is a view
abbrev pub IsAheadOfMount : Ahead → MountPhase → Type 0
IsAheadOfMount More phase = IsSome (due_of_mount phase)
IsAheadOfMount AllDone phase = IsSome (ready_view phase)

-- ---- what is known of its disk

-- so many images of the journal are nodes, of the store whose head counts
abbrev pub AreSoundTo : DiskState → ℕ → Type 0
AreSoundTo begun count =
    (chosen : Head) → choice_of begun.size (reads_of begun) ≡ Ok chosen
    → images_fault chosen.nodes (journal_place chosen) [] (pages_from (reads_of begun) (journal_place chosen) count) ≡ None

-- the journal is being recovered, and the images that were read are nodes
pub record IsJournalRead (r : Recover) (begun d : DiskState) : Type 0 where
  pub is : IsDiskState begun
  pub known : IsRecovering (recovery_stage r) begun d
  pub noted : HasNoted r begun
  pub sound : AreSoundTo begun (length (slots_noted r))

-- the journal was recovered
pub record WasRecovered (begun d : DiskState) : Type 0 where
  pub head : Head
  pub recovered : IsRecovered begun head d

-- so it was, unless the mount was refused
abbrev pub WasRecoveredAt : MountStage → DiskState → DiskState → Type 0
WasRecoveredAt (ReadHome h) begun d = WasRecovered begun d
WasRecoveredAt (ReadMap m) begun d = WasRecovered begun d
WasRecoveredAt (Finish w) begun d = WasRecovered begun d
WasRecoveredAt (Refused r) begun d = Unit {0}

-- homes and map pages are being read, and what is left of the answer is the metadata that there were at the begin
pub record IsReading (stage : MountStage) (begun d : DiskState) : Type 0 where
  pub is : IsDiskState begun
  pub recovered : WasRecoveredAt stage begun d
  pub rest : metadata_on begun ≡ rest_on d stage

-- the store was mounted: the view has the metadata that there were at the begin, and the disk is at rest with its head
pub record IsMounted (view : ViewState) (begun d : DiskState) : Type 0 where
  pub is : IsDiskState begun
  pub metadata : metadata_on begun ≡ Ok (record { head = view.head; held = view.index.nodes })
  pub recovered : IsRecovered begun view.head d

-- what is known in each phase of the disk, by what it was when the mount began
abbrev pub IsMounting : MountPhase → DiskState → DiskState → Type 0
IsMounting (Recovering r) begun d = IsJournalRead r.recover begun d
IsMounting (Reading stage) begun d = IsReading stage begun d
IsMounting (Ready ready) begun d = IsMounted ready.view begun d

-- Ready comes with a view of the metadata that there were when the mount began
pub record ShowsMetadata (phase : MountPhase) (begun : DiskState) : Type 0 where
  pub view : ViewState
  pub ready : ready_view phase ≡ Some view
  pub metadata : metadata_on begun ≡ Ok (record { head = view.head; held = view.index.nodes })

-- and a refusal where they are refused so
abbrev pub AnswersMount : DiskState → MountPhase → Result Ahead RecoverError → Type 0
AnswersMount begun phase (Ok More) = Unit {0}
AnswersMount begun phase (Ok AllDone) = ShowsMetadata phase begun
AnswersMount begun phase (Err (NotAStore place)) = metadata_on begun ≡ Err (NotAStore place)
AnswersMount begun phase (Err (Damaged place kept found)) = metadata_on begun ≡ Err (Damaged place kept found)
AnswersMount begun phase (Err (Unfit place why)) = metadata_on begun ≡ Err (Unfit place why)
AnswersMount begun phase (Err Rebuilding) = metadata_on begun ≡ Err Rebuilding
AnswersMount begun phase (Err DiskFault) = Unit {0}
AnswersMount begun phase (Err Memory) = Unit {0}

-- ---- what crashes leave

-- the metadata and the tree are those that these reads of a disk of this size give, if they give metadata
abbrev pub LeavesAs : ℕ → (ℕ → List ℕ) → DiskState → Type 0
LeavesAs size reads new = (m : Metadata) → metadata_of size reads ≡ Ok m → (metadata_on new ≡ Ok m) × (recovered_on new ≡ recovered size reads)

-- they are those from when the mount began
abbrev pub Leaves : DiskState → DiskState → Type 0
Leaves begun new = LeavesAs begun.size (reads_of begun) new

-- the place was hurt, and they are those that there would have been, were it whole
pub record LeavesWhole (begun : DiskState) (place : ℕ) (new : DiskState) : Type 0 where
  pub hurt : IsHurt begun place
  pub leaves : LeavesAs begun.size (reads_whole begun place) new

-- what a crash leaves at a stage of the recovery. Up to the first sync nothing was changed. From then on the metadata
-- and the tree stay, but while the other head is mended that was hurt, which may come back whole.
abbrev pub MayLeaveAt : RecoverStage → DiskState → DiskState → Type 0
MayLeaveAt Ask begun new = MayCrashTo begun new
MayLeaveAt (Settle size) begun new = MayCrashTo begun new ⊎ Leaves begun new
MayLeaveAt (ReadFirst size) begun new = Leaves begun new
MayLeaveAt (ReadSecond first) begun new = Leaves begun new
MayLeaveAt (Mend mending) begun new = Leaves begun new ⊎ LeavesWhole begun mending.place new
MayLeaveAt (SettleMend mending) begun new = Leaves begun new ⊎ LeavesWhole begun mending.place new
MayLeaveAt (ReadImage journal) begun new = Leaves begun new
MayLeaveAt (Replay replay) begun new = Leaves begun new
MayLeaveAt (RecoveryReady ready) begun new = Leaves begun new
MayLeaveAt (RecoveryRefused refusal) begun new = Leaves begun new

-- what a crash leaves in a phase
abbrev pub MayLeave : MountPhase → DiskState → DiskState → Type 0
MayLeave (Recovering r) begun new = MayLeaveAt (recovery_stage r.recover) begun new
MayLeave (Reading stage) begun new = Leaves begun new
MayLeave (Ready ready) begun new = Leaves begun new

-- so does each crash of the disk
abbrev pub EachCrashLeaves : MountPhase → DiskState → DiskState → Type 0
EachCrashLeaves phase begun d = (new : DiskState) → MayCrashTo d new → MayLeave phase begun new

-- what a step leaves of a disk that is known in its phase: one that is known in the phase after it; each crash within
-- the step leaves what the phase before it says; and a disk that was clear when the mount began is clear at each moment
pub record MountsTo (begun : DiskState) (before after : MountPhase) (d : DiskState) (new : Option DiskState) : Type 0 where
  pub next : DiskState
  pub told : new ≡ Some next
  pub known : IsMounting after begun next
  pub crashes : EachMoment (EachCrashLeaves before begun) d next
  pub clear : IsClear begun → EachMoment IsClear d next

-- so does each step of a disk that is known in its phase
abbrev pub MountsOn : MountPhase → MountPhase → Option DiskState → Option DiskState → Type 0
MountsOn before after old new =
    (begun d : DiskState) → old ≡ Some d → IsMounting before begun d → MountsTo begun before after d new
