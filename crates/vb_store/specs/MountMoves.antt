-- A mount as a machine: which call is due, and what it may be after what the call gave.
use Rattle.std.specs.Prelude.{◌≡◌, ◌≤◌, ℕ, false, List, [], Option, Some, None, Result, Ok, Err, IfErr, OnOk, refl}
use Rattle.vb_disk.specs.States.{DiskState}
use Rattle.vb_journal.specs.declared.recover.Ahead.{Ahead}
use Rattle.vb_journal.specs.declared.recover.Ahead.TheVariants.{More, Ready as AllDone}
use Rattle.vb_journal.specs.declared.recover.Recover.{Recover}
use Rattle.vb_journal.specs.declared.recover_error.RecoverError.{RecoverError}
use Rattle.vb_journal.specs.declared.recover_error.RecoverError.TheVariants.{Memory}
use Rattle.vb_journal.specs.Notes.{HasNoted, IsNoted}
use Rattle.vb_journal.specs.Recovers.{ready_head, recovery_stage}
use Rattle.vb_journal.specs.RecoverMoves.{GoesOn, IsSameRecovery, same_recovery}
use Rattle.vb_journal.specs.RecoverViews.{answer_in, page_in, recover_call, view_of}
use Rattle.vb_steps.specs.declared.due.Got.{Got}
use Rattle.vb_steps.specs.Calls.{Call, ReadPlace, Rest}
use Rattle.vb_store.specs.declared.mount_parts.Homes.{Homes}
use Rattle.vb_store.specs.declared.mount_phase.MountPhase.{MountPhase}
use Rattle.vb_store.specs.declared.mount_phase.MountPhase.TheVariants.{Recovering, Reading, Ready}
use Rattle.vb_store.specs.declared.mount_stage.MountStage.{MountStage}
use Rattle.vb_store.specs.declared.mount_stage.MountStage.TheVariants.{ReadHome, ReadMap, Finish, Refused}
use Rattle.vb_store.specs.LentImages.{IsPhaseOf, lent_fault}
use Rattle.vb_store.specs.Mounts.{HasMountEnded}
use Rattle.vb_store.specs.MountFalls.{FallsTo}
use Rattle.vb_store.specs.MountStages.{HasEnded, StandsAfter, blocks_of, due_place, rest_of}
use Rattle.vb_store.specs.NodesRead.{is_retried}
use Rattle.vb_store.specs.Readings.{Closes, FollowsRead, ReadsOn}
use Rattle.vb_store.specs.Settled.{PassesRead, StaysAtEnd}

-- ---- its calls

-- a read of a place, where one is due
abbrev pub read_call : Option ℕ → Call
read_call None = Rest
read_call (Some place) = ReadPlace place

-- the call that the next step makes
abbrev pub mount_call : MountPhase → Call
mount_call (Recovering r) = recover_call (recovery_stage r.recover)
mount_call (Reading stage) = read_call (due_place stage)
mount_call (Ready ready) = Rest

-- what a step answers that led to a stage: the reason where it is a refusal. Where all was read, memory ran out for the
-- view, or the store would be mounted.
abbrev pub stage_answer : MountStage → Result Ahead RecoverError
stage_answer (ReadHome h) = Ok More
stage_answer (ReadMap m) = Ok More
stage_answer (Finish w) = Err Memory
stage_answer (Refused r) = Err r.error

-- what a step answers that led to a phase
abbrev pub mount_answer : MountPhase → Result Ahead RecoverError
mount_answer (Recovering r) = Ok More
mount_answer (Reading stage) = stage_answer stage
mount_answer (Ready ready) = Ok AllDone

-- ---- after a call of the recovery

-- the homes are read of the store whose journal was recovered, none of which was read yet
pub record BeginsWith (r : Recover) (h : Homes) : Type 0 where
  pub head_is : ready_head (recovery_stage r) ≡ Some h.head
  pub noted : (begun : DiskState) → HasNoted r begun → IsNoted begun h.place h.slots.items
  pub none : h.nodes ≡ []

-- so it is at a stage
abbrev pub BeginsStage : Recover → MountStage → Type 0
BeginsStage r (ReadHome h) = BeginsWith r h
BeginsStage r (ReadMap m) = ⊥
BeginsStage r (Finish w) = ⊥
BeginsStage r (Refused x) = ⊥

-- and in a phase
abbrev pub BeginsReading : Recover → MountPhase → Type 0
BeginsReading r (Recovering j) = ⊥
BeginsReading r (Reading stage) = BeginsStage r stage
BeginsReading r (Ready ready) = ⊥

-- the recovery goes on, unless the node of the image that it read is refused
abbrev pub FollowsMore : Recover → Option RecoverError → MountPhase → Type 0
FollowsMore r None phase = IsPhaseOf r phase
FollowsMore r (Some error) phase = HasMountEnded phase error

-- by what the recovery answers: it goes on, the homes are read, or the mount has ended
abbrev pub FollowsRecovery : Recover → Result Ahead RecoverError → MountPhase → Type 0
FollowsRecovery r (Ok More) phase = FollowsMore r (lent_fault r) phase
FollowsRecovery r (Ok AllDone) phase = BeginsReading r phase
FollowsRecovery r (Err error) phase = HasMountEnded phase error

-- the recovery goes on after its call, and the mount with it
pub record RecoveryGoesOn (old : Recover) (got : Got) (phase : MountPhase) : Type 0 where
  pub then : Recover
  pub goes : GoesOn old got then
  pub follows : FollowsRecovery then (answer_in (view_of (recovery_stage then))) phase

-- ---- after a read

-- reads give this page where it is due
abbrev pub GivesPage : (ℕ → List ℕ) → Option ℕ → List ℕ → Type 0
GivesPage reads None page = Unit {0}
GivesPage reads (Some place) page = reads place ≡ page

-- an error that isn't retried is the end
abbrev pub EndsAs : MountStage → RecoverError → Type 0
EndsAs stage error = is_retried error ≡ false → HasEnded stage error

-- the page was taken in that was read, and the store is mounted once all were
pub record ReadingGoesOn (stage : MountStage) (got : Got) (phase : MountPhase) : Type 0 where
  pub then : MountStage
  pub answer : Result (Unit {0}) RecoverError
  pub rest : (reads : ℕ → List ℕ) → GivesPage reads (due_place stage) (page_in got) → rest_of reads then ≡ rest_of reads stage
  pub list : (reads : ℕ → List ℕ) → GivesPage reads (due_place stage) (page_in got) → ReadsOn reads stage then answer
  pub after : OnOk answer (FollowsRead stage then)
  pub error : IfErr answer (StandsAfter stage then)
  pub blocks : blocks_of then ≤ blocks_of stage
  pub falls : OnOk answer (FallsTo stage then)
  pub ends : IfErr answer (λ error. is_retried error ≡ false)
  pub closes : Closes then answer phase (mount_answer phase)
  pub passes : OnOk answer (PassesRead (page_in got) stage)
  pub at_end : StaysAtEnd stage then

-- ---- the machine

-- what it may be after a call that gave this
abbrev pub MountGoesOn : MountPhase → Got → MountPhase → Type 0
MountGoesOn (Recovering r) got phase = RecoveryGoesOn r.recover got phase
MountGoesOn (Reading stage) got phase = ReadingGoesOn stage got phase
MountGoesOn (Ready ready) got phase = phase ≡ Ready ready

-- the recovery stays
abbrev pub IsRecoveryLike : Recover → MountPhase → Type 0
IsRecoveryLike old (Recovering j) = IsSameRecovery old j.recover
IsRecoveryLike old (Reading stage) = ⊥
IsRecoveryLike old (Ready ready) = ⊥

-- the same homes, but for where they lie in memory
pub record AreLikeHomes (h k : Homes) : Type 0 where
  pub head_is : k.head ≡ h.head
  pub place_is : k.place ≡ h.place
  pub slots_are : k.slots.items ≡ h.slots.items
  pub nodes_are : k.nodes ≡ h.nodes

-- the reading of homes stays, but for where it lies in memory
abbrev pub IsHomesLike : Homes → MountStage → Type 0
IsHomesLike h (ReadHome k) = AreLikeHomes h k
IsHomesLike h (ReadMap m) = ⊥
IsHomesLike h (Finish w) = ⊥
IsHomesLike h (Refused r) = ⊥

-- the stage stays
abbrev pub IsStageLike : MountStage → MountStage → Type 0
IsStageLike (ReadHome h) after = IsHomesLike h after
IsStageLike (ReadMap m) after = after ≡ ReadMap m
IsStageLike (Finish w) after = after ≡ Finish w
IsStageLike (Refused r) after = after ≡ Refused r

-- so it stays in a phase
abbrev pub IsReadingLike : MountStage → MountPhase → Type 0
IsReadingLike stage (Recovering j) = ⊥
IsReadingLike stage (Reading after) = IsStageLike stage after
IsReadingLike stage (Ready ready) = ⊥

-- the mount stays
abbrev pub IsSameMount : MountPhase → MountPhase → Type 0
IsSameMount (Recovering r) phase = IsRecoveryLike r.recover phase
IsSameMount (Reading stage) phase = IsReadingLike stage phase
IsSameMount (Ready ready) phase = phase ≡ Ready ready

-- each stage is like itself
pub same_stage : (stage : MountStage) → IsStageLike stage stage
same_stage (ReadHome h) = record { head_is = refl; place_is = refl; slots_are = refl; nodes_are = refl }
same_stage (ReadMap m) = refl
same_stage (Finish w) = refl
same_stage (Refused r) = refl

-- and each mount the same as itself
pub same_mount : (phase : MountPhase) → IsSameMount phase phase
same_mount (Recovering r) = same_recovery r.recover
same_mount (Reading stage) = same_stage stage
same_mount (Ready ready) = refl
