-- A recovery, as contracts see it.
use Rattle.std.specs.Prelude.{◌≡◌, ℕ, ◌+◌, ◌-◌, Bool, true, false, if◌then◌else◌, List, length, slice_get, Option, Some, None, Result, Ok, Err, IsSome}
use Rattle.vb_disk.specs.States.{DiskState, read_at}
use Rattle.vb_head.specs.declared.head.Head.{Head}
use Rattle.vb_journal.specs.declared.recover.Ahead.{Ahead}
use Rattle.vb_journal.specs.declared.recover.Ahead.TheVariants.{More, Ready as AllDone}
use Rattle.vb_journal.specs.declared.recover.Recover.{Recover}
use Rattle.vb_journal.specs.declared.recover_error.RecoverError.{RecoverError}
use Rattle.vb_journal.specs.declared.recover_error.RecoverError.TheVariants.{NotAStore, Damaged, Unfit, Rebuilding, DiskFault, Memory}
use Rattle.vb_journal.specs.declared.recover_stage.RecoverStage.{RecoverStage}
use Rattle.vb_journal.specs.declared.recover_stage.RecoverStage.TheVariants.{Ask, Settle, ReadFirst, ReadSecond, Mend, SettleMend, ReadImage, Replay, Ready, Refused}
use Rattle.vb_journal.specs.Recoveries.{Recovered, journal_place}
use Rattle.vb_journal.specs.Outcomes.{recovery_on}
use Rattle.vb_journal.specs.Recovering.{due_of, images_by}

-- how far it has come
abbrev pub recovery_stage : Recover → RecoverStage
recovery_stage r = r.stage

-- the head of the store, where it was recovered
abbrev pub ready_head : RecoverStage → Option Head
ready_head Ask = None
ready_head (Settle size) = None
ready_head (ReadFirst size) = None
ready_head (ReadSecond first) = None
ready_head (Mend mending) = None
ready_head (SettleMend mending) = None
ready_head (ReadImage journal) = None
ready_head (Replay replay) = None
ready_head (Ready ready) = Some ready.head
ready_head (Refused refusal) = None

-- the last of some images
abbrev pub last_of : List (List ℕ) → Option (List ℕ)
last_of images = slice_get images (length images - 1)

-- the image that is lent: where the last step read one, the last of those that were read
abbrev pub lent_image : Recover → Option (List ℕ)
lent_image r = if r.lends then last_of (images_by r.stage) else None

-- the image is lent that was read, and else none: what stands at its place, where the disk tells
abbrev pub Lends : RecoverStage → Option (List ℕ) → Option DiskState → Type 0
Lends Ask lent told = lent ≡ None
Lends (Settle size) lent told = lent ≡ None
Lends (ReadFirst size) lent told = lent ≡ None
Lends (ReadSecond first) lent told = lent ≡ None
Lends (Mend mending) lent told = lent ≡ None
Lends (SettleMend mending) lent told = lent ≡ None
Lends (ReadImage journal) lent told =
    (page : List ℕ) × (lent ≡ Some page)
    × ((d : DiskState) → told ≡ Some d → page ≡ read_at d (journal_place journal.head + length journal.images))
Lends (Replay replay) lent told = lent ≡ None
Lends (Ready ready) lent told = lent ≡ None
Lends (Refused refusal) lent told = lent ≡ None

-- whether an image of the journal is to be read
abbrev pub is_reading : RecoverStage → Bool
is_reading Ask = false
is_reading (Settle size) = false
is_reading (ReadFirst size) = false
is_reading (ReadSecond first) = false
is_reading (Mend mending) = false
is_reading (SettleMend mending) = false
is_reading (ReadImage journal) = true
is_reading (Replay replay) = false
is_reading (Ready ready) = false
is_reading (Refused refusal) = false

-- More comes where a call is due, and Ready where none is and the store has a head
abbrev pub IsAheadOf : Ahead → RecoverStage → Type 0
IsAheadOf More stage = IsSome (due_of stage)
IsAheadOf AllDone stage = IsSome (ready_head stage)

-- what the recovery of a disk is, with this head
pub record HasHead (begun : DiskState) (head : Option Head) : Type 0 where
  pub found : Recovered
  pub recovery : recovery_on begun ≡ Ok found
  pub head_is : head ≡ Some found.head

-- Ready comes with what the disk recovers to, by what it was when the recovery began, and a refusal where it is
-- refused so
abbrev pub AnswersRecovery : DiskState → RecoverStage → Result Ahead RecoverError → Type 0
AnswersRecovery begun stage (Ok More) = Unit {0}
AnswersRecovery begun stage (Ok AllDone) = HasHead begun (ready_head stage)
AnswersRecovery begun stage (Err (NotAStore place)) = recovery_on begun ≡ Err (NotAStore place)
AnswersRecovery begun stage (Err (Damaged place kept found)) = recovery_on begun ≡ Err (Damaged place kept found)
AnswersRecovery begun stage (Err (Unfit place why)) = recovery_on begun ≡ Err (Unfit place why)
AnswersRecovery begun stage (Err Rebuilding) = recovery_on begun ≡ Err Rebuilding
AnswersRecovery begun stage (Err DiskFault) = Unit {0}
AnswersRecovery begun stage (Err Memory) = Unit {0}
