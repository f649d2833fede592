-- Calls of a disk, one at a time.
use Rattle.std.specs.Prelude.{◌≡◌, ◌⊎◌, ℕ, List, [], ◌∷◌, Option, Some, None, Result, IsOk, OnOk, OnErr, IsErrOf}
use Rattle.vb_disk.specs.declared.disk_error.DiskError.{DiskError}
use Rattle.vb_disk.specs.declared.disk_error.DiskError.TheVariants.{Failed, Memory}
use Rattle.vb_disk.specs.States.{DiskState, DiskCall, Write, Sync, Resize, after_call, written}
use Rattle.vb_journal.specs.declared.commit_stage.Turn.{Turn}
use Rattle.vb_journal.specs.declared.commit_stage.Turn.TheVariants.{First, FirstSync, Second, SecondSync}

-- what a call that failed leaves: a write was made or wasn't, and a sync and a resize were not
abbrev pub MayFailTo : DiskCall → DiskState → Option DiskState → Type 0
MayFailTo (Write place page) d new = (new ≡ Some d) ⊎ (new ≡ Some (written d place page))
MayFailTo Sync d new = new ≡ Some d
MayFailTo (Resize blocks) d new = new ≡ Some d

-- the call was made at Ok, and was not for want of memory
pub record Makes {T : Type 0} (call : DiskCall) (old new : Option DiskState) (result : Result T DiskError) : Type 0 where
  pub made : (d : DiskState) → old ≡ Some d → OnOk result (new ≡ Some (after_call d call))
  pub failed : (d : DiskState) → old ≡ Some d → IsErrOf result Failed → MayFailTo call d new
  pub memory : IsErrOf result Memory → new ≡ old
  pub untold : old ≡ None → new ≡ None

-- the first of the calls was made, and the others are left. At an error all are left; where none is, nothing is done.
abbrev pub MakesFirst : {T : Type 0} → List DiskCall → List DiskCall → Option DiskState → Option DiskState → Result T DiskError → Type 0
MakesFirst [] left old new result = (IsOk result) × (left ≡ []) × (new ≡ old)
MakesFirst (call ∷ calls) left old new result =
    Makes call old new result × OnOk result (left ≡ calls) × OnErr result (left ≡ call ∷ calls)

-- the turn after this one
abbrev pub turn_after : Turn → Option Turn
turn_after First = Some FirstSync
turn_after FirstSync = Some Second
turn_after Second = Some SecondSync
turn_after SecondSync = None

-- the call that is due in a turn: the first copy of a head, a sync, the second one, a sync
abbrev pub turn_call : List ℕ → Turn → DiskCall
turn_call page First = Write 0 page
turn_call page FirstSync = Sync
turn_call page Second = Write 1 page
turn_call page SecondSync = Sync

-- the calls of a turn that are left
abbrev pub turn_calls : List ℕ → Turn → List DiskCall
turn_calls page First = Write 0 page ∷ Sync ∷ Write 1 page ∷ Sync ∷ []
turn_calls page FirstSync = Sync ∷ Write 1 page ∷ Sync ∷ []
turn_calls page Second = Write 1 page ∷ Sync ∷ []
turn_calls page SecondSync = Sync ∷ []
