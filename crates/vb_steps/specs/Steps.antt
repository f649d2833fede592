-- What a step of a machine leaves.
use Rattle.std.specs.Prelude.{◌≡◌, ◌⊎◌, ℕ, Bool, true, false, Option, Some, None, Result, IfOk, OnOk, OnErr, IsErrOf}
use Rattle.vb_cause.specs.Faults.{counted}
use Rattle.vb_disk.specs.declared.disk_error.DiskError.{DiskError}
use Rattle.vb_disk.specs.declared.disk_error.DiskError.TheVariants.{Memory}
use Rattle.vb_disk.specs.Moments.{EachMoment}
use Rattle.vb_disk.specs.States.{DiskState}
use Rattle.vb_steps.specs.declared.due.Got.{Got}
use Rattle.vb_steps.specs.Calls.{Call, Fits, MayFailTo, after, answer_of, is_change}

-- the disk is told, and is what this call may have left that failed
pub record Failed (call : Call) (d : DiskState) (new : Option DiskState) : Type 0 where
  pub next : DiskState
  pub told : new ≡ Some next
  pub left : MayFailTo call d next

-- the call was made, and gave what is of its kind. Over a disk that tells it gave what stands there.
pub record Went (call : Call) (Goes : Got → Type 0) (old new : Option DiskState) : Type 0 where
  pub got : Got
  pub fits : Fits call got
  pub goes : Goes got
  pub gives : (d : DiskState) → old ≡ Some d → got ≡ answer_of d call
  pub made : (d : DiskState) → old ≡ Some d → new ≡ Some (after d call)

-- the call was made, and what it gave is handed on; or it failed; or for want of memory it wasn't made
pub record Makes (call : Call) (old new : Option DiskState) (result : Result Got DiskError) : Type 0 where
  pub fits : IfOk result (Fits call)
  pub gives : (d : DiskState) → old ≡ Some d → IfOk result (λ got. got ≡ answer_of d call)
  pub made : (d : DiskState) → old ≡ Some d → OnOk result (new ≡ Some (after d call))
  pub failed : (d : DiskState) → old ≡ Some d → OnErr result (Failed call d new)
  pub memory : IsErrOf result Memory → new ≡ old
  pub untold : old ≡ None → new ≡ None
  pub calm : is_change call ≡ false → new ≡ old

-- a step made the call that was due, and the machine went on; or it failed, and the machine stays. Each moment within
-- the step is the disk from before it or the one after it.
pub record Steps {T : Type 0} (call : Call) (Goes : Got → Type 0) (Stays : Type 0) (old new : Option DiskState) (result : Result T DiskError) : Type 0 where
  pub went : OnOk result (Went call Goes old new)
  pub stays : OnErr result Stays
  pub failed : (d : DiskState) → old ≡ Some d → OnErr result (Failed call d new)
  pub memory : IsErrOf result Memory → new ≡ old
  pub untold : old ≡ None → new ≡ None
  pub calm : is_change call ≡ false → new ≡ old
  pub moments : (d next : DiskState) → old ≡ Some d → new ≡ Some next → EachMoment (λ m. (m ≡ d) ⊎ (m ≡ next)) d next

-- how many calls were made: none where none was due, and else exactly one, unless this error came, for want of memory,
-- which may come before the call
pub record CallsOnce {T E : Type 0} (error : E) (due : Bool) (before after : ℕ) (result : Result T E) : Type 0 where
  pub none : due ≡ false → after ≡ before
  pub once : due ≡ true → (IsErrOf result error → ⊥) → after ≡ counted before
  pub at_most : IsErrOf result error → (after ≡ before) ⊎ (after ≡ counted before)
