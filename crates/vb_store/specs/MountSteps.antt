-- What a step of a mount gives, as one relation of the mount and the disk before it and after it.
use Rattle.std.specs.Prelude.{◌≡◌, ◌≢◌, ◌≤◌, ℕ, List, is_some, Some, Result, Err, IfErr, IfOk}
use Rattle.vb_cause.specs.Causes.{HasCause, UsesFailures}
use Rattle.vb_disk.specs.States.{DiskState}
use Rattle.vb_disk.specs.Within.{CrashesWithin}
use Rattle.vb_journal.specs.declared.recover.Ahead.{Ahead}
use Rattle.vb_journal.specs.declared.recover_error.RecoverError.{RecoverError}
use Rattle.vb_journal.specs.declared.recover_error.RecoverError.TheVariants.{Damaged, DiskFault, Memory}
use Rattle.vb_journal.specs.Recovering.{MakesCall, SeenStays}
use Rattle.vb_journal.specs.RecoveryCalls.{Falls}
use Rattle.vb_steps.specs.Disks.{DiskView}
use Rattle.vb_steps.specs.Steps.{CallsOnce}
use Rattle.vb_store.specs.declared.mount_phase.MountPhase.{MountPhase}
use Rattle.vb_store.specs.MountFalls.{most_mount_calls}
use Rattle.vb_store.specs.MountsBeside.{KeepsBeside}
use Rattle.vb_store.specs.Mounts.{AnswersMount, HasMountEnded, IsAheadOfMount, IsMounting, MakesNext, MountsOn, MountStandsAfter, blocks_of_mount, due_of_mount, mount_calls_left, relied_on}

-- the call that was due was made, and the mount went on or has ended; or it failed, and the mount stays. The fields say
-- what the clauses of the step say, under the same names.
pub record MountSteps (old new : MountPhase) (before after : DiskView) (result : Result Ahead RecoverError) : Type 0 where
  pub calls : MakesCall (due_of_mount old) before.told after.told result
  pub ahead : IfOk result (λ ahead. IsAheadOfMount ahead new)
  pub error : IfErr result (MountStandsAfter old new)
  pub again : (error : RecoverError) → HasMountEnded old error → result ≡ Err error
  pub cause : HasCause DiskFault before.faults after.faults result
  pub left : UsesFailures DiskFault before.left after.left result
  pub called : CallsOnce Memory (is_some (due_of_mount old)) before.calls after.calls result
  pub differ : (place : ℕ) (kept found : List ℕ) → result ≡ Err (Damaged place kept found) → kept ≢ found
  pub seen : SeenStays (due_of_mount old) before.seen after.seen
  pub blocks : blocks_of_mount new ≤ after.seen
  pub relied : relied_on old ≤ before.seen → relied_on new ≤ after.seen
  pub answer : (begun d : DiskState) → before.told ≡ Some d → IsMounting old begun d → AnswersMount begun new result
  pub list : (begun d next : DiskState) → before.told ≡ Some d → after.told ≡ Some next → IsMounting old begun d
      → MakesNext (due_of_mount old) (mount_calls_left old begun d) (mount_calls_left new begun next) result
  pub falls : Falls (due_of_mount old) (most_mount_calls old) (most_mount_calls new) result
  pub within : CrashesWithin before.told after.told
  pub crash : MountsOn old new before.told after.told
  pub keeps : KeepsBeside old new before.told after.told
