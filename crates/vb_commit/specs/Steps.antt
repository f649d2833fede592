-- What a step of a commit gives, as one relation of the commit and the disk before it and after it, which callers cite.
use Rattle.std.specs.Prelude.{◌≡◌, ℕ, ◌-◌, false, List, Option, Some, Result, IfOk, IsErrOf, OnOk}
use Rattle.vb_cause.specs.Causes.{HasCause, UsesFailures}
use Rattle.vb_disk.specs.declared.disk_error.DiskError.{DiskError}
use Rattle.vb_disk.specs.declared.disk_error.DiskError.TheVariants.{Failed, Memory}
use Rattle.vb_disk.specs.States.{DiskState}
use Rattle.vb_disk.specs.Within.{CrashesWithin}
use Rattle.vb_journal.specs.declared.commit_stage.CommitStep.{CommitStep}
use Rattle.vb_journal.specs.Calls.{MakesFirst}
use Rattle.vb_plan.specs.declared.plan_page.PlanPage.{PlanPage}
use Rattle.vb_steps.specs.Calls.{is_due, is_write}
use Rattle.vb_steps.specs.Disks.{DiskView}
use Rattle.vb_steps.specs.Steps as steps
use Rattle.vb_steps.specs.Steps.{CallsOnce}
use Rattle.vb_commit.specs.Known.{GoesTo, IsCommittingFor, OthersStand}
use Rattle.vb_commit.specs.Ways.{IsGivenFrom, IsWay, WayState, answer_of, call_at, calls_left, first_data, next_of, steps_left}

-- the call that was due was made, with this page where one was given, and the commit went on; or it failed, and the
-- commit stays
pub record WaySteps (old : WayState) (given : Option (List ℕ)) (new : WayState) (before after : DiskView) (result : Result CommitStep DiskError) : Type 0 where
  -- the call; and over a told disk each moment within the step is the disk before it or after it
  pub steps : steps.Steps {T = CommitStep} (call_at old given) (λ got. new ≡ next_of old) (new ≡ old) before.told after.told result
  -- the first of the calls that are left was made, whichever view the pages are of
  pub calls : (source : ℕ → ℕ → List ℕ) → IsGivenFrom source old.pages given → MakesFirst (calls_left source old) (calls_left source new) before.told after.told result
  pub head : new.head ≡ old.head
  pub epoch : new.epoch ≡ old.epoch
  pub images : new.images ≡ old.images
  pub answer : IfOk result (λ step. step ≡ answer_of old)
  pub falls : OnOk result (steps_left new ≡ steps_left old - 1)
  -- one call, whatever the disk tells; the error has its cause, and a sync wants no memory
  pub called : CallsOnce Memory (is_due (call_at old given)) before.calls after.calls result
  pub seen : after.seen ≡ before.seen
  pub cause : HasCause Failed before.faults after.faults result
  pub left : UsesFailures Failed before.left after.left result
  pub within : CrashesWithin before.told after.told
  pub no_memory : is_write (call_at old given) ≡ false → IsErrOf result Memory → ⊥
  -- of the places of data it writes that of the page that is due alone
  pub others : (d next : DiskState) → before.told ≡ Some d → after.told ≡ Some next → OthersStand (first_data old.head) old.pages d next
  -- what is true of each commit on its way is true of both
  pub old_is : IsWay old
  pub new_is : IsWay new
  -- a disk that is known stays known
  pub known : (source : ℕ → ℕ → List ℕ) (homes journal : ℕ → List ℕ) (plan : List PlanPage) (d : DiskState)
      → IsGivenFrom source old.pages given → before.told ≡ Some d → IsCommittingFor source homes journal plan old d
      → GoesTo source homes journal plan old new d after.told
