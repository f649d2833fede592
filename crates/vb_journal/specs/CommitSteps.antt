-- What a step of a commit gives, as one relation of the commit and the disk before it and after it.
use Rattle.std.specs.Prelude.{◌≡◌, ℕ, List, ◌∷◌, length, not, Result, IfOk, IsErrOf, OnErr, OnOk}
use Rattle.vb_cause.specs.Causes.{HasCause, UsesFailures}
use Rattle.vb_disk.specs.declared.disk_error.DiskError.{DiskError}
use Rattle.vb_disk.specs.declared.disk_error.DiskError.TheVariants.{Failed, Memory}
use Rattle.vb_disk.specs.States.{DiskCall, Sync}
use Rattle.vb_disk.specs.Within.{CrashesWithin}
use Rattle.vb_geometry.specs.Layout.{data_start}
use Rattle.vb_journal.specs.declared.commit.Commit.{Commit}
use Rattle.vb_journal.specs.declared.commit_stage.CommitStep.{CommitStep}
use Rattle.vb_journal.specs.Calls.{MakesFirst}
use Rattle.vb_journal.specs.Commits.{calls_left, epoch_of, head_of, images_of, stage_of}
use Rattle.vb_journal.specs.Data.{LeavesFrom}
use Rattle.vb_journal.specs.Plans.{answer_to, is_rested, next_stage}
use Rattle.vb_journal.specs.Progress.{GoesOn}
use Rattle.vb_steps.specs.Disks.{DiskView}
use Rattle.vb_steps.specs.Steps.{CallsOnce}

-- the first of the calls that were left was made, and the commit went on; or it failed, and the commit stays. The
-- fields say what the clauses of the step say, under the same names.
pub record CommitSteps (old new : Commit) (before after : DiskView) (result : Result CommitStep DiskError) : Type 0 where
  pub calls : MakesFirst (calls_left old) (calls_left new) before.told after.told result
  pub answer : IfOk result (λ step. step ≡ answer_to (length (images_of old)) (calls_left old))
  pub head : head_of new ≡ head_of old
  pub epoch : epoch_of new ≡ epoch_of old
  pub images : images_of new ≡ images_of old
  pub next : OnOk result (stage_of new ≡ next_stage (length (images_of old)) (stage_of old))
  pub stays : OnErr result (stage_of new ≡ stage_of old)
  pub seen : after.seen ≡ before.seen
  pub cause : HasCause Failed before.faults after.faults result
  pub left : UsesFailures Failed before.left after.left result
  pub called : CallsOnce Memory (not (is_rested (stage_of old))) before.calls after.calls result
  pub within : CrashesWithin before.told after.told
  pub no_memory : (calls : List DiskCall) → calls_left old ≡ Sync ∷ calls → IsErrOf result Memory → ⊥
  pub data_stands : LeavesFrom (data_start (head_of old).nodes) before.told after.told result
  pub crash : (homes journal : ℕ → List ℕ) → GoesOn (head_of old) (epoch_of old) (images_of old) homes journal (stage_of old) (stage_of new) before.told after.told
