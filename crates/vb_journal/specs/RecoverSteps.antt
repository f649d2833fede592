-- What a step of a recovery gives, as one relation of the recovery and the disk before it and after it.
use Rattle.std.specs.Prelude.{◌≡◌, ◌≢◌, ◌≤◌, ℕ, List, true, is_some, Some, None, Result, Err, IfErr, IfOk, OnErr, OnOk}
use Rattle.vb_cause.specs.Causes.{HasCause, UsesFailures}
use Rattle.vb_disk.specs.States.{DiskState}
use Rattle.vb_disk.specs.Within.{CrashesWithin}
use Rattle.vb_journal.specs.declared.recover.Ahead.{Ahead}
use Rattle.vb_journal.specs.declared.recover.Recover.{Recover}
use Rattle.vb_journal.specs.declared.recover_error.RecoverError.{RecoverError}
use Rattle.vb_journal.specs.declared.recover_error.RecoverError.TheVariants.{Damaged, DiskFault, Memory}
use Rattle.vb_journal.specs.Interruptions.{is_synced}
use Rattle.vb_journal.specs.Notes.{slots_noted, slots_with, HasNoted}
use Rattle.vb_journal.specs.Recovering.{blocks_of, due_of, HasEnded, IsRecovering, MakesCall, RecoversOn, SeenStays, StandsAfter, TakesImage}
use Rattle.vb_journal.specs.Recovers.{lent_image, recovery_stage, AnswersRecovery, IsAheadOf, Lends}
use Rattle.vb_journal.specs.RecoveryCalls.{most_calls_left, recovery_calls_left, Falls, Leaves}
use Rattle.vb_steps.specs.Disks.{DiskView}
use Rattle.vb_steps.specs.Steps.{CallsOnce}

-- the call that was due was made, and the recovery went on or has ended; or it failed, and the recovery stays. The
-- fields say what the clauses of the step say, under the same names.
pub record RecoverSteps (old new : Recover) (before after : DiskView) (result : Result Ahead RecoverError) : Type 0 where
  pub calls : MakesCall (due_of (recovery_stage old)) before.told after.told result
  pub ahead : IfOk result (λ ahead. IsAheadOf ahead (recovery_stage new))
  pub error : IfErr result (StandsAfter (recovery_stage old) (recovery_stage new))
  pub again : (error : RecoverError) → HasEnded (recovery_stage old) error → result ≡ Err error
  pub cause : HasCause DiskFault before.faults after.faults result
  pub differ : (place : ℕ) (kept found : List ℕ) → result ≡ Err (Damaged place kept found) → kept ≢ found
  pub seen : SeenStays (due_of (recovery_stage old)) before.seen after.seen
  pub blocks : blocks_of (recovery_stage new) ≤ after.seen
  pub image : OnOk result (Lends (recovery_stage old) (lent_image new) before.told)
  pub no_image : OnErr result (lent_image new ≡ None)
  pub images : OnOk result (TakesImage (recovery_stage old) (recovery_stage new) before.told)
  pub answer : (begun d : DiskState) → before.told ≡ Some d → IsRecovering (recovery_stage old) begun d → AnswersRecovery begun (recovery_stage new) result
  pub list : (begun d : DiskState) → before.told ≡ Some d → IsRecovering (recovery_stage old) begun d
      → Leaves (due_of (recovery_stage old)) (recovery_calls_left (recovery_stage old) begun) (recovery_calls_left (recovery_stage new) begun) result
  pub noted : (begun d : DiskState) → before.told ≡ Some d → IsRecovering (recovery_stage old) begun d → HasNoted old begun → HasNoted new begun
  pub slots : slots_noted new ≡ slots_with (slots_noted old) (lent_image new)
  pub order : is_synced (recovery_stage old) ≡ true → is_synced (recovery_stage new) ≡ true
  pub left : UsesFailures DiskFault before.left after.left result
  pub called : CallsOnce Memory (is_some (due_of (recovery_stage old))) before.calls after.calls result
  pub within : CrashesWithin before.told after.told
  pub falls : Falls (due_of (recovery_stage old)) (most_calls_left (recovery_stage old)) (most_calls_left (recovery_stage new)) result
  pub crash : RecoversOn (recovery_stage old) (recovery_stage new) before.told after.told
