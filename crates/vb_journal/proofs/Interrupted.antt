-- Recoveries that crashes interrupt recover the same.
use Rattle.std.proofs.Common.{◌≡◌, ℕ, List, [], ◌∷◌, None, refl, subst, ◌∙◌, ◌⊎◌, inl, inr}
use Rattle.vb_disk.specs.Crashes.{MayCrashTo}
use Rattle.vb_disk.specs.States.{DiskState, read_at}
use Rattle.vb_journal.specs.declared.recover_stage.RecoverStage.{RecoverStage}
use Rattle.vb_journal.specs.declared.recover_stage.RecoverStage.TheVariants.{Ask, Settle, ReadFirst, ReadSecond, Mend, SettleMend, ReadImage, Replay, Ready, Refused}
use Rattle.vb_journal.specs.Interruptions.{AreInterrupted, AreSettled, Interruption, IsSteadyAt, left_by}
use Rattle.vb_journal.specs.Outcomes.{reads_of, recovery_on}
use Rattle.vb_journal.specs.Recovering.{IsRecovering, RecoversWhole}
use Rattle.vb_journal.proofs.AfterRecoveries.{EachRecovers-known}
use Rattle.vb_journal.proofs.SameRecoveries.{choice_of-same, recovery_on-same}
use Rattle.vb_journal.proofs.Settled.{read_of-crashed}

-- a crash of a disk whose places have one candidate each
crashed_settled : (d new : DiskState) → AreSettled d → MayCrashTo d new → recovery_on new ≡ recovery_on d
crashed_settled d new settled crash =
    let each : (p : ℕ) → read_at new p ≡ read_at d p = λ p. read_of-crashed (d.cells p) (new.cells p) (settled p) (crash.each p) in
    recovery_on-same d new crash.size (choice_of-same d.size (reads_of new) (reads_of d) (each 0) (each 1)) (λ p past. each p)

not_hurt : (begun : DiskState) (place : ℕ) (new : DiskState) → (begun.cells place).hurt ≡ None → (recovery_on new ≡ recovery_on begun) ⊎ RecoversWhole begun place new → recovery_on new ≡ recovery_on begun
not_hurt begun place new whole (inl same) = same
not_hurt begun place new whole (inr other) = absurd (cc (whole, other.hurt.1))

pub steady : (stage : RecoverStage) (begun d new : DiskState) → IsRecovering stage begun d → IsSteadyAt stage begun → MayCrashTo d new → recovery_on new ≡ recovery_on begun
steady Ask begun d new is settled crash = crashed_settled begun new settled (subst (λ (e : DiskState). MayCrashTo e new) is crash)
steady (Settle size) begun d new is settled crash = crashed_settled begun new settled (subst (λ (e : DiskState). MayCrashTo e new) is.0 crash)
steady (ReadFirst size) begun d new is going crash = EachRecovers-known (ReadFirst size) begun d is new crash
steady (ReadSecond first) begun d new is going crash = EachRecovers-known (ReadSecond first) begun d is new crash
steady (Mend mending) begun d new is whole crash = not_hurt begun mending.place new whole (EachRecovers-known (Mend mending) begun d is new crash)
steady (SettleMend mending) begun d new is whole crash = not_hurt begun mending.place new whole (EachRecovers-known (SettleMend mending) begun d is new crash)
steady (ReadImage journal) begun d new is going crash = EachRecovers-known (ReadImage journal) begun d is new crash
steady (Replay replay) begun d new is going crash = EachRecovers-known (Replay replay) begun d is new crash
steady (Ready ready) begun d new is going crash = EachRecovers-known (Ready ready) begun d is new crash
steady (Refused refusal) begun d new is going crash = EachRecovers-known (Refused refusal) begun d is new crash

pub interrupted : (begun : DiskState) (interruptions : List Interruption) → AreInterrupted begun interruptions → recovery_on (left_by begun interruptions) ≡ recovery_on begun
interrupted begun [] are = refl
interrupted begun (i ∷ is) are = interrupted i.left is are.3 ∙ steady i.stage begun i.at i.left are.0 are.1 are.2
