-- How much room for entries a commit step leaves.
use Rattle.std.proofs.Common.{◌≡◌, ℕ, ◌-◌, false, List, [], ◌∷◌, length, Ok, Err, refl, sym, subst, ap, ◌∙◌, arith}
use Rattle.std.specs.Prelude.{max, min}
use Rattle.vb_disk.specs.declared.disk_error.DiskError.{DiskError}
use Rattle.vb_event.specs.Answers.{commit_answer}
use Rattle.vb_event.specs.Core.{BringToRest, is_rested}
use Rattle.vb_event.specs.Steps.{pushed_by_commit, room_after}
use Rattle.vb_event.specs.declared.answer.FolderAnswer.TheVariants as answers
use Rattle.vb_hist.specs.Histories.{Recorded}
use Rattle.vb_hist.specs.declared.entry.Stage.{Stage}
use Rattle.vb_hist.specs.declared.entry.Stage.TheVariants as stages
use Rattle.vb_journal.specs.declared.commit_stage.CommitStep.{CommitStep}
use Rattle.vb_journal.specs.declared.commit_stage.CommitStep.TheVariants.{Wrote, Synced, Committed, Rested, Idle}
use Rattle.vb_local.specs.Answers.{GivesFirst}
use Rattle.vb_folder.specs.Events.{disk_fault}
use Rattle.vb_folder.proofs.PlanAnswers.{gives-due}

-- answers that bring a commit to its rest don't say that none is on
never-idle : (stage : Stage) (left : List CommitStep) → is_rested stage ≡ false → BringToRest stage left → commit_answer left ≡ Idle → ⊥
never-idle stages.Rested left going rests idle = cc going
never-idle stages.Written [] going rests idle = rests
never-idle stages.Written (Wrote ∷ left) going rests idle = cc idle
never-idle stages.Written (Synced ∷ left) going rests idle = cc idle
never-idle stages.Written (Committed ∷ left) going rests idle = cc idle
never-idle stages.Written (Rested ∷ left) going rests idle = rests
never-idle stages.Written (Idle ∷ left) going rests idle = rests
never-idle stages.Committed [] going rests idle = rests
never-idle stages.Committed (Wrote ∷ left) going rests idle = cc idle
never-idle stages.Committed (Synced ∷ left) going rests idle = cc idle
never-idle stages.Committed (Committed ∷ left) going rests idle = rests
never-idle stages.Committed (Rested ∷ left) going rests idle = cc idle
never-idle stages.Committed (Idle ∷ left) going rests idle = rests

-- room for one entry was made before each step of a commit that is on
room-of : (step : CommitStep) (n : ℕ) → (step ≡ Idle → ⊥) → max n 1 ≡ room_after n (answers.CommitStepped step)
room-of Wrote n other = refl
room-of Synced n other = refl
room-of Committed n other = refl
room-of Rested n other = refl
room-of Idle n other = absurd (other refl)

-- after a step that was made
pub step-spare : (step : CommitStep) (stage : Stage) (left rest : List CommitStep) (was : ℕ) (roomed history : Recorded) (epoch : ℕ) → is_rested stage ≡ false → BringToRest stage left → GivesFirst left rest (Ok step) → roomed.spare ≡ max was 1 → history.spare ≡ roomed.spare - length (pushed_by_commit epoch (answers.CommitStepped step)) → history.spare ≡ room_after was (answers.CommitStepped step) - length (pushed_by_commit epoch (answers.CommitStepped step))
step-spare step stage left rest was roomed history epoch going rests gives room noted =
    noted ∙ ap (λ (n : ℕ). n - length (pushed_by_commit epoch (answers.CommitStepped step))) (room ∙ room-of step was (λ idle. never-idle stage left going rests (sym (gives-due left rest step gives) ∙ idle)))

-- after an error the room is as it was
pub error-spare : (error : DiskError) (was kept : ℕ) (roomed history : Recorded) (epoch : ℕ) → roomed.spare ≡ max was 1 → kept ≡ was → history.spare ≡ min roomed.spare kept → history.spare ≡ room_after was (answers.Fault (disk_fault error)) - length (pushed_by_commit epoch (answers.Fault (disk_fault error)))
error-spare error was kept roomed history epoch room same forgot = (let e : history.spare ≡ was - 0 = forgot ∙ ap (λ (n : ℕ). min n kept) room ∙ ap (min (max was 1)) same ∙ least was in e) where
  least : (n : ℕ) → min (max n 1) n ≡ n - 0
  least n = omega arith
