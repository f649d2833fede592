-- The answers of a whole plan bring a commit to its rest, and each step goes on so.
use Rattle.std.proofs.Common.{◌≡◌, ℕ, zero, suc, List, [], ◌∷◌, ◌++◌, length, Ok, Err, sym, subst}
use Rattle.std.specs.Prelude.{◌-◌, replicate}
use Rattle.vb_disk.specs.declared.disk_error.DiskError.{DiskError}
use Rattle.vb_event.specs.Answers.{commit_answer}
use Rattle.vb_event.specs.Core.{BringToRest}
use Rattle.vb_event.specs.Steps.{rest_of}
use Rattle.vb_hist.specs.declared.entry.Stage.{Stage}
use Rattle.vb_hist.specs.declared.entry.Stage.TheVariants as stages
use Rattle.vb_journal.specs.declared.commit_stage.CommitStep.{CommitStep}
use Rattle.vb_journal.specs.declared.commit_stage.CommitStep.TheVariants.{Wrote, Synced, Committed, Rested, Idle}
use Rattle.vb_local.specs.Answers.{answers_of_plan, GivesFirst}
use Rattle.vb_plan.specs.Plans.{PlanState}
use Rattle.vb_folder.specs.Events.{stage_after}

-- ---- a whole plan

written-many : (n : ℕ) (left : List CommitStep) → BringToRest stages.Written left → BringToRest stages.Written (replicate n Wrote ++ left)
written-many zero left rests = rests
written-many (suc n) left rests = written-many n left rests

committed-many : (n : ℕ) (left : List CommitStep) → BringToRest stages.Committed left → BringToRest stages.Committed (replicate n Wrote ++ left)
committed-many zero left rests = rests
committed-many (suc n) left rests = committed-many n left rests

pub plan-rests : (plan : PlanState) → BringToRest stages.Written (answers_of_plan plan)
plan-rests plan =
    written-many (length plan.pages) _ (written-many (length plan.images - 0) _ (committed-many (length plan.images) _ tt))

-- ---- a step

pub gives-due : (old new : List CommitStep) (step : CommitStep) → GivesFirst old new (Ok step) → step ≡ commit_answer old
gives-due [] new step gives = (let e : Ok step ≡ Ok Idle = gives.0 in cc e)
gives-due (first ∷ others) new step gives = gives.0

pub gives-rest : (old new : List CommitStep) (step : CommitStep) → GivesFirst old new (Ok step) → new ≡ rest_of old
gives-rest [] new step gives = gives.1
gives-rest (first ∷ others) new step gives = gives.1

pub gives-all : (old new : List CommitStep) (error : DiskError) → GivesFirst old new (Err error) → new ≡ old
gives-all [] new error gives = absurd (cc (gives.0))
gives-all (first ∷ others) new error gives = gives

-- what is left after a step of a stage
left-behind : (stage : Stage) (step : CommitStep) (others : List CommitStep) → BringToRest stage (step ∷ others) → BringToRest (stage_after stage step) others
left-behind stages.Rested step others rests = absurd rests
left-behind stages.Written Wrote others rests = rests
left-behind stages.Written Synced others rests = rests
left-behind stages.Written Committed others rests = rests
left-behind stages.Written Rested others rests = absurd rests
left-behind stages.Written Idle others rests = absurd rests
left-behind stages.Committed Wrote others rests = rests
left-behind stages.Committed Synced others rests = rests
left-behind stages.Committed Committed others rests = absurd rests
left-behind stages.Committed Rested others rests = rests
left-behind stages.Committed Idle others rests = absurd rests

none-left : (stage : Stage) (step : CommitStep) → step ≡ Idle → BringToRest stage [] → BringToRest (stage_after stage step) []
none-left stage step idle rests = subst (λ (s : CommitStep). BringToRest (stage_after stage s) []) (sym idle) rests

pub gives-left : (stage : Stage) (old new : List CommitStep) (step : CommitStep) → GivesFirst old new (Ok step) → BringToRest stage old → BringToRest (stage_after stage step) new
gives-left stage [] new step gives rests = subst (BringToRest (stage_after stage step)) (sym gives.1) (none-left stage step (let e : Ok step ≡ Ok Idle = gives.0 in cc e) rests)
gives-left stage (first ∷ others) new step gives rests =
    subst (BringToRest (stage_after stage step)) (sym gives.1)
    (subst (λ (s : CommitStep). BringToRest (stage_after stage s) others) (sym gives.0) (left-behind stage first others rests))
