-- The answers that are left of a commit lead to its rest.
use Rattle.std.proofs.Common.{◌≡◌, ◌≢◌, List, [], ◌∷◌, ◌++◌, refl, ap, sym, ◌∙◌, append-nil}
use Rattle.vb_hist.specs.declared.entry.Stage.{Stage}
use Rattle.vb_hist.specs.declared.entry.Stage.TheVariants.{Rested, Written, Committed}
use Rattle.vb_journal.specs.declared.commit_stage.CommitStep.{CommitStep}
use Rattle.vb_journal.specs.declared.commit_stage.CommitStep.TheVariants as commits
use Rattle.vb_event.specs.declared.answer.FolderAnswer.TheVariants as answers
use Rattle.vb_event.specs.declared.event.FolderEvent.TheVariants as events
use Rattle.vb_event.specs.Core.{Core, Given, BringToRest}
use Rattle.vb_event.specs.Answers.{commit_answer}
use Rattle.vb_event.specs.Steps.{after_answers, core_after, rest_of}

-- the last of the answers that are left is the rest
pub end-rested : (stage : Stage) (left : List CommitStep) → BringToRest stage left → stage ≢ Rested → (front : List CommitStep) × (left ≡ front ++ commits.Rested ∷ [])
end-rested Rested left brings on = absurd (on refl)
end-rested Written (commits.Wrote ∷ left) brings on = (let rest = end-rested Written left brings on in (commits.Wrote ∷ rest.0, ap (λ l. commits.Wrote ∷ l) rest.1))
end-rested Written (commits.Synced ∷ left) brings on = (let rest = end-rested Written left brings on in (commits.Synced ∷ rest.0, ap (λ l. commits.Synced ∷ l) rest.1))
end-rested Written (commits.Committed ∷ left) brings on = (let rest = end-rested Committed left brings (λ r. cc) in (commits.Committed ∷ rest.0, ap (λ l. commits.Committed ∷ l) rest.1))
end-rested Committed (commits.Wrote ∷ left) brings on = (let rest = end-rested Committed left brings on in (commits.Wrote ∷ rest.0, ap (λ l. commits.Wrote ∷ l) rest.1))
end-rested Committed (commits.Synced ∷ left) brings on = (let rest = end-rested Committed left brings on in (commits.Synced ∷ rest.0, ap (λ l. commits.Synced ∷ l) rest.1))
end-rested Committed (commits.Rested ∷ []) brings on = ([], refl)
end-rested stage left brings on = absurd brings

-- each answer is taken from what is left
left-step : (core : Core) (given : Given) (step : CommitStep) → (core_after given core events.CommitStep (answers.CommitStepped step)).left ≡ rest_of core.left
left-step core given commits.Wrote = refl
left-step core given commits.Synced = refl
left-step core given commits.Committed = refl
left-step core given commits.Rested = refl
left-step core given commits.Idle = refl

left-after : (core : Core) (given : Given) (front back : List CommitStep) → core.left ≡ front ++ back → (after_answers given core front).left ≡ back
left-after core given [] back h = h
left-after core given (step ∷ front) back h =
    left-after (core_after given core events.CommitStep (answers.CommitStepped step)) given front back (left-step core given step ∙ ap rest_of h)

-- so each answer is the one that is due
pub answer-due : (core : Core) (given : Given) (front back : List CommitStep) (step : CommitStep) → core.left ≡ front ++ step ∷ back → commit_answer (after_answers given core front).left ≡ step
answer-due core given front back step h = ap commit_answer (left-after core given front (step ∷ back) h)

rested-after : (core : Core) (given : Given) (stage : Stage) (left : List CommitStep) → core.stage ≡ stage → BringToRest stage left → (after_answers given core left).stage ≡ Rested
rested-after core given Rested [] is brings = is
rested-after core given Written (commits.Wrote ∷ left) is brings = rested-after (core_after given core events.CommitStep (answers.CommitStepped commits.Wrote)) given Written left is brings
rested-after core given Written (commits.Synced ∷ left) is brings = rested-after (core_after given core events.CommitStep (answers.CommitStepped commits.Synced)) given Written left is brings
rested-after core given Written (commits.Committed ∷ left) is brings = rested-after (core_after given core events.CommitStep (answers.CommitStepped commits.Committed)) given Committed left refl brings
rested-after core given Committed (commits.Wrote ∷ left) is brings = rested-after (core_after given core events.CommitStep (answers.CommitStepped commits.Wrote)) given Committed left is brings
rested-after core given Committed (commits.Synced ∷ left) is brings = rested-after (core_after given core events.CommitStep (answers.CommitStepped commits.Synced)) given Committed left is brings
rested-after core given Committed (commits.Rested ∷ left) is brings = rested-after (core_after given core events.CommitStep (answers.CommitStepped commits.Rested)) given Rested left refl brings
rested-after core given stage left is brings = absurd brings

-- after all of them nothing is left, and the commit rests
pub all-rest : (core : Core) (given : Given) → BringToRest core.stage core.left → ((after_answers given core core.left).stage ≡ Rested) × ((after_answers given core core.left).left ≡ [])
all-rest core given brings = (rested-after core given core.stage core.left refl brings, left-after core given core.left [] (sym (append-nil core.left)))
