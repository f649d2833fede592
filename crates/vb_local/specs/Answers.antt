-- The answers that the steps of a commit will still give, in their order.
use Rattle.std.specs.Prelude.{◌≡◌, ℕ, ◌-◌, Bool, true, false, List, [], ◌∷◌, ◌++◌, length, replicate, Result, Ok, Err}
use Rattle.vb_commit.specs.Ways.{WayState}
use Rattle.vb_disk.specs.declared.disk_error.DiskError.{DiskError}
use Rattle.vb_journal.specs.declared.commit_stage.CommitStep.{CommitStep}
use Rattle.vb_journal.specs.declared.commit_stage.CommitStep.TheVariants.{Wrote, Synced, Committed, Idle, Rested as RestedNow}
use Rattle.vb_journal.specs.declared.commit_stage.Stage.{Stage}
use Rattle.vb_journal.specs.declared.commit_stage.Stage.TheVariants.{Journal, Opening, Homes, Closing, Rested}
use Rattle.vb_journal.specs.declared.commit_stage.Turn.{Turn}
use Rattle.vb_journal.specs.declared.commit_stage.Turn.TheVariants.{First, FirstSync, Second, SecondSync}
use Rattle.vb_plan.specs.Plans.{PlanState}
use Rattle.vb_store.specs.Views.{ViewState}
use Rattle.vb_local.specs.Phases.{plan_over}
use Rattle.vb_local.specs.States.{LocalState, PhaseState, Rests, Waits, Writes}

-- the answers to the calls of two heads that are left, of which the last has this one
abbrev pub turn_answers : CommitStep → Turn → List CommitStep
turn_answers last First = Wrote ∷ Synced ∷ Wrote ∷ last ∷ []
turn_answers last FirstSync = Synced ∷ Wrote ∷ last ∷ []
turn_answers last Second = Wrote ∷ last ∷ []
turn_answers last SecondSync = last ∷ []

-- so many writes, and a sync
abbrev pub writes_then : ℕ → List CommitStep → List CommitStep
writes_then count then = replicate count Wrote ++ Synced ∷ then

-- those of the journal's commit from a stage on, with so many images
abbrev pub answers_from : ℕ → Stage → List CommitStep
answers_from count (Journal next) = writes_then (count - next) (turn_answers Committed First ++ writes_then count (turn_answers RestedNow First))
answers_from count (Opening turn) = turn_answers Committed turn ++ writes_then count (turn_answers RestedNow First)
answers_from count (Homes next) = writes_then (count - next) (turn_answers RestedNow First)
answers_from count (Closing turn) = turn_answers RestedNow turn
answers_from count Rested = []

-- those of a commit on its way: a write for each page that is left, and then the journal's
abbrev pub answers_of_way : WayState → List CommitStep
answers_of_way way = replicate (length way.pages) Wrote ++ answers_from (length way.images) way.stage

-- those of a whole plan
abbrev pub answers_of_plan : PlanState → List CommitStep
answers_of_plan plan = replicate (length plan.pages) Wrote ++ answers_from (length plan.images) (Journal 0)

-- those that are left in a phase
abbrev pub answers_in : ViewState → PhaseState → List CommitStep
answers_in v (Rests frozen) = []
answers_in v (Waits frozen epoch) = answers_of_plan (plan_over v frozen)
answers_in v (Writes frozen way) = answers_of_way way

-- those that are left of a folder's commit
abbrev pub answers_left : LocalState → List CommitStep
answers_left s = answers_in s.view s.phase

-- the first of these answers was given, and the others are left; after an error all are. Where none is left it is Idle.
abbrev pub GivesFirst : List CommitStep → List CommitStep → Result CommitStep DiskError → Type 0
GivesFirst [] left result = (result ≡ Ok Idle) × (left ≡ [])
GivesFirst (answer ∷ answers) left (Ok step) = (step ≡ answer) × (left ≡ answers)
GivesFirst (answer ∷ answers) left (Err error) = left ≡ answer ∷ answers

-- ---- how they end

-- whether no crash loses the view of a commit at a stage
abbrev pub is_committed : Stage → Bool
is_committed (Journal next) = false
is_committed (Opening turn) = false
is_committed (Homes next) = true
is_committed (Closing turn) = true
is_committed Rested = true

-- whether that is so in a phase
abbrev pub is_committed_in : PhaseState → Bool
is_committed_in (Rests frozen) = true
is_committed_in (Waits frozen epoch) = false
is_committed_in (Writes frozen way) = is_committed way.stage

-- these answers bring a commit to its rest, which was committed before or wasn't: where it wasn't it is committed once, and
-- then it rests, with the last of them
abbrev pub EndAtRest : Bool → List CommitStep → Type 0
EndAtRest committed (Wrote ∷ left) = EndAtRest committed left
EndAtRest committed (Synced ∷ left) = EndAtRest committed left
EndAtRest false (Committed ∷ left) = EndAtRest true left
EndAtRest true (RestedNow ∷ left) = left ≡ []
EndAtRest committed left = ⊥
