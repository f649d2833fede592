-- The answers that are left while a commit is on: some, and they bring it to its rest.
use Rattle.std.proofs.Common.{◌≡◌, ℕ, zero, suc, ◌-◌, Bool, true, false, List, [], ◌∷◌, ◌++◌, length, replicate, refl, sym, subst}
use Rattle.std.proofs.lemmas.Bool.{false≢true}
use Rattle.vb_journal.specs.declared.commit_stage.CommitStep.{CommitStep}
use Rattle.vb_journal.specs.declared.commit_stage.CommitStep.TheVariants.{Wrote, Synced, Committed, Rested as RestedNow}
use Rattle.vb_journal.specs.declared.commit_stage.Stage.{Stage}
use Rattle.vb_journal.specs.declared.commit_stage.Stage.TheVariants.{Journal, Opening, Homes, Closing, Rested}
use Rattle.vb_journal.specs.declared.commit_stage.Turn.{Turn}
use Rattle.vb_journal.specs.declared.commit_stage.Turn.TheVariants.{First, FirstSync, Second, SecondSync}
use Rattle.vb_journal.specs.Plans.{is_rested}
use Rattle.vb_local.specs.Answers.{answers_from, answers_in, answers_left, is_committed, is_committed_in, turn_answers, writes_then, EndAtRest}
use Rattle.vb_local.specs.Phases.{plan_over, AreTied, IsTiedIn}
use Rattle.vb_local.specs.States.{is_on, LocalState, PhaseState, Rests, Waits, Writes}
use Rattle.vb_active.specs.Views.{ActiveState}
use Rattle.vb_store.specs.Views.{ViewState}

-- ---- the pieces

writes-end : (committed : Bool) (count : ℕ) (then : List CommitStep) → EndAtRest committed then → EndAtRest committed (replicate count Wrote ++ then)
writes-end committed zero then ends = ends
writes-end committed (suc count) then ends = writes-end committed count then ends

closing-ends : (turn : Turn) → EndAtRest true (turn_answers RestedNow turn)
closing-ends First = refl
closing-ends FirstSync = refl
closing-ends Second = refl
closing-ends SecondSync = refl

opening-ends : (turn : Turn) (then : List CommitStep) → EndAtRest true then → EndAtRest false (turn_answers Committed turn ++ then)
opening-ends First then ends = ends
opening-ends FirstSync then ends = ends
opening-ends Second then ends = ends
opening-ends SecondSync then ends = ends

homes-end : (count : ℕ) → EndAtRest true (writes_then count (turn_answers RestedNow First))
homes-end count = writes-end true count (Synced ∷ turn_answers RestedNow First) (closing-ends First)

-- ---- the whole

stage-ends : (count : ℕ) (stage : Stage) → is_rested stage ≡ false → EndAtRest (is_committed stage) (answers_from count stage)
stage-ends count (Journal next) going = writes-end false (count - next) (Synced ∷ turn_answers Committed First ++ writes_then count (turn_answers RestedNow First)) (opening-ends First (writes_then count (turn_answers RestedNow First)) (homes-end count))
stage-ends count (Opening turn) going = opening-ends turn (writes_then count (turn_answers RestedNow First)) (homes-end count)
stage-ends count (Homes next) going = homes-end (count - next)
stage-ends count (Closing turn) going = closing-ends turn
stage-ends count Rested going = absurd (false≢true (sym going))

phase-ends : (v : ViewState) (live : ActiveState) (phase : PhaseState) → IsTiedIn v live phase → is_on phase ≡ true → EndAtRest (is_committed_in phase) (answers_in v phase)
phase-ends v live (Rests frozen) tied on = absurd (false≢true on)
phase-ends v live (Waits frozen epoch) tied on = writes-end false (length (plan_over v frozen).pages) (answers_from (length (plan_over v frozen).images) (Journal 0)) (stage-ends (length (plan_over v frozen).images) (Journal 0) refl)
phase-ends v live (Writes frozen way) tied on = writes-end (is_committed way.stage) (length way.pages) (answers_from (length way.images) way.stage) (stage-ends (length way.images) way.stage tied.going)

pub answers-end : (s : LocalState) → AreTied s → is_on s.phase ≡ true → EndAtRest (is_committed_in s.phase) (answers_left s)
answers-end s tied on = phase-ends s.view s.live s.phase tied.phase on

-- ---- none is left at rest, and only there

none-in : (v : ViewState) (phase : PhaseState) → is_on phase ≡ false → answers_in v phase ≡ []
none-in v (Rests frozen) off = refl
none-in v (Waits frozen epoch) off = absurd (false≢true (sym off))
none-in v (Writes frozen way) off = absurd (false≢true (sym off))

pub none-left : (s : LocalState) → is_on s.phase ≡ false → answers_left s ≡ []
none-left s off = none-in s.view s.phase off

nothing-ends : (committed : Bool) → EndAtRest committed [] → ⊥
nothing-ends true ends = ends
nothing-ends false ends = ends

pub none-on : (s : LocalState) → AreTied s → answers_left s ≡ [] → is_on s.phase ≡ false
none-on s tied none = by (is_on s.phase) refl where
  by : (b : Bool) → is_on s.phase ≡ b → b ≡ false
  by false is = refl
  by true is = absurd (nothing-ends (is_committed_in s.phase) (subst (EndAtRest (is_committed_in s.phase)) none (answers-end s tied is)))
