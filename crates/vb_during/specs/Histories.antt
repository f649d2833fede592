-- Histories of the commit of a view: its steps, with or without an error, and damage between them.
use Rattle.std.specs.Prelude.{◌≡◌, ℕ, false, List, [], ◌∷◌, Option, Some, Result}
use Rattle.vb_commit.specs.Steps.{WaySteps}
use Rattle.vb_commit.specs.Ways.{IsGivenFrom, WayState}
use Rattle.vb_disk.specs.Crashes.{MayCrashTo, damaged}
use Rattle.vb_disk.specs.declared.disk_error.DiskError.{DiskError}
use Rattle.vb_disk.specs.Moments.{EachMoment}
use Rattle.vb_disk.specs.States.{DiskState, IsDiskState}
use Rattle.vb_journal.specs.declared.commit_stage.CommitStep.{CommitStep}
use Rattle.vb_steps.specs.Disks.{DiskView}
use Rattle.vb_store.specs.OneOf.{ShowsOrRefuses, TreeView}
use Rattle.vb_during.specs.During.{ViewCommit, committed_view, next_view}

-- a step of a commit: the page that was given, what was seen of the disk before it and after it, its answer, and the
-- commit after it
pub record StepMade : Type 0 where
  pub given : Option (List ℕ)
  pub before : DiskView
  pub after : DiskView
  pub result : Result CommitStep DiskError
  pub next : WayState

-- what came of a commit or its disk: a step, or damage of a place, which then reads as this page
pub data Event : Type 0 where
  Stepped : (step : StepMade) → Event
  Harmed : (place : ℕ) (page : List ℕ) → Event

-- the step is one of this commit over this disk, with the view's own page where one was given
pub record IsStepOf (source : ℕ → ℕ → List ℕ) (s : WayState) (d : DiskState) (step : StepMade) : Type 0 where
  pub steps : WaySteps s step.given step.next step.before step.after step.result
  pub given : IsGivenFrom source s.pages step.given
  pub told : step.before.told ≡ Some d

-- these events lead from a commit and a disk to others
abbrev pub IsHistory : (ℕ → ℕ → List ℕ) → WayState → DiskState → List Event → WayState → DiskState → Type 0
IsHistory source s d [] t e = (t ≡ s) × (e ≡ d)
IsHistory source s d (Stepped step ∷ events) t e = IsStepOf source s d step × ((m : DiskState) × (step.after.told ≡ Some m) × IsHistory source step.next m events t e)
IsHistory source s d (Harmed place page ∷ events) t e = IsHistory source s (damaged d place page) events t e

-- no damage came
abbrev pub IsUnharmedBy : List Event → Type 0
IsUnharmedBy [] = Unit {0}
IsUnharmedBy (Stepped step ∷ events) = IsUnharmedBy events
IsUnharmedBy (Harmed place page ∷ events) = ⊥

-- the committed view and the next one
abbrev pub both_views : ViewCommit → List TreeView
both_views v = committed_view v ∷ next_view v ∷ []

-- each crash at each moment within a step shows one of both views, or is refused at a hurt place or at both heads
abbrev pub EachCrashShows : ViewCommit → DiskState → DiskState → Type 0
EachCrashShows v d next = EachMoment (λ m. (new : DiskState) → IsDiskState m → MayCrashTo m new → ShowsOrRefuses (both_views v) false new) d next
