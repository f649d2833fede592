-- What a step of a commit leaves of the places that it doesn't write, as those of data.
use Rattle.std.specs.Prelude.{◌≡◌, ◌⊎◌, ℕ, ◌≤◌, Bool, true, false, if◌then◌else◌, Option, Some, Result, Ok, Err}
use Rattle.vb_disk.specs.declared.cell.Cell.{Cell}
use Rattle.vb_disk.specs.declared.disk_error.DiskError.{DiskError}
use Rattle.vb_disk.specs.Cells.{synced_cell}
use Rattle.vb_disk.specs.Moments.{EachMoment}
use Rattle.vb_disk.specs.States.{DiskState}
use Rattle.vb_journal.specs.declared.commit_stage.CommitStep.{CommitStep}
use Rattle.vb_journal.specs.declared.commit_stage.CommitStep.TheVariants.{Wrote, Synced, Committed, Rested, Idle}

-- whether a step of this answer made a sync
abbrev pub is_sync : CommitStep → Bool
is_sync Wrote = false
is_sync Synced = true
is_sync Committed = true
is_sync Rested = true
is_sync Idle = false

-- a place that isn't written, after a step with this result
abbrev pub left_after : Result CommitStep DiskError → Cell → Cell
left_after (Ok step) cell = if is_sync step then synced_cell cell else cell
left_after (Err error) cell = cell

-- each place from this one on stands or was synced
abbrev pub StandOrSynced : ℕ → DiskState → DiskState → Type 0
StandOrSynced from old new = (place : ℕ) → from ≤ place → (new.cells place ≡ old.cells place) ⊎ (new.cells place ≡ synced_cell (old.cells place))

-- a step wrote none of the places from this one on: each stands, or was synced where the step made a sync
pub record LeavesFrom (from : ℕ) (old new : Option DiskState) (result : Result CommitStep DiskError) : Type 0 where
  pub after : (d next : DiskState) → old ≡ Some d → new ≡ Some next → (place : ℕ) → from ≤ place → next.cells place ≡ left_after result (d.cells place)
  pub moments : (d next : DiskState) → old ≡ Some d → new ≡ Some next → EachMoment (StandOrSynced from d) d next
