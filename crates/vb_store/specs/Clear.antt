-- Clear disks: what one recovers from a disk after crashes, whichever of its hurt places come back.
use Rattle.std.specs.Prelude.{◌≡◌, ℕ, Bool, true, false, List, length, None}
use Rattle.vb_disk.specs.declared.cell.Cell.{Cell}
use Rattle.vb_disk.specs.Cells.{candidate_at}
use Rattle.vb_disk.specs.Crashes.{MayCrashTo}
use Rattle.vb_disk.specs.States.{DiskState, read_at}
use Rattle.vb_tree.specs.declared.tree.TreeEntry.{TreeEntry}
use Rattle.vb_store.specs.Recovered.{Recovery, Recovers, recovered}

-- the first candidate of each place, whatever is hurt
abbrev pub first_candidates : DiskState → ℕ → List ℕ
first_candidates d place = (d.cells place).first

-- the last candidate of each place, whatever is hurt
abbrev pub last_candidates : DiskState → ℕ → List ℕ
last_candidates d place = candidate_at (d.cells place) (length (d.cells place).later)

-- what is recovered from the first candidates: what was there before the last writes
abbrev pub safe_of : DiskState → Recovery
safe_of d = recovered d.size (first_candidates d)

-- what is recovered from the last candidates: what will be there once they are synced
abbrev pub next_of : DiskState → Recovery
next_of d = recovered d.size (last_candidates d)

-- a place, taken as whole or as it is
abbrev pub taken_cell : Bool → Cell → Cell
taken_cell true cell = record { first = cell.first; later = cell.later; hurt = None }
taken_cell false cell = cell

-- a disk, some of whose places are taken as whole
abbrev pub taken_as : (ℕ → Bool) → DiskState → DiskState
taken_as whole d = record d { cells = λ place. taken_cell (whole place) (d.cells place) }

-- what reads give recovers a tree
pub record RecoversTree (d : DiskState) : Type 0 where
  pub epoch : ℕ
  pub tree : List TreeEntry
  pub recovers : recovered d.size (read_at d) ≡ Recovers epoch tree

-- whichever places are taken as whole, and whatever a crash then leaves, what reads give recovers a tree
abbrev pub IsClear : DiskState → Type 0
IsClear d = (whole : ℕ → Bool) (new : DiskState) → MayCrashTo (taken_as whole d) new → RecoversTree new
