-- The moments between two states of a disk, at each of which a crash may come.
use Rattle.std.specs.Prelude.{◌≡◌, ◌⊎◌, ℕ, ◌≤◌, List, ◌∷◌, ◌++◌, None}
use Rattle.vb_disk.specs.declared.cell.Cell.{Cell}
use Rattle.vb_disk.specs.States.{DiskState, DiskCall, IsDiskState, after_calls}

-- some calls lead from the one state to the other
abbrev pub Reaches : DiskState → DiskState → Type 0
Reaches old new = (calls : List DiskCall) × (after_calls old calls ≡ new)

-- the state was passed through on the way from the old to the new one
pub record IsMoment (old new d : DiskState) : Type 0 where
  pub before : Reaches old d
  pub after : Reaches d new

-- the new state was reached from the old one, and each state that was passed through has P, where the old one is a
-- state that a disk can have, as each told one is
pub record EachMoment (P : DiskState → Type 0) (old new : DiskState) : Type 0 where
  pub reached : Reaches old new
  pub each : (d : DiskState) → IsDiskState old → IsMoment old new d → P d

-- the place has more candidates at its end, and is whole
pub record HasMore (old new : Cell) : Type 0 where
  pub first : new.first ≡ old.first
  pub page : List ℕ
  pub more : List (List ℕ)
  pub later : new.later ≡ old.later ++ page ∷ more
  pub whole : new.hurt ≡ None

-- writes alone were made: each place stands, or has more candidates at its end and is whole
pub record OnlyWrites (old new : DiskState) : Type 0 where
  pub size : new.size ≡ old.size
  pub resizes : new.resizes ≡ old.resizes
  pub synced_at : new.synced_at ≡ old.synced_at
  pub writes : old.writes ≤ new.writes
  pub each : (place : ℕ) → (new.cells place ≡ old.cells place) ⊎ HasMore (old.cells place) (new.cells place)
