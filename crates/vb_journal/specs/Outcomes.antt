-- What a recovery finds on a disk after a crash.
use Rattle.std.specs.Prelude.{◌≡◌, ◌⊎◌, ℕ, ◌+◌, ◌<◌, ◌≤◌, List, length, Some, Result, Ok, Err}
use Rattle.vb_disk.specs.States.{DiskState, read_at}
use Rattle.vb_geometry.specs.declared.geometry.TheConstants.{HEADS}
use Rattle.vb_geometry.specs.Layout.{home_place, journal_place}
use Rattle.vb_head.specs.declared.head.Head.{Head}
use Rattle.vb_journal.specs.declared.recover_error.RecoverError.{RecoverError}
use Rattle.vb_journal.specs.declared.recover_error.RecoverError.TheVariants.{NotAStore, Damaged}
use Rattle.vb_journal.specs.Images.{image_at}
use Rattle.vb_journal.specs.Recoveries.{Recovered, recovery_of}
use Rattle.vb_journal.specs.Shown.{pages_from}

-- a place is hurt
abbrev pub IsHurt : DiskState → ℕ → Type 0
IsHurt d place = (bytes : List ℕ) × ((d.cells place).hurt ≡ Some bytes)

-- what reads of a disk give
abbrev pub reads_of : DiskState → ℕ → List ℕ
reads_of d = λ place. read_at d place

-- what a disk recovers to
abbrev pub recovery_on : DiskState → Result Recovered RecoverError
recovery_on d = recovery_of d.size (reads_of d)

-- the disk recovers to this head, and to exactly these images of the nodes
abbrev pub RecoversWholly : DiskState → Head → (ℕ → List ℕ) → Type 0
RecoversWholly d head images = recovery_on d ≡ Ok (record { head = head; images = pages_from images 0 head.nodes })

-- after a crash the disk recovers to this head and to these images of the nodes. Where a home was hurt before the
-- crash, the image of its node may be what it reads as.
pub record Recovers (old new : DiskState) (head : Head) (images : ℕ → List ℕ) : Type 0 where
  pub found : List (List ℕ)
  pub is : recovery_on new ≡ Ok (record { head = head; images = found })
  pub count : length found ≡ head.nodes
  pub each : (slot : ℕ) → slot < head.nodes → (image_at found slot ≡ images slot) ⊎ ((old.cells (home_place slot)).hurt ≡ Some (image_at found slot))

-- a head was hurt, or one of so many places at the front of the journal of a store with this many nodes
pub record WasHurt (nodes count : ℕ) (d : DiskState) : Type 0 where
  pub place : ℕ
  pub kind : (place < HEADS) ⊎ ((HEADS + nodes ≤ place) × (place < journal_place nodes count))
  pub hurt : IsHurt d place

-- after a crash the disk is refused as damaged, at a place that is hurt
pub record IsFoundDamaged (nodes count : ℕ) (old new : DiskState) : Type 0 where
  pub place : ℕ
  pub kept : List ℕ
  pub found : List ℕ
  pub is : recovery_on new ≡ Err (Damaged place kept found)
  pub hurt : IsHurt new place
  pub was_hurt : WasHurt nodes count old

-- after a crash the disk is refused as no store: both heads are hurt
pub record IsFoundBlank (nodes count : ℕ) (old new : DiskState) : Type 0 where
  pub is : recovery_on new ≡ Err (NotAStore 0)
  pub first : IsHurt new 0
  pub second : IsHurt new 1
  pub was_hurt : WasHurt nodes count old

-- after a crash the disk is refused in the one way or the other, and a head or a place at the front of the journal was
-- hurt before it
abbrev pub IsRefused : ℕ → ℕ → DiskState → DiskState → Type 0
IsRefused nodes count old new = IsFoundDamaged nodes count old new ⊎ IsFoundBlank nodes count old new
