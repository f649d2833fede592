-- The choices of a disk: what reads of it may give, at any moment and whatever damage comes.
use Rattle.std.specs.Prelude.{◌≡◌, ℕ, []}
use Rattle.std.specs.List.{Contains}
use Rattle.vb_disk.specs.declared.cell.Cell.{Cell}
use Rattle.vb_disk.specs.Cells.{candidates}
use Rattle.vb_disk.specs.States.{DiskState, IsDiskState}

-- a place has one candidate alone, which is one of the old place's
pub record IsCellOf (new old : Cell) : Type 0 where
  pub picked : Contains (candidates old) new.first
  pub alone : new.later ≡ []

-- a state that a disk can have, of the same size, each place of which has one of the candidates there, whatever is
-- hurt in it. What a hurt place reads as is a miss of that candidate alone, so that bytes of another one may come back.
pub record IsChoiceOf (new d : DiskState) : Type 0 where
  pub disk : IsDiskState new
  pub size : new.size ≡ d.size
  pub each : (place : ℕ) → IsCellOf (new.cells place) (d.cells place)

-- each choice of the one disk is a choice of the other
abbrev pub HasNoMoreChoices : DiskState → DiskState → Type 0
HasNoMoreChoices less more = (new : DiskState) → IsChoiceOf new less → IsChoiceOf new more
