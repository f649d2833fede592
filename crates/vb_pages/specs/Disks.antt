-- What a disk has under a reference, whatever a hurt place reads as.
use Rattle.std.specs.Prelude.{◌≡◌, ℕ, List, [], Option, Some, None}
use Rattle.std.specs.List.{All}
use Rattle.sha2.specs.Sha256.{sha256}
use Rattle.vb_block.specs.declared.digest.Ref.{Ref}
use Rattle.vb_disk.specs.declared.cell.Cell.{Cell}
use Rattle.vb_disk.specs.Cells.{candidates}
use Rattle.vb_disk.specs.States.{DiskState}

-- the first candidate at a reference's place
abbrev pub first_at : DiskState → Option Ref → List ℕ
first_at d None = []
first_at d (Some reference) = (d.cells reference.place).first

-- every candidate of a place is one page, which has this digest
pub record HoldsOnly (cell : Cell) (digest : List ℕ) : Type 0 where
  pub same : All (λ page. page ≡ cell.first) (candidates cell)
  pub due : sha256 cell.first ≡ digest
