use Rattle.std.proofs.Common.{◌≡◌, ℕ, is_some, length}
use Rattle.std.specs.Ordering.{nat_cmp}
use Rattle.std.specs.BTreeMap.{BTreeMap, get}
use Rattle.vb_disk.specs.declared.cell.Cell.{Cell}
use Rattle.vb_disk.specs.declared.crash.Side.{Side}
use Rattle.vb_disk.specs.Cells.{settled_cell}
use Rattle.vb_disk.specs.Sparse.{cell_in, IsListed}
use Rattle.vb_disk.proofs.cells.settle.Given as goal

-- settling all places of the map gives what it gives at the start
pub record IsSettling (side : Side) (old new : BTreeMap ℕ Cell) : Type 0 where
  pub same : (place : ℕ) → settled_cell side (cell_in new place) ≡ settled_cell side (cell_in old place)
  pub same_keys : (place : ℕ) → is_some (get nat_cmp new place) ≡ is_some (get nat_cmp old place)

abbrev pub invariant-loop-place : goal.invariant-loop-place
invariant-loop-place l = record {
  settling : IsSettling l.side l.initial.cells l.cells;
  listed : IsListed l.cells l.listed.items;
  sides : l.side ≡ l.initial.side;
}

abbrev pub decreases-loop-place : goal.decreases-loop-place
decreases-loop-place l = length l.listed.items
