-- What a format leaves on a disk.
use Rattle.std.specs.Prelude.{◌≡◌, ℕ, ◌+◌, ◌<◌, ◌≤◌, List, [], None}
use Rattle.vb_disk.specs.declared.cell.Cell.{Cell}
use Rattle.vb_disk.specs.Cells.{blank_cell, synced_cell}
use Rattle.vb_disk.specs.States.{DiskState}
use Rattle.vb_head.specs.Heads.{head_page}
use Rattle.vb_inode.specs.Layout.{node_page}
use Rattle.vb_store.specs.Formats.{empty_node, made_head}

-- a whole place that has this page alone
abbrev pub whole_cell : List ℕ → Cell
whole_cell page = record { first = page; later = []; hurt = None }

-- the page of a slot's home in the empty store
abbrev pub empty_home : ℕ → List ℕ
empty_home slot = node_page (empty_node slot)

-- a disk holds the empty store of this folder: its heads and homes are whole, and those of that store
pub record HoldsEmptyStore (folder : List ℕ) (blocks nodes : ℕ) (d : DiskState) : Type 0 where
  pub size : d.size ≡ blocks
  pub first_head : d.cells 0 ≡ whole_cell (head_page (made_head folder blocks nodes))
  pub second_head : d.cells 1 ≡ whole_cell (head_page (made_head folder blocks nodes))
  pub homes : (slot : ℕ) → slot < nodes → d.cells (2 + slot) ≡ whole_cell (empty_home slot)

-- a disk was made such a store: of each place after the homes the newest candidate is left, and such a place stays
-- hurt if it was. Past the disk's size there is nothing.
pub record IsMadeEmpty (folder : List ℕ) (blocks nodes : ℕ) (old new : DiskState) : Type 0 where
  pub store : HoldsEmptyStore folder blocks nodes new
  pub kept : (place : ℕ) → 2 + nodes ≤ place → place < blocks → new.cells place ≡ synced_cell (old.cells place)
  pub past : (place : ℕ) → blocks ≤ place → new.cells place ≡ blank_cell
