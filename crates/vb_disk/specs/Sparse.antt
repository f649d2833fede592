-- The places of a disk that hold something else than zeros, as a map from their numbers.
use Rattle.std.specs.Prelude.{◌≡◌, ◌≢◌, ◌≤◌, ℕ, true, false, ◌||◌, nat_eq, List, ◌++◌, Some, is_some, unwrap_or}
use Rattle.std.specs.List.{All, list_any}
use Rattle.std.specs.Ordering.{nat_cmp}
use Rattle.std.specs.BTreeMap.{BTreeMap, get}
use Rattle.vb_block.specs.Pages.{IsPage}
use Rattle.vb_disk.specs.declared.cell.Cell.{Cell}
use Rattle.vb_disk.specs.Cells.{blank_cell, candidates, is_settled}
use Rattle.vb_disk.specs.Misses.{IsMiss}
use Rattle.vb_disk.specs.States.{DiskState}

-- what stands at a place: it is blank where the map has nothing
abbrev pub cell_in : BTreeMap ℕ Cell → ℕ → Cell
cell_in cells place = unwrap_or (get nat_cmp cells place) blank_cell

-- each place with more than one candidate is in the list
abbrev pub IsListed : BTreeMap ℕ Cell → List ℕ → Type 0
IsListed cells places = (place : ℕ) → (is_settled (cell_in cells place) || list_any (nat_eq place) places) ≡ true

-- the list has some more at its end
abbrev pub IsGrown : List ℕ → List ℕ → Type 0
IsGrown old new = (more : List ℕ) × (new ≡ old ++ more)

-- each place stands
abbrev pub KeepsAll : BTreeMap ℕ Cell → BTreeMap ℕ Cell → Type 0
KeepsAll old new = (place : ℕ) → get nat_cmp new place ≡ get nat_cmp old place

-- one place became this, and each other one stands
pub record ChangesOne (old new : BTreeMap ℕ Cell) (place : ℕ) (cell : Cell) : Type 0 where
  pub here : cell_in new place ≡ cell
  pub others : (other : ℕ) → other ≢ place → get nat_cmp new other ≡ get nat_cmp old other

-- what a place may hold: its candidates are pages, and where it is hurt, it reads as a page that is a miss
pub record IsCell (cell : Cell) : Type 0 where
  pub pages : All IsPage (candidates cell)
  pub hurt_page : (bytes : List ℕ) → cell.hurt ≡ Some bytes → IsPage bytes
  pub hurt_miss : (bytes : List ℕ) → cell.hurt ≡ Some bytes → IsMiss cell bytes

-- what a table of places keeps: nothing past its size, a list of all places with more than one candidate, and what
-- each place may hold
pub record IsTable (size : ℕ) (cells : BTreeMap ℕ Cell) (listed : List ℕ) : Type 0 where
  pub inside : (place : ℕ) → size ≤ place → is_some (get nat_cmp cells place) ≡ false
  pub all_listed : IsListed cells listed
  pub each : (place : ℕ) → IsCell (cell_in cells place)

-- what stands at each place
abbrev pub cells_of : BTreeMap ℕ Cell → ℕ → Cell
cells_of cells = λ place. cell_in cells place

-- the state of a disk with these places
abbrev pub state_from : ℕ → BTreeMap ℕ Cell → ℕ → ℕ → ℕ → DiskState
state_from size cells writes resizes synced_at = record {
  size = size;
  cells = cells_of cells;
  writes = writes;
  resizes = resizes;
  synced_at = synced_at;
}
