-- What a disk holds: the candidates of each of its places, and what its calls make of them.
use Rattle.std.specs.Prelude.{◌≡◌, ℕ, ◌+◌, ◌≤◌, nat_lt, ◌==◌, if◌then◌else◌, List, [], ◌∷◌, Some}
use Rattle.std.specs.List.{All}
use Rattle.vb_block.specs.Pages.{IsPage}
use Rattle.vb_disk.specs.declared.cell.Cell.{Cell}
use Rattle.vb_disk.specs.Misses.{IsMiss}
use Rattle.vb_disk.specs.Cells.{blank_cell, candidates, read_of, written_cell, synced_cell}

-- what a disk holds. Past its size each place is blank. The two counts of writes and of resizes that were made only
-- grow; synced_at says how many writes there were at the last sync. They tell apart moments at which the places hold
-- the same.
pub record DiskState : Type 0 where
  pub size : ℕ
  pub cells : ℕ → Cell
  pub writes : ℕ
  pub resizes : ℕ
  pub synced_at : ℕ

-- a disk of this many places that was never written
abbrev pub new_state : ℕ → DiskState
new_state blocks = record { size = blocks; cells = λ place. blank_cell; writes = 0; resizes = 0; synced_at = 0 }

-- what a read of a place gives
abbrev pub read_at : DiskState → ℕ → List ℕ
read_at d place = read_of (d.cells place)

-- after a write: the place has one candidate more, and is whole
abbrev pub written : DiskState → ℕ → List ℕ → DiskState
written d place page = record d {
  cells = λ q. if q == place then written_cell (d.cells q) page else d.cells q;
  writes = d.writes + 1;
}

-- after a sync: the newest candidate of each place is left, and the writes that it covered are noted
abbrev pub synced : DiskState → DiskState
synced d = record d { cells = λ q. synced_cell (d.cells q); synced_at = d.writes }

-- after a resize: what lies past the new size is blank
abbrev pub resized : DiskState → ℕ → DiskState
resized d blocks = record d {
  size = blocks;
  cells = λ q. if nat_lt q blocks then d.cells q else blank_cell;
  resizes = d.resizes + 1;
}

-- a call that changes a disk
pub data DiskCall : Type 0 where
  Write : (place : ℕ) (page : List ℕ) → DiskCall
  Sync : DiskCall
  Resize : (blocks : ℕ) → DiskCall

-- the state after a call that was made
abbrev pub after_call : DiskState → DiskCall → DiskState
after_call d (Write place page) = written d place page
after_call d Sync = synced d
after_call d (Resize blocks) = resized d blocks

-- the state after some calls, made in their order
abbrev pub after_calls : DiskState → List DiskCall → DiskState
after_calls d [] = d
after_calls d (call ∷ calls) = after_calls (after_call d call) calls

-- the last sync covered no more writes than there were, and where it covered all, each place has one candidate alone
pub record IsCounted (d : DiskState) : Type 0 where
  pub covers : d.synced_at ≤ d.writes
  pub settled : d.synced_at ≡ d.writes → (place : ℕ) → (d.cells place).later ≡ []

-- a state that a disk can have: past its size it is blank, what a hurt place reads as is a miss there, each candidate
-- and what each hurt place reads as is a page of 4,096 bytes, and the counts agree with the places
pub record IsDiskState (d : DiskState) : Type 0 where
  pub blank_past_size : (place : ℕ) → d.size ≤ place → d.cells place ≡ blank_cell
  pub hurt_are_misses : (place : ℕ) (bytes : List ℕ) → (d.cells place).hurt ≡ Some bytes → IsMiss (d.cells place) bytes
  pub candidates_are_pages : (place : ℕ) → All IsPage (candidates (d.cells place))
  pub hurt_are_pages : (place : ℕ) (bytes : List ℕ) → (d.cells place).hurt ≡ Some bytes → IsPage bytes
  pub counted : IsCounted d
