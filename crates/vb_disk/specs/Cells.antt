-- One place of a disk: its candidates, what it reads as, and what the calls make of it.
use Rattle.std.specs.Prelude.{ℕ, Bool, ◌==◌, if◌then◌else◌, List, [], ◌∷◌, ◌++◌, length, get_or, Some, None, unwrap_or}
use Rattle.vb_block.specs.Pages.{zero_page}
use Rattle.vb_disk.specs.declared.cell.Cell.{Cell}
use Rattle.vb_disk.specs.declared.crash.Side.{Side}
use Rattle.vb_disk.specs.declared.crash.Side.TheVariants.{First, Last}

-- the candidates of a place, the oldest first
abbrev pub candidates : Cell → List (List ℕ)
candidates cell = cell.first ∷ cell.later

-- the candidate at this position, counted from 0, and the first one past the end
abbrev pub candidate_at : Cell → ℕ → List ℕ
candidate_at cell i = get_or (candidates cell) i cell.first

-- what a read gives: the bytes of a hurt place, and else the newest candidate
abbrev pub read_of : Cell → List ℕ
read_of cell = unwrap_or cell.hurt (candidate_at cell (length cell.later))

-- a place that was never written
abbrev pub blank_cell : Cell
blank_cell = record { first = zero_page; later = []; hurt = None }

-- after a write: one candidate more, and whole
abbrev pub written_cell : Cell → List ℕ → Cell
written_cell cell page = record { first = cell.first; later = cell.later ++ page ∷ []; hurt = None }

-- one candidate alone is left. A hurt place stays hurt.
abbrev pub kept_cell : Cell → ℕ → Cell
kept_cell cell i = record { first = candidate_at cell i; later = []; hurt = cell.hurt }

-- after a sync: the newest candidate is left
abbrev pub synced_cell : Cell → Cell
synced_cell cell = kept_cell cell (length cell.later)

-- the position of the candidate on this side
abbrev pub side_index : Side → Cell → ℕ
side_index First cell = 0
side_index Last cell = length cell.later

-- the candidate on this side is left
abbrev pub settled_cell : Side → Cell → Cell
settled_cell side cell = kept_cell cell (side_index side cell)

-- whether a place has one candidate alone
abbrev pub is_settled : Cell → Bool
is_settled cell = length cell.later == 0

-- a candidate was picked; where there is one alone, it stands
abbrev pub picked_cell : ℕ → Cell → Cell
picked_cell i cell = if is_settled cell then cell else kept_cell cell i

-- the place is hurt and reads as these bytes
abbrev pub hurt_cell : Cell → List ℕ → Cell
hurt_cell cell bytes = record { first = cell.first; later = cell.later; hurt = Some bytes }
