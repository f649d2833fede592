-- The data places of a disk, and which views use each.
use Rattle.std.specs.Prelude.{◌≡◌, ℕ, ◌+◌, ◌-◌, ◌<◌, ◌≤◌, List, length, count_by, map, slice_set, slice_index_or, IsTrue}
use Rattle.vb_space.specs.declared.users.Users.{Users}
use Rattle.vb_space.specs.declared.users.Users.TheVariants.{Neither}
use Rattle.vb_space.specs.Free.{free_from, has_committed, has_next, is_neither, joined, settled}

-- the first data place, and the users of each data place from there on
pub record DataPlaces : Type 0 where
  pub first : ℕ
  pub users : List Users

-- a data place
abbrev pub IsWithin : DataPlaces → ℕ → Type 0
IsWithin s place = (s.first ≤ place) × (place < s.first + length s.users)

-- who uses a data place
abbrev pub users_of : DataPlaces → ℕ → Users
users_of s place = slice_index_or s.users (place - s.first) Neither

-- a data place that the committed view uses
pub record IsCommitted (s : DataPlaces) (place : ℕ) : Type 0 where
  pub within : IsWithin s place
  pub used : IsTrue (has_committed (users_of s place))

-- a data place that the next view uses
pub record IsNext (s : DataPlaces) (place : ℕ) : Type 0 where
  pub within : IsWithin s place
  pub used : IsTrue (has_next (users_of s place))

-- a data place that neither view uses
pub record IsFree (s : DataPlaces) (place : ℕ) : Type 0 where
  pub within : IsWithin s place
  pub unused : users_of s place ≡ Neither

-- a free place below which there is none
pub record IsLeastFree (s : DataPlaces) (place : ℕ) : Type 0 where
  pub free : IsFree s place
  pub least : (other : ℕ) → IsFree s other → place ≤ other

-- how many places the committed view uses
abbrev pub committed_count : DataPlaces → ℕ
committed_count s = count_by has_committed s.users

-- how many places the next view uses
abbrev pub next_count : DataPlaces → ℕ
next_count s = count_by has_next s.users

-- how many places neither uses
abbrev pub free_count : DataPlaces → ℕ
free_count s = count_by is_neither s.users

-- the places that neither view uses, upwards
abbrev pub free_places : DataPlaces → List ℕ
free_places s = free_from s.first s.users

-- the next view uses this place too, and all else stays
abbrev pub with_next : DataPlaces → ℕ → DataPlaces
with_next s place =
    record s { users = slice_set s.users (place - s.first) (joined (users_of s place)) }

-- the next view is the committed one, and no next one is begun
abbrev pub committed : DataPlaces → DataPlaces
committed s = record s { users = map settled s.users }
