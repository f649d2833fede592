-- What contracts see of a space, and what it keeps true of its list of free places.
use Rattle.std.specs.Prelude.{◌≡◌, ◌+◌, ◌<◌, ◌≤◌, ◌^◌, length, take, drop}
use Rattle.vb_space.specs.declared.space.Space.TheInside.{Inside}
use Rattle.vb_space.specs.Free.{free_from}
use Rattle.vb_space.specs.Spaces.{DataPlaces}

-- what contracts see of a space
abbrev pub shown : Inside → DataPlaces
shown a = record { first = a.first; users = a.users.items }

-- the list has the free places that are left
pub record IsListed (a : Inside) : Type 0 where
  pub places : a.first + length a.users.items < 2 ^ 32
  pub room : length a.free.items ≡ length a.users.items
  pub to : a.to ≤ length a.free.items
  pub from : a.from ≤ a.to
  pub listed : drop a.from (take a.to a.free.items) ≡ free_from a.first a.users.items
