-- Logs: what a read of one gives.
use Rattle.std.specs.Prelude.{◌≡◌, ℕ, ◌<◌, ◌≤◌, List, length, take, drop}

-- the first n bytes are those of all from this place on, and there are some where there is room and there are any
pub record IsReadAt (all : List ℕ) (at : ℕ) (into : List ℕ) (n : ℕ) : Type 0 where
  pub fits : n ≤ length into
  pub front : take n into ≡ take n (drop at all)
  pub some : 0 < length into → at < length all → 0 < n
