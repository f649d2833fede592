-- When reads of two disks, or of one disk at two times, give one store.
use Rattle.std.specs.Prelude.{◌≡◌, ℕ, List, Option, Some, None}
use Rattle.std.specs.List.{All}
use Rattle.vb_index.specs.declared.held.Held.{Held}
use Rattle.vb_journal.specs.Recoveries.{recovery_of}
use Rattle.vb_store.specs.Metadata.{Metadata, maps_in}

-- the journal recovers to the same head and node images, and each map page that the metadata name reads the same
pub record IsSameStore (size : ℕ) (m : Metadata) (old new : ℕ → List ℕ) : Type 0 where
  pub recovery : recovery_of size new ≡ recovery_of size old
  pub maps : All (λ map. new map.reference.place ≡ old map.reference.place) (maps_in m.held)

-- each page of what a slot holds reads the same
abbrev pub HasSamePages : (ℕ → List ℕ) → (ℕ → List ℕ) → Option Held → Type 0
HasSamePages old new None = Unit {0}
HasSamePages old new (Some held) = All (λ r. new r.place ≡ old r.place) held.refs
