-- The view that a commit makes: the places that it takes and keeps beside the committed view.
use Rattle.std.specs.Prelude.{◌≡◌, ◌↔◌, ◌⊎◌, ℕ, List, length, take}
use Rattle.std.specs.List.{Contains}
use Rattle.vb_head.specs.declared.head.Head.{Head}
use Rattle.vb_head.specs.Heads.{IsInRange}
use Rattle.vb_journal.specs.Plans.{closed_head}
use Rattle.vb_space.specs.Spaces.{DataPlaces, IsCommitted, IsNext, committed_count, free_places}

-- the next view uses each place of which this is so beside those that it used before, and all else stays
pub record UsesToo (old new : DataPlaces) (P : ℕ → Type 0) : Type 0 where
  pub first : new.first ≡ old.first
  pub as_many : length new.users ≡ length old.users
  pub counted : committed_count new ≡ committed_count old
  pub committed : (place : ℕ) → IsCommitted new place ↔ IsCommitted old place
  pub next : (place : ℕ) → IsNext new place ↔ (IsNext old place ⊎ P place)

-- places of the next view are the first free ones, so many, and beside these such as the committed view uses
pub record AreTakenOrKept (s : DataPlaces) (taken : ℕ) (used : List ℕ) : Type 0 where
  pub all_taken : (place : ℕ) → Contains (take taken (free_places s)) place → Contains used place
  pub others_kept : (place : ℕ) → Contains used place → Contains (take taken (free_places s)) place ⊎ IsCommitted s place

-- a head counts out a commit that began over another
pub record IsHeadAfter (old head : Head) : Type 0 where
  pub range : IsInRange head
  pub closed : head ≡ closed_head old head.epoch
