-- What a crash recovers of a disk on which no place was hurt: what the first candidates or the last ones do, unless it
-- tears a page of data.
use Rattle.std.specs.Prelude.{◌≡◌, ◌⊎◌, ℕ, ◌<◌, List, [], length, slice_get, Option, Some}
use Rattle.std.specs.List.{All, Contains}
use Rattle.vb_block.specs.declared.digest.Ref.{Ref}
use Rattle.vb_disk.specs.States.{DiskState}
use Rattle.vb_index.specs.declared.held.Held.{Held}
use Rattle.vb_index.specs.Nodes.{held_at}
use Rattle.vb_journal.specs.declared.commit_stage.Stage.{Stage}
use Rattle.vb_journal.specs.declared.commit_stage.Stage.TheVariants.{Journal, Opening, Homes, Closing, Rested}
use Rattle.vb_journal.specs.Outcomes.{IsHurt}
use Rattle.vb_journal.specs.Progress.{IsWholeAt}
use Rattle.vb_store.specs.Clear.{next_of, safe_of}
use Rattle.vb_store.specs.OneOf.{TreeView}
use Rattle.vb_store.specs.Recovered.{Unreadable}
use Rattle.vb_store.specs.RecoveredStores.{recovered_on}
use Rattle.vb_during.specs.During.{ViewCommit}

-- ---- before the crash

-- no place is hurt
abbrev pub IsAllWhole : DiskState → Type 0
IsAllWhole d = (place : ℕ) → IsWholeAt d place

-- each map page of the nodes is the only candidate of its place, so that no crash tears it
abbrev pub HasLoneMaps : List (Option Held) → DiskState → Type 0
HasLoneMaps nodes d = (slot : ℕ) (held : Held) → held_at nodes slot ≡ Some held → All (λ r. (d.cells r.place).later ≡ []) held.node.maps

-- so it is at each stage of a commit for the views that may be recovered then
abbrev pub HasLoneMapsAt : Stage → List (Option Held) → List (Option Held) → DiskState → Type 0
HasLoneMapsAt (Journal next) old new d = HasLoneMaps old d
HasLoneMapsAt (Opening turn) old new d = HasLoneMaps old d × HasLoneMaps new d
HasLoneMapsAt (Homes next) old new d = HasLoneMaps new d
HasLoneMapsAt (Closing turn) old new d = HasLoneMaps new d
HasLoneMapsAt Rested old new d = HasLoneMaps new d

-- a disk of a commit at a stage on which no place is hurt, and no crash can tear a map page
pub record IsUntorn (v : ViewCommit) (stage : Stage) (d : DiskState) : Type 0 where
  pub whole : IsAllWhole d
  pub maps : HasLoneMapsAt stage v.old.nodes v.new.nodes d

-- ---- after it

-- nothing can be read at the place of a page of data of one of these views, which had two or more candidates before
pub record IsUnreadable (views : List TreeView) (d new : DiskState) : Type 0 where
  pub view : TreeView
  pub listed : Contains views view
  pub slot : ℕ
  pub held : Held
  pub there : held_at view.metadata.held slot ≡ Some held
  pub number : ℕ
  pub reference : Ref
  pub page : slice_get held.refs number ≡ Some reference
  pub is : recovered_on new ≡ Unreadable reference.place
  pub several : 0 < length (d.cells reference.place).later
  pub hurt : IsHurt new reference.place

-- what is recovered is what the first candidates of all places recover, or the last ones, or a torn page can't be read
abbrev pub RecoversAnEnd : List TreeView → DiskState → DiskState → Type 0
RecoversAnEnd views d new = (recovered_on new ≡ safe_of d) ⊎ ((recovered_on new ≡ next_of d) ⊎ IsUnreadable views d new)
