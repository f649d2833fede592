-- What may be recovered from a disk, whatever damage it has or gets: one of some views.
use Rattle.std.specs.Prelude.{◌≡◌, ◌≢◌, ◌⊎◌, ℕ, ◌≤◌, Bool, true, List, [], Result, Ok, Err}
use Rattle.std.specs.List.{All, Contains}
use Rattle.sha2.specs.Sha256.{sha256}
use Rattle.vb_block.specs.Pages.{IsSealed}
use Rattle.vb_disk.specs.Cells.{candidates}
use Rattle.vb_disk.specs.States.{DiskState}
use Rattle.vb_head.specs.declared.head.Head.{Head}
use Rattle.vb_journal.specs.declared.commit_stage.Stage.{Stage}
use Rattle.vb_journal.specs.declared.commit_stage.Stage.TheVariants.{Journal, Opening, Homes, Closing, Rested}
use Rattle.vb_journal.specs.declared.recover_error.RecoverError.{RecoverError}
use Rattle.vb_journal.specs.declared.recover_error.RecoverError.TheVariants.{NotAStore, Damaged, Rebuilding}
use Rattle.vb_journal.specs.Choices.{IsChoiceOf}
use Rattle.vb_journal.specs.Outcomes.{IsHurt}
use Rattle.vb_journal.specs.Plans.{closed_head}
use Rattle.vb_journal.specs.Progress.{new_images}
use Rattle.vb_journal.specs.Recoveries.{recovery_of}
use Rattle.vb_journal.specs.Shown.{pages_from}
use Rattle.vb_tree.specs.declared.tree.TreeEntry.{TreeEntry}
use Rattle.vb_store.specs.Clear.{first_candidates}
use Rattle.vb_store.specs.Formats.{made_head}
use Rattle.vb_store.specs.Metadata.{Metadata, maps_in, metadata_of}
use Rattle.vb_store.specs.Recovered.{Recovers, entries_read, placed_in}
use Rattle.vb_store.specs.RecoveredStores.{metadata_on, recovered_on}
use Rattle.vb_store.specs.Views.{empty_index}

-- ---- views

-- a view of a store that its caller knows: its metadata, with the head at rest, and the tree that its pages hold
pub record TreeView : Type 0 where
  pub metadata : Metadata
  pub tree : List TreeEntry

-- a disk shows one of these views: what reads give is the metadata of the view, and the candidates of its data places
-- are the pages of its tree, whichever of these are hurt
pub record ShowsOneOf (views : List TreeView) (new : DiskState) : Type 0 where
  pub view : TreeView
  pub listed : Contains views view
  pub metadata : metadata_on new ≡ Ok view.metadata
  pub pages : entries_read (first_candidates new) (placed_in view.metadata.held) ≡ Ok view.tree

-- it is refused as damaged, at a place that is hurt
pub record IsDamagedWhereHurt (new : DiskState) : Type 0 where
  pub place : ℕ
  pub kept : List ℕ
  pub found : List ℕ
  pub is : metadata_on new ≡ Err (Damaged place kept found)
  pub hurt : IsHurt new place

-- it is refused as no store, with both heads hurt
pub record IsBlankWhereHurt (new : DiskState) : Type 0 where
  pub is : metadata_on new ≡ Err (NotAStore 0)
  pub first : IsHurt new 0
  pub second : IsHurt new 1

-- where that is allowed, it is a store that is being made
pub record IsMadeAnew (allowed : Bool) (new : DiskState) : Type 0 where
  pub allows : allowed ≡ true
  pub is : metadata_on new ≡ Err Rebuilding

-- a disk shows one of these views, or is refused in one of these ways
abbrev pub ShowsOrRefuses : List TreeView → Bool → DiskState → Type 0
ShowsOrRefuses views made new = ShowsOneOf views new ⊎ (IsDamagedWhereHurt new ⊎ (IsBlankWhereHurt new ⊎ IsMadeAnew made new))

-- whichever candidate each place of a disk has, and whatever is hurt in it, it shows one of these views, or is refused
-- in one of these ways. The store can't know which of them counts.
abbrev pub RecoversOneOf : List TreeView → Bool → DiskState → Type 0
RecoversOneOf views made d = (new : DiskState) → IsChoiceOf new d → ShowsOrRefuses views made new

-- each of these views is one of those
abbrev pub AreAmong : List TreeView → List TreeView → Type 0
AreAmong views more = (view : TreeView) → Contains views view → Contains more view

-- ---- reads that differ where a place is hurt

-- a place reads as another page than before, which isn't sealed and has another digest
pub record IsHurtRead (old new : ℕ → List ℕ) (place : ℕ) : Type 0 where
  pub unsealed : ¬ IsSealed (new place)
  pub unlike : sha256 (old place) ≢ sha256 (new place)

-- both heads read the same, and each other place the same or as a hurt one
pub record DifferWhereHurt (old new : ℕ → List ℕ) : Type 0 where
  pub first : new 0 ≡ old 0
  pub second : new 1 ≡ old 1
  pub each : (place : ℕ) → (new place ≡ old place) ⊎ IsHurtRead old new place

-- an answer by new reads is that there is damage, at a place that is hurt in them
pub record IsFoundHurt {T : Type 0} (old new : ℕ → List ℕ) (answer : Result T RecoverError) : Type 0 where
  pub place : ℕ
  pub kept : List ℕ
  pub found : List ℕ
  pub is : answer ≡ Err (Damaged place kept found)
  pub hurt : IsHurtRead old new place

-- ---- what a view is to a disk

-- a disk has this view, with this head at rest and these node images, by its candidates: some reads have its metadata
-- and recover to its head and its images, each map page has one candidate, which is what these read, and
-- whichever candidate is picked of each place, the pages are those of the tree
pub record ViewOf (d : DiskState) (view : TreeView) (head : Head) (images : ℕ → List ℕ) : Type 0 where
  pub reads : ℕ → List ℕ
  pub metadata : metadata_of d.size reads ≡ Ok view.metadata
  pub recovery : recovery_of d.size reads ≡ Ok (record { head = head; images = pages_from images 0 head.nodes })
  pub maps : All (λ map. (page : List ℕ) → Contains (candidates (d.cells map.reference.place)) page → page ≡ reads map.reference.place) (maps_in view.metadata.held)
  pub pages : (picked : ℕ → List ℕ) → ((place : ℕ) → Contains (candidates (d.cells place)) (picked place)) → entries_read picked (placed_in view.metadata.held) ≡ Ok view.tree

-- one of these views is one that the disk has, with this head at rest and these node images
pub record HasAView (views : List TreeView) (d : DiskState) (head : Head) (images : ℕ → List ℕ) : Type 0 where
  pub view : TreeView
  pub listed : Contains views view
  pub is : ViewOf d view head images

-- in the midst of a commit a disk has the view from before it while the journal is written, that one and the new one
-- while the heads are opened, and from then on the new one
abbrev pub HasViewsAt : Head → ℕ → List (List ℕ) → (ℕ → List ℕ) → Stage → List TreeView → DiskState → Type 0
HasViewsAt head epoch images homes (Journal next) views d = HasAView views d head homes
HasViewsAt head epoch images homes (Opening turn) views d = HasAView views d head homes × HasAView views d (closed_head head epoch) (new_images images homes)
HasViewsAt head epoch images homes (Homes next) views d = HasAView views d (closed_head head epoch) (new_images images homes)
HasViewsAt head epoch images homes (Closing turn) views d = HasAView views d (closed_head head epoch) (new_images images homes)
HasViewsAt head epoch images homes Rested views d = HasAView views d (closed_head head epoch) (new_images images homes)

-- each candidate of the one disk at a place from this one on is one of the other disk there, which has the same size
pub record HasNoMoreFrom (from : ℕ) (less more : DiskState) : Type 0 where
  pub size : less.size ≡ more.size
  pub each : (place : ℕ) (page : List ℕ) → from ≤ place → Contains (candidates (less.cells place)) page → Contains (candidates (more.cells place)) page

-- ---- clear disks and new stores

-- the tree that is recovered from a disk is that of one of these views
pub record RecoversAView (views : List TreeView) (new : DiskState) : Type 0 where
  pub view : TreeView
  pub listed : Contains views view
  pub recovers : recovered_on new ≡ Recovers view.metadata.head.epoch view.tree

-- the view of an empty store
abbrev pub empty_view : List ℕ → ℕ → ℕ → TreeView
empty_view id blocks nodes = record {
  metadata = record { head = made_head id blocks nodes; held = (empty_index (made_head id blocks nodes)).nodes };
  tree = [];
}
