-- What a disk has of the committed view and of the next one while a commit goes on.
use Rattle.std.specs.Prelude.{◌≡◌, ◌⊎◌, ℕ, List, [], length, None}
use Rattle.std.specs.List.{All, Contains}
use Rattle.sha2.specs.Sha256.{sha256}
use Rattle.vb_disk.specs.Cells.{candidates}
use Rattle.vb_disk.specs.States.{DiskState}
use Rattle.vb_head.specs.declared.head.Head.{Head}
use Rattle.vb_index.specs.Contents.{HasTree}
use Rattle.vb_index.specs.Indexes.{IndexState}
use Rattle.vb_journal.specs.declared.commit_stage.Stage.{Stage}
use Rattle.vb_journal.specs.declared.commit_stage.Stage.TheVariants.{Journal, Opening, Homes, Closing, Rested}
use Rattle.vb_journal.specs.Plans.{closed_head}
use Rattle.vb_journal.specs.Progress.{new_images}
use Rattle.vb_plan.specs.declared.plan_page.PlanPage.{PlanPage}
use Rattle.vb_plan.specs.declared.plan_page.PlanPage.TheVariants.{Data, Map}
use Rattle.vb_plan.specs.Laws.{place_of}
use Rattle.vb_store.specs.Clear.{first_candidates, last_candidates}
use Rattle.vb_store.specs.Recovered.{Recovers}
use Rattle.vb_store.specs.RecoveredStores.{recovered_on}
use Rattle.vb_store.specs.Views.{places_in}
use Rattle.vb_tree.specs.declared.tree.TreeEntry.{TreeEntry}
use Rattle.vb_views.specs.AtRest.{AreBlocksOf, HoldsAllPages, HoldsRef, IsViewOf}
use Rattle.vb_views.specs.Reads.{pages_by}

-- every candidate of a planned page's place is that page: one of its digest, or this map page
abbrev pub HoldsPlanned : DiskState → PlanPage → Type 0
HoldsPlanned d (Data slot page r) = HoldsRef d r
HoldsPlanned d (Map place image) = All (λ page. page ≡ image) (candidates (d.cells place))

-- a disk of its size holds all pages of the view with this head, this index and this tree, and these are its blocks,
-- wherever they stand
pub record HoldsView (head : Head) (index : IndexState) (blocks : ℕ → List ℕ) (tree : List TreeEntry) (d : DiskState) : Type 0 where
  pub view : IsViewOf head index
  pub id : length head.id ≡ 16
  pub size : d.size ≡ head.blocks
  pub are : AreBlocksOf index.nodes blocks
  pub holds : HoldsAllPages index.nodes d
  pub has : HasTree index.nodes (pages_by (first_candidates d) index.nodes) tree

-- in the midst of a commit a disk holds the committed view while the journal is written, that one and the next one while
-- the heads are opened, and from then on the next one
abbrev pub HoldsViewsAt : Head → ℕ → List (List ℕ) → (ℕ → List ℕ) → Stage → IndexState → List TreeEntry → IndexState → List TreeEntry → DiskState → Type 0
HoldsViewsAt head epoch images homes (Journal next) old tree new after d = HoldsView head old homes tree d
HoldsViewsAt head epoch images homes (Opening turn) old tree new after d = HoldsView head old homes tree d × HoldsView (closed_head head epoch) new (new_images images homes) after d
HoldsViewsAt head epoch images homes (Homes next) old tree new after d = HoldsView (closed_head head epoch) new (new_images images homes) after d
HoldsViewsAt head epoch images homes (Closing turn) old tree new after d = HoldsView (closed_head head epoch) new (new_images images homes) after d
HoldsViewsAt head epoch images homes Rested old tree new after d = HoldsView (closed_head head epoch) new (new_images images homes) after d

-- ---- places that are whole

-- no place that a view's references name is hurt, and each has one candidate
abbrev pub HasWholePlaces : IndexState → DiskState → Type 0
HasWholePlaces index d = (place : ℕ) → Contains (places_in index.nodes) place → ((d.cells place).hurt ≡ None) × ((d.cells place).later ≡ [])

-- so it is at each stage of a commit for the views that may be recovered then
abbrev pub HasWholePlacesAt : Stage → IndexState → IndexState → DiskState → Type 0
HasWholePlacesAt (Journal next) old new d = HasWholePlaces old d
HasWholePlacesAt (Opening turn) old new d = HasWholePlaces old d × HasWholePlaces new d
HasWholePlacesAt (Homes next) old new d = HasWholePlaces new d
HasWholePlacesAt (Closing turn) old new d = HasWholePlaces new d
HasWholePlacesAt Rested old new d = HasWholePlaces new d

-- what reads give recovers the committed epoch and tree while the journal is written, these or the next ones while the
-- heads are opened, and from then on the next ones
abbrev pub RecoversAt : Stage → ℕ → List TreeEntry → ℕ → List TreeEntry → DiskState → Type 0
RecoversAt (Journal next) epoch tree later after d = recovered_on d ≡ Recovers epoch tree
RecoversAt (Opening turn) epoch tree later after d = (recovered_on d ≡ Recovers epoch tree) ⊎ (recovered_on d ≡ Recovers later after)
RecoversAt (Homes next) epoch tree later after d = recovered_on d ≡ Recovers later after
RecoversAt (Closing turn) epoch tree later after d = recovered_on d ≡ Recovers later after
RecoversAt Rested epoch tree later after d = recovered_on d ≡ Recovers later after

-- ---- pages that are placed

-- a page is the planned one: it has the digest, or is the map page
abbrev pub IsPageOf : PlanPage → List ℕ → Type 0
IsPageOf (Data slot number r) page = sha256 page ≡ r.digest
IsPageOf (Map place image) page = page ≡ image

-- the last candidate of a planned page's place is that page: it was written there, and may not be synced yet
abbrev pub HasPlaced : DiskState → PlanPage → Type 0
HasPlaced d p = IsPageOf p (last_candidates d (place_of p))
