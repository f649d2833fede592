-- What a told disk has of a folder: the trees of its views, in each phase, and what may be recovered then.
use Rattle.std.specs.Prelude.{◌≡◌, ◌⊎◌, ℕ, false, List, [], ◌∷◌, Option, Some, None, Result, Ok, Err}
use Rattle.std.specs.List.{Contains}
use Rattle.vb_active.specs.Performs.{HasTreeOn}
use Rattle.vb_active.specs.Views.{ref_at}
use Rattle.vb_block.specs.declared.digest.Ref.{Ref}
use Rattle.vb_commit.specs.Ways.{WayState}
use Rattle.vb_disk.specs.declared.disk_error.DiskError.{DiskError}
use Rattle.vb_disk.specs.Moments.{EachMoment}
use Rattle.vb_disk.specs.States.{DiskState}
use Rattle.vb_during.specs.During.{IsCommittingView, ViewCommit, plan_for, views_at}
use Rattle.vb_frozen.specs.Orders.{order_of}
use Rattle.vb_frozen.specs.Sources.{next_of}
use Rattle.vb_frozen.specs.Views.{HasFrozenTree, live_page}
use Rattle.vb_index.specs.declared.held.Held.{Held}
use Rattle.vb_index.specs.Contents.{HasTree}
use Rattle.vb_index.specs.Indexes.{IndexState}
use Rattle.vb_journal.specs.declared.commit_stage.CommitStep.{CommitStep}
use Rattle.vb_journal.specs.declared.commit_stage.CommitStep.TheVariants.{Wrote, Synced, Committed, Idle, Rested as RestedNow}
use Rattle.vb_next.specs.Frozen.{IsViewOver}
use Rattle.vb_pages.specs.Tables.{kept_page}
use Rattle.vb_plan.specs.Plans.{data_page}
use Rattle.vb_store.specs.Clear.{first_candidates}
use Rattle.vb_store.specs.OneOf.{RecoversOneOf, TreeView}
use Rattle.vb_store.specs.Views.{ViewState}
use Rattle.vb_tree.specs.declared.tree.TreeEntry.{TreeEntry}
use Rattle.vb_views.specs.AtRest.{IsAtRestFor, IsViewOf}
use Rattle.vb_views.specs.Reads.{pages_by, tree_view}
use Rattle.vb_local.specs.States.{LocalState, PhaseState, Rests, Waits, Writes}
use Rattle.vb_local.specs.Ties.{FrozenState}

-- ---- the trees

-- the trees of a folder's views: the live one, the frozen one, and the committed one. At rest the frozen tree is the
-- committed one.
pub record LocalTrees : Type 0 where
  pub active : List TreeEntry
  pub frozen : List TreeEntry
  pub committed : List TreeEntry

-- ---- no commit is planned

-- a disk is at rest for the committed view, and this is its tree
pub record RestsFor (v : ViewState) (tree : List TreeEntry) (d : DiskState) : Type 0 where
  pub view : IsViewOf v.head v.index
  pub rests : IsAtRestFor v.head v.index d
  pub has : HasTree v.index.nodes (pages_by (first_candidates d) v.index.nodes) tree

-- a frozen view that stands at rest, where one does, has this tree
abbrev pub StandsOn : Option FrozenState → List TreeEntry → DiskState → Type 0
StandsOn None tree d = Unit {0}
StandsOn (Some frozen) tree d = HasFrozenTree frozen.order frozen.pages d tree

-- the folder is at rest on a disk
pub record ShowsAtRest (v : ViewState) (frozen : Option FrozenState) (t : LocalTrees) (d : DiskState) : Type 0 where
  pub rests : RestsFor v t.committed d
  pub stands : StandsOn frozen t.frozen d
  pub same : t.frozen ≡ t.committed

-- a frozen view that isn't planned yet has this tree: it is that of an index over the committed one
pub record ShowsBefore (v : ViewState) (frozen : FrozenState) (t : LocalTrees) (d : DiskState) : Type 0 where
  pub rests : RestsFor v t.committed d
  pub tree : HasFrozenTree frozen.order frozen.pages d t.frozen
  pub nodes : List (Option Held)
  pub order : frozen.order ≡ order_of nodes t.frozen
  pub over : IsViewOver v.index nodes t.frozen frozen.pages
  pub has : HasTree nodes (live_page nodes frozen.pages d) t.frozen

-- ---- a commit is on its way

-- the commit of a frozen view over the committed one, to these next nodes, planned over these free places, with these
-- pages by slot and number
abbrev pub commit_of : ViewState → IndexState → List ℕ → FrozenState → (ℕ → ℕ → List ℕ) → ℕ → LocalTrees → ViewCommit
commit_of v next free frozen source epoch t = record {
  head = v.head;
  old = v.index;
  tree = t.committed;
  free = free;
  nodes = next_of frozen.order frozen.pages;
  epoch = epoch;
  new = next;
  source = source;
  after = t.frozen;
}

-- the pages by slot and number are those that the frozen view keeps in memory, where it keeps one, and each of these is
-- planned at its reference in the next nodes
pub record WritesKept (v : ViewCommit) (frozen : FrozenState) : Type 0 where
  pub fresh : (slot page : ℕ) (bytes : List ℕ) → kept_page frozen.pages slot page ≡ Some bytes → v.source slot page ≡ bytes
  pub planned : (slot page : ℕ) (bytes : List ℕ) (reference : Ref) → kept_page frozen.pages slot page ≡ Some bytes
      → ref_at v.new.nodes slot page ≡ Some reference → Contains (plan_for v).pages (data_page slot page reference)

-- a disk on which the commit of the frozen view is on its way
pub record ShowsDuring (v : ViewState) (frozen : FrozenState) (way : WayState) (t : LocalTrees) (d : DiskState) : Type 0 where
  pub tree : HasFrozenTree frozen.order frozen.pages d t.frozen
  pub next : IndexState
  pub begun : v.next ≡ Some next
  pub free : List ℕ
  pub source : ℕ → ℕ → List ℕ
  pub is : IsCommittingView (commit_of v next free frozen source way.epoch t) way d
  pub kept : WritesKept (commit_of v next free frozen source way.epoch t) frozen

-- ---- the whole

-- so it is in each phase
abbrev pub ShowsIn : ViewState → PhaseState → LocalTrees → DiskState → Type 0
ShowsIn v (Rests frozen) t d = ShowsAtRest v frozen t d
ShowsIn v (Waits frozen epoch) t d = ShowsBefore v frozen t d
ShowsIn v (Writes frozen way) t d = ShowsDuring v frozen way t d

-- a disk shows a folder with these trees
pub record ShowsOn (d : DiskState) (s : LocalState) (t : LocalTrees) : Type 0 where
  pub live : HasTreeOn d s.live t.active
  pub phase : ShowsIn s.view s.phase t d

-- ---- what may be recovered

-- the views that may be recovered while a commit is on its way
abbrev pub views_during : ViewState → Option IndexState → FrozenState → WayState → LocalTrees → List TreeView
views_during v None frozen way t = []
views_during v (Some next) frozen way t = views_at (commit_of v next [] frozen (λ slot page. []) way.epoch t) way.stage

-- so in each phase
abbrev pub views_in : ViewState → PhaseState → LocalTrees → List TreeView
views_in v (Rests frozen) t = tree_view v.head v.index t.committed ∷ []
views_in v (Waits frozen epoch) t = tree_view v.head v.index t.committed ∷ []
views_in v (Writes frozen way) t = views_during v v.next frozen way t

-- the views that may be recovered from the disk of a folder with these trees
abbrev pub views_of : LocalState → LocalTrees → List TreeView
views_of s t = views_in s.view s.phase t

-- whichever candidate each place of the disk has, and whatever is hurt, one of them is recovered, or damage is found
abbrev pub RecoversViewsOf : LocalState → LocalTrees → DiskState → Type 0
RecoversViewsOf s t d = RecoversOneOf (views_of s t) false d

-- ---- steps

-- the trees after a step with this answer: once the commit rests the frozen tree is the committed one
abbrev pub trees_after : Result CommitStep DiskError → LocalTrees → LocalTrees
trees_after (Ok Wrote) t = t
trees_after (Ok Synced) t = t
trees_after (Ok Committed) t = t
trees_after (Ok RestedNow) t = record t { committed = t.frozen }
trees_after (Ok Idle) t = t
trees_after (Err error) t = t

-- what a step leaves of a disk that shows the folder: one that shows it afterwards; and from each moment within the step
-- may be recovered what could be before it or can be after it
pub record ShowsNext (old new : LocalState) (t after : LocalTrees) (d : DiskState) (told : Option DiskState) : Type 0 where
  pub next : DiskState
  pub is_told : told ≡ Some next
  pub shows : ShowsOn next new after
  pub moments : EachMoment (λ m. RecoversViewsOf old t m ⊎ RecoversViewsOf new after m) d next
