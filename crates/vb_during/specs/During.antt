-- A commit of a view on its disk: what the disk has of the committed view and of the next one, wherever the commit is.
use Rattle.std.specs.Prelude.{◌≡◌, ◌⊎◌, ℕ, ◌<◌, ◌^◌, List, [], ◌∷◌, slice_get, Option, Some}
use Rattle.std.specs.List.{All, Contains}
use Rattle.vb_commit.specs.Known.{IsCommittingFor}
use Rattle.vb_commit.specs.Ways.{IsWay, WayState, bytes_in}
use Rattle.vb_disk.specs.Cells.{candidates}
use Rattle.vb_disk.specs.Crashes.{MayCrashTo}
use Rattle.vb_disk.specs.Moments.{EachMoment}
use Rattle.vb_disk.specs.States.{DiskState}
use Rattle.vb_head.specs.declared.head.Head.{Head}
use Rattle.vb_index.specs.Contents.{HasTree}
use Rattle.vb_index.specs.Indexes.{IndexState}
use Rattle.vb_inode.specs.declared.next_view.NextNode.{NextNode}
use Rattle.vb_inode.specs.declared.next_view.PageSource.TheVariants.{Kept}
use Rattle.vb_block.specs.declared.digest.Ref.{Ref}
use Rattle.vb_journal.specs.declared.commit_stage.Stage.{Stage}
use Rattle.vb_journal.specs.declared.commit_stage.Stage.TheVariants.{Journal, Opening, Homes, Closing, Rested}
use Rattle.vb_journal.specs.Plans.{closed_head}
use Rattle.vb_journal.specs.Progress.{IsUnharmed, IsWholeAt}
use Rattle.vb_plan.specs.Conditions.{CanPlan, CanSeal}
use Rattle.vb_plan.specs.declared.plan_page.PlanPage.{PlanPage}
use Rattle.vb_plan.specs.Following.{CanFollow}
use Rattle.vb_plan.specs.Laws.{place_of, slots_next}
use Rattle.vb_plan.specs.Plans.{Basis, PlanState, plan_of}
use Rattle.vb_plan.specs.Seen.{basis_of}
use Rattle.vb_space.specs.Spaces.{free_places}
use Rattle.vb_store.specs.Clear.{IsClear}
use Rattle.vb_store.specs.OneOf.{TreeView}
use Rattle.vb_store.specs.Views.{HasNoneBegun, IsView, ViewState, limits_of, places_in}
use Rattle.vb_tree.specs.declared.tree.TreeEntry.{TreeEntry}
use Rattle.vb_views.specs.AtRest.{IsViewOf}
use Rattle.vb_views.specs.Commits.{HasWholePlacesAt, HoldsView, IsPageOf, RecoversAt}
use Rattle.vb_views.specs.Reads.{tree_view}

-- ---- the views

-- a commit of a view: the head, the index and the tree that are committed, the free places and the nodes that its plan
-- is made of, and the epoch, the index, the pages by slot and number, and the tree of the next view
pub record ViewCommit : Type 0 where
  pub head : Head
  pub old : IndexState
  pub tree : List TreeEntry
  pub free : List ℕ
  pub nodes : List NextNode
  pub epoch : ℕ
  pub new : IndexState
  pub source : ℕ → ℕ → List ℕ
  pub after : List TreeEntry

-- what its plan stands on
abbrev pub basis_for : ViewCommit → Basis
basis_for v = record { nodes = v.old.nodes; free = v.free }

-- its plan
abbrev pub plan_for : ViewCommit → PlanState
plan_for v = plan_of (basis_for v) v.nodes

-- the head that it writes last
abbrev pub head_after : ViewCommit → Head
head_after v = closed_head v.head v.epoch

-- the committed view, as one that may be recovered
abbrev pub committed_view : ViewCommit → TreeView
committed_view v = tree_view v.head v.old v.tree

-- the next view
abbrev pub next_view : ViewCommit → TreeView
next_view v = tree_view (head_after v) v.new v.after

-- the next view follows the committed one: its nodes are those of the plan, no page is planned where the committed view
-- has one, the pages given are those of the plan, and the next nodes have their tree over them
pub record Follows (v : ViewCommit) : Type 0 where
  pub can : CanPlan (basis_for v) v.nodes
  pub seal : CanSeal (basis_for v) v.nodes
  pub is : v.new.nodes ≡ slots_next (basis_for v) v.nodes
  pub view : IsViewOf (head_after v) v.new
  pub apart : All (λ p. Contains (places_in v.old.nodes) (place_of p) → ⊥) (plan_for v).pages
  pub given : All (λ p. IsPageOf p (bytes_in v.source p)) (plan_for v).pages
  pub has : HasTree v.new.nodes v.source v.after

-- a commit to these nodes can be started over a view at this epoch
pub record CanStart (view : ViewState) (next : List NextNode) (epoch : ℕ) : Type 0 where
  pub is : IsView view
  pub none_begun : HasNoneBegun view
  pub follows : CanFollow view.index next
  pub sequence : view.head.sequence < 2 ^ 63
  pub in_range : epoch < 2 ^ 63

-- the commit that is started so, where the committed view has the one tree, and the next one the other over these pages
abbrev pub commit_over : ViewState → List NextNode → ℕ → List TreeEntry → (ℕ → ℕ → List ℕ) → List TreeEntry → ViewCommit
commit_over view next epoch tree source after = record {
  head = view.head;
  old = view.index;
  tree = tree;
  free = free_places view.space;
  nodes = next;
  epoch = epoch;
  new = record { limits = limits_of view.head; nodes = slots_next (basis_of view.index view.space) next };
  source = source;
  after = after;
}

-- ---- the disk

-- each page that the next view keeps is the only candidate of its place
abbrev pub HoldsKept : ViewCommit → DiskState → Type 0
HoldsKept v d = (x : NextNode) (k : ℕ) (r : Ref) → Contains v.nodes x → slice_get x.pages k ≡ Some (Kept r)
    → All (λ page. page ≡ v.source x.node.slot k) (candidates (d.cells r.place))

-- a commit on its way is that of this view: it has its head, its epoch and the images of its plan
pub record IsWayOf (v : ViewCommit) (s : WayState) : Type 0 where
  pub way : IsWay s
  pub head : s.head ≡ v.head
  pub epoch : s.epoch ≡ v.epoch
  pub images : s.images ≡ (plan_for v).images

-- a disk over which the commit of a view is on its way: the next view follows the committed one, which the disk holds
-- with its pages; the pages placed so far, the heads, the homes and the journal are those of the commit
pub record IsCommittingView (v : ViewCommit) (s : WayState) (d : DiskState) : Type 0 where
  pub homes : ℕ → List ℕ
  pub journal : ℕ → List ℕ
  pub follows : Follows v
  pub of : IsWayOf v s
  pub known : IsCommittingFor v.source homes journal (plan_for v).pages s d
  pub holds : HoldsView v.head v.old homes v.tree d
  pub kept : HoldsKept v d

-- ---- what it leads to

-- the views that may be recovered at a stage: the committed one while the journal is written, that one and the next one
-- while the heads are opened, and from then on the next one
abbrev pub views_at : ViewCommit → Stage → List TreeView
views_at v (Journal next) = committed_view v ∷ []
views_at v (Opening turn) = committed_view v ∷ next_view v ∷ []
views_at v (Homes next) = next_view v ∷ []
views_at v (Closing turn) = next_view v ∷ []
views_at v Rested = next_view v ∷ []

-- what a step leaves of a disk that is known: one over which the commit is on its way after it, and so is each moment
-- within it, before it or after it
pub record LeadsTo (v : ViewCommit) (before after : WayState) (d : DiskState) (new : Option DiskState) : Type 0 where
  pub next : DiskState
  pub told : new ≡ Some next
  pub known : IsCommittingView v after next
  pub moments : EachMoment (λ m. IsCommittingView v before m ⊎ IsCommittingView v after m) d next

-- nothing that counts at a stage is hurt: the heads, homes and images that the journal needs, and the places of the
-- views that may be recovered, each of which has one candidate
pub record IsWholeView (v : ViewCommit) (stage : Stage) (d : DiskState) : Type 0 where
  pub unharmed : IsUnharmed v.head (plan_for v).images stage d
  pub places : HasWholePlacesAt stage v.old v.new d

-- so it is of a commit on its way, and each page of its plan that was placed is whole
pub record StaysWhole (v : ViewCommit) (s : WayState) (d : DiskState) : Type 0 where
  pub view : IsWholeView v s.stage d
  pub placed : (p : PlanPage) → Contains (plan_for v).pages p → (Contains s.pages p → ⊥) → IsWholeAt d (place_of p)

-- each crash recovers exactly what a view has that may be recovered at the stage, and the disk is clear
pub record RecoversWhole (v : ViewCommit) (stage : Stage) (d : DiskState) : Type 0 where
  pub crash : (new : DiskState) → MayCrashTo d new → RecoversAt stage v.head.epoch v.tree v.epoch v.after new
  pub clear : IsClear d
