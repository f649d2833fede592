-- How the views of a folder hang together in memory, in each phase: what the code relies on, whatever a disk tells.
use Rattle.std.specs.Prelude.{◌≡◌, ℕ, ◌<◌, ◌^◌, Bool, true, false, List, [], length, Option, Some, None, IsSome}
use Rattle.vb_active.specs.Performs.{HasTreeOn}
use Rattle.vb_active.specs.Views.{ActiveState, KeepsFiles}
use Rattle.vb_commit.specs.Known.{IsCommittingFor}
use Rattle.vb_commit.specs.Ways.{IsWay, WayState, begun_way}
use Rattle.vb_disk.specs.States.{DiskState}
use Rattle.vb_frozen.specs.Orders.{order_of}
use Rattle.vb_frozen.specs.Sources.{next_of}
use Rattle.vb_frozen.specs.Views.{HasFrozenTree}
use Rattle.vb_head.specs.declared.head.Head.{Head}
use Rattle.vb_index.specs.Heights.{IsRooted}
use Rattle.vb_index.specs.Indexes.{HasShapeOf, IndexState, KeepsLimits}
use Rattle.vb_index.specs.Nodes.{IsTable}
use Rattle.vb_journal.specs.Plans.{is_rested}
use Rattle.vb_journal.specs.Progress.{IsAtRest}
use Rattle.vb_plan.specs.Laws.{slots_next}
use Rattle.vb_plan.specs.Plans.{PlanState, plan_of}
use Rattle.vb_plan.specs.Seen.{basis_of}
use Rattle.vb_local.specs.States.{LocalState, PhaseState, Rests, Waits, Writes}
use Rattle.vb_local.specs.Ties.{FrozenState, IsFrozenAtRest, IsFrozenOver, IsFrozenUnder, IsLiveOver, LiveFollows}
use Rattle.vb_store.specs.Views.{HasNoneBegun, IsView, ViewState, limits_of}
use Rattle.vb_tree.specs.declared.tree.TreeEntry.{TreeEntry}
use Rattle.vb_tree.specs.Trees.{IsTree}

-- a freeze can be counted: its commit has a sequence and an epoch below 2^63
pub record CanCount (head : Head) (epoch : ℕ) : Type 0 where
  pub sequence : head.sequence < 2 ^ 63
  pub in_range : epoch < 2 ^ 63

-- a frozen view that stands at rest, where one does, is the committed one
abbrev pub IsAtRestOver : IndexState → Option FrozenState → Type 0
IsAtRestOver committed None = Unit {0}
IsAtRestOver committed (Some frozen) = IsFrozenAtRest committed frozen

-- at rest no next view is begun
pub record IsTiedAtRest (v : ViewState) (frozen : Option FrozenState) : Type 0 where
  pub none_begun : HasNoneBegun v
  pub frozen_is : IsAtRestOver v.index frozen

-- frozen and not planned: no next view is begun, the frozen view can be committed and counted, and the live one
-- follows it
pub record IsTiedBefore (v : ViewState) (live : ActiveState) (frozen : FrozenState) (epoch : ℕ) : Type 0 where
  pub none_begun : HasNoneBegun v
  pub frozen_is : IsFrozenOver v.index frozen
  pub follows : LiveFollows frozen live
  pub can : CanCount v.head epoch

-- a commit is on its way over the committed view, whose next view is begun: it isn't at its end, and the pages that are
-- left are the frozen view's
pub record IsTiedDuring (v : ViewState) (live : ActiveState) (frozen : FrozenState) (way : WayState) : Type 0 where
  pub next : IndexState
  pub begun : v.next ≡ Some next
  pub frozen_is : IsFrozenUnder next.nodes way.pages frozen
  pub follows : LiveFollows frozen live
  pub is : IsWay way
  pub head : way.head ≡ v.head
  pub going : is_rested way.stage ≡ false

-- so it is in each phase
abbrev pub IsTiedIn : ViewState → ActiveState → PhaseState → Type 0
IsTiedIn v live (Rests frozen) = IsTiedAtRest v frozen
IsTiedIn v live (Waits frozen epoch) = IsTiedBefore v live frozen epoch
IsTiedIn v live (Writes frozen way) = IsTiedDuring v live frozen way

-- at rest there is a frozen view exactly where one stands
abbrev pub StandsIn : PhaseState → Option ℕ → Type 0
StandsIn (Rests None) standing = standing ≡ None
StandsIn (Rests (Some frozen)) standing = IsSome standing
StandsIn (Waits frozen epoch) standing = Unit {0}
StandsIn (Writes frozen way) standing = Unit {0}

-- the views of a folder: the live one is over the committed one and keeps its limits, and the frozen one is as its phase
-- says
pub record AreTied (s : LocalState) : Type 0 where
  pub view : IsView s.view
  pub live : IsLiveOver s.view.index s.live
  pub limits : KeepsLimits s.live.index
  pub phase : IsTiedIn s.view s.live s.phase
  pub stands : StandsIn s.phase s.standing

-- ---- what begins a phase

-- a frozen view of a live one: it has its pages in memory, and its tree over each disk
pub record IsFrozenOf (live : ActiveState) (frozen : FrozenState) : Type 0 where
  pub table : IsTable live.index.nodes
  pub rooted : IsRooted live.index.nodes
  pub slots : live.index.limits.nodes ≡ length live.index.nodes
  pub files : KeepsFiles live.index.nodes live.pages
  pub pages : frozen.pages ≡ live.pages
  pub order : (tree : List TreeEntry) → IsTree tree → HasShapeOf live.index.nodes tree → frozen.order ≡ order_of live.index.nodes tree
  pub tree : (d : DiskState) (tree : List TreeEntry) → HasTreeOn d live tree → HasFrozenTree frozen.order frozen.pages d tree

-- a frozen view of a live one, where one stands
abbrev pub IsBegun : Bool → ActiveState → Option FrozenState → Type 0
IsBegun false live frozen = frozen ≡ None
IsBegun true live None = ⊥
IsBegun true live (Some frozen) = IsFrozenOf live frozen

-- a live view of the committed nodes without pages in memory, and the frozen view of it where it stands
pub record BeginsOver (v : ViewState) (stands : Bool) (live : ActiveState) (frozen : Option FrozenState) : Type 0 where
  pub live_is : live ≡ record { index = v.index; pages = [] }
  pub table : IsTable v.index.nodes
  pub rooted : IsRooted v.index.nodes
  pub frozen_is : IsBegun stands live frozen

-- the index of the next view of a frozen one
abbrev pub next_index : ViewState → FrozenState → IndexState
next_index v frozen = record { limits = limits_of v.head; nodes = slots_next (basis_of v.index v.space) (next_of frozen.order frozen.pages) }

-- the plan of a frozen view over the committed one
abbrev pub plan_over : ViewState → FrozenState → PlanState
plan_over v frozen = plan_of (basis_of v.index v.space) (next_of frozen.order frozen.pages)

-- a frozen view was planned: its commit begins, and its next view is begun; and over a store at rest the commit is known
pub record IsPlanned (old : ViewState) (frozen : FrozenState) (epoch : ℕ) (new : ViewState) (way : WayState) : Type 0 where
  pub begun : new ≡ record old { next = Some (next_index old frozen); space = new.space }
  pub way_is : way ≡ begun_way old.head epoch (plan_over old frozen).images (plan_over old frozen).pages
  pub is : IsWay way
  pub view : IsView new
  pub table : IsTable (next_index old frozen).nodes
  pub rooted : IsRooted (next_index old frozen).nodes
  pub known : (source : ℕ → ℕ → List ℕ) (homes journal : ℕ → List ℕ) (d : DiskState) → IsAtRest old.head homes journal d
      → IsCommittingFor source homes journal (plan_over old frozen).pages way d
