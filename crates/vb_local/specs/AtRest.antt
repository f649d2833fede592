-- What a commit that rests leaves of the views in memory: each page that it wrote is settled at its new reference.
use Rattle.std.specs.Prelude.{◌≡◌, ℕ, ◌==◌, ◌&&◌, ◌<◌, Bool, false, if◌then◌else◌, is_none, List, [], ◌∷◌, length, Option, Some, None}
use Rattle.std.specs.Str.{bytes_eq}
use Rattle.vb_active.specs.Performs.{HasTreeOn}
use Rattle.vb_active.specs.Views.{ActiveState, ref_at}
use Rattle.vb_block.specs.declared.digest.Ref.{Ref}
use Rattle.vb_disk.specs.States.{DiskState}
use Rattle.vb_frozen.specs.declared.entry.FrozenEntry.{FrozenEntry}
use Rattle.vb_frozen.specs.Orders.{with_reference}
use Rattle.vb_frozen.specs.Views.{HasFrozenTree}
use Rattle.vb_index.specs.declared.held.Held.{Held}
use Rattle.vb_head.specs.declared.head.Head.{Head}
use Rattle.vb_index.specs.Heights.{IsRooted}
use Rattle.vb_index.specs.Indexes.{IndexState, KeepsLimits}
use Rattle.vb_index.specs.Nodes.{IsTable}
use Rattle.vb_pages.specs.Tables.{kept_page, Forgets}
use Rattle.vb_store.specs.Views.{HasNoneBegun, IsView, ViewState}
use Rattle.vb_tree.specs.declared.tree.TreeEntry.{TreeEntry}
use Rattle.vb_local.specs.States.{PhaseState, Rests}
use Rattle.vb_local.specs.Ties.{FrozenRelies, FrozenState, HaveDigests, KeepsEntries, LiveRelies}

-- ---- pages in memory

-- whether a page in memory, where there is one, has these bytes
abbrev pub has_bytes : List ℕ → Option (List ℕ) → Bool
has_bytes bytes None = false
has_bytes bytes (Some live) = bytes_eq live bytes

-- what a live view keeps in memory of a page that was written with these frozen bytes: nothing where it has the same
abbrev pub left_beside : List ℕ → Option (List ℕ) → Option (List ℕ)
left_beside bytes live = if has_bytes bytes live then None else live

-- so it is where a frozen view kept that page, and else all stays
abbrev pub unsettled : Option (List ℕ) → Option (List ℕ) → Option (List ℕ)
unsettled None live = live
unsettled (Some bytes) live = left_beside bytes live

-- the frozen view keeps no page in memory, and the live one exactly those with other bytes than the frozen ones
pub record SettlesPages (old : ActiveState) (frozen : FrozenState) (new : ActiveState) (settled : FrozenState) : Type 0 where
  pub none : (slot page : ℕ) → kept_page settled.pages slot page ≡ None
  pub live : (slot page : ℕ) → kept_page new.pages slot page ≡ unsettled (kept_page frozen.pages slot page) (kept_page old.pages slot page)

-- ---- what settling leaves

-- a page of a slot with a new reference
pub record NewRef : Type 0 where
  pub slot : ℕ
  pub page : ℕ
  pub reference : Ref

-- an order with these references, one after the other
abbrev pub with_references : List NewRef → List FrozenEntry → List FrozenEntry
with_references [] order = order
with_references (r ∷ rs) order = with_references rs (with_reference r.slot r.page r.reference order)

-- one order is another with new references
abbrev pub HasNewRefs : List FrozenEntry → List FrozenEntry → Type 0
HasNewRefs old new = (refs : List NewRef) × (new ≡ with_references refs old)

-- views rely on nodes, which have each page that the frozen one keeps in memory
pub record CanSettle (nodes : List (Option Held)) (live : ActiveState) (frozen : FrozenState) : Type 0 where
  pub relies : LiveRelies nodes live
  pub frozen_relies : FrozenRelies nodes frozen
  pub digests : HaveDigests nodes frozen
  pub entries : KeepsEntries frozen

-- the disk has each page that the frozen view keeps in memory at its reference in the nodes
abbrev pub HasKept : DiskState → List (Option Held) → FrozenState → Type 0
HasKept d nodes frozen = (slot page : ℕ) (bytes : List ℕ) (reference : Ref) → kept_page frozen.pages slot page ≡ Some bytes
    → ref_at nodes slot page ≡ Some reference → (d.cells reference.place).first ≡ bytes

-- one view became another: it rests on the same nodes, keeps its limits, and has the same trees on each disk that has
-- the pages which the frozen view kept
pub record KeepsLive (nodes : List (Option Held)) (frozen : FrozenState) (old new : ActiveState) : Type 0 where
  pub limits : new.index.limits ≡ old.index.limits
  pub within : KeepsLimits old.index → KeepsLimits new.index
  pub relies : LiveRelies nodes old → LiveRelies nodes new
  pub tree : (d : DiskState) (tree : List TreeEntry) → HasKept d nodes frozen → HasTreeOn d old tree → HasTreeOn d new tree

-- the same of a frozen view, which has new references at most
pub record KeepsFrozen (nodes : List (Option Held)) (old new : FrozenState) : Type 0 where
  pub relies : FrozenRelies nodes old → FrozenRelies nodes new
  pub digests : HaveDigests nodes old → HaveDigests nodes new
  pub entries : KeepsEntries old → KeepsEntries new
  pub kept : (d : DiskState) → HasKept d nodes old → HasKept d nodes new
  pub order : HasNewRefs old.order new.order
  pub tree : (d : DiskState) (tree : List TreeEntry) → HasKept d nodes old → HasFrozenTree old.order old.pages d tree
      → HasFrozenTree new.order new.pages d tree

-- one page was settled in the live view, where it had these bytes
pub record SettlesLive (nodes : List (Option Held)) (frozen : FrozenState) (slot page : ℕ) (bytes : List ℕ) (old new : ActiveState) : Type 0 where
  pub keeps : KeepsLive nodes frozen old new
  pub pages : (s k : ℕ) → kept_page new.pages s k
      ≡ (if s == slot && k == page then left_beside bytes (kept_page old.pages s k) else kept_page old.pages s k)

-- one page was settled in the frozen view
pub record SettlesFrozen (nodes : List (Option Held)) (slot page : ℕ) (old new : FrozenState) : Type 0 where
  pub keeps : KeepsFrozen nodes old new
  pub forgets : Forgets old.pages new.pages slot page
  pub fewer : length new.pages < length old.pages

-- pages were settled in both views, some or all: settling what is left of them gives what settling all gave
pub record Settling (nodes : List (Option Held)) (old : ActiveState) (frozen : FrozenState) (new : ActiveState) (settled : FrozenState) : Type 0 where
  pub live : KeepsLive nodes frozen old new
  pub kept : KeepsFrozen nodes frozen settled
  pub pages : (slot page : ℕ) → unsettled (kept_page settled.pages slot page) (kept_page new.pages slot page)
      ≡ unsettled (kept_page frozen.pages slot page) (kept_page old.pages slot page)

-- all pages were settled in both views
pub record SettlesAll (nodes : List (Option Held)) (old : ActiveState) (frozen : FrozenState) (new : ActiveState) (settled : FrozenState) : Type 0 where
  pub live : KeepsLive nodes frozen old new
  pub kept : KeepsFrozen nodes frozen settled
  pub pages : SettlesPages old frozen new settled

-- ---- the end of a commit

-- a next view is begun on whose nodes the live and the frozen view rely
pub record CanRest (live : ActiveState) (v : ViewState) (frozen : FrozenState) : Type 0 where
  pub next : IndexState
  pub begun : v.next ≡ Some next
  pub settle : CanSettle next.nodes live frozen

-- the next view is the committed one with this head, and all pages were settled; the frozen view stays where a view stands
pub record RestsOver (live : ActiveState) (v : ViewState) (frozen : FrozenState) (head : Head) (standing : Option ℕ) (after : ActiveState) (next : ViewState) (phase : PhaseState) : Type 0 where
  pub index : v.next ≡ Some next.index
  pub head_is : next.head ≡ head
  pub none_begun : HasNoneBegun next
  pub view : IsView next
  pub settled : FrozenState
  pub rests : phase ≡ Rests (if is_none standing then None else Some settled)
  pub settles : SettlesAll next.index.nodes live frozen after settled
  pub table : IsTable next.index.nodes
  pub rooted : IsRooted next.index.nodes
