-- Views: the committed state of a store in memory, and the data places that it uses.
use Rattle.std.specs.Prelude.{◌≡◌, ◌↔◌, ℕ, ◌+◌, ◌-◌, ◌<◌, ◌≤◌, ◌==◌, List, [], ◌∷◌, length, replicate, count_by, Option, Some, None}
use Rattle.std.specs.List.{All, Contains}
use Rattle.vb_geometry.specs.Layout as geometry
use Rattle.vb_geometry.specs.Layout.{page_limit}
use Rattle.vb_head.specs.declared.head.Head.{Head}
use Rattle.vb_head.specs.declared.head.State.TheVariants.{Closed}
use Rattle.vb_head.specs.Heads.{IsInRange}
use Rattle.vb_index.specs.declared.held.Held.{Held}
use Rattle.vb_index.specs.Indexes.{IndexState}
use Rattle.vb_index.specs.Nodes.{held_at, pages_in, root_held}
use Rattle.vb_inode.specs.Layout.{AreRefs}
pub use Rattle.vb_plan.specs.Places.{places_in, places_of, places_of_slot}
use Rattle.vb_space.specs.Spaces.{DataPlaces, IsCommitted, IsNext, committed_count, next_count}
use Rattle.vb_tree.specs.declared.tree.Limits.{Limits}
use Rattle.vb_tree.specs.Trees.{data_pages_of, map_pages_of}

-- what contracts see of a view: its head, the index of the committed nodes, that of the next view's nodes where one is
-- begun, and the data places
pub record ViewState : Type 0 where
  pub head : Head
  pub index : IndexState
  pub next : Option IndexState
  pub space : DataPlaces

-- the first data place of a store
abbrev pub data_start : Head → ℕ
data_start head = geometry.data_start head.nodes

-- what a store's tree may take: half of the data places, and all nodes
abbrev pub limits_of : Head → Limits
limits_of head = record { pages = page_limit head.blocks head.nodes; nodes = head.nodes }

-- the places that the references of a next view name, none where none is begun
abbrev pub places_of_next : Option IndexState → List ℕ
places_of_next None = []
places_of_next (Some index) = places_in index.nodes

-- an index is that of a store at rest: it keeps the store's limits, each file has its pages and its map pages, and
-- their references, which can stand in blocks, name data places, each of them once
pub record CanView (head : Head) (index : IndexState) : Type 0 where
  pub range : IsInRange head
  pub closed : head.state ≡ Closed
  pub limits : index.limits ≡ limits_of head
  pub pages : pages_in index.nodes ≤ index.limits.pages
  pub refs : (slot : ℕ) (held : Held) → held_at index.nodes slot ≡ Some held → length held.refs ≡ data_pages_of held.node.length
  pub maps : (slot : ℕ) (held : Held) → held_at index.nodes slot ≡ Some held → length held.node.maps ≡ map_pages_of held.node.length
  pub map_refs : (slot : ℕ) (held : Held) → held_at index.nodes slot ≡ Some held → AreRefs held.node.maps
  pub above : All (λ place. data_start head ≤ place) (places_in index.nodes)
  pub below : All (λ place. place < head.blocks) (places_in index.nodes)
  pub once : (place : ℕ) → count_by (λ p. p == place) (places_in index.nodes) ≤ 1

-- the data places of a store at rest: the committed view uses exactly those that the index's references name, and no
-- next view is begun
pub record IsSpaceOf (head : Head) (index : IndexState) (s : DataPlaces) : Type 0 where
  pub first : s.first ≡ data_start head
  pub end : data_start head + length s.users ≡ head.blocks
  pub committed : (place : ℕ) → IsCommitted s place ↔ Contains (places_in index.nodes) place
  pub few : committed_count s ≤ length (places_in index.nodes)
  pub none_begun : next_count s ≡ 0

-- the index of a store without entries: a root, and no node in the other slots
abbrev pub empty_index : Head → IndexState
empty_index head = record { limits = limits_of head; nodes = Some root_held ∷ replicate (head.nodes - 1) None }

-- the index of a next view, where one is begun, can be that of a store at rest with this head
abbrev pub CanViewNext : Head → Option IndexState → Type 0
CanViewNext head None = Unit {0}
CanViewNext head (Some index) = CanView head index × (length index.nodes ≡ head.nodes)

-- a view: its index is that of its head, and so is that of the next view, where one is begun; of its data places the
-- committed view uses exactly those that the index's references name, which are at most half of them, and the next view
-- exactly those that the next index's references name, and none where none is begun
pub record IsView (v : ViewState) : Type 0 where
  pub can : CanView v.head v.index
  pub slots : length v.index.nodes ≡ v.head.nodes
  pub first : v.space.first ≡ data_start v.head
  pub end : v.space.first + length v.space.users ≡ v.head.blocks
  pub few : committed_count v.space ≤ v.index.limits.pages
  pub committed : (place : ℕ) → IsCommitted v.space place ↔ Contains (places_in v.index.nodes) place
  pub can_next : CanViewNext v.head v.next
  pub begun : (place : ℕ) → IsNext v.space place ↔ Contains (places_of_next v.next) place

-- no next view is begun
abbrev pub HasNoneBegun : ViewState → Type 0
HasNoneBegun v = v.next ≡ None
