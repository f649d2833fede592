-- A view at rest: what the candidates of a disk's places are to the nodes and the pages of a view.
use Rattle.std.specs.Prelude.{◌≡◌, ℕ, ◌<◌, List, length, slice_get, Option, Some, Ok}
use Rattle.std.specs.List.{All}
use Rattle.vb_block.specs.declared.digest.Ref.{Ref}
use Rattle.vb_disk.specs.States.{DiskState}
use Rattle.vb_head.specs.declared.head.Head.{Head}
use Rattle.vb_index.specs.declared.held.Held.{Held}
use Rattle.vb_index.specs.Heights.{IsRooted}
use Rattle.vb_index.specs.Indexes.{IndexState}
use Rattle.vb_index.specs.Nodes.{held_at, IsTable}
use Rattle.vb_inode.specs.Layout.{node_page}
use Rattle.vb_inode.specs.Reading.{map_read, node_read}
use Rattle.vb_journal.specs.Progress.{IsAtRest}
use Rattle.vb_pages.specs.Disks.{HoldsOnly}
use Rattle.vb_plan.specs.Maps.{group_at}
use Rattle.vb_plan.specs.Plans.{node_at, node_in}
use Rattle.vb_store.specs.Views.{CanView}

-- ---- in memory

-- an index is that of the view of a store with this head: it has its limits and references, a slot for each node of the
-- store, and nodes that hang on a root
pub record IsViewOf (head : Head) (index : IndexState) : Type 0 where
  pub can : CanView head index
  pub slots : length index.nodes ≡ head.nodes
  pub table : IsTable index.nodes
  pub rooted : IsRooted index.nodes

-- ---- blocks

-- a page is the block of the node of a slot: it reads as that node, and where the slot is free as a free node of its own
abbrev pub IsBlockOf : List (Option Held) → ℕ → List ℕ → Type 0
IsBlockOf nodes slot page = node_read (length nodes) page ≡ Ok (node_in slot (node_at nodes slot))

-- so is each of these pages, by slot
abbrev pub AreBlocksOf : List (Option Held) → (ℕ → List ℕ) → Type 0
AreBlocksOf nodes pages = (slot : ℕ) → slot < length nodes → IsBlockOf nodes slot (pages slot)

-- a page is the map page of this number of a file: it reads as the references that it is for
abbrev pub IsMapOf : Held → ℕ → List ℕ → Type 0
IsMapOf held k page = map_read (length (group_at k held.refs)) page ≡ Ok (group_at k held.refs)

-- the block of the node of a slot as a commit writes it
abbrev pub node_block : List (Option Held) → ℕ → List ℕ
node_block nodes slot = node_page (node_in slot (node_at nodes slot))

-- ---- on the disk

-- every candidate of a reference's place is one page, of the reference's digest
abbrev pub HoldsRef : DiskState → Ref → Type 0
HoldsRef d r = HoldsOnly (d.cells r.place) r.digest

-- so it is for each reference of what a slot holds, and each map page is that of its references
pub record HoldsPagesOf (held : Held) (d : DiskState) : Type 0 where
  pub pages : All (HoldsRef d) held.refs
  pub maps : All (HoldsRef d) held.node.maps
  pub spelled : (k : ℕ) (r : Ref) → slice_get held.node.maps k ≡ Some r → IsMapOf held k (d.cells r.place).first

-- so it is for each slot
abbrev pub HoldsAllPages : List (Option Held) → DiskState → Type 0
HoldsAllPages nodes d = (slot : ℕ) (held : Held) → held_at nodes slot ≡ Some held → HoldsPagesOf held d

-- a disk is at rest for the view with this head and this index: the journal is, with the blocks of the view's nodes as
-- homes, and the places that the view's references name hold its pages. It speaks of candidates alone, whatever is hurt.
pub record IsAtRestFor (head : Head) (index : IndexState) (d : DiskState) : Type 0 where
  pub homes : ℕ → List ℕ
  pub journal : ℕ → List ℕ
  pub rests : IsAtRest head homes journal d
  pub blocks : AreBlocksOf index.nodes homes
  pub holds : HoldsAllPages index.nodes d
