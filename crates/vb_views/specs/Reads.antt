-- What reads of a disk give of a view, and the tree that they have.
use Rattle.std.specs.Prelude.{◌≡◌, ℕ, List, [], slice_get, unwrap_or, Option, Some, None, Ok}
use Rattle.std.specs.List.{All, Contains}
use Rattle.sha2.specs.Sha256.{sha256}
use Rattle.vb_block.specs.declared.digest.Ref.{Ref}
use Rattle.vb_disk.specs.Cells.{candidates}
use Rattle.vb_disk.specs.States.{DiskState}
use Rattle.vb_head.specs.declared.head.Head.{Head}
use Rattle.vb_index.specs.declared.held.Held.{Held}
use Rattle.vb_index.specs.Indexes.{IndexState}
use Rattle.vb_index.specs.Nodes.{held_at, refs_at}
use Rattle.vb_journal.specs.Recoveries.{recovery_of}
use Rattle.vb_journal.specs.Shown.{pages_from}
use Rattle.vb_store.specs.OneOf.{TreeView}
use Rattle.vb_store.specs.Recovered.{Recovers, recovered}
use Rattle.vb_tree.specs.declared.tree.TreeEntry.{TreeEntry}
use Rattle.vb_views.specs.AtRest.{AreBlocksOf, IsMapOf}

-- reads give a page of the reference's digest
abbrev pub GivesRef : (ℕ → List ℕ) → Ref → Type 0
GivesRef reads r = sha256 (reads r.place) ≡ r.digest

-- reads give the map pages of what a slot holds: each has its digest and is that of its references
pub record GivesMapsOf (held : Held) (reads : ℕ → List ℕ) : Type 0 where
  pub due : All (GivesRef reads) held.node.maps
  pub spelled : (k : ℕ) (r : Ref) → slice_get held.node.maps k ≡ Some r → IsMapOf held k (reads r.place)

-- reads of a disk of this size give the blocks of a view: by the journal they recover its head and the blocks of its
-- nodes, and they give its map pages
pub record GivesBlocks (size : ℕ) (head : Head) (nodes : List (Option Held)) (reads : ℕ → List ℕ) : Type 0 where
  pub images : ℕ → List ℕ
  pub recovery : recovery_of size reads ≡ Ok (record { head = head; images = pages_from images 0 head.nodes })
  pub blocks : AreBlocksOf nodes images
  pub maps : (slot : ℕ) (held : Held) → held_at nodes slot ≡ Some held → GivesMapsOf held reads

-- reads give the data pages of what a slot holds: each has the digest of its reference
abbrev pub GivesPagesOf : Held → (ℕ → List ℕ) → Type 0
GivesPagesOf held reads = All (GivesRef reads) held.refs

-- so it is for each slot
abbrev pub GivesPages : List (Option Held) → (ℕ → List ℕ) → Type 0
GivesPages nodes reads = (slot : ℕ) (held : Held) → held_at nodes slot ≡ Some held → GivesPagesOf held reads

-- the page that reads give at a reference
abbrev pub page_at : (ℕ → List ℕ) → Option Ref → List ℕ
page_at reads None = []
page_at reads (Some r) = reads r.place

-- the pages of nodes, by slot and page, as reads give them
abbrev pub pages_by : (ℕ → List ℕ) → List (Option Held) → ℕ → ℕ → List ℕ
pages_by reads nodes slot page = page_at reads (slice_get (unwrap_or (refs_at nodes slot) []) page)

-- reads give each page of nodes, by slot and page, at the place of its reference
abbrev pub GivePlaced : List (Option Held) → (ℕ → ℕ → List ℕ) → (ℕ → List ℕ) → Type 0
GivePlaced nodes pages reads = (slot : ℕ) (held : Held) (k : ℕ) (r : Ref) → held_at nodes slot ≡ Some held → slice_get held.refs k ≡ Some r → reads r.place ≡ pages slot k

-- reads give one of the candidates of each place, whichever it is
abbrev pub GiveCandidates : DiskState → (ℕ → List ℕ) → Type 0
GiveCandidates d reads = (place : ℕ) → Contains (candidates (d.cells place)) (reads place)

-- a view with this head, this index and this tree, as one that may be recovered
abbrev pub tree_view : Head → IndexState → List TreeEntry → TreeView
tree_view head index tree = record { metadata = record { head = head; held = index.nodes }; tree = tree }

-- reads of a disk of this size recover one of these views
pub record RecoverOneOf (views : List TreeView) (size : ℕ) (reads : ℕ → List ℕ) : Type 0 where
  pub view : TreeView
  pub listed : Contains views view
  pub recovers : recovered size reads ≡ Recovers view.metadata.head.epoch view.tree
