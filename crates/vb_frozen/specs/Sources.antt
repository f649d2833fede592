-- The next view of a frozen one: its nodes, and where the pages of its files come from.
use Rattle.std.specs.Prelude.{ℕ, ◌+◌, List, [], ◌∷◌, map, Option, Some, None}
use Rattle.sha2.specs.Sha256.{sha256}
use Rattle.vb_block.specs.declared.digest.Ref.{Ref}
use Rattle.vb_inode.specs.declared.next_view.NextNode.{NextNode}
use Rattle.vb_inode.specs.declared.next_view.PageSource.{PageSource}
use Rattle.vb_inode.specs.declared.next_view.PageSource.TheVariants.{Kept, Fresh}
use Rattle.vb_inode.specs.declared.node.NodeKind.TheVariants.{Folder as FolderNode}
use Rattle.vb_tree.specs.Trees.{name_of}
use Rattle.vb_index.specs.Indexes.{node_kind}
use Rattle.vb_pages.specs.declared.kept.KeptPage.{KeptPage}
use Rattle.vb_pages.specs.declared.kept.PageKey.{PageKey}
use Rattle.vb_pages.specs.Tables.{kept_page}
use Rattle.vb_frozen.specs.declared.entry.FrozenEntry.{FrozenEntry}

-- where a page comes from: from memory with its digest where it is kept there, and else from where its reference says
abbrev pub source_of : Option (List ℕ) → Ref → PageSource
source_of None reference = Kept reference
source_of (Some bytes) reference = Fresh (sha256 bytes)

-- where the pages of a slot come from, from this one on
abbrev pub sources_from : List (PageKey × KeptPage) → ℕ → ℕ → List Ref → List PageSource
sources_from pages slot k [] = []
sources_from pages slot k (reference ∷ refs) = source_of (kept_page pages slot k) reference ∷ sources_from pages slot (k + 1) refs

-- the root of a next view
abbrev pub next_root : NextNode
next_root = record { node = record { slot = 0; kind = FolderNode; parent = 0; name = []; length = 0; maps = [] }; pages = [] }

-- the node of an entry, without map references, and the sources of its pages
abbrev pub next_node : List (PageKey × KeptPage) → FrozenEntry → NextNode
next_node pages entry = record {
  node = record { slot = entry.slot; kind = node_kind entry.kind; parent = entry.parent; name = name_of entry.path; length = entry.len; maps = [] };
  pages = sources_from pages entry.slot 0 entry.refs;
}

-- the root, and then the entries in path order
abbrev pub next_of : List FrozenEntry → List (PageKey × KeptPage) → List NextNode
next_of order pages = next_root ∷ map (next_node pages) order
