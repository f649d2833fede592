-- Contents: the tree that nodes have whose pages are given by slot and page.
use Rattle.std.specs.Prelude.{◌≡◌, ℕ, ◌<◌, List, length, Option, Some}
use Rattle.vb_tree.specs.declared.tree.TreeEntry.{TreeEntry}
use Rattle.vb_tree.specs.Trees.{entry_at, bytes_in, data_pages_of, IsTree}
use Rattle.vb_tree.specs.Contents.{page_of}
use Rattle.vb_index.specs.declared.held.Held.{Held}
use Rattle.vb_index.specs.Nodes.{slot_at}
use Rattle.vb_index.specs.Indexes.{HasShapeOf}

-- the pages of a slot are those of the bytes, as many as the bytes take
abbrev pub HasPages : (ℕ → ℕ → List ℕ) → ℕ → List ℕ → Type 0
HasPages pages slot bytes = (k : ℕ) → k < data_pages_of (length bytes) → pages slot k ≡ page_of bytes k

-- the tree is one and has the shape of the nodes, and the bytes at each path are in the pages of the slot there
pub record HasTree (nodes : List (Option Held)) (pages : ℕ → ℕ → List ℕ) (tree : List TreeEntry) : Type 0 where
  pub is_tree : IsTree tree
  pub shape : HasShapeOf nodes tree
  pub contents : (path : List (List ℕ)) (slot : ℕ) → slot_at nodes path ≡ Some slot → HasPages pages slot (bytes_in (entry_at path tree))

-- the pages of every other slot stay
abbrev pub KeepsOthers : ℕ → (ℕ → ℕ → List ℕ) → (ℕ → ℕ → List ℕ) → Type 0
KeepsOthers slot pages changed = (other k : ℕ) → (other ≡ slot → ⊥) → changed other k ≡ pages other k
