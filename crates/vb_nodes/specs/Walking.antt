-- Where paths lead, and which trees have the entries that nodes say.
use Rattle.std.specs.Prelude.{◌≡◌, ℕ, ◌<◌, false, not, List, length, is_some, IsTrue, Some}
use Rattle.std.specs.List.{count_by}
use Rattle.std.specs.Option.{option_map}
use Rattle.vb_inode.specs.declared.node.Node.{Node}
use Rattle.vb_inode.specs.Nodes.{is_free}
use Rattle.vb_tree.specs.declared.tree.TreeEntry.{TreeEntry}
use Rattle.vb_tree.specs.Trees.{entry_at, is_root, node_count, page_count}
use Rattle.vb_index.specs.Nodes.{kind_of}
use Rattle.vb_index.specs.Indexes.{Shape, shape_of_entry}
use Rattle.vb_nodes.specs.Paths.{node_at, path_in}
use Rattle.vb_nodes.specs.Holdings.{pages_of_nodes}

-- a slot has the root or an entry, and this is its path
pub record HasPath (nodes : List Node) (slot : ℕ) (path : List (List ℕ)) : Type 0 where
  pub there : slot < length nodes
  pub used : is_free (node_at nodes slot).kind ≡ false
  pub leads : path_in nodes slot ≡ path

-- the shape of a node
abbrev pub node_shape : Node → Shape
node_shape node = record { kind = kind_of node; len = node.length }

-- how many nodes aren't free, the root among them
abbrev pub used_in : List Node → ℕ
used_in nodes = count_by (λ node. not (is_free node.kind)) nodes

-- a tree has the entries that nodes say: at the path of each slot but the root's one of its shape, none at any other path,
-- and as many entries and pages
pub record HasEntriesOf (nodes : List Node) (tree : List TreeEntry) : Type 0 where
  pub found : (path : List (List ℕ)) (slot : ℕ) → HasPath nodes slot path → is_root path ≡ false → option_map shape_of_entry (entry_at path tree) ≡ Some (node_shape (node_at nodes slot))
  pub only : (path : List (List ℕ)) → IsTrue (is_some (entry_at path tree)) → (slot : ℕ) × HasPath nodes slot path
  pub as_many : node_count tree ≡ used_in nodes
  pub as_large : page_count tree ≡ pages_of_nodes nodes
