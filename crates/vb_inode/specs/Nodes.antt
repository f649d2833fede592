-- Nodes: which names, parents and lengths they may have, and how many map pages a file takes.
use Rattle.std.specs.Prelude.{◌≡◌, ℕ, Bool, true, false, ◌||◌, ◌==◌, nat_le, if◌then◌else◌, IsTrue, List, length}
use Rattle.vb_path.specs.Parts.{is_part}
use Rattle.vb_tree.specs.Trees.{longest_file, map_pages_of}
use Rattle.vb_inode.specs.declared.node.Node.{Node}
use Rattle.vb_inode.specs.declared.node.NodeKind.{NodeKind}
use Rattle.vb_inode.specs.declared.node.NodeKind.TheVariants.{Free, Folder, File}

-- whether a node stands for nothing
abbrev pub is_free : NodeKind → Bool
is_free Free = true
is_free Folder = false
is_free File = false

-- whether a node may have this name: the root, at slot 0, and a free one have none, and every other
-- has a valid part of a path
unfoldable pub may_be_named : ℕ → NodeKind → List ℕ → Bool
may_be_named slot kind name = if slot == 0 || is_free kind then length name == 0 else is_part name

-- whether a node may have this parent: a free one has 0
abbrev pub may_have_parent : NodeKind → ℕ → Bool
may_have_parent Free parent = parent == 0
may_have_parent Folder parent = true
may_have_parent File parent = true

-- whether a node may have this length: a file has at most 96 map pages, so 44,433,408 bytes, and all
-- else has 0
abbrev pub may_have_length : NodeKind → ℕ → Bool
may_have_length Free len = len == 0
may_have_length Folder len = len == 0
may_have_length File len = nat_le len longest_file

-- the fields of a node are in range
pub record IsInRange (node : Node) : Type 0 where
  pub named : IsTrue (may_be_named node.slot node.kind node.name)
  pub parented : IsTrue (may_have_parent node.kind node.parent)
  pub measured : IsTrue (may_have_length node.kind node.length)
  pub mapped : length node.maps ≡ map_pages_of node.length
