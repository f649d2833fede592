-- Nodes by slot: what a slot holds, which slot is the child of which, and how much the nodes take.
use Rattle.std.specs.Prelude.{◌≡◌, ℕ, ◌<◌, ◌≤◌, Bool, true, false, not, ◌&&◌, ◌==◌, if◌then◌else◌, List, [], ◌∷◌, length, get_or, Option, Some, None}
use Rattle.std.specs.Option.{option_and_then}
use Rattle.std.specs.List.{position, sum_by}
use Rattle.std.specs.Ordering.{is_eq, nat_cmp}
use Rattle.std.specs.Cmp.Lexicographic.{slice_cmp}
use Rattle.vb_index.specs.declared.held.Held.{Held}
use Rattle.vb_block.specs.declared.digest.Ref.{Ref}
use Rattle.vb_inode.specs.declared.node.Node.{Node}
use Rattle.vb_inode.specs.declared.node.NodeKind.{NodeKind}
use Rattle.vb_inode.specs.declared.node.NodeKind.TheVariants.{Free as FreeNode, Folder as FolderNode, File as FileNode}
use Rattle.vb_tree.specs.declared.tree.Kind.{Kind}
use Rattle.vb_tree.specs.declared.tree.Kind.TheVariants.{Folder, File}
use Rattle.vb_tree.specs.Trees.{longest_file, data_pages_of, pages_of_length}

-- whether a node is a folder
abbrev pub is_folder_node : NodeKind → Bool
is_folder_node FreeNode = false
is_folder_node FolderNode = true
is_folder_node FileNode = false

-- whether a node is a file
abbrev pub is_file_node : NodeKind → Bool
is_file_node FreeNode = false
is_file_node FolderNode = false
is_file_node FileNode = true

-- what kind of entry a node is
abbrev pub kind_of : Node → Kind
kind_of node = if is_folder_node node.kind then Folder else File

-- what a slot holds, nothing where it is free
abbrev pub held_at : List (Option Held) → ℕ → Option Held
held_at nodes slot = get_or nodes slot None

-- what slot 0 holds at the begin: the root
abbrev pub root_held : Held
root_held = record { node = record { slot = 0; kind = FolderNode; parent = 0; name = []; length = 0; maps = [] }; refs = [] }

-- whether a slot holds a folder
abbrev pub holds_folder : Option Held → Bool
holds_folder None = false
holds_folder (Some held) = is_folder_node held.node.kind

-- the references of a file, None where a slot holds no file
abbrev pub refs_of : Held → Option (List Ref)
refs_of held = if is_file_node held.node.kind then Some held.refs else None

-- the references of the file in a slot
abbrev pub refs_at : List (Option Held) → ℕ → Option (List Ref)
refs_at nodes slot = option_and_then refs_of (held_at nodes slot)

-- whether two names are one
abbrev pub same_name : List ℕ → List ℕ → Bool
same_name a b = is_eq (slice_cmp nat_cmp a b)

-- whether a slot holds the entry of this name in the folder of this slot; the root, in slot 0, is no entry
abbrev pub is_child : ℕ → List ℕ → Option Held → Bool
is_child parent name None = false
is_child parent name (Some held) = not (held.node.slot == 0) && (held.node.parent == parent && same_name held.node.name name)

-- the slot of the entry of this name in the folder of this slot
unfoldable pub child_of : List (Option Held) → ℕ → List ℕ → Option ℕ
child_of nodes parent name = position (is_child parent name) nodes

-- the slot to which parts lead from a slot, by the slots of children
abbrev pub slot_below : (ℕ → List ℕ → Option ℕ) → ℕ → List (List ℕ) → Option ℕ
slot_below child from [] = Some from
slot_below child from (part ∷ parts) = option_and_then (λ slot. slot_below child slot parts) (child from part)

-- the slot of the node at a path; the root's is 0
abbrev pub slot_at : List (Option Held) → List (List ℕ) → Option ℕ
slot_at nodes path = slot_below (child_of nodes) 0 path

-- one for a node, and none for a free slot
abbrev pub nodes_of_slot : Option Held → ℕ
nodes_of_slot None = 0
nodes_of_slot (Some held) = 1

-- how many nodes there are, the root among them
abbrev pub nodes_in : List (Option Held) → ℕ
nodes_in nodes = sum_by nodes_of_slot nodes

-- how many pages a slot takes
abbrev pub pages_of_slot : Option Held → ℕ
pages_of_slot None = 0
pages_of_slot (Some held) = pages_of_length held.node.length

-- how many pages all files take
abbrev pub pages_in : List (Option Held) → ℕ
pages_in nodes = sum_by pages_of_slot nodes

-- what is held fits its slot: it isn't a free node, its numbers are in their ranges, and there is a reference for each page
pub record IsHeld (slot : ℕ) (held : Held) : Type 0 where
  pub at_slot : held.node.slot ≡ slot
  pub either : is_file_node held.node.kind ≡ not (is_folder_node held.node.kind)
  pub folder_empty : is_folder_node held.node.kind ≡ true → held.node.length ≡ 0
  pub short : held.node.length ≤ longest_file
  pub each_page : length held.refs ≡ data_pages_of held.node.length

-- the nodes are those of a table: a root, each other node in a folder that is there, and no two of one name there
pub record IsTable (nodes : List (Option Held)) : Type 0 where
  pub few : length nodes ≤ 65536
  pub root : holds_folder (held_at nodes 0) ≡ true
  pub fits : (slot : ℕ) (held : Held) → held_at nodes slot ≡ Some held → IsHeld slot held
  pub in_folder : (slot : ℕ) (held : Held) → held_at nodes slot ≡ Some held → 0 < slot → holds_folder (held_at nodes held.node.parent) ≡ true
  pub one_name : (slot : ℕ) (held : Held) → held_at nodes slot ≡ Some held → 0 < slot → child_of nodes held.node.parent held.node.name ≡ Some slot
