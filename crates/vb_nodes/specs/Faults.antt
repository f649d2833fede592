-- Which lists of nodes are a tree, and the first fault of one that isn't.
use Rattle.std.specs.Prelude.{◌≡◌, ℕ, zero, suc, ◌<◌, ◌≤◌, Bool, true, false, not, ◌&&◌, ◌==◌, if◌then◌else◌, List, length, take, Option, Some, None}
use Rattle.std.specs.List.{list_any}
use Rattle.std.specs.Option.{option_map, option_or}
use Rattle.vb_block.specs.declared.why.Why.{Why}
use Rattle.vb_block.specs.declared.why.Why.TheVariants.{Root, Parent, Cycle, SameName, Deep}
use Rattle.vb_tree.specs.Renames.{is_deep}
use Rattle.vb_inode.specs.declared.node.Node.{Node}
use Rattle.vb_inode.specs.Nodes.{is_free}
use Rattle.vb_index.specs.Nodes.{is_folder_node, same_name}
use Rattle.vb_nodes.specs.Paths.{node_at, parent_in, leads_to_root, path_in, AreBySlot}

-- whether a node is a root: a folder whose parent is slot 0
abbrev pub is_root_node : Node → Bool
is_root_node node = is_folder_node node.kind && node.parent == 0

-- whether a node is the entry of this name in the folder of this slot
abbrev pub is_entry : ℕ → List ℕ → Node → Bool
is_entry parent name node = not (is_free node.kind) && (node.parent == parent && same_name node.name name)

-- whether a lower slot has the same parent and name
abbrev pub has_lower_twin : List Node → ℕ → Bool
has_lower_twin nodes slot = list_any (is_entry (parent_in nodes slot) (node_at nodes slot).name) (take slot nodes)

-- the reason where the test holds, and else what comes next
abbrev pub refuse : Bool → Why → Option Why → Option Why
refuse true why next = Some why
refuse false why next = next

-- what is wrong with the entry in a slot: its parent is no folder, its parents don't lead to the root, a lower slot
-- has the same parent and name, or its path has more than 1,024 bytes or 32 parts
abbrev pub fault_of_entry : List Node → ℕ → Option Why
fault_of_entry nodes slot =
    refuse (not (is_folder_node (node_at nodes (parent_in nodes slot)).kind)) Parent
    (refuse (not (leads_to_root nodes slot)) Cycle
    (refuse (has_lower_twin nodes slot) SameName
    (refuse (is_deep (path_in nodes slot)) Deep None)))

-- what is wrong with a slot: slot 0 has to be the root, and nothing is wrong with a free one
abbrev pub fault_of_slot : List Node → ℕ → Option Why
fault_of_slot nodes slot =
    if slot == 0 then refuse (not (is_root_node (node_at nodes 0))) Root None else
    (if is_free (node_at nodes slot).kind then None else fault_of_entry nodes slot)

-- a slot, and what is wrong with it
pub record Fault : Type 0 where
  pub slot : ℕ
  pub why : Why

-- the first fault of the slots below one
abbrev pub fault_below : List Node → ℕ → Option Fault
fault_below nodes zero = None
fault_below nodes (suc slot) = option_or (fault_below nodes slot) (option_map (λ why. record { slot = slot; why = why }) (fault_of_slot nodes slot))

-- the first fault of all slots, upwards; where there is none, the nodes are a tree
abbrev pub table_fault : List Node → Option Fault
table_fault nodes = fault_below nodes (length nodes)

-- the nodes of a store, by slot, are a tree
pub record IsNodeTree (nodes : List Node) : Type 0 where
  pub some : 0 < length nodes
  pub few : length nodes ≤ 65536
  pub by_slot : AreBySlot nodes
  pub no_fault : table_fault nodes ≡ None
