-- Which lists of nodes can be committed over a view.
use Rattle.std.specs.Prelude.{◌≡◌, ℕ, ◌≤◌, ◌==◌, List, [], ◌∷◌, length, map, take, count_by, Option, None}
use Rattle.std.specs.Option.{option_map}
use Rattle.std.specs.List.{find, range_with_len, All, Contains, flat_map}
use Rattle.vb_inode.specs.declared.node.Node.{Node}
use Rattle.vb_inode.specs.declared.next_view.NextNode.{NextNode}
use Rattle.vb_index.specs.Indexes.{IndexState}
use Rattle.vb_nodes.specs.Faults.{table_fault}
use Rattle.vb_plan.specs.Conditions.{kept_refs, refs_held, IsNextNode}
use Rattle.vb_plan.specs.Laws.{pages_of_next}
use Rattle.vb_plan.specs.Plans.{node_in}

-- the node of a slot, the first one of a list, and None where there is none
abbrev pub node_of_slot : List NextNode → ℕ → Option Node
node_of_slot next slot = option_map (λ x. x.node) (find (λ x. x.node.slot == slot) next)

-- the nodes of a list by slot, and a free one in each other slot
abbrev pub nodes_by_slot : ℕ → List NextNode → List Node
nodes_by_slot slots next = map (λ slot. node_in slot (node_of_slot next slot)) (range_with_len 0 slots)

-- a list is a tree in a store of so many slots: its nodes are such as can be committed, each in a slot of its own, the
-- root is the first, in slot 0, and a mount finds no fault in them
pub record IsNextTree (slots : ℕ) (next : List NextNode) : Type 0 where
  pub nodes : All (IsNextNode slots) next
  pub root : map (λ x. x.node.slot) (take 1 next) ≡ 0 ∷ []
  pub own_slot : (slot : ℕ) → count_by (λ x. x.node.slot == slot) next ≤ 1
  pub no_fault : table_fault (nodes_by_slot slots next) ≡ None

-- a list can follow a committed view: it is a tree in the slots of that store, its files take no more pages than the
-- limits allow, and each reference that it keeps is that of a committed page of data, no place twice
pub record CanFollow (committed : IndexState) (next : List NextNode) : Type 0 where
  pub tree : IsNextTree (length committed.nodes) next
  pub pages : pages_of_next next ≤ committed.limits.pages
  pub kept : All (λ r. Contains (flat_map refs_held committed.nodes) r) (kept_refs next)
  pub kept_once : (place : ℕ) → count_by (λ r. r.place == place) (kept_refs next) ≤ 1
