-- The index of the view that a commit makes: what its slots hold, and the nodes that a mount will take.
use Rattle.std.specs.Prelude.{◌≡◌, ℕ, ◌<◌, ◌≤◌, ◌==◌, false, List, [], length, map, count_by, Option, Some}
use Rattle.std.specs.List.{All, range_with_len}
use Rattle.vb_head.specs.declared.head.Head.{Head}
use Rattle.vb_head.specs.Heads.{IsInRange}
use Rattle.vb_index.specs.declared.held.Held.{Held}
use Rattle.vb_index.specs.Nodes.{held_at, is_file_node}
use Rattle.vb_inode.specs.declared.node.Node.{Node}
use Rattle.vb_inode.specs.Nodes.{is_free}
use Rattle.vb_nodes.specs.Faults.{IsNodeTree}
use Rattle.vb_nodes.specs.Holdings.{pages_of_nodes}
use Rattle.vb_plan.specs.Plans.{by_slot, node_at, node_in}
use Rattle.vb_tree.specs.Trees.{data_pages_of}
use Rattle.vb_store.specs.Views.{limits_of}

-- the nodes of so many slots, a free one in each that holds nothing
abbrev pub nodes_of_table : ℕ → List (Option Held) → List Node
nodes_of_table slots table = map (λ slot. node_in slot (node_at table slot)) (range_with_len 0 slots)

-- the nodes of so many slots, of which these hold something
abbrev pub nodes_held : ℕ → List Held → List Node
nodes_held slots held = nodes_of_table slots (by_slot slots held)

-- what slots hold can stand in an index of a store with this head: each has a slot of its own and a reference for each of
-- its pages, none is a free node, and the nodes are a tree that takes no more pages than the store has for it
pub record CanIndex (head : Head) (held : List Held) : Type 0 where
  pub range : IsInRange head
  pub tree : IsNodeTree (nodes_held head.nodes held)
  pub few : pages_of_nodes (nodes_held head.nodes held) ≤ (limits_of head).pages
  pub own : (slot : ℕ) → count_by (λ h. h.node.slot == slot) held ≤ 1
  pub below : All (λ h. h.node.slot < head.nodes) held
  pub used : All (λ h. is_free h.node.kind ≡ false) held
  pub each_page : All (λ h. length h.refs ≡ data_pages_of h.node.length) held

-- a slot has the node that it is to hold, with as many references, which a file alone has
pub record Fits (nodes : List (Option Held)) (h : Held) : Type 0 where
  pub before : Held
  pub was : held_at nodes h.node.slot ≡ Some before
  pub same : before.node ≡ h.node
  pub as_many : length before.refs ≡ length h.refs
  pub bare : is_file_node h.node.kind ≡ false → h.refs ≡ []
  pub few : length h.refs ≤ 10848
