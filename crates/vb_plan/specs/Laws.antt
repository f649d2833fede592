-- What the laws of plans speak of.
use Rattle.std.specs.Prelude.{ℕ, not, List, length, map, Option}
use Rattle.std.specs.List.{filter, range_with_len, sum_by}
use Rattle.vb_inode.specs.declared.next_view.NextNode.{NextNode}
use Rattle.vb_inode.specs.declared.next_view.PageSource.{PageSource}
use Rattle.vb_inode.specs.declared.next_view.PageSource.TheVariants.{Kept, Fresh}
use Rattle.vb_inode.specs.declared.node.Node.{Node}
use Rattle.vb_inode.specs.Layout.{node_page}
use Rattle.vb_index.specs.declared.held.Held.{Held}
use Rattle.vb_tree.specs.Trees.{pages_of_length}
use Rattle.vb_plan.specs.declared.plan_page.PlanPage.{PlanPage}
use Rattle.vb_plan.specs.declared.plan_page.PlanPage.TheVariants.{Data, Map}
use Rattle.vb_plan.specs.Plans.{Basis, all_held, by_slot, node_at, node_in, same_in_slot}

-- the place of a page to write
abbrev pub place_of : PlanPage → ℕ
place_of (Data slot page r) = r.place
place_of (Map place image) = place

-- the digest that a page has
abbrev pub digest_of : PageSource → List ℕ
digest_of (Kept r) = r.digest
digest_of (Fresh digest) = digest

-- how many pages the files of some nodes take, their map pages among them
abbrev pub pages_of_next : List NextNode → ℕ
pages_of_next next = sum_by (λ x. pages_of_length x.node.length) next

-- what each slot holds after a commit to these nodes
abbrev pub slots_next : Basis → List NextNode → List (Option Held)
slots_next basis next = by_slot (length basis.nodes) (all_held basis 0 next)

-- the nodes that the slots hold after a commit, and a free one in each other slot
abbrev pub nodes_next : Basis → List NextNode → List Node
nodes_next basis next = map (λ slot. node_in slot (node_at (slots_next basis next) slot)) (range_with_len 0 (length basis.nodes))

-- the slots whose node changes, upwards
abbrev pub changed_slots : Basis → List NextNode → List ℕ
changed_slots basis next =
    filter (λ slot. not (same_in_slot (node_at basis.nodes slot) (node_at (slots_next basis next) slot))) (range_with_len 0 (length basis.nodes))

-- the block of the node that a slot has next
abbrev pub block_next : Basis → List NextNode → ℕ → List ℕ
block_next basis next slot = node_page (node_in slot (node_at (slots_next basis next) slot))
