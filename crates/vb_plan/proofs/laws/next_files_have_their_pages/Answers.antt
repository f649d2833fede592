use Rattle.std.proofs.Common.{◌≡◌, ◌∙◌, length}
use Rattle.vb_index.specs.declared.held.Held.{Held}
use Rattle.vb_tree.specs.Trees.{data_pages_of, map_pages_of}
use Rattle.vb_plan.specs.Conditions.{IsNextNode}
use Rattle.vb_plan.specs.Plans.{all_held}
use Rattle.vb_plan.proofs.NextTrees.{pages_next_in}
use Rattle.vb_plan.proofs.Nexts.{all_held_are, mapped_as_due}
use Rattle.vb_plan.proofs.Placing.{length-refs_from}
use Rattle.vb_plan.proofs.Slots.{holds_in_slots}
use Rattle.vb_plan.proofs.laws.next_files_have_their_pages.Goals as goal

pub returns-clause-refs : goal.returns-clause-refs
returns-clause-refs c basis next slot held can is =
    holds_in_slots (λ (h : Held). length h.refs ≡ data_pages_of h.node.length) (length basis.nodes) (all_held basis 0 next)
    (all_held_are (IsNextNode (length basis.nodes)) (λ (h : Held). length h.refs ≡ data_pages_of h.node.length) basis (λ taken x node. length-refs_from basis.free taken x.pages ∙ node.each_page) 0 next can.nodes) slot held is

pub returns-clause-maps : goal.returns-clause-maps
returns-clause-maps c basis next slot held can is =
    holds_in_slots (λ (h : Held). length h.node.maps ≡ map_pages_of h.node.length) (length basis.nodes) (all_held basis 0 next)
    (all_held_are (IsNextNode (length basis.nodes)) (λ (h : Held). length h.node.maps ≡ map_pages_of h.node.length) basis (λ taken x node. mapped_as_due basis taken x node.each_page) 0 next can.nodes) slot held is

pub returns-clause-pages : goal.returns-clause-pages
returns-clause-pages c basis next can = pages_next_in basis next can.nodes can.own_slot
