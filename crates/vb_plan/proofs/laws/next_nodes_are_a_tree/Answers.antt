use Rattle.vb_plan.proofs.NextTrees.{next_tree, pages_next_by_slot}
use Rattle.vb_plan.proofs.laws.next_nodes_are_a_tree.Goals as goal

pub returns-clause-tree : goal.returns-clause-tree
returns-clause-tree c = next_tree

pub returns-clause-pages : goal.returns-clause-pages
returns-clause-pages c basis next tree = pages_next_by_slot basis next tree.nodes tree.own_slot
