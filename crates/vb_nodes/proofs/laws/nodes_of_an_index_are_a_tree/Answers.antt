use Rattle.vb_nodes.proofs.Rooted.{held-no_fault, held-of_store}
use Rattle.vb_nodes.proofs.laws.nodes_of_an_index_are_a_tree.Goals as goal

pub returns-clause-no_fault : goal.returns-clause-no_fault
returns-clause-no_fault c = held-no_fault

pub returns-clause-of_store : goal.returns-clause-of_store
returns-clause-of_store c = held-of_store
