use Rattle.vb_index.proofs.OneTree.{one-tree}
use Rattle.vb_index.proofs.laws.nodes_have_one_tree.Goals as goal

pub returns : goal.returns
returns c = one-tree
