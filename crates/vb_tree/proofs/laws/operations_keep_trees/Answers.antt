use Rattle.vb_tree.proofs.Allowed.{IsWithin-tree_after}
use Rattle.vb_tree.proofs.laws.operations_keep_trees.Goals as goal

pub returns-clause-within : goal.returns-clause-within
returns-clause-within c = IsWithin-tree_after
