use Rattle.vb_event.proofs.Trees.{cut-legal, cut-tree, recover-was, tree-stays}
use Rattle.vb_event.proofs.laws.events_keep_trees.Goals as goal

pub returns-clause-stays : goal.returns-clause-stays
returns-clause-stays c = tree-stays

pub returns-clause-was : goal.returns-clause-was
returns-clause-was c = recover-was

pub returns-clause-cut : goal.returns-clause-cut
returns-clause-cut c = cut-legal

pub returns-clause-tree : goal.returns-clause-tree
returns-clause-tree c = cut-tree
