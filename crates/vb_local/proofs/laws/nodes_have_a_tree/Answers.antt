use Rattle.vb_local.proofs.Blanks.{blank-shape, blank-tree}
use Rattle.vb_local.proofs.laws.nodes_have_a_tree.Goals as goal

pub returns-clause-tree : goal.returns-clause-tree
returns-clause-tree c nodes table rooted = blank-tree nodes table rooted

pub returns-clause-shape : goal.returns-clause-shape
returns-clause-shape c nodes table rooted = blank-shape nodes table rooted
