use Rattle.vb_frozen.proofs.Trees.{frozen-tree}
use Rattle.vb_frozen.proofs.frozen.Frozen.of.Goals as goal

pub returns-clause-tree : goal.returns-clause-tree
returns-clause-tree c = λ d tree has.
    frozen-tree c.args.index.now.nodes c.args.pages.now d tree c.in_ok-of.field-0 c.in_ok-copy.field-0 c.in_ok-of.ensures.table has (c.in_ok-of.ensures.entries tree has.is_tree has.shape) c.in_ok-copy.ensures
