use Rattle.vb_local.proofs.Settled.{settled-backs, settled-tree}
use Rattle.vb_local.proofs.laws.a_settled_page_leaves_the_live_tree.Goals as goal

pub returns-clause-tree : goal.returns-clause-tree
returns-clause-tree c d old new slot page reference held bytes tree table files has kept first holds made forgets = settled-tree d old new slot page reference held bytes tree table files has kept first holds made forgets

pub returns-clause-backs : goal.returns-clause-backs
returns-clause-backs c d old new slot page reference held backs holds_only holds made forgets = settled-backs d old new slot page reference held backs holds_only holds made forgets
