use Rattle.vb_plan.specs.Seen.{basis_of}
use Rattle.vb_plan.proofs.Planning.{HasPlanned}
use Rattle.vb_plan.proofs.nodes.plan_nodes.Given as goal

abbrev pub invariant-loop-node : goal.invariant-loop-node
invariant-loop-node l = HasPlanned (basis_of l.committed l.space) l.initial.pages.items l.next l.node-index l.held l.pages.items
