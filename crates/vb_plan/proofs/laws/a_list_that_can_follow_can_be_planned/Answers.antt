use Rattle.vb_plan.proofs.NextTrees.{follow_planned, nodes_few}
use Rattle.vb_plan.proofs.Parents.{parents_below}
use Rattle.vb_plan.proofs.laws.a_list_that_can_follow_can_be_planned.Goals as goal

pub returns-clause-can : goal.returns-clause-can
returns-clause-can c = follow_planned

pub returns-clause-parents : goal.returns-clause-parents
returns-clause-parents c = parents_below

pub returns-clause-few : goal.returns-clause-few
returns-clause-few c = nodes_few
