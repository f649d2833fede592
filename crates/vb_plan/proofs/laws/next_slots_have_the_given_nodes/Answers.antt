use Rattle.vb_plan.proofs.Stood.{node-stands, slot-stands}
use Rattle.vb_plan.proofs.laws.next_slots_have_the_given_nodes.Goals as goal

pub returns-clause-all : goal.returns-clause-all
returns-clause-all c = node-stands

pub returns-clause-only : goal.returns-clause-only
returns-clause-only c = slot-stands
