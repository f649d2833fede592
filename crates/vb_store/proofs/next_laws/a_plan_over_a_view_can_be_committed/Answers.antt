use Rattle.vb_store.proofs.NextImages.{can_commit}
use Rattle.vb_store.proofs.NextPlanned.{can_plan, can_seal, can_view_next}
use Rattle.vb_store.proofs.next_laws.a_plan_over_a_view_can_be_committed.Goals as goal

pub returns-clause-plan : goal.returns-clause-plan
returns-clause-plan c = can_plan

pub returns-clause-seal : goal.returns-clause-seal
returns-clause-seal c = can_seal

pub returns-clause-images : goal.returns-clause-images
returns-clause-images c = can_commit

pub returns-clause-index : goal.returns-clause-index
returns-clause-index c = can_view_next
