use Rattle.vb_plan.proofs.Sealed.{plan_sealed}
use Rattle.vb_plan.proofs.laws.images_of_plans_are_sealed.Goals as goal

pub returns : goal.returns
returns c = plan_sealed
