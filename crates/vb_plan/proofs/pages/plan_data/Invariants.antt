use Rattle.vb_space.specs.Spaces.{free_places}
use Rattle.vb_plan.specs.Plans.{data_page}
use Rattle.vb_plan.proofs.Placing.{HasPlaced}
use Rattle.vb_plan.proofs.pages.plan_data.Given as goal

abbrev pub invariant-loop-i : goal.invariant-loop-i
invariant-loop-i l = HasPlaced (data_page l.slot) (free_places l.space) l.initial.pages.items l.sources l.i l.refs l.pages.items
