-- What contracts see of a plan.
use Rattle.std.specs.Prelude.{◌<◌, ◌^◌, length, reverse}
use Rattle.vb_plan.specs.declared.plan.Plan.TheInside.{Inside}
use Rattle.vb_plan.specs.Plans.{PlanState}

-- the pages, which stand in memory with the next one at the end, the nodes, and the images
abbrev pub shown : Inside → PlanState
shown a = record { pages = reverse a.pages.items; nodes = a.nodes; images = a.images }

-- there are few enough images to be counted
pub record IsFew (a : Inside) : Type 0 where
  pub images : length a.images < 2 ^ 32
