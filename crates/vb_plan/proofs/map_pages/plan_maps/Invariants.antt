use Rattle.vb_space.specs.Spaces.{free_places}
use Rattle.vb_plan.specs.Maps.{map_sources}
use Rattle.vb_plan.specs.Plans.{map_image}
use Rattle.vb_plan.specs.Seen.{seen_refs}
use Rattle.vb_plan.proofs.Placing.{HasPlaced}
use Rattle.vb_plan.proofs.map_pages.plan_maps.Given as goal

abbrev pub invariant-loop-number : goal.invariant-loop-number
invariant-loop-number l = HasPlaced (map_image l.refs) (free_places l.space) l.initial.pages.items (map_sources (seen_refs l.old) l.refs) l.number l.maps l.pages.items
