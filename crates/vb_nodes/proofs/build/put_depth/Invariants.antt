use Rattle.std.proofs.Common.{◌≡◌}
use Rattle.vb_nodes.specs.Building.{HoldsPlaced}
use Rattle.vb_nodes.proofs.build.put_depth.Given as goal

abbrev pub invariant-loop-slot : goal.invariant-loop-slot
invariant-loop-slot l = HoldsPlaced l.nodes l.depth l.slot l.index.nodes × (l.index.limits ≡ l.fn.index.limits)
