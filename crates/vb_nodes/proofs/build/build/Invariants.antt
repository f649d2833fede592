use Rattle.std.proofs.Common.{◌≡◌}
use Rattle.vb_nodes.specs.Building.{HoldsPlaced}
use Rattle.vb_nodes.proofs.build.build.Given as goal

abbrev pub invariant-loop-depth : goal.invariant-loop-depth
invariant-loop-depth l = HoldsPlaced l.nodes l.depth 0 l.index.nodes × (l.index.limits ≡ l.fn.limits)
