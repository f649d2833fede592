use Rattle.std.proofs.Common.{◌≡◌, ◌-◌, ◌∷◌, replicate, Some, None}
use Rattle.vb_index.specs.Nodes.{root_held}
use Rattle.vb_index.proofs.fresh.fresh_nodes.Given as goal

abbrev pub invariant-loop-slot : goal.invariant-loop-slot
invariant-loop-slot l = l.nodes.items ≡ Some root_held ∷ replicate (l._slot - 1) None
