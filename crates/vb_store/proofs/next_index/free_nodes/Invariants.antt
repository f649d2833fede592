use Rattle.std.proofs.Common.{◌≡◌, None, map}
use Rattle.std.specs.List.{range_with_len}
use Rattle.vb_plan.specs.Plans.{node_in}
use Rattle.vb_store.proofs.next_index.free_nodes.Given as goal

abbrev pub invariant-loop-slot : goal.invariant-loop-slot
invariant-loop-slot l = l.nodes.items ≡ map (λ slot. node_in slot None) (range_with_len 0 l.slot)
