use Rattle.std.proofs.Common.{◌≡◌, take}
use Rattle.vb_index.proofs.copies.copy_nodes.Given as goal

abbrev pub invariant-loop-slot : goal.invariant-loop-slot
invariant-loop-slot l = l.copied.items ≡ take l.slot-index l.nodes
