use Rattle.std.proofs.Common.{◌≡◌, take}
use Rattle.vb_store.specs.NextIndexes.{nodes_held}
use Rattle.vb_store.proofs.next_index.nodes_by_slot.Given as goal

abbrev pub invariant-loop-one : goal.invariant-loop-one
invariant-loop-one l = l.nodes.items ≡ nodes_held l.slots (take l.one-index l.held)
