use Rattle.std.proofs.Common.{◌≡◌, ◌+◌, drop}
use Rattle.vb_store.specs.Metadata.{block_place, place_over}
use Rattle.vb_store.proofs.node_blocks.block_place.Given as goal

abbrev pub invariant-loop-i : goal.invariant-loop-i
invariant-loop-i l = place_over (drop l.i l.slots) (2 + l.nodes + l.i) l.slot l.place ≡ block_place l.slots l.nodes l.slot
