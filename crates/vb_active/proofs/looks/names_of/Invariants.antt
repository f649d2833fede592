use Rattle.std.proofs.Common.{◌≡◌, map, take}
use Rattle.vb_index.specs.Listings.{name_at}
use Rattle.vb_active.proofs.looks.names_of.Given as goal

abbrev pub invariant-loop-slot : goal.invariant-loop-slot
invariant-loop-slot l = l.names ≡ map (name_at l.index.nodes) (take l.slot-index l.slots)
