use Rattle.std.proofs.Common.{◌≡◌, take}
use Rattle.vb_store.specs.Views.{places_in}
use Rattle.vb_store.proofs.used_places.used_places.Given as goal

abbrev pub invariant-loop-slot : goal.invariant-loop-slot
invariant-loop-slot l = l.used.items ≡ places_in (take l.slot l.index.nodes)
