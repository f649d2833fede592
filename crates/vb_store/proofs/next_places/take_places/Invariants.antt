use Rattle.vb_store.proofs.PlacesBegun.{IsTakenTo}
use Rattle.vb_store.proofs.next_places.take_places.Given as goal

abbrev pub invariant-loop : goal.invariant-loop
invariant-loop l = IsTakenTo l.initial.space l.space l.counter
