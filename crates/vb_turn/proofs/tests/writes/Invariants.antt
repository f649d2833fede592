-- Between two turns the seat is back.
use Rattle.vb_turn.specs.Turns.{IsBack}
use Rattle.vb_turn.proofs.tests.writes.Given as goal

abbrev pub invariant-loop : goal.invariant-loop
invariant-loop g l = IsBack l.turn l.seat
