-- While it waits a seat has its ticket, and is as it was but for that.
use Rattle.std.proofs.Common.{◌≡◌, ℕ, ◌%◌, ◌^◌}
use Rattle.vb_turn.specs.declared.view.TurnStage.TheVariants.{Waiting}
use Rattle.vb_turn.proofs.turn.Turn.enter.Given as goal

abbrev pub invariant-loop : goal.invariant-loop
invariant-loop g l =
    (t : ℕ)
    × (l.initial.ticket ≡ t % 2 ^ 64)
    × (l.seat.seat.me ≡ (record l.fn.seat.seat.me.0 { stage = Waiting t }, l.fn.seat.seat.me.1))
    × (l.seat.seat.table_id ≡ l.fn.seat.seat.table_id)
    × (l.seat.number ≡ l.fn.seat.number)
