-- What contracts see of a row of seats.
use Rattle.std.specs.Prelude.{ℕ, List}
use Rattle.vb_turn.specs.declared.seat.TurnSeat.{TurnSeat}

-- the seats, and how many were made for it: so many fit without memory
pub record SeatRow (V : Type 0) : Type 0 where
  pub seats : List (TurnSeat V)
  pub made : ℕ
