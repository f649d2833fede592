-- What callers see of a seat and of a lock.
use Rattle.std.specs.Prelude.{◌≡◌, ℕ, true, List, [], map, length, Some}
use Rattle.std.specs.List.{AllByRecursion}
use Rattle.vb_hist.specs.declared.entry.Entry.{Entry}
use Rattle.vb_hist.specs.Makers.{entries_of}
use Rattle.vb_turn.specs.Numbers.{GoesOn}
use Rattle.vb_turn.specs.declared.view.TurnStage.TheVariants.{Free}
use Rattle.vb_turn.specs.declared.seat.TurnSeat.{TurnSeat}
use Rattle.vb_turn.specs.declared.turn.Turn.{Turn}
use Rattle.vb_turn.specs.Rows.{SeatRow}
use Rattle.vb_turn.specs.Seating.{is_holding, made_first}

module _ {V : Type 0} where
  -- the beginning of the history that a seat has seen
  abbrev pub seen_of : TurnSeat V → List Entry
  seen_of seat = seat.seat.me.0.seen

  -- the last epoch that it was told
  abbrev pub told_of : TurnSeat V → ℕ
  told_of seat = seat.seat.me.0.told

  -- the entries that it made
  abbrev pub own_of : TurnSeat V → List Entry
  own_of seat = made_first seat.seat.me.0.mine

  abbrev pub number_of : TurnSeat V → ℕ
  number_of seat = seat.number

  -- the value that a lock was made with
  abbrev pub given_to : Turn V → V
  given_to turn = turn.table.shared.key.value

  -- the numbers of its seats
  abbrev pub numbers_of : Turn V → List ℕ
  numbers_of turn = turn.table.shared.key.numbers.items

  -- the seat is one of this lock's
  abbrev pub IsSeatOf : Turn V → TurnSeat V → Type 0
  IsSeatOf turn seat = (seat.seat.table_id ≡ turn.table.shared.table_id) × (seat.seat.me.0.given ≡ Some (given_to turn))

  -- it has no ticket
  abbrev pub IsFree : TurnSeat V → Type 0
  IsFree seat = seat.seat.me.0.stage ≡ Free

  -- it holds the turn
  abbrev pub HoldsTurn : TurnSeat V → Type 0
  HoldsTurn seat = is_holding seat.seat.me.0.stage ≡ true

  -- it is the same seat, whatever it has seen
  abbrev pub IsSameSeat : TurnSeat V → TurnSeat V → Type 0
  IsSameSeat before after = (after.number ≡ before.number) × (after.seat.table_id ≡ before.seat.table_id) × (after.seat.me.0.given ≡ before.seat.me.0.given)

  -- the history goes on from what the seat has seen, by entries of the seat's number alone
  abbrev pub Extends : TurnSeat V → List Entry → Type 0
  Extends seat history = GoesOn seat.number (seen_of seat) history

  -- it is a seat of this lock, with no ticket
  abbrev pub IsBack : Turn V → TurnSeat V → Type 0
  IsBack turn seat = IsSeatOf turn seat × IsFree seat

  -- each of them is
  abbrev pub AreBack : Turn V → List (TurnSeat V) → Type 0
  AreBack turn seats = AllByRecursion (IsBack turn) seats

  -- of each seat's number the history has just the entries that the seat made
  abbrev pub AreWhole : List Entry → List (TurnSeat V) → Type 0
  AreWhole history seats = AllByRecursion (λ seat. entries_of seat.number history ≡ own_of seat) seats

  -- a seat that nobody has used: it has seen nothing, made nothing, and was told this epoch
  abbrev pub IsUnused : ℕ → TurnSeat V → Type 0
  IsUnused epoch seat = IsFree seat × (seen_of seat ≡ []) × (own_of seat ≡ []) × (told_of seat ≡ epoch)

  -- a lock of this value, with a seat for each of the numbers, in their order
  pub record IsNew (epoch : V → List Entry → ℕ) (value : V) (numbers : List ℕ) (turn : Turn V) (row : SeatRow V) : Type 0 where
    pub given : given_to turn ≡ value
    pub numbers_are : numbers_of turn ≡ numbers
    pub made : row.made ≡ length numbers
    pub in_order : map number_of row.seats ≡ numbers
    pub unused : AllByRecursion (λ seat. IsSeatOf turn seat × IsUnused (epoch (given_to turn) []) seat) row.seats
