-- The first seat has the numbers that are not handed out yet, and each seat so far has its own.
use Rattle.std.proofs.Common.{◌≡◌, ◌≤◌, [], map, take, drop, length, vec_capacity}
use Rattle.std.specs.List.{AllByRecursion}
use Rattle.vb_turn.specs.Rule.{unused_view}
use Rattle.vb_turn.specs.Turns.{number_of, given_to, IsSeatOf, IsUnused}
use Rattle.vb_turn.proofs.turn.Turn.hand_out.Given as goal

abbrev pub invariant-loop-i : goal.invariant-loop-i
invariant-loop-i g l =
    (l.first.table_id ≡ l.self.table.shared.table_id)
    × (l.first.me ≡ (unused_view g.V.Kept.published_after l.self.table.shared.key (drop l.i l.numbers), []))
    × (map number_of l.seats.items ≡ take l.i l.numbers)
    × (length l.seats.items ≡ l.i)
    × (length l.numbers ≤ vec_capacity l.seats)
    × AllByRecursion (λ seat. IsSeatOf l.self seat × IsUnused (g.V.Kept.published_after (given_to l.self) []) seat) l.seats.items
