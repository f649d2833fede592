-- The seats taken in so far: their numbers and entries are with one, and where it and those left are whole, all are.
use Rattle.std.proofs.Common.{◌≡◌, ◌+◌, ◌<◌, List, [], length}
use Rattle.vb_hist.specs.declared.entry.Entry.{Entry}
use Rattle.vb_turn.specs.declared.view.TurnStage.TheVariants.{Free}
use Rattle.vb_turn.specs.Numbers.{weigh, Made}
use Rattle.vb_turn.specs.Turns.{AreBack, AreWhole}
use Rattle.vb_turn.proofs.turn.Turn.gathered.Given as goal

abbrev pub invariant-loop-next : goal.invariant-loop-next
invariant-loop-next g l =
    (l.all.table_id ≡ l.self.table.shared.table_id)
    × (l.all.me.0.stage ≡ Free)
    × (l.all.me.1 ≡ [])
    × (0 < length l.all.me.0.mine)
    × (weigh (λ _. 1) l.all.me.0.mine + length l.row.items ≡ length l.fn.row.items)
    × AreBack l.self l.row.items
    × ((history : List Entry) → Made history l.all.me.0.mine → AreWhole history l.row.items → AreWhole history l.fn.row.items)

abbrev pub decreases-loop-next : goal.decreases-loop-next
decreases-loop-next g l = length l.row.items
