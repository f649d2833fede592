-- The seats of a new lock.
use Rattle.std.proofs.Common.{rules, ap}
use Rattle.vb_turn.proofs.Making.{splits}
use Rattle.vb_turn.proofs.turn.Turn.hand_out.Goals as goal

pub split_seat-seat-requires : goal.split_seat-seat-requires
split_seat-seat-requires g c = let key = c.args.self.now.table.shared.key in
    (search rules, search rules, splits g.V.Kept.history g.V.Kept.stands g.V.Kept.published_after key _ c.loop-i.first.me.0 (ap (λ m. m.0.stage) c.loop-i.invariant.1))
