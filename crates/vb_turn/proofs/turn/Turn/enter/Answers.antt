-- A turn is waited for.
use Rattle.std.proofs.Common.{rules, ◌<◌, length, sym, ap, ◌∙◌, subst}
use Rattle.vb_turn.proofs.Sat.{has_some}
use Rattle.vb_turn.proofs.Keeping.{draws}
use Rattle.vb_turn.proofs.turn.Turn.enter.Goals as goal

pub fetch_add-ticket-requires : goal.fetch_add-ticket-requires
fetch_add-ticket-requires g c = let key = c.args.self.now.table.shared.key in
    (search rules, search rules, draws g.V.Kept.history g.V.Kept.stands g.V.Kept.published_after key _ _ c.args.seat.now.seat.me c.requires.1 (has_some c.args.seat.now (search rules)))

pub take_served-requires-clause-lock : goal.take_served-requires-clause-lock
take_served-requires-clause-lock g c = let inv = c.loop.invariant in
    (inv.3 ∙ c.requires.0.0, ap (λ m. m.0.given) inv.2 ∙ c.requires.0.1, subst (λ l. 0 < length l) (sym (ap (λ m. m.0.mine) inv.2)) (has_some c.args.seat.now (search rules)))
