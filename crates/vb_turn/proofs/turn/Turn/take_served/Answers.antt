-- A look at the ticket that is served.
use Rattle.std.proofs.Common.{rules, ◌∷◌, Some, sym, ap, ◌∙◌}
use Rattle.atomic_table.specs.Table.{rest}
use Rattle.vb_turn.specs.Turns.{given_to}
use Rattle.vb_turn.proofs.Sat.{look_missed, look_found, look_took}
use Rattle.vb_turn.proofs.Keeping.{looks}
use Rattle.vb_turn.proofs.turn.Turn.take_served.Goals as goal

pub load-requires : goal.load-requires
load-requires g c = let key = c.args.self.now.table.shared.key in let waits = c.requires.waits in
    (search rules, search rules, looks g.V.Kept.history g.V.Kept.stands g.V.Kept.published_after key _ _ waits.0 c.args.seat.now.me waits.1 c.requires.lock.2)

pub returns-then-load-ticket-clause-turn : goal.returns-then-load-ticket-clause-turn
returns-then-load-ticket-clause-turn g c = let waits = c.requires.waits in
    look_missed g.V.Kept.history g.V.Kept.stands g.V.Kept.published_after c.args.seat.now.me c.load.new.seat.me c.load.result c.args.ticket waits.0 (given_to c.args.self.now) c.load.ensures.2 waits.1 c.requires.lock.1 waits.2 (search rules)

pub exchange-requires : goal.exchange-requires
exchange-requires g c = let waits = c.requires.waits in
    let got = look_found g.V.Kept.history g.V.Kept.stands g.V.Kept.published_after c.args.seat.now.me c.load.new.seat.me c.load.result c.args.ticket waits.0 (given_to c.args.self.now) c.load.ensures.2 waits.1 c.requires.lock.1 waits.2 (search rules) in
    let carried = ap (λ m. m.1) got.2 in
    (search rules, (Some got.0, carried ∙ ap (λ l. (0, Some got.0) ∷ rest l) (sym carried)))

pub returns-clause-turn : goal.returns-clause-turn
returns-clause-turn g c = let waits = c.requires.waits in
    look_took g.V.Kept.history g.V.Kept.stands g.V.Kept.published_after c.args.seat.now.me c.load.new.seat.me c.load.result c.args.ticket waits.0 (given_to c.args.self.now) c.load.ensures.2 waits.1 c.requires.lock.1 waits.2
    c.exchange.new.seat.me c.exchange.result (search rules) c.exchange.ensures.2 c.exchange.ensures.3
