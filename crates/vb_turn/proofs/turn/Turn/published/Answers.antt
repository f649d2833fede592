-- A glance at the epoch that was told last.
use Rattle.std.proofs.Common.{rules, ◌≡◌, false, Some, sym, ap}
use Rattle.vb_turn.specs.Rule.{is_counted}
use Rattle.vb_turn.proofs.Keeping.{glances}
use Rattle.vb_turn.proofs.Sat.{rest_counts, has_some}
use Rattle.vb_turn.proofs.turn.Turn.published.Goals as goal

pub load-requires : goal.load-requires
load-requires g c = let key = c.args.self.now.table.shared.key in
    let rests : is_counted c.args.seat.now.seat.me.0.stage ≡ false = rest_counts c.args.seat.now.seat.me.0.stage (search rules) in
    (search rules, search rules, glances g.V.Kept.history g.V.Kept.stands g.V.Kept.published_after key _ _ c.args.seat.now.seat.me rests (has_some c.args.seat.now (search rules)))

pub returns-clause-told : goal.returns-clause-told
returns-clause-told g c = let given = c.args.self.now.table.shared.key.value in
    let is : c.args.seat.now.seat.me.0.given ≡ Some given = c.requires.1 in
    (sym (ap (λ m. m.0.told) c.load.ensures.2.1), c.load.ensures.2.0 given is)
