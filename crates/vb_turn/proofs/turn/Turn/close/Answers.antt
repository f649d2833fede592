-- The value comes out of the closed table.
use Rattle.std.proofs.Common.{rules, ◌≡◌, List, length, sym, ap, ◌∙◌, subst}
use Rattle.vb_turn.specs.declared.seat.TurnSeat.{TurnSeat}
use Rattle.vb_turn.specs.Numbers.{AllKnown}
use Rattle.vb_turn.specs.Turns.{numbers_of, AreWhole}
use Rattle.vb_turn.proofs.Totals.{some_is}
use Rattle.vb_turn.proofs.Making.{finds}
use Rattle.vb_turn.proofs.turn.Turn.close.Goals as goal

pub unreachable-requires : goal.unreachable-requires
unreachable-requires g c = let key = c.args.self.table.shared.key in
    let row : c.seats.inside.seats.items ≡ c.args.seats.seats = search rules in
    let end = finds g.V.Kept.history g.V.Kept.stands g.V.Kept.published_after key _ _ _ c.gathered-all.result.me.0 c.take-kept.result c.close_with-closed.ensures.values.2 c.gathered-all.ensures.seat.1
    (c.gathered-all.ensures.count ∙ (ap (λ (l : List (TurnSeat g.row.V.Denot)). length l) row ∙ c.requires.1)) c.take-kept.ensures.value in
    c.in_default.not-Some end.0 end.1

pub returns-clause-value : goal.returns-clause-value
returns-clause-value g c = let key = c.args.self.table.shared.key in
    let row : c.seats.inside.seats.items ≡ c.args.seats.seats = search rules in
    let end = finds g.V.Kept.history g.V.Kept.stands g.V.Kept.published_after key _ _ _ c.gathered-all.result.me.0 c.take-kept.result c.close_with-closed.ensures.values.2 c.gathered-all.ensures.seat.1
    (c.gathered-all.ensures.count ∙ (ap (λ (l : List (TurnSeat g.row.V.Denot)). length l) row ∙ c.requires.1)) c.take-kept.ensures.value in
    let same : end.0 ≡ c.in-Some.value = some_is (sym end.1 ∙ c.in-Some.is) in
    subst (λ x. g.V.Kept.stands key.value x) same end.2

pub returns-clause-whole : goal.returns-clause-whole
returns-clause-whole g c = let key = c.args.self.table.shared.key in
    let row : c.seats.inside.seats.items ≡ c.args.seats.seats = search rules in
    let end = finds g.V.Kept.history g.V.Kept.stands g.V.Kept.published_after key _ _ _ c.gathered-all.result.me.0 c.take-kept.result c.close_with-closed.ensures.values.2 c.gathered-all.ensures.seat.1
    (c.gathered-all.ensures.count ∙ (ap (λ (l : List (TurnSeat g.row.V.Denot)). length l) row ∙ c.requires.1)) c.take-kept.ensures.value in
    let same : end.0 ≡ c.in-Some.value = some_is (sym end.1 ∙ c.in-Some.is) in
    subst (λ x. AreWhole (g.V.Kept.history x) c.args.seats.seats) same (subst (AreWhole (g.V.Kept.history end.0)) row (c.gathered-all.ensures.whole (g.V.Kept.history end.0) end.3))

pub returns-clause-known : goal.returns-clause-known
returns-clause-known g c = let key = c.args.self.table.shared.key in
    let row : c.seats.inside.seats.items ≡ c.args.seats.seats = search rules in
    let end = finds g.V.Kept.history g.V.Kept.stands g.V.Kept.published_after key _ _ _ c.gathered-all.result.me.0 c.take-kept.result c.close_with-closed.ensures.values.2 c.gathered-all.ensures.seat.1
    (c.gathered-all.ensures.count ∙ (ap (λ (l : List (TurnSeat g.row.V.Denot)). length l) row ∙ c.requires.1)) c.take-kept.ensures.value in
    let same : end.0 ≡ c.in-Some.value = some_is (sym end.1 ∙ c.in-Some.is) in
    subst (λ x. AllKnown (numbers_of c.args.self) (g.V.Kept.history x)) same end.4
