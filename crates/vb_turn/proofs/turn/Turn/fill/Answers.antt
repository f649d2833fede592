-- The first turn, in which the value gets into the slot.
use Rattle.std.proofs.Common.{rules, ◌≡◌, ◌<◌, [], ◌∷◌, length, Some, None, sym, ap, ◌∙◌, subst}
use Rattle.atomic_table.specs.Table.{rest}
use Rattle.vb_turn.specs.Numbers.{unused}
use Rattle.vb_turn.specs.declared.view.TurnStage.TheVariants.{Posted}
use Rattle.vb_turn.proofs.Totals.{some_unused}
use Rattle.vb_turn.proofs.Keeping.{opens, passes}
use Rattle.vb_turn.proofs.turn.Turn.fill.Goals as goal

pub load-requires : goal.load-requires
load-requires g c = let key = c.args.self.now.table.shared.key in let is = c.requires.seat.1 in
    let seats : 0 < length key.numbers.items = search rules in (
      search rules,
      search rules,
      opens g.V.Kept.history g.V.Kept.stands g.V.Kept.published_after key _ _ c.args.first.now.me (ap (λ m. m.0.stage) is)
          (subst (λ l. 0 < length l) (sym (ap (λ m. m.0.mine) is)) (some_unused key.numbers.items seats)),
    )

pub fetch_add-requires : goal.fetch_add-requires
fetch_add-requires g c = let key = c.args.self.now.table.shared.key in let is = c.requires.seat.1 in
    let seats : 0 < length key.numbers.items = search rules in
    let at = c.exchange-empty.ensures.3 in let opened = c.load.ensures.2 in
    let stage : c.exchange-empty.new.seat.me.0.stage ≡ Posted 0 = ap (λ m. m.0.stage) at ∙ ap (λ m. m.0.stage) opened in
    let mine : c.exchange-empty.new.seat.me.0.mine ≡ unused key.numbers.items = ap (λ m. m.0.mine) at ∙ (ap (λ m. m.0.mine) opened ∙ ap (λ m. m.0.mine) is) in
    let seen : c.exchange-empty.new.seat.me.0.seen ≡ [] = ap (λ m. m.0.seen) at ∙ (ap (λ m. m.0.seen) opened ∙ ap (λ m. m.0.seen) is) in
    let carried : c.exchange-empty.new.seat.me.1 ≡ (0, Some c.args.value) ∷ [] = ap (λ m. m.1) at ∙ ap (λ l. (0, Some c.args.value) ∷ rest l) (ap (λ m. m.1) opened ∙ ap (λ l. (0, None) ∷ l) (ap (λ m. m.1) is)) in (
      search rules,
      search rules,
      passes g.V.Kept.history g.V.Kept.stands g.V.Kept.published_after key _ _ 0 c.exchange-empty.new.seat.me c.args.value stage
          (subst (λ l. 0 < length l) (sym mine) (some_unused key.numbers.items seats)) carried c.requires.value.0 (c.requires.value.1 ∙ sym seen),
    )
