-- A turn ends.
use Rattle.std.proofs.Common.{rules, ◌≡◌, ◌<◌, [], ◌∷◌, length, Some, sym, ap, ◌∙◌, subst}
use Rattle.atomic_table.specs.Table.{rest}
use Rattle.vb_turn.specs.declared.view.TurnStage.TheVariants.{Counted, Posted}
use Rattle.vb_turn.specs.Numbers.{remade}
use Rattle.vb_turn.specs.Seating.{carried_at}
use Rattle.vb_turn.specs.Steps.{counted_stage, posted_stage}
use Rattle.vb_turn.proofs.Totals.{some_remade}
use Rattle.vb_turn.proofs.Sat.{has_some}
use Rattle.vb_turn.proofs.Keeping.{holding_is, posts, passes}
use Rattle.vb_turn.proofs.turn.Turn.leave.Goals as goal

pub store-requires : goal.store-requires
store-requires g c = let key = c.args.self.now.table.shared.key in let seat = c.args.seat.now in
    let h = holding_is seat.seat.me.0.stage c.requires.seat.1 in let done = c.count.ensures.1 in
    let stage : c.count.new.seat.me.0.stage ≡ Counted h.0 = ap (λ m. m.0.stage) done ∙ ap counted_stage h.1 in
    let mine : 0 < length c.count.new.seat.me.0.mine = subst (λ l. 0 < length l) (sym (ap (λ m. m.0.mine) done)) (some_remade (g.V.Kept.history c.args.value) seat.seat.me.0.mine (has_some seat (search rules))) in
    let epoch : c.published-epoch.result ≡ g.V.Kept.published_after key.value c.count.new.seat.me.0.seen =
    c.published-epoch.ensures.epoch key.value c.requires.value.0 ∙ ap (g.V.Kept.published_after key.value) (sym (ap (λ m. m.0.seen) done)) in
    (search rules, search rules, posts g.V.Kept.history g.V.Kept.stands g.V.Kept.published_after key _ _ h.0 c.published-epoch.result c.count.new.seat.me stage mine epoch)

pub fetch_add-requires : goal.fetch_add-requires
fetch_add-requires g c = let key = c.args.self.now.table.shared.key in let seat = c.args.seat.now in
    let h = holding_is seat.seat.me.0.stage c.requires.seat.1 in let counted = c.count.ensures.1 in let told = c.store.ensures.2 in let put = c.exchange-empty.ensures.3 in
    let stage : c.exchange-empty.new.seat.me.0.stage ≡ Posted h.0 =
    ap (λ m. m.0.stage) put ∙ (ap (λ m. m.0.stage) told ∙ (ap (λ m. posted_stage m.0.stage) counted ∙ ap (λ st. posted_stage (counted_stage st)) h.1)) in
    let mine : c.exchange-empty.new.seat.me.0.mine ≡ remade (g.V.Kept.history c.args.value) seat.seat.me.0.mine =
    ap (λ m. m.0.mine) put ∙ (ap (λ m. m.0.mine) told ∙ ap (λ m. m.0.mine) counted) in
    let seen : c.exchange-empty.new.seat.me.0.seen ≡ g.V.Kept.history c.args.value =
    ap (λ m. m.0.seen) put ∙ (ap (λ m. m.0.seen) told ∙ ap (λ m. m.0.seen) counted) in
    let slot : seat.seat.me.1 ≡ carried_at seat.seat.me.0.stage = search rules in
    let carried : c.exchange-empty.new.seat.me.1 ≡ (0, Some c.args.value) ∷ [] =
    ap (λ m. m.1) put ∙ ap (λ l. (0, Some c.args.value) ∷ rest l) (ap (λ m. m.1) told ∙ (ap (λ m. m.1) counted ∙ (slot ∙ ap carried_at h.1))) in (
      search rules,
      search rules,
      passes g.V.Kept.history g.V.Kept.stands g.V.Kept.published_after key _ _ h.0 c.exchange-empty.new.seat.me c.args.value stage
          (subst (λ l. 0 < length l) (sym mine) (some_remade (g.V.Kept.history c.args.value) seat.seat.me.0.mine (has_some seat (search rules)))) carried c.requires.value.0 (sym seen),
    )
