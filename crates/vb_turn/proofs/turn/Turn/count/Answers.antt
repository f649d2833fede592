-- The count of a turn's entries.
use Rattle.std.proofs.Common.{rules, ◌%◌, ◌^◌, ◌+◌, List, sym, ap, ◌∙◌, subst}
use Rattle.vb_hist.specs.declared.entry.Entry.{Entry}
use Rattle.atomic_table.specs.Table.{Allows, step}
use mathlib.Core.Option.{none}
use Rattle.vb_turn.specs.Numbers.{remade}
use Rattle.vb_turn.specs.Rule.{Keeps}
use Rattle.vb_turn.specs.Steps.{counted, counted_stage}
use Rattle.vb_turn.specs.declared.view.View.{View}
use Rattle.vb_turn.proofs.Keeping.{counts_own}
use Rattle.vb_turn.proofs.turn.Turn.count.Goals as goal

pub fetch_add-requires : goal.fetch_add-requires
fetch_add-requires g c = let key = c.args.self.now.table.shared.key in let own = c.requires.entries.1 in (
  search rules,
  search rules,
  subst (λ l. Allows (Keeps g.V.Kept.history g.V.Kept.stands g.V.Kept.published_after key) c.args.self.now.table.shared.table_id.slots c.args.seat.now.id c.args.seat.now.me 2 (λ k. (k + c.args.added) % 2 ^ 64) (counted l (step 0 0 0 0 none) c.args.seat.now.me)) (sym c.requires.history.0)
      (counts_own g.V.Kept.history g.V.Kept.stands g.V.Kept.published_after key _ _ own.0 c.args.added c.args.seat.now.me (g.V.Kept.history c.args.value.now) c.requires.seat.1 own.1 own.2 c.requires.entries.0 c.requires.history.1),
)

pub returns : goal.returns
returns g c = (
  search rules,
  c.fetch_add.ensures.2
      ∙ ap (λ (l : List Entry). let v : View g.row.V.Denot = record c.args.seat.now.me.0 { stage = counted_stage c.args.seat.now.me.0.stage; seen = l; mine = remade l c.args.seat.now.me.0.mine } in (v, c.args.seat.now.me.1)) c.requires.history.0,
)
