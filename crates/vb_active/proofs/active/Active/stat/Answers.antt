use Rattle.std.proofs.Common.{◌≡◌, List, Option, Some, ap, sym, subst, ◌∙◌}
use Rattle.vb_index.specs.declared.held.Held.{Held}
use Rattle.vb_index.specs.Indexes.{HasShapeOf}
use Rattle.vb_index.specs.Nodes.{held_at, slot_at, IsTable}
use Rattle.vb_active.specs.Performs.{info_at}
use Rattle.vb_active.specs.Views.{ActiveState}
use Rattle.vb_active.proofs.Looking.{stat-performs}
use Rattle.vb_active.proofs.active.Active.stat.Goals as goal

pub returns-in-Ok : goal.returns-in-Ok
returns-in-Ok c = λ told.
    let nodes : c.self.inside.index.nodes ≡ c.args.self.now.index.nodes = ap (λ (v : ActiveState). v.index.nodes) c.self.view_is in
    let P : List (Option Held) → Type 0 = λ ns. slot_at ns c.args.path.now ≡ Some c.in-Ok.slot in
    stat-performs told c.args.self.now c.args.path.now c.in-Ok.slot c.info_of.result
    (subst IsTable nodes c.count.ensures.table)
    (subst P nodes c.in-Ok.ensures.slot)
    (λ tree next shape. let Q : List (Option Held) → Type 0 = λ ns. HasShapeOf ns tree in c.in-Ok.ensures.answer tree next (subst Q (sym nodes) shape))
    (c.info_of.ensures ∙ ap (λ ns. info_at (held_at ns c.in-Ok.slot)) nodes)
