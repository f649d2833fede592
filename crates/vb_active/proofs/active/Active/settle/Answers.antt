use Rattle.std.proofs.Common.{ap, subst, sym}
use Rattle.vb_active.specs.Views.{ActiveState, LiesBelow}
use Rattle.vb_index.specs.Indexes.{IndexState}
use Rattle.vb_active.proofs.OneSlot.{settled-below, settled-files}
use Rattle.vb_active.proofs.active.Active.settle.Goals as goal

pub invariant_of-self : goal.invariant_of-self
invariant_of-self c = λ s k some.
    let n = c.set_ref.ensures.nodes in
    settled-files c.self.inside.index.nodes c.set_ref.new.self.nodes c.self.inside.table c.forget.new.self c.args.slot c.args.page c.args.reference n.0 c.self.invariant n.1 (ap (λ (s : IndexState). s.nodes) n.2) c.forget.ensures.forgotten s k some

pub returns-clause-below : goal.returns-clause-below
returns-clause-below c = λ size low below.
    let n = c.set_ref.ensures.nodes in
    let old : ActiveState = record { index = c.self.inside.index; pages = c.self.inside.table } in
    settled-below old (record { index = c.set_ref.new.self; pages = c.forget.new.self }) c.args.slot c.args.page size c.args.reference n.0 n.1 n.2 c.forget.ensures.forgotten low (subst (LiesBelow size) (sym c.self.view_is) below)
