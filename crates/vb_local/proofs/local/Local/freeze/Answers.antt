use Rattle.std.proofs.Common.{◌≡◌, Some, ap, sym, subst, refl, ◌∙◌, length, ℕ}
use Rattle.vb_index.specs.Indexes.{IndexState}
use Rattle.vb_local.specs.Events.{Freezes}
use Rattle.vb_local.specs.Phases.{CanCount}
use Rattle.vb_local.specs.States.{frozen_state, state_of, IsResting, LocalState, Waits}
use Rattle.vb_local.proofs.Begun.{freeze-freezes, freeze-tied}
use Rattle.vb_local.proofs.local.Local.freeze.Goals as goal

pub invariant_of-self : goal.invariant_of-self
invariant_of-self c =
    let inside : LocalState = state_of c.self.inside.live c.self.inside.view c.self.inside.phase c.self.inside.standing in
    freeze-tied inside (frozen_state c.in_ok-frozen.frozen) c.args.epoch c.a_freeze_can_be_committed.ensures.frozen c.self.invariant
    (subst (λ (s : LocalState). IsResting s.phase) (sym c.self.view_is) c.requires.resting)
    (subst (λ (s : LocalState). CanCount s.view.head c.args.epoch) (sym c.self.view_is) c.requires.can)
    c.in_ok-frozen.ensures
    (subst (λ (i : IndexState). i.limits.nodes ≡ length i.nodes) c.index.ensures.index c.count-count.ensures.slots)

pub returns-clause-ok : goal.returns-clause-ok
returns-clause-ok c =
    let inside : LocalState = state_of c.self.inside.live c.self.inside.view c.self.inside.phase c.self.inside.standing in
    subst (λ (s : LocalState). Freezes s c.args.epoch (record inside { phase = Waits (frozen_state c.in_ok-frozen.frozen) c.args.epoch; standing = Some c.args.epoch })) c.self.view_is
    (freeze-freezes inside (frozen_state c.in_ok-frozen.frozen) c.args.epoch c.self.invariant
    (subst (λ (s : LocalState). IsResting s.phase) (sym c.self.view_is) c.requires.resting)
    c.in_ok-frozen.ensures
    (subst (λ (i : IndexState). i.limits.nodes ≡ length i.nodes) c.index.ensures.index c.count-count.ensures.slots))
