use Rattle.std.proofs.Common.{◌≡◌, None, ap, sym, subst, ◌∙◌}
use Rattle.vb_local.specs.declared.phase.Phase.{Phase}
use Rattle.vb_local.specs.Events.{Drops}
use Rattle.vb_local.specs.Phases.{AreTied}
use Rattle.vb_local.specs.States.{dropped_in, phase_state, state_of, LocalState, PhaseState}
use Rattle.vb_local.proofs.Begun.{dropped-tied, drops}
use Rattle.vb_local.proofs.local.Local.drop_view.Goals as goal

pub invariant_of-self : goal.invariant_of-self
invariant_of-self c =
    let inside : LocalState = state_of c.self.inside.live c.self.inside.view c.self.inside.phase c.self.inside.standing in
    let is : phase_state c.dropped.result ≡ dropped_in (phase_state c.self.inside.phase) = c.dropped.ensures ∙ ap (λ (p : Phase). dropped_in (phase_state p)) c.replace-phase.ensures.value in
    subst (λ (p : PhaseState). AreTied (record { live = c.self.inside.live; view = c.self.inside.view; phase = p; standing = None })) (sym is) (dropped-tied inside c.self.invariant)

pub returns : goal.returns
returns c =
    let inside : LocalState = state_of c.self.inside.live c.self.inside.view c.self.inside.phase c.self.inside.standing in
    let is : phase_state c.dropped.result ≡ dropped_in (phase_state c.self.inside.phase) = c.dropped.ensures ∙ ap (λ (p : Phase). dropped_in (phase_state p)) c.replace-phase.ensures.value in
    subst (λ (s : LocalState). Drops s (record { live = c.self.inside.live; view = c.self.inside.view; phase = phase_state c.dropped.result; standing = None })) c.self.view_is
    (subst (λ (p : PhaseState). Drops inside (record { live = c.self.inside.live; view = c.self.inside.view; phase = p; standing = None })) (sym is) (drops inside))
