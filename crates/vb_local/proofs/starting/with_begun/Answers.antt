use Rattle.std.proofs.Common.{Option, ℕ, sym, subst}
use Rattle.std.specs.Option.{option_map}
use Rattle.vb_local.specs.Events.{Starts}
use Rattle.vb_local.specs.Phases.{AreTied}
use Rattle.vb_local.specs.States.{frozen_state, LocalState, Rests}
use Rattle.vb_local.proofs.Begun.{begun-starts, begun-tied}
use Rattle.vb_local.proofs.starting.with_begun.Goals as goal

pub invariant_of-result : goal.invariant_of-result
invariant_of-result c =
    let frozen = option_map frozen_state c.args.begun.frozen in
    subst (λ (o : Option ℕ). AreTied (record { live = c.args.begun.live; view = c.args.view; phase = Rests frozen; standing = o })) (sym c.standing_where-standing.ensures.is)
    (begun-tied c.args.view c.args.stands c.args.begun.live frozen c.standing_where-standing.ensures.view c.requires.none_begun c.requires.begins)

pub returns : goal.returns
returns c =
    let frozen = option_map frozen_state c.args.begun.frozen in
    subst (λ (o : Option ℕ). Starts c.args.view c.args.stands (record { live = c.args.begun.live; view = c.args.view; phase = Rests frozen; standing = o })) (sym c.standing_where-standing.ensures.is)
    (begun-starts c.args.view c.args.stands c.args.begun.live frozen c.standing_where-standing.ensures.view c.requires.begins)
