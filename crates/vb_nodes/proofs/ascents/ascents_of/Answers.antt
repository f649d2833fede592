use Rattle.std.proofs.Common.{◌^◌, ◌+◌, List, ap, subst, sym, ◌∙◌, arith}
use Rattle.vb_nodes.specs.declared.ascents.Ascent.{Ascent}
use Rattle.vb_nodes.specs.Ascents.{doubled, AreAscents, AreFollowable}
use Rattle.vb_nodes.proofs.NodeLaws.{name-short}
use Rattle.vb_nodes.proofs.Climbs.{few_steps, AreAscents-enough, AreAscents-pass, AreAscents-single, AreFollowable-ascents}
use Rattle.vb_nodes.proofs.ascents.ascents_of.Goals as goal

pub single_steps-requires : goal.single_steps-requires
single_steps-requires c = λ slot lt. name-short c.args.nodes.now slot c.requires

pub loop-pass-init : goal.loop-pass-init
loop-pass-init c = subst (λ (xs : List Ascent). AreAscents c.args.nodes.now 1 xs) (sym c.in_ok-ascents.ensures) (AreAscents-single c.args.nodes.now c.requires)

pub double-requires : goal.double-requires
double-requires c =
    subst AreFollowable (sym c.as_slice.ensures.value)
    (AreFollowable-ascents c.args.nodes.now (2 ^ c.loop-pass._pass) c.loop-pass.ascents.items c.requires c.loop-pass.invariant (few_steps c.loop-pass._pass (omega arith)))

pub loop-pass-preserved : goal.loop-pass-preserved
loop-pass-preserved c =
    subst (λ (xs : List Ascent). AreAscents c.args.nodes.now (2 ^ (c.loop-pass._pass + 1)) xs) (sym (c.in_ok-ascents-2.ensures ∙ ap doubled c.as_slice.ensures.value))
    (AreAscents-pass c.args.nodes.now c.loop-pass._pass c.loop-pass.ascents.items c.requires c.loop-pass.invariant)

pub returns : goal.returns
returns c = AreAscents-enough c.args.nodes.now c.loop-pass._pass c.loop-pass.ascents.items (omega arith) c.loop-pass.invariant
