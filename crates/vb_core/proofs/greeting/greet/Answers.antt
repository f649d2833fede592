use Rattle.std.proofs.Common.{rules, ◌≡◌, true, false, ◌∙◌, sym, refl}
use Rattle.vb_core.proofs.Greeted.{greets-claimed, greets-failed, greets-named, greets-refused, greets-unclaimed, is-named, is-unnamed}
use Rattle.vb_core.proofs.greeting.greet.Goals as goal

pub returns-in-Err : goal.returns-in-Err
returns-in-Err g c = rw c.start_error.ensures (greets-failed c.args.head.now _ _ c.in-Err.error c.in-Err.ensures)

pub returns-in-Some : goal.returns-in-Some
returns-in-Some g c = greets-refused c.args.head.now _ _ c.in-Ok.info c.in-Some.why c.in-Ok.ensures c.in-Some.ensures.of_shown c.in-Some.ensures.refused

pub returns-then-is_some : goal.returns-then-is_some
returns-then-is_some g c = greets-named c.args.head.now _ _ c.in-Ok.info c.in-Ok.ensures (c.in_default.ensures.none refl) (is-named c.of.result c.in-Ok.info.id c.of.ensures.none (sym c.is_some.ensures ∙ c.if-is_some.true))

pub returns-in-Ok-claim : goal.returns-in-Ok-claim
returns-in-Ok-claim g c = greets-claimed c.args.head.now _ _ _ c.in-Ok.info c.in-Ok.ensures (c.in_default.ensures.none refl) (is-unnamed c.of.result c.in-Ok.info.id c.of.ensures.none (sym c.is_some.ensures ∙ c.if-is_some.false)) c.in-Ok-claim.ensures

pub returns-in-Err-claim : goal.returns-in-Err-claim
returns-in-Err-claim g c = rw c.start_error-in-Err-claim.ensures
    (greets-unclaimed c.args.head.now _ _ _ c.in-Ok.info c.in-Err-claim.error c.in-Ok.ensures (c.in_default.ensures.none refl) (is-unnamed c.of.result c.in-Ok.info.id c.of.ensures.none (sym c.is_some.ensures ∙ c.if-is_some.false)) c.in-Err-claim.ensures)
