use Rattle.std.proofs.Common.{◌∙◌, ap, arith, subst, sym}
use Rattle.vb_hist.specs.Histories.{surviving, up_to_epoch}
use Rattle.vb_hist.proofs.Order.{IsInOrder, last_or-last, order-rises}
use Rattle.vb_hist.proofs.Ordered.{ordered}
use Rattle.vb_hist.proofs.Earlier.{bounds-frozen, frozen-bounds, only-freeze}
use Rattle.vb_hist.proofs.freezes.surviving_freezes_rise.Goals as goal

pub returns-clause-rise : goal.returns-clause-rise
returns-clause-rise c = λ o history legal. order-rises o.start (surviving o.start history) (ordered o history legal).order

pub returns-clause-last : goal.returns-clause-last
returns-clause-last c = λ o history legal. last_or-last o.start (surviving o.start history) ∙ sym ((ordered o history legal).last)

pub returns-clause-each : goal.returns-clause-each
returns-clause-each c = λ o history epoch legal.
    let s = ordered o history legal in (
      λ frozen. let b = frozen-bounds o.start epoch (surviving o.start history) s.order frozen in (b.0, omega (arith, b.1, s.last)),
      λ b. bounds-frozen o.start epoch (surviving o.start history) s.order b.0 (omega (arith, b.1, s.last)),
    )

pub returns-clause-only : goal.returns-clause-only
returns-clause-only c = λ o history front rest by epoch legal is.
    ap (up_to_epoch o.start epoch) is ∙ only-freeze o.start epoch by front rest (subst (IsInOrder o.start) is (ordered o history legal).order)
