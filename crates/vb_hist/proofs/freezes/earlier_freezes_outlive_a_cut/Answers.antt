use Rattle.std.proofs.Common.{[], ◌∷◌, ◌∙◌, ap, subst, sym}
use Rattle.std.proofs.lemmas.List.Sums.{fold-append}
use Rattle.vb_hist.specs.declared.entry.Entry.TheVariants.{Cut}
use Rattle.vb_hist.specs.Histories.{IsFrozenAt, folder_after, survivors_after, surviving, up_to_epoch}
use Rattle.vb_hist.proofs.Ordered.{ordered, ordered-order_of_cut}
use Rattle.vb_hist.proofs.Earlier.{cut-behind_cut, earlier-cut, earlier-frozen}
use Rattle.vb_hist.proofs.Followed.{surviving-step}
use Rattle.vb_hist.proofs.freezes.earlier_freezes_outlive_a_cut.Goals as goal

pub returns-clause-front : goal.returns-clause-front
returns-clause-front c = λ o history earlier epoch limits legal there frozen below.
    ap (up_to_epoch o.start earlier) (surviving-step o.start history (Cut epoch limits))
    ∙ earlier-cut o.start earlier epoch limits (surviving o.start history) (ordered o history legal).order there frozen below

pub returns-clause-folder : goal.returns-clause-folder
returns-clause-folder c = λ o history earlier epoch limits legal there frozen below.
    ap (λ l. folder_after o.base (up_to_epoch o.start earlier l)) (surviving-step o.start history (Cut epoch limits))
    ∙ ap (folder_after o.base) (earlier-cut o.start earlier epoch limits (surviving o.start history) (ordered o history legal).order there frozen below)

pub returns-clause-freeze : goal.returns-clause-freeze
returns-clause-freeze c = λ o history earlier epoch limits legal there frozen below.
    subst (IsFrozenAt o.start earlier) (sym (surviving-step o.start history (Cut epoch limits)))
    (earlier-frozen o.start earlier epoch limits (surviving o.start history) (ordered o history legal).order there frozen below)

pub returns-clause-again : goal.returns-clause-again
returns-clause-again c = λ o history earlier epoch first second legal there frozen below.
    let s = ordered o history legal in
    fold-append (survivors_after o.start) [] history (Cut epoch first ∷ Cut earlier second ∷ [])
    ∙ cut-behind_cut o.start earlier epoch first second (surviving o.start history) s.order (ordered-order_of_cut o (surviving o.start history) epoch first s frozen) there frozen below
    ∙ sym (surviving-step o.start history (Cut earlier second))
