use Rattle.std.proofs.Common.{◌≡◌, ◌+◌, ◌∙◌, List, ◌∷◌, Option, get_or, drop, sym, ap, subst}
use Rattle.std.proofs.lemmas.List.{drop_more}
use Rattle.vb_index.specs.declared.held.Held.{Held}
use Rattle.vb_plan.specs.Plans.{with_held}
use Rattle.vb_store.specs.NextIndexes.{Fits}
use Rattle.vb_store.proofs.NextIndexed.{fits_after}
use Rattle.vb_store.proofs.next_index.set_all_refs.Goals as goal

pub loop-one-preserved : goal.loop-one-preserved
loop-one-preserved c =
    let held = c.args.held.now in
    let i = c.loop-one.one-index in
    let table = c.loop-one.index.nodes in
    let x = c.one-item.result in
    let left : drop i held ≡ x ∷ drop (i + 1) held = drop_more held i x c.loop-one-test.true ∙ ap (λ (h : Held). h ∷ drop (i + 1) held) (sym c.one-item.is) in
    let mine : Fits table x = subst (Fits table) (sym c.one-item.is) (c.loop-one.invariant.fits i x c.loop-one-test.true) in
    record {
      nodes = ap (λ (t : List (Option Held)). with_held t (drop (i + 1) held)) c.set_slot_refs.ensures.nodes ∙ ap (with_held table) (sym left) ∙ c.loop-one.invariant.nodes;
      limits = c.set_slot_refs.ensures.limits ∙ c.loop-one.invariant.limits;
      fits = λ k d within. subst (λ (t : List (Option Held)). Fits t (get_or held k d)) (sym c.set_slot_refs.ensures.nodes) (fits_after table x (get_or held k d) mine (c.loop-one.invariant.fits k d within));
    }
