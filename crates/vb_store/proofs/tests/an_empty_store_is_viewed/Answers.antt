use Rattle.std.proofs.Common.{◌-◌, ◌∷◌, ◌∙◌, replicate, Some, None, ap, sym, subst}
use Rattle.vb_index.specs.Indexes.{IndexState}
use Rattle.vb_index.specs.Nodes.{root_held}
use Rattle.vb_tree.specs.declared.tree.Limits.{Limits}
use Rattle.vb_store.specs.Views.{CanView}
use Rattle.vb_store.proofs.tests.an_empty_store_is_viewed.Goals as goal

pub of-requires : goal.of-requires
of-requires g c =
    let P : IndexState → Type 0 = λ index. CanView c.small_head.result index in
    let index_of : Limits → IndexState = λ limits. record { limits = limits; nodes = Some root_held ∷ replicate (limits.nodes - 1) None } in
    subst P (ap index_of c.small_head.ensures.limits ∙ sym c.in_ok-new.ensures.nodes) c.small_head.ensures.viewed
