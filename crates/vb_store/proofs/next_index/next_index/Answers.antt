use Rattle.std.proofs.Common.{◌≡◌, ◌∙◌, List, Option, All, length, sym, ap, subst}
use Rattle.vb_index.specs.declared.held.Held.{Held}
use Rattle.vb_index.specs.Indexes.{IndexState}
use Rattle.vb_nodes.specs.Holdings.{held_of}
use Rattle.vb_plan.specs.Plans.{by_slot, with_held}
use Rattle.vb_store.specs.NextIndexes.{Fits, nodes_held}
use Rattle.vb_store.specs.Views.{limits_of}
use Rattle.vb_store.proofs.NextIndexed.{all_written, held_fits, index_by, length-nodes_held}
use Rattle.vb_store.proofs.next_index.next_index.Goals as goal

pub bare_index-requires-clause-as_many : goal.bare_index-requires-clause-as_many
bare_index-requires-clause-as_many c =
    ap length (c.as_slice.ensures.value ∙ c.in_ok-nodes.ensures) ∙ length-nodes_held c.args.head.now.nodes c.args.held.now

pub set_all_refs-requires : goal.set_all_refs-requires
set_all_refs-requires c =
    let head = c.args.head.now in
    let held = c.args.held.now in
    let nodes : c.as_slice.result.now ≡ nodes_held head.nodes held = c.as_slice.ensures.value ∙ c.in_ok-nodes.ensures in
    let bare : c.in_ok-index.index.nodes ≡ held_of (nodes_held head.nodes held) = ap (λ (x : IndexState). x.nodes) c.in_ok-index.ensures ∙ ap held_of nodes in
    subst (λ (t : List (Option Held)). All (Fits t) held) (sym bare) (held_fits head held c.requires)

pub returns : goal.returns
returns c =
    let head = c.args.head.now in
    let held = c.args.held.now in
    let nodes : c.as_slice.result.now ≡ nodes_held head.nodes held = c.as_slice.ensures.value ∙ c.in_ok-nodes.ensures in
    let bare : c.in_ok-index.index.nodes ≡ held_of (nodes_held head.nodes held) = ap (λ (x : IndexState). x.nodes) c.in_ok-index.ensures ∙ ap held_of nodes in
    index_by c.set_all_refs.new.index (limits_of head) (by_slot head.nodes held) (c.set_all_refs.ensures.limits ∙ ap (λ (x : IndexState). x.limits) c.in_ok-index.ensures)
    (c.set_all_refs.ensures.nodes ∙ ap (λ (t : List (Option Held)). with_held t held) bare ∙ all_written head held c.requires)
