use Rattle.std.proofs.Common.{◌≡◌, ◌<◌, ℕ, List, All, length, sym, ap, ◌∙◌, arith, subst}
use Rattle.vb_space.proofs.FreePlaces.{length-free_from}
use Rattle.vb_index.specs.declared.held.Held.{Held}
use Rattle.vb_inode.specs.declared.next_view.NextNode.{NextNode}
use Rattle.vb_inode.specs.Nodes.{IsInRange}
use Rattle.vb_plan.specs.Conditions.{IsNextNode}
use Rattle.vb_plan.specs.Plans.{all_pages}
use Rattle.vb_plan.specs.Seen.{basis_of}
use Rattle.vb_plan.proofs.Nexts.{all_held_are, in_range_next, length-images_of}
use Rattle.vb_plan.proofs.plan.Plan.of.Goals as goal

pub plan_nodes-requires-clause-room : goal.plan_nodes-requires-clause-room
plan_nodes-requires-clause-room c =
    let basis = basis_of c.args.committed.now c.args.space.now in
    let none : length c.new-pages.result.items ≡ 0 = ap length c.new-pages.ensures.items in
    let start : length (all_pages basis (length c.new-pages.result.items) c.slice.result.now) ≡ length (all_pages basis 0 c.args.next.now) = ap (λ (n : ℕ). length (all_pages basis n c.slice.result.now)) none ∙ ap (λ (xs : List NextNode). length (all_pages basis 0 xs)) c.slice.ensures in
    omega (arith, none, start, c.requires.can.room, length-free_from c.args.space.now.first c.args.space.now.users)

pub images_of-requires-clause-below : goal.images_of-requires-clause-below
images_of-requires-clause-below c =
    let basis = basis_of c.args.committed.now c.args.space.now in
    let each = all_held_are (IsNextNode (length basis.nodes)) (λ (h : Held). h.node.slot < c.args.slots) basis (λ taken x is. omega (arith, is.slot, c.requires.slots)) (length c.new-pages.result.items) c.slice.result.now (subst (λ (xs : List NextNode). All (IsNextNode (length basis.nodes)) xs) (sym c.slice.ensures) c.requires.can.nodes) in
    subst (λ (hs : List Held). All (λ h. h.node.slot < c.args.slots) hs) (sym (c.slice-2.ensures ∙ c.in_ok-nodes.ensures.held)) each

pub images_of-requires-clause-range : goal.images_of-requires-clause-range
images_of-requires-clause-range c =
    let basis = basis_of c.args.committed.now c.args.space.now in
    let each = all_held_are (IsNextNode (length basis.nodes)) (λ (h : Held). IsInRange h.node) basis (λ taken x is. in_range_next basis taken x is) (length c.new-pages.result.items) c.slice.result.now (subst (λ (xs : List NextNode). All (IsNextNode (length basis.nodes)) xs) (sym c.slice.ensures) c.requires.can.nodes) in
    subst (λ (hs : List Held). All (λ h. IsInRange h.node) hs) (sym (c.slice-2.ensures ∙ c.in_ok-nodes.ensures.held)) each

pub invariant_of-result : goal.invariant_of-result
invariant_of-result c = record {
  images = omega (arith, ap (λ (is : List (List ℕ)). length is) c.in_ok-images.ensures, length-images_of c.args.committed.now.nodes c.slice-2.result.now, c.requires.slots, c.ranges.slots.fits);
}
