-- The images of a plan may be committed.
use Rattle.std.proofs.Common.{◌≡◌, ℕ, ◌+◌, ◌<◌, ◌^◌, List, [], length, get_or, map, sym, ap, subst, ◌∙◌, arith}
use Rattle.std.specs.Prelude.{not}
use Rattle.std.specs.List.{range_with_len}
use Rattle.std.proofs.lemmas.List.{get_or-map, length-map}
use Rattle.vb_inode.specs.declared.next_view.NextNode.{NextNode}
use Rattle.vb_inode.specs.declared.node.Node.{Node}
use Rattle.vb_inode.specs.Layout.{node_page}
use Rattle.vb_inode.specs.Reading.{IsNodeOf}
use Rattle.vb_inode.proofs.PagesRead.{node_page_read}
use Rattle.vb_journal.specs.Images.{AreImages, image_at, slot_of}
use Rattle.vb_journal.specs.Plans.{CanCommit}
use Rattle.vb_plan.specs.Conditions.{CanPlan, CanSeal}
use Rattle.vb_plan.specs.Following.{CanFollow}
use Rattle.vb_plan.specs.Laws.{block_next, changed_slots, slots_next}
use Rattle.vb_plan.specs.Plans.{Basis, all_held, images_of, node_at, node_in, same_in_slot}
use Rattle.vb_plan.proofs.ChangedSlots.{Rises, filtered_rise, images_of_changed}
use Rattle.vb_plan.proofs.Listed.{in_own_slot}
use Rattle.vb_plan.proofs.Nexts.{length-images_of}
use Rattle.vb_plan.proofs.Sealed.{node_next_given, plan_sealed}
use Rattle.vb_store.specs.Views.{HasNoneBegun, IsView, ViewState}
use Rattle.vb_store.proofs.NextPlanned.{basis_at, can_plan, can_seal}
use Rattle.vb_store.proofs.SlotsRead.{slot_read}

rise : (basis : Basis) (next : List NextNode) → Rises 0 (0 + length basis.nodes) (changed_slots basis next)
rise basis next = filtered_rise (λ slot. not (same_in_slot (node_at basis.nodes slot) (node_at (slots_next basis next) slot))) 0 (length basis.nodes)

blocks : (basis : Basis) (next : List NextNode) → images_of basis.nodes (all_held basis 0 next) ≡ map (block_next basis next) (changed_slots basis next)
blocks basis next = images_of_changed basis.nodes (slots_next basis next) (range_with_len 0 (length basis.nodes))

-- the image at a position is the block of the changed slot there, and names it
image_names : (basis : Basis) (next : List NextNode) → CanPlan basis next → CanSeal basis next → (i : ℕ) → i < length (changed_slots basis next) → slot_of (image_at (images_of basis.nodes (all_held basis 0 next)) i) ≡ get_or (changed_slots basis next) i 0
image_names basis next can seal i within =
    let slot : ℕ = get_or (changed_slots basis next) i 0 in
    let node : Node = node_in slot (node_at (slots_next basis next) slot) in
    let below : slot < length basis.nodes = (let under = (rise basis next).below i 0 within in omega (arith, under)) in
    let is : IsNodeOf (length basis.nodes) node = node_next_given basis next can.nodes seal slot below in
    let image : image_at (images_of basis.nodes (all_held basis 0 next)) i ≡ node_page node = ap (λ (l : List (List ℕ)). get_or l i []) (blocks basis next) ∙ get_or-map (block_next basis next) (changed_slots basis next) i 0 [] within in
    ap slot_of image ∙ sym (slot_read (length basis.nodes) (node_page node) node (node_page_read (length basis.nodes) node seal.few is)) ∙ in_own_slot basis next slot below (can.own_slot slot)

many_images : (basis : Basis) (next : List NextNode) → length (images_of basis.nodes (all_held basis 0 next)) ≡ length (changed_slots basis next)
many_images basis next = ap length (blocks basis next) ∙ length-map (changed_slots basis next) (block_next basis next)

pub plan_images : (basis : Basis) (next : List NextNode) → CanPlan basis next → CanSeal basis next → AreImages (length basis.nodes) (images_of basis.nodes (all_held basis 0 next))
plan_images basis next can seal =
    let many = many_images basis next in
    record {
      sealed = λ i within. plan_sealed basis next can seal i [] within;
      slots = λ i within. (
          let inside : i < length (changed_slots basis next) = omega (arith, within, many) in
          let under = (rise basis next).below i 0 inside in
          omega (arith, image_names basis next can seal i inside, under));
      distinct = λ i j lt within. (λ same. (
          let inside : j < length (changed_slots basis next) = omega (arith, within, many) in
          let before : i < length (changed_slots basis next) = omega (arith, inside, lt) in
          let up = (rise basis next).rising i j 0 lt inside in
          omega (arith, up, image_names basis next can seal i before, image_names basis next can seal j inside, same)));
    }

-- so they may be committed over the view
pub can_commit : (v : ViewState) (next : List NextNode) (epoch : ℕ) → IsView v → HasNoneBegun v → CanFollow v.index next → v.head.sequence < 2 ^ 63 → epoch < 2 ^ 63 → CanCommit v.head epoch (images_of v.index.nodes (all_held (basis_at v) 0 next))
can_commit v next epoch is none can sequence new =
    let images = images_of v.index.nodes (all_held (basis_at v) 0 next) in
    record {
      range = is.can.range;
      closed = is.can.closed;
      sequence = sequence;
      new_epoch = new;
      count = omega (arith, length-images_of v.index.nodes (all_held (basis_at v) 0 next), is.slots);
      images_are = subst (λ (n : ℕ). AreImages n images) is.slots (plan_images (basis_at v) next (can_plan v next is none can) (can_seal v next is can));
    }
