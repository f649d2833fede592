-- The images of a plan, put over the blocks of the committed nodes, are the blocks of the next ones.
use Rattle.std.proofs.Common.{◌≡◌, ◌≢◌, ◌∙◌, ℕ, ◌+◌, ◌<◌, List, [], All, length, get_or, not, refl, sym, ap, subst, inl, inr, arith}
use Rattle.std.specs.Prelude.{Contains, Option}
use Rattle.std.specs.List.{range_with_len}
use Rattle.std.proofs.lemmas.List.{get_or-map, get_or_default, length-map}
use Rattle.std.proofs.lemmas.List.Elements.{All-contains}
use Rattle.vb_disk.specs.States.{DiskState}
use Rattle.vb_head.specs.declared.head.Head.{Head}
use Rattle.vb_inode.specs.declared.next_view.NextNode.{NextNode}
use Rattle.vb_inode.specs.declared.node.Node.{Node}
use Rattle.vb_inode.specs.Layout.{node_page}
use Rattle.vb_inode.proofs.PagesRead.{node_page_read}
use Rattle.vb_journal.specs.Images.{AreImages, image_at, slot_of}
use Rattle.vb_journal.specs.Plans.{closed_head}
use Rattle.vb_journal.specs.Progress.{Has, Fixed, IsAtRest, new_images}
use Rattle.vb_journal.proofs.Overlays.{image_over-named, image_over-unnamed, named_or_not}
use Rattle.vb_plan.specs.Conditions.{CanPlan, CanSeal}
use Rattle.vb_plan.specs.Following.{CanFollow}
use Rattle.vb_plan.specs.Laws.{block_next, changed_slots, slots_next}
use Rattle.vb_plan.specs.Plans.{Basis, node_at, node_in, plan_of, same_in_slot}
use Rattle.vb_plan.proofs.ChangedSlots.{filtered_rise, images_of_changed, same_outside}
use Rattle.vb_plan.proofs.Listed.{in_own_slot}
use Rattle.vb_plan.proofs.Sealed.{node_next_given}
use Rattle.vb_store.specs.Views.{HasNoneBegun, IsView, ViewState}
use Rattle.vb_store.proofs.NextImages.{plan_images}
use Rattle.vb_store.proofs.NextPlanned.{basis_at, can_plan, can_seal}
use Rattle.vb_store.proofs.SlotsRead.{slot_read}
use Rattle.vb_commit.specs.Known.{node_block}

changed-below : (basis : Basis) (next : List NextNode) (i : ℕ) → i < length (changed_slots basis next) → get_or (changed_slots basis next) i 0 < length basis.nodes
changed-below basis next i within =
    let risen = filtered_rise (λ slot. not (same_in_slot (node_at basis.nodes slot) (node_at (slots_next basis next) slot))) 0 (length basis.nodes) in
    omega (arith, risen.below i 0 within)

-- the block of a slot names it
block-slot : (basis : Basis) (next : List NextNode) (slot : ℕ) → CanPlan basis next → CanSeal basis next → slot < length basis.nodes → slot_of (block_next basis next slot) ≡ slot
block-slot basis next slot can seal within =
    let node = node_in slot (node_at (slots_next basis next) slot) in
    let is = node_next_given basis next can.nodes seal slot within in
    let named : (node_in slot (node_at (slots_next basis next) slot)).slot ≡ slot_of (block_next basis next slot) =
    slot_read (length basis.nodes) (node_page node) node (node_page_read (length basis.nodes) node seal.few is) in
    sym named ∙ in_own_slot basis next slot within (can.own_slot slot)

-- an image is the block of a slot that changed
image-block : (basis : Basis) (next : List NextNode) (i : ℕ) → i < length (changed_slots basis next) → image_at (plan_of basis next).images i ≡ block_next basis next (get_or (changed_slots basis next) i 0)
image-block basis next i within =
    ap (λ (is : List (List ℕ)). image_at is i) (images_of_changed basis.nodes (slots_next basis next) (range_with_len 0 (length basis.nodes)))
    ∙ get_or-map (block_next basis next) (changed_slots basis next) i 0 [] within

image-count : (basis : Basis) (next : List NextNode) → length (plan_of basis next).images ≡ length (changed_slots basis next)
image-count basis next =
    ap (λ (is : List (List ℕ)). length is) (images_of_changed basis.nodes (slots_next basis next) (range_with_len 0 (length basis.nodes)))
    ∙ length-map (changed_slots basis next) (block_next basis next)

image-slot : (basis : Basis) (next : List NextNode) (i : ℕ) → CanPlan basis next → CanSeal basis next → i < length (changed_slots basis next) → slot_of (image_at (plan_of basis next).images i) ≡ get_or (changed_slots basis next) i 0
image-slot basis next i can seal within =
    ap slot_of (image-block basis next i within) ∙ block-slot basis next (get_or (changed_slots basis next) i 0) can seal (changed-below basis next i within)

-- the block of each slot after the commit
pub next-block : (basis : Basis) (next : List NextNode) (slot : ℕ) → CanPlan basis next → CanSeal basis next → slot < length basis.nodes → new_images (plan_of basis next).images (node_block basis.nodes) slot ≡ node_block (slots_next basis next) slot
next-block basis next slot can seal within =
    let images = (plan_of basis next).images in
    let home = node_block basis.nodes slot in
    let are : AreImages (length basis.nodes) (plan_of basis next).images = plan_images basis next can seal in
    elim (named_or_not (plan_of basis next).images slot) [
      | inl named ↦
          let there : named.at < length (changed_slots basis next) = omega (arith, named.within, image-count basis next) in
          let slot_is : get_or (changed_slots basis next) named.at 0 ≡ slot = sym (image-slot basis next named.at can seal there) ∙ named.is in
          image_over-named images slot named.at home are.distinct named.within named.is
          ∙ image-block basis next named.at there ∙ ap (λ (s : ℕ). block_next basis next s) slot_is
      | inr unnamed ↦
          let apart : All (λ s. s ≢ slot) (changed_slots basis next) = λ k d inside. (λ same. (
          let least : get_or (changed_slots basis next) k 0 ≡ get_or (changed_slots basis next) k d = get_or_default (changed_slots basis next) k 0 d inside in
          let here : k < length (plan_of basis next).images = omega (arith, inside, image-count basis next) in
          unnamed k here (image-slot basis next k can seal inside ∙ least ∙ same))) in
          let none : Contains (changed_slots basis next) slot → ⊥ = λ has. All-contains (λ (s : ℕ). s ≢ slot) (changed_slots basis next) slot apart has refl in
          let same = same_outside basis.nodes (slots_next basis next) (length basis.nodes) slot within none in
          image_over-unnamed images slot home unnamed ∙ ap (λ (o : Option Node). node_page (node_in slot o)) same
    ]

-- a store at rest is so with the same blocks
pub rest-same : (head : Head) (old new journal : ℕ → List ℕ) (d : DiskState) → ((slot : ℕ) → slot < head.nodes → old slot ≡ new slot) → IsAtRest head old journal d → IsAtRest head new journal d
rest-same head old new journal d same is = record {
  id = is.id;
  size = is.size;
  first = is.first;
  second = is.second;
  each_home = λ slot within. subst (λ (page : List ℕ). Has (Fixed page) (d.cells (2 + slot))) (same slot within) (is.each_home slot within);
  each_image = is.each_image;
}

pub next-rest : (v : ViewState) (next : List NextNode) (epoch : ℕ) (journal : ℕ → List ℕ) (d : DiskState) → IsView v → HasNoneBegun v → CanFollow v.index next → IsAtRest (closed_head v.head epoch) (new_images (plan_of (basis_at v) next).images (node_block v.index.nodes)) journal d → IsAtRest (closed_head v.head epoch) (node_block (slots_next (basis_at v) next)) journal d
next-rest v next epoch journal d is none can rests =
    rest-same (closed_head v.head epoch) (new_images (plan_of (basis_at v) next).images (node_block v.index.nodes)) (node_block (slots_next (basis_at v) next)) journal d
    (λ slot within. next-block (basis_at v) next slot (can_plan v next is none can) (can_seal v next is can) (omega (arith, within, is.slots))) rests
