-- The images are sealed.
use Rattle.std.proofs.Common.{rules, ◌≡◌, ℕ, zero, suc, ◌+◌, ◌<◌, ◌≤◌, ◌^◌, Bool, true, false, cond, List, [], ◌∷◌, ◌++◌, length, get_or, All, Option, Some, None, refl, arith, subst}
use Rattle.std.specs.List.{range_with_len, slice_get}
use Rattle.std.proofs.lemmas.List.Elements.{All-map}
use Rattle.sha2.proofs.Facts256.{length-sha256}
use Rattle.std.proofs.lemmas.List.FromFn.{get_or-range_with_len, length-range_with_len}
use Rattle.vb_block.specs.Pages.{IsSealed}
use Rattle.vb_block.specs.declared.digest.Ref.{Ref}
use Rattle.vb_index.specs.declared.held.Held.{Held}
use Rattle.vb_index.specs.Nodes.{held_at}
use Rattle.vb_inode.specs.declared.node.Node.{Node}
use Rattle.vb_inode.specs.declared.next_view.NextNode.{NextNode}
use Rattle.vb_inode.specs.declared.next_view.PageSource.{PageSource}
use Rattle.vb_inode.specs.declared.next_view.PageSource.TheVariants.{Kept, Fresh}
use Rattle.vb_inode.specs.Layout.{map_page, node_page, AreRefs}
use Rattle.vb_inode.specs.Nodes.{may_be_named}
use Rattle.vb_inode.specs.Reading.{IsNodeOf}
use Rattle.vb_inode.proofs.Decoded.{Holds-node_page}
use Rattle.vb_plan.specs.Conditions.{CanPlan, CanSeal, IsNextNode}
use Rattle.vb_plan.specs.Maps.{FileRefs, committed_refs, group_at, group_count, map_source, map_sources, maps_in, same_refs, source_of_map, standing_map}
use Rattle.vb_plan.specs.Laws.{slots_next}
use Rattle.vb_plan.specs.Plans.{Basis, all_held, by_slot, held_next, image_of, images_in, images_of, node_at, node_in, same_in_slot}
use Rattle.vb_plan.specs.Sources.{ref_from, refs_from, taken_after}
use Rattle.vb_plan.proofs.Nexts.{all_cons, all_held_are, all_tail, in_range_next}
use Rattle.vb_plan.proofs.Slots.{node_holds}

-- a reference as it can stand in a block
abbrev IsRef : Ref → Type 0
IsRef r = (r.place < 2 ^ 32) × (length r.digest ≡ 32)

-- so it will be of a page from this source
abbrev GivesRef : PageSource → Type 0
GivesRef (Kept r) = IsRef r
GivesRef (Fresh digest) = length digest ≡ 32

place_below : (free : List ℕ) (taken : ℕ) → All (λ place. place < 2 ^ 32) free → get_or free taken 0 < 2 ^ 32
place_below [] taken all = omega arith
place_below (p ∷ free) zero all = all 0 p (omega arith)
place_below (p ∷ free) (suc taken) all = place_below free taken (all_tail (λ (place : ℕ). place < 2 ^ 32) p free all)

ref_given : (free : List ℕ) (taken : ℕ) (s : PageSource) → All (λ place. place < 2 ^ 32) free → GivesRef s → IsRef (ref_from free taken s)
ref_given free taken (Kept r) all is = is
ref_given free taken (Fresh digest) all is = (place_below free taken all, is)

refs_given : (free : List ℕ) (taken : ℕ) (sources : List PageSource) → All (λ place. place < 2 ^ 32) free → All GivesRef sources → AreRefs (refs_from free taken sources)
refs_given free taken [] all each = λ k d within. absurd (omega arith)
refs_given free taken (s ∷ sources) all each =
    all_cons IsRef (ref_from free taken s) (refs_from free (taken_after taken s) sources) (ref_given free taken s all (each 0 s (omega arith))) (refs_given free (taken_after taken s) sources all (all_tail GivesRef s sources each))

got_is_ref : (maps : List Ref) (number : ℕ) (r : Ref) → AreRefs maps → slice_get maps number ≡ Some r → IsRef r
got_is_ref [] number r are is = absurd (cc)
got_is_ref (m ∷ maps) zero r are is = let e : m ≡ r = cc in subst IsRef e (are 0 m (omega arith))
got_is_ref (m ∷ maps) (suc number) r are is = got_is_ref maps number r (all_tail IsRef m maps are) is

source_given : (group : List Ref) (o : Option Ref) → ((r : Ref) → o ≡ Some r → IsRef r) → GivesRef (source_of_map group o)
source_given group None kept = length-sha256 (map_page group)
source_given group (Some r) kept = kept r refl

standing_given : (maps : List Ref) (number : ℕ) (same : Bool) (r : Ref) → AreRefs maps → cond same (slice_get maps number) None ≡ Some r → IsRef r
standing_given maps number true r are is = got_is_ref maps number r are is
standing_given maps number false r are is = absurd (cc)

maps_given : (old : FileRefs) (refs : List Ref) → AreRefs old.maps → All GivesRef (map_sources old refs)
maps_given old refs are =
    All-map GivesRef (map_source old refs) (range_with_len 0 (group_count refs))
    (λ k d within. (let number = get_or (range_with_len 0 (group_count refs)) k d in
    source_given (group_at number refs) (standing_map old number (group_at number refs)) (λ r is. standing_given old.maps number (same_refs (group_at number refs) (group_at number old.refs)) r are is)))

-- its map pages have references that can stand in a block
pub maps_are_refs : (basis : Basis) (taken : ℕ) (x : NextNode) → ((slot : ℕ) → AreRefs (maps_in (held_at basis.nodes slot))) → All (λ place. place < 2 ^ 32) basis.free → AreRefs (held_next basis taken x).node.maps
maps_are_refs basis taken x committed free = refs_given basis.free _ _ free (maps_given (committed_refs basis.nodes x.node.slot) _ (committed x.node.slot))

-- what a slot holds next is a node of the store
node_given : (basis : Basis) (taken : ℕ) (x : NextNode) → length basis.nodes ≤ 2 ^ 32 → ((slot : ℕ) → AreRefs (maps_in (held_at basis.nodes slot))) → All (λ place. place < 2 ^ 32) basis.free → IsNextNode (length basis.nodes) x × (x.node.parent < length basis.nodes) → IsNodeOf (length basis.nodes) (held_next basis taken x).node
node_given basis taken x few committed free is = record {
  slot = omega (arith, is.0.slot);
  parent = is.1;
  in_range = in_range_next basis taken x is.0;
  refs = maps_are_refs basis taken x committed free;
}

free_given : (slots slot : ℕ) → slot < slots → slots ≤ 2 ^ 32 → IsNodeOf slots (node_in slot None)
unfolding may_be_named
free_given slots slot within few = record {
  slot = omega arith;
  parent = omega arith;
  in_range = record { named = search rules; parented = search rules; measured = search rules; mapped = search rules };
  refs = λ k d within. absurd (omega arith);
}

node_in_given : (slots slot : ℕ) (o : Option Node) → slot < slots → slots ≤ 2 ^ 32 → ((node : Node) → o ≡ Some node → IsNodeOf slots node) → IsNodeOf slots (node_in slot o)
node_in_given slots slot None within few each = free_given slots slot within few
node_in_given slots slot (Some node) within few each = each node refl

-- ---- the images

all_append : {X : Type 0} (P : X → Type 0) (xs ys : List X) → All P xs → All P ys → All P (xs ++ ys)
all_append P [] ys hx hy = hy
all_append P (x ∷ xs) ys hx hy = all_cons P x (xs ++ ys) (hx 0 x (omega arith)) (all_append P xs ys (all_tail P x xs hx) hy)

image_sealed : (block : List ℕ) (same : Bool) → IsSealed block → All IsSealed (cond same [] (block ∷ []))
image_sealed block true is = λ k d within. absurd (omega arith)
image_sealed block false is = all_cons IsSealed block [] is (λ k d within. absurd (omega arith))

images_sealed : (old new : List (Option Held)) (slots : List ℕ) → All (λ slot. IsSealed (node_page (node_in slot (node_at new slot)))) slots → All IsSealed (images_in old new slots)
images_sealed old new [] each = λ k d within. absurd (omega arith)
images_sealed old new (slot ∷ slots) each =
    all_append IsSealed (image_of slot (node_at old slot) (node_at new slot)) (images_in old new slots)
    (image_sealed (node_page (node_in slot (node_at new slot))) (same_in_slot (node_at old slot) (node_at new slot)) (each 0 slot (omega arith)))
    (images_sealed old new slots (all_tail (λ (slot : ℕ). IsSealed (node_page (node_in slot (node_at new slot)))) slot slots each))

both : {X : Type 0} (P Q : X → Type 0) (xs : List X) → All P xs → All Q xs → All (λ x. P x × Q x) xs
both P Q xs p q k d within = (p k d within, q k d within)

-- what stands in a slot next is a node of the store
pub node_next_given : (basis : Basis) (next : List NextNode) → All (IsNextNode (length basis.nodes)) next → CanSeal basis next → (slot : ℕ) → slot < length basis.nodes → IsNodeOf (length basis.nodes) (node_in slot (node_at (slots_next basis next) slot))
node_next_given basis next nodes seal slot within =
    let slots = length basis.nodes in
    let held = all_held basis 0 next in
    let each : All (λ h. IsNodeOf slots h.node) held =
    all_held_are (λ (x : NextNode). IsNextNode slots x × (x.node.parent < slots)) (λ (h : Held). IsNodeOf slots h.node) basis (λ taken x is. node_given basis taken x seal.few seal.maps seal.free is) 0 next
    (both (IsNextNode slots) (λ (x : NextNode). x.node.parent < slots) next nodes seal.parents) in
    node_in_given slots slot (node_at (by_slot slots held) slot) within seal.few (node_holds (IsNodeOf slots) slots held each slot)

-- each image of a plan is sealed
pub plan_sealed : (basis : Basis) (next : List NextNode) → CanPlan basis next → CanSeal basis next → All IsSealed (images_of basis.nodes (all_held basis 0 next))
plan_sealed basis next can seal =
    let slots = length basis.nodes in
    let held = all_held basis 0 next in
    images_sealed basis.nodes (by_slot slots held) (range_with_len 0 slots)
    (λ k d within. (
    let slot = get_or (range_with_len 0 slots) k d in
    let count : k < slots = omega (arith, within, length-range_with_len 0 slots) in
    let at : slot ≡ 0 + k = get_or-range_with_len 0 slots k d count in
    let node = node_in slot (node_at (by_slot slots held) slot) in
    let is : IsNodeOf slots node = node_next_given basis next can.nodes seal slot (omega (arith, at, count)) in
    (Holds-node_page slots (node_page node) node seal.few is refl).is_sealed))
