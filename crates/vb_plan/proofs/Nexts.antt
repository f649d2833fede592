-- What is so of all nodes that are planned.
use Rattle.std.proofs.Common.{◌≡◌, ℕ, zero, suc, ◌+◌, ◌/◌, ◌≤◌, List, [], ◌∷◌, length, All, sym, ap, ◌∙◌, arith}
use Rattle.std.proofs.Common.{length-append}
use Rattle.std.specs.List.{range_with_len}
use Rattle.std.proofs.lemmas.List.FromFn.{length-range_with_len}
use Rattle.std.specs.Prelude.{Option, Bool, true, false, cond}
use Rattle.vb_index.specs.declared.held.Held.{Held}
use Rattle.vb_inode.specs.declared.node.Node.{Node}
use Rattle.vb_inode.specs.declared.next_view.NextNode.{NextNode}
use Rattle.vb_inode.specs.Layout.{node_page}
use Rattle.vb_inode.specs.Nodes.{IsInRange}
use Rattle.vb_tree.specs.Trees.{data_pages_of, map_pages_of}
use Rattle.vb_plan.specs.Conditions.{IsNextNode}
use Rattle.vb_plan.specs.Maps.{committed_refs}
use Rattle.vb_plan.specs.Plans.{Basis, all_held, all_pages, pages_next, by_slot, data_refs, held_next, image_of, images_in, images_of, maps_due, node_at, node_in, same_in_slot, taken_by, taken_by_data}
use Rattle.std.proofs.lemmas.List.Sums.{count_by-le-length, sum_by-cons}
use Rattle.vb_tree.specs.Trees.{pages_of_length}
use Rattle.vb_plan.specs.Laws.{pages_of_next}
use Rattle.vb_plan.specs.Sources.{is_fresh}
use Rattle.vb_plan.proofs.Planning.{length-pages_next}
use Rattle.vb_plan.proofs.MapSources.{length-map_sources}
use Rattle.vb_plan.proofs.Placing.{length-refs_from}

-- what is so of the first and of all others is so of all
pub all_cons : {X : Type 0} (P : X → Type 0) (x : X) (xs : List X) → P x → All P xs → All P (x ∷ xs)
all_cons P x xs first others zero d within = first
all_cons P x xs first others (suc k) d within = others k d (omega arith)

-- what is so of all is so of all but the first
pub all_tail : {X : Type 0} (P : X → Type 0) (x : X) (xs : List X) → All P (x ∷ xs) → All P xs
all_tail P x xs all k d within = all (suc k) d (omega arith)

-- what each node makes so of what its slot holds is so of all
pub all_held_are : (P : NextNode → Type 0) (Q : Held → Type 0) (basis : Basis) → ((taken : ℕ) (x : NextNode) → P x → Q (held_next basis taken x)) → (taken : ℕ) (next : List NextNode) → All P next → All Q (all_held basis taken next)
all_held_are P Q basis each taken [] all = λ k d within. absurd (omega arith)
all_held_are P Q basis each taken (x ∷ next) all =
    all_cons Q (held_next basis taken x) (all_held basis (taken_by basis taken x) next) (each taken x (all 0 x (omega arith))) (all_held_are P Q basis each (taken_by basis taken x) next (all_tail P x next all))

-- a file has as many map pages as its length takes
pub mapped_as_due : (basis : Basis) (taken : ℕ) (x : NextNode) → length x.pages ≡ data_pages_of x.node.length → length (held_next basis taken x).node.maps ≡ map_pages_of x.node.length
mapped_as_due basis taken x each =
    length-refs_from basis.free (taken_by_data taken x) (maps_due basis taken x)
    ∙ length-map_sources (committed_refs basis.nodes x.node.slot) (data_refs basis taken x)
    ∙ ap (λ (n : ℕ). (n + 112) / 113) (length-refs_from basis.free taken x.pages ∙ each)

-- a block may say what a slot holds next
pub in_range_next : (basis : Basis) (taken : ℕ) (x : NextNode) → IsNextNode (length basis.nodes) x → IsInRange (held_next basis taken x).node
in_range_next basis taken x is = record {
  named = is.named;
  parented = is.parented;
  measured = is.measured;
  mapped = mapped_as_due basis taken x is.each_page;
}

-- a slot has at most one image
length-image_of : (slot : ℕ) (a b : Option Node) → length (image_of slot a b) ≤ 1
length-image_of slot a b = by_test (same_in_slot a b)
  where
    by_test : (same : Bool) → length (cond same [] (node_page (node_in slot b) ∷ [])) ≤ 1
    by_test true = omega arith
    by_test false = omega arith

pub length-images_in : (old new : List (Option Held)) (slots : List ℕ) → length (images_in old new slots) ≤ length slots
length-images_in old new [] = omega arith
length-images_in old new (slot ∷ slots) =
    omega (arith, length-append (image_of slot (node_at old slot) (node_at new slot)) (images_in old new slots), length-image_of slot (node_at old slot) (node_at new slot), length-images_in old new slots)

pub length-images_of : (nodes : List (Option Held)) (held : List Held) → length (images_of nodes held) ≤ length nodes
length-images_of nodes held =
    omega (arith, length-images_in nodes (by_slot (length nodes) held) (range_with_len 0 (length nodes)), length-range_with_len 0 (length nodes))

-- a node takes at most the pages of its length
pub length-pages_few : (basis : Basis) (taken : ℕ) (x : NextNode) → length x.pages ≡ data_pages_of x.node.length → length (pages_next basis taken x) ≤ pages_of_length x.node.length
length-pages_few basis taken x each =
    omega (arith, length-pages_next basis taken x, count_by-le-length is_fresh x.pages, count_by-le-length is_fresh (maps_due basis taken x), each, sym (length-refs_from basis.free (taken_by_data taken x) (maps_due basis taken x)) ∙ mapped_as_due basis taken x each)

-- so do all together
pub all_pages_few : (basis : Basis) (taken : ℕ) (next : List NextNode) → All (λ x. length x.pages ≡ data_pages_of x.node.length) next → length (all_pages basis taken next) ≤ pages_of_next next
all_pages_few basis taken [] each = omega arith
all_pages_few basis taken (x ∷ next) each =
    omega (
      arith,
      length-append (pages_next basis taken x) (all_pages basis (taken_by basis taken x) next),
      length-pages_few basis taken x (each 0 x (omega arith)),
      all_pages_few basis (taken_by basis taken x) next (all_tail (λ (x : NextNode). length x.pages ≡ data_pages_of x.node.length) x next each),
      sum_by-cons (λ (x : NextNode). pages_of_length x.node.length) x next,
    )
