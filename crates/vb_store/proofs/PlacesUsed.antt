-- How many places the references of an index name.
use Rattle.std.proofs.Common.{◌≡◌, ℕ, suc, ◌≤◌, Bool, true, false, cond, List, [], ◌∷◌, length, Option, Some, None, unwrap_or, refl, sym, ap, ◌∙◌, arith, length-append}
use Rattle.std.proofs.lemmas.List.{length-map}
use Rattle.std.proofs.lemmas.List.Sums.{sum_by-cons}
use Rattle.vb_block.specs.declared.digest.Ref.{Ref}
use Rattle.vb_head.specs.declared.head.Head.{Head}
use Rattle.vb_index.specs.declared.held.Held.{Held}
use Rattle.vb_index.specs.Indexes.{IndexState}
use Rattle.vb_index.specs.Nodes.{held_at, is_file_node, pages_in, pages_of_slot, refs_of}
use Rattle.vb_tree.specs.declared.tree.Limits.{Limits}
use Rattle.vb_tree.specs.Trees.{data_pages_of, map_pages_of}
use Rattle.vb_space.specs.Spaces.{DataPlaces}
use Rattle.vb_store.proofs.NextPlaces.{none_next}
use Rattle.vb_store.specs.Views.{CanView, IsSpaceOf, IsView, limits_of, places_in, places_of, places_of_slot}

-- a slot has a reference for each of its pages, and for each of its map pages
abbrev pub IsReferred : Option Held → Type 0
IsReferred o = (held : Held) → o ≡ Some held → (length held.node.maps ≡ map_pages_of held.node.length) × (length held.refs ≡ data_pages_of held.node.length)

file_refs : (b : Bool) (refs : List Ref) → length (unwrap_or (cond b (Some refs) None) []) ≤ length refs
file_refs true refs = omega arith
file_refs false refs = omega arith

slot_places : (o : Option Held) → IsReferred o → length (places_of_slot o) ≤ pages_of_slot o
slot_places None referred = omega arith
slot_places (Some held) referred =
    let fits = referred held refl in
    omega (arith, length-append (places_of held.node.maps) (places_of (unwrap_or (refs_of held) [])), length-map held.node.maps (λ (r : Ref). r.place), length-map (unwrap_or (refs_of held) []) (λ (r : Ref). r.place), file_refs (is_file_node held.node.kind) held.refs, fits.0, fits.1)

-- no more places than pages
pub places-few : (nodes : List (Option Held)) → ((slot : ℕ) → IsReferred (held_at nodes slot)) → length (places_in nodes) ≤ pages_in nodes
places-few [] referred = omega arith
places-few (o ∷ nodes) referred =
    let rest : length (places_in nodes) ≤ pages_in nodes = places-few nodes (λ slot. referred (suc slot)) in
    omega (arith, length-append (places_of_slot o) (places_in nodes), sum_by-cons pages_of_slot o nodes, slot_places o (referred 0), rest)

-- a view of a store at rest, with the space that its references take
pub IsView-of : (head : Head) (index : IndexState) (space : DataPlaces) → CanView head index → length index.nodes ≡ head.nodes → IsSpaceOf head index space → IsView (record { head = head; index = index; next = None; space = space })
IsView-of head index space can slots is = record {
  can = can;
  slots = slots;
  first = is.first;
  end = omega (arith, is.first, is.end);
  few = omega (arith, is.few, can.pages, places-few index.nodes (λ slot held there. (can.maps slot held there, can.refs slot held there)));
  committed = is.committed;
  can_next = tt;
  begun = λ place. (λ is_next. absurd (none_next space place is.none_begun is_next), λ within. absurd (omega (arith, within.1)));
}

-- an index under a head's limits has as many slots
pub slots_of : (head : Head) (shown index : IndexState) → shown.limits.nodes ≡ length shown.nodes → shown ≡ index → index.limits ≡ limits_of head → length index.nodes ≡ head.nodes
slots_of head shown index kept is limits =
    ap (λ (s : IndexState). length s.nodes) (sym is) ∙ sym kept ∙ ap (λ (s : IndexState). s.limits.nodes) is ∙ ap (λ (l : Limits). l.nodes) limits
