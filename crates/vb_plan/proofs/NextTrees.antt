-- What the slots hold after the commit of a tree are the nodes of a tree.
use Rattle.std.proofs.Common.{◌≡◌, ℕ, false, zero, suc, ◌+◌, ◌<◌, ◌≤◌, ◌==◌, List, [], ◌∷◌, length, get_or, map, take, replicate, All, Option, None, Some, refl, sym, ap, ◌∙◌, arith, subst}
use Rattle.std.specs.Prelude.{count_by}
use Rattle.std.specs.Option.{option_map}
use Rattle.std.specs.List.{range_with_len, sum_by}
use Rattle.std.proofs.lemmas.List.{length-replicate}
use Rattle.std.proofs.lemmas.List.FromFn.{get_or-map-range_with_len, length-map-range_with_len}
use Rattle.std.proofs.lemmas.List.Folds.{sum_by-replicate}
use Rattle.std.proofs.lemmas.List.Sums.{sum_by-cons}
use Rattle.vb_space.specs.Spaces.{DataPlaces, committed_count, next_count}
use Rattle.vb_space.proofs.Counts.{length-le-counts}
use Rattle.vb_space.proofs.FreePlaces.{length-free_from}
use Rattle.vb_tree.specs.Trees.{data_pages_of, map_pages_of, pages_of_length}
use Rattle.vb_inode.specs.declared.node.Node.{Node}
use Rattle.vb_inode.specs.declared.next_view.NextNode.{NextNode}
use Rattle.vb_inode.specs.Layout.{AreRefs}
use Rattle.vb_inode.specs.Nodes.{is_free}
use Rattle.vb_inode.specs.Reading.{IsNodeOf}
use Rattle.vb_index.specs.declared.held.Held.{Held}
use Rattle.vb_index.specs.Indexes.{IndexState}
use Rattle.vb_index.specs.Nodes.{held_at, nodes_of_slot, pages_in, pages_of_slot, root_held}
use Rattle.vb_nodes.specs.Paths.{free_node, AreBySlot}
use Rattle.vb_nodes.specs.Faults.{table_fault, IsNodeTree}
use Rattle.vb_nodes.specs.Holdings.{pages_of_nodes}
use Rattle.vb_plan.specs.Conditions.{CanPlan, CanSeal, IsNextNode}
use Rattle.vb_plan.specs.Following.{node_of_slot, nodes_by_slot, CanFollow, IsNextTree}
use Rattle.vb_plan.specs.Laws.{nodes_next, pages_of_next, slots_next}
use Rattle.vb_plan.specs.Plans.{Basis, all_held, held_next, node_at, node_in, taken_by}
use Rattle.vb_plan.specs.Seen.{basis_of}
use Rattle.vb_plan.proofs.Bare.{bare, same_fault}
use Rattle.vb_plan.proofs.Listed.{in_own_slot, same_but_maps, slots-kept}
use Rattle.vb_plan.proofs.Nexts.{all_held_are, all_pages_few, all_tail, mapped_as_due}
use Rattle.vb_plan.proofs.Placing.{length-refs_from}
use Rattle.vb_plan.proofs.Sealed.{maps_are_refs, node_next_given}
use Rattle.vb_plan.proofs.Slots.{length-by_slot}
use Rattle.vb_plan.proofs.Weighed.{all-weigh, read-weighs, some-weigh, AreInOwn}

-- a list that can follow can be planned, where there are twice as many places as the limits allow
pub follow_planned : (index : IndexState) (space : DataPlaces) (next : List NextNode) → CanFollow index next → committed_count space ≤ index.limits.pages → next_count space ≡ 0 → index.limits.pages + index.limits.pages ≤ length space.users → CanPlan (basis_of index space) next
follow_planned index space next follows few none halves = record {
  nodes = follows.tree.nodes;
  root = follows.tree.root;
  own_slot = follows.tree.own_slot;
  kept = follows.kept;
  kept_once = follows.kept_once;
  room = omega (arith, all_pages_few (basis_of index space) 0 next (λ k d within. (follows.tree.nodes k d within).each_page), follows.pages, few, none, halves, length-le-counts space.users, length-free_from space.first space.users);
}

-- ---- by slot

map_over_range : {A B : Type 0} (f g : ℕ → A) (h : A → B) (first count : ℕ) → ((k : ℕ) → k < first + count → h (f k) ≡ h (g k)) → map h (map f (range_with_len first count)) ≡ map h (map g (range_with_len first count))
map_over_range f g h first zero same = refl
map_over_range f g h first (suc count) same =
    ap (λ (b : _). b ∷ map h (map f (range_with_len (first + 1) count))) (same first (omega arith))
    ∙ ap (λ (bs : List _). h (g first) ∷ bs) (map_over_range f g h (first + 1) count (λ k below. same k (omega arith)))

-- a mount finds no fault in them
pub next_no_fault : (basis : Basis) (next : List NextNode) → IsNextTree (length basis.nodes) next → table_fault (nodes_next basis next) ≡ None
next_no_fault basis next tree =
    same_fault (nodes_next basis next) (nodes_by_slot (length basis.nodes) next)
    (map_over_range (λ slot. node_in slot (node_at (slots_next basis next) slot)) (λ slot. node_in slot (node_of_slot next slot)) bare 0 (length basis.nodes) (λ k below. same_but_maps basis next k (omega arith) (tree.own_slot k)))
    ∙ tree.no_fault

-- the root has slot 0
some_slot : (slots : ℕ) (next : List NextNode) → All (IsNextNode slots) next → map (λ x. x.node.slot) (take 1 next) ≡ 0 ∷ [] → 0 < slots
some_slot slots [] nodes root = absurd (cc)
some_slot slots (x ∷ next) nodes root =
    let is = nodes 0 x (omega arith) in
    omega (arith, is.slot)

pub length-nodes_next : (basis : Basis) (next : List NextNode) → length (nodes_next basis next) ≡ length basis.nodes
length-nodes_next basis next = length-map-range_with_len (λ slot. node_in slot (node_at (slots_next basis next) slot)) 0 (length basis.nodes)

pub next_at : (basis : Basis) (next : List NextNode) (slot : ℕ) (d : Node) → slot < length basis.nodes → get_or (nodes_next basis next) slot d ≡ node_in slot (node_at (slots_next basis next) slot)
next_at basis next slot d within = get_or-map-range_with_len (λ slot. node_in slot (node_at (slots_next basis next) slot)) 0 (length basis.nodes) slot slot d within (omega arith)

-- each stands at its slot, and is one of the store
pub next_by_slot : (basis : Basis) (next : List NextNode) → IsNextTree (length basis.nodes) next → CanSeal basis next → AreBySlot (nodes_next basis next)
next_by_slot basis next tree seal =
    let count = length-nodes_next basis next in
    record {
      own_slots = λ slot within. (
          let below : slot < length basis.nodes = omega (arith, within, count) in
          ap (λ (n : Node). n.slot) (next_at basis next slot free_node below) ∙ in_own_slot basis next slot below (tree.own_slot slot));
      of_store = subst (λ (n : ℕ). All (λ node. IsNodeOf n node) (nodes_next basis next)) (sym count) (λ k d within. (
          let below : k < length basis.nodes = omega (arith, within, count) in
          subst (λ (node : Node). IsNodeOf (length basis.nodes) node) (sym (next_at basis next k d below)) (node_next_given basis next tree.nodes seal k below)));
    }

-- they are a tree
pub next_tree : (basis : Basis) (next : List NextNode) → IsNextTree (length basis.nodes) next → CanSeal basis next → length basis.nodes ≤ 65536 → IsNodeTree (nodes_next basis next)
next_tree basis next tree seal few = record {
  some = omega (arith, length-nodes_next basis next, some_slot (length basis.nodes) next tree.nodes tree.root);
  few = omega (arith, length-nodes_next basis next, few);
  by_slot = next_by_slot basis next tree seal;
  no_fault = next_no_fault basis next tree;
}

-- ---- pages

-- each node that is held next is in a slot of its own, below the end
pub own_next : (basis : Basis) (next : List NextNode) → ((slot : ℕ) → count_by (λ x. x.node.slot == slot) next ≤ 1) → AreInOwn (all_held basis 0 next)
own_next basis next own slot = omega (arith, own slot, slots-kept basis 0 slot next)

pub below_next : (basis : Basis) (next : List NextNode) → All (IsNextNode (length basis.nodes)) next → All (λ h. h.node.slot < length basis.nodes) (all_held basis 0 next)
below_next basis next nodes = all_held_are (IsNextNode (length basis.nodes)) (λ (h : Held). h.node.slot < length basis.nodes) basis (λ taken x is. is.slot) 0 next nodes

held_pages : (basis : Basis) (taken : ℕ) (next : List NextNode) → sum_by (λ h. pages_of_slot (Some h)) (all_held basis taken next) ≡ pages_of_next next
held_pages basis taken [] = refl
held_pages basis taken (x ∷ next) =
    omega (arith, sum_by-cons (λ (h : Held). pages_of_slot (Some h)) (held_next basis taken x) (all_held basis (taken_by basis taken x) next), sum_by-cons (λ (x : NextNode). pages_of_length x.node.length) x next, held_pages basis (taken_by basis taken x) next)

-- they take as many pages as the list
pub pages_next_in : (basis : Basis) (next : List NextNode) → All (IsNextNode (length basis.nodes)) next → ((slot : ℕ) → count_by (λ x. x.node.slot == slot) next ≤ 1) → pages_in (slots_next basis next) ≡ pages_of_next next
pages_next_in basis next nodes own =
    all-weigh pages_of_slot refl (length basis.nodes) (all_held basis 0 next) (own_next basis next own) (below_next basis next nodes) ∙ held_pages basis 0 next

pub pages_next_by_slot : (basis : Basis) (next : List NextNode) → All (IsNextNode (length basis.nodes)) next → ((slot : ℕ) → count_by (λ x. x.node.slot == slot) next ≤ 1) → pages_of_nodes (nodes_next basis next) ≡ pages_of_next next
pages_next_by_slot basis next nodes own =
    over_range 0 (length basis.nodes)
    ∙ ap (λ (n : ℕ). sum_by (λ slot. pages_of_slot (held_at (slots_next basis next) slot)) (range_with_len 0 n)) (sym (length-by_slot (length basis.nodes) (all_held basis 0 next)))
    ∙ read-weighs pages_of_slot (slots_next basis next)
    ∙ pages_next_in basis next nodes own
  where
    weight_in : (slot : ℕ) (o : Option Held) → pages_of_length (node_in slot (option_map (λ (h : Held). h.node) o)).length ≡ pages_of_slot o
    weight_in slot None = refl
    weight_in slot (Some h) = refl

    over_range : (first count : ℕ) → sum_by (λ node. pages_of_length node.length) (map (λ slot. node_in slot (node_at (slots_next basis next) slot)) (range_with_len first count)) ≡ sum_by (λ slot. pages_of_slot (held_at (slots_next basis next) slot)) (range_with_len first count)
    over_range first zero = refl
    over_range first (suc count) =
        omega (
          arith,
          sum_by-cons (λ (node : Node). pages_of_length node.length) (node_in first (node_at (slots_next basis next) first)) (map (λ slot. node_in slot (node_at (slots_next basis next) slot)) (range_with_len (first + 1) count)),
          sum_by-cons (λ (slot : ℕ). pages_of_slot (held_at (slots_next basis next) slot)) first (range_with_len (first + 1) count),
          weight_in first (held_at (slots_next basis next) first),
          over_range (first + 1) count,
        )

-- ---- what is so of each node that is held next

pub used_next : (basis : Basis) (next : List NextNode) → All (IsNextNode (length basis.nodes)) next → All (λ h. is_free h.node.kind ≡ false) (all_held basis 0 next)
used_next basis next nodes = all_held_are (IsNextNode (length basis.nodes)) (λ (h : Held). is_free h.node.kind ≡ false) basis (λ taken x is. is.used) 0 next nodes

pub refs_next : (basis : Basis) (next : List NextNode) → All (IsNextNode (length basis.nodes)) next → All (λ h. length h.refs ≡ data_pages_of h.node.length) (all_held basis 0 next)
refs_next basis next nodes = all_held_are (IsNextNode (length basis.nodes)) (λ (h : Held). length h.refs ≡ data_pages_of h.node.length) basis (λ taken x is. length-refs_from basis.free taken x.pages ∙ is.each_page) 0 next nodes

pub maps_next : (basis : Basis) (next : List NextNode) → All (IsNextNode (length basis.nodes)) next → All (λ h. length h.node.maps ≡ map_pages_of h.node.length) (all_held basis 0 next)
maps_next basis next nodes = all_held_are (IsNextNode (length basis.nodes)) (λ (h : Held). length h.node.maps ≡ map_pages_of h.node.length) basis (λ taken x is. mapped_as_due basis taken x is.each_page) 0 next nodes

pub map_refs_next : (basis : Basis) (next : List NextNode) → All (IsNextNode (length basis.nodes)) next → CanSeal basis next → All (λ h. AreRefs h.node.maps) (all_held basis 0 next)
map_refs_next basis next nodes seal = all_held_are (IsNextNode (length basis.nodes)) (λ (h : Held). AreRefs h.node.maps) basis (λ taken x is. maps_are_refs basis taken x seal.maps seal.free) 0 next nodes

-- ---- how many there are

slot_used : (slots slot : ℕ) (h : Held) → slot < slots → held_at (replicate slots (Some h)) slot ≡ Some h
slot_used zero slot h within = absurd (omega arith)
slot_used (suc slots) zero h within = refl
slot_used (suc slots) (suc slot) h within = slot_used slots slot h (omega arith)

-- a slot of a store in which each is used counts one for each node
counts_one : (slots : ℕ) (h : Held) (next : List NextNode) → All (λ x. x.node.slot < slots) next → sum_by (λ x. nodes_of_slot (held_at (replicate slots (Some h)) x.node.slot)) next ≡ length next
counts_one slots h [] below = refl
counts_one slots h (x ∷ next) below =
    omega (
      arith,
      sum_by-cons (λ (x : NextNode). nodes_of_slot (held_at (replicate slots (Some h)) x.node.slot)) x next,
      ap nodes_of_slot (slot_used slots x.node.slot h (below 0 x (omega arith))),
      counts_one slots h next (all_tail (λ (x : NextNode). x.node.slot < slots) x next below),
    )

-- a tree has at most as many nodes as there are slots
pub nodes_few : (slots : ℕ) (next : List NextNode) → IsNextTree slots next → length next ≤ slots
nodes_few slots next tree =
    let full = replicate slots (Some root_held) in
    let below : All (λ x. x.node.slot < slots) next = λ k d within. (tree.nodes k d within).slot in
    let many : length full ≡ slots = length-replicate slots (Some root_held) in
    let weighed = some-weigh (λ (x : NextNode). x.node.slot) nodes_of_slot refl full next tree.own_slot (λ k d within. (let b = below k d within in omega (arith, b, many))) in
    omega (arith, weighed, counts_one slots root_held next below, sum_by-replicate nodes_of_slot slots (Some root_held))
