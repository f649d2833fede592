-- A plan over a view, and the view once the next one is begun.
use Rattle.std.proofs.Common.{◌≡◌, ℕ, ◌+◌, ◌<◌, ◌≤◌, ◌^◌, ◌==◌, false, List, [], length, get_or, take, map, Option, Some, None, refl, sym, ap, subst, ◌∙◌, ◌⊎◌, inl, inr, arith}
use Rattle.std.specs.Prelude.{count_by, Contains}
use Rattle.std.specs.List.{All}
use Rattle.std.specs.Option.{option_map}
use Rattle.std.proofs.lemmas.Bool.{false≢true}
use Rattle.std.proofs.lemmas.List.{get_or_default, take_all}
use Rattle.std.proofs.lemmas.List.Elements.{All-contains, All-nil}
use Rattle.vb_block.specs.declared.digest.Ref.{Ref}
use Rattle.vb_index.specs.declared.held.Held.{Held}
use Rattle.vb_index.specs.Indexes.{IndexState}
use Rattle.vb_index.specs.Nodes.{held_at}
use Rattle.vb_inode.specs.declared.next_view.NextNode.{NextNode}
use Rattle.vb_inode.specs.Layout.{AreRefs}
use Rattle.vb_inode.specs.Nodes.{is_free}
use Rattle.vb_inode.specs.Reading.{IsNodeOf}
use Rattle.vb_nodes.specs.Faults.{IsNodeTree}
use Rattle.vb_nodes.specs.Holdings.{pages_of_nodes}
use Rattle.vb_plan.specs.Conditions.{CanPlan, CanSeal, IsNextNode}
use Rattle.vb_plan.specs.Following.{CanFollow}
use Rattle.vb_plan.specs.Laws.{pages_of_next, place_of, slots_next}
use Rattle.vb_plan.specs.Maps.{maps_in}
use Rattle.vb_plan.specs.Plans.{Basis, PlanState, all_held, all_pages, by_slot, node_at, node_in, plan_of}
use Rattle.vb_plan.specs.Seen.{basis_of}
use Rattle.vb_plan.proofs.FreeOnes.{first_are_free, first_name_once}
use Rattle.vb_plan.proofs.NextTrees.{below_next, follow_planned, next_tree, own_next, pages_next_by_slot, pages_next_in}
use Rattle.vb_plan.proofs.Nexts.{all_held_are, mapped_as_due}
use Rattle.vb_plan.proofs.Parents.{parents_below}
use Rattle.vb_plan.proofs.PlacesNext.{next_named, next_once, next_written}
use Rattle.vb_plan.proofs.Placing.{length-refs_from}
use Rattle.vb_plan.proofs.PlannedPlaces.{places_of_plan}
use Rattle.vb_plan.proofs.Sealed.{node_next_given}
use Rattle.vb_plan.proofs.Slots.{holds_in_slots, length-by_slot}
use Rattle.vb_space.specs.Free.{has_committed}
use Rattle.vb_space.specs.Spaces.{DataPlaces, IsFree, IsNext, free_count, free_places, next_count}
use Rattle.vb_space.proofs.FreePlaces.{length-free_from}
use Rattle.vb_tree.specs.declared.tree.Limits.{Limits}
use Rattle.vb_tree.specs.Trees.{data_pages_of, map_pages_of}
use Rattle.vb_store.specs.NextIndexes.{CanIndex, nodes_held}
use Rattle.vb_store.specs.NextViews.{AreTakenOrKept, UsesToo}
use Rattle.vb_store.specs.Views.{CanView, HasNoneBegun, IsView, ViewState, data_start, limits_of, places_in, places_of_next}
use Rattle.vb_store.proofs.NextIndexed.{there_below}
use Rattle.vb_store.proofs.NextPlaces.{next_few}

-- what a plan over a view stands on
abbrev pub basis_at : ViewState → Basis
basis_at v = basis_of v.index v.space

-- ---- what is asked of it

none_counted : (v : ViewState) → IsView v → HasNoneBegun v → next_count v.space ≡ 0
none_counted v is none =
    omega (arith, next_few v.space (places_of_next v.next) (λ place used. (is.begun place).0 used), ap (λ (o : Option IndexState). length (places_of_next o)) none)

half_of : (v : ViewState) → IsView v → v.index.limits.pages + v.index.limits.pages ≤ length v.space.users
half_of v is = omega (arith, ap (λ (l : Limits). l.pages) is.can.limits, is.first, is.end)

pub can_plan : (v : ViewState) (next : List NextNode) → IsView v → HasNoneBegun v → CanFollow v.index next → CanPlan (basis_at v) next
can_plan v next is none can = follow_planned v.index v.space next can is.few (none_counted v is none) (half_of v is)

maps_by : (o : Option Held) → ((held : Held) → o ≡ Some held → AreRefs held.node.maps) → AreRefs (maps_in o)
maps_by None each = All-nil (λ (r : Ref). (r.place < 2 ^ 32) × (length r.digest ≡ 32))
maps_by (Some held) each = each held refl

all_free : (s : DataPlaces) → All (IsFree s) (free_places s)
all_free s = subst (All (IsFree s)) (take_all (length (free_places s)) (free_places s) (omega arith)) (first_are_free s (length (free_places s)))

pub can_seal : (v : ViewState) (next : List NextNode) → IsView v → CanFollow v.index next → CanSeal (basis_at v) next
can_seal v next is can = record {
  few = omega (arith, is.slots, is.can.range.nodes_high);
  maps = λ slot. maps_by (held_at v.index.nodes slot) (is.can.map_refs slot);
  free = λ k d within. (let at = all_free v.space k d within in omega (arith, at.within.1, is.end, is.can.range.blocks));
  parents = parents_below (length v.index.nodes) next can.tree;
}

-- ---- the index

pub can_index : (v : ViewState) (next : List NextNode) → IsView v → CanFollow v.index next → CanIndex v.head (all_held (basis_at v) 0 next)
can_index v next is can =
    let basis = basis_at v in
    let held = all_held basis 0 next in
    let Few : ℕ → Type 0 = λ n. pages_of_nodes (nodes_held n held) ≡ pages_of_next next in
    let Tree : ℕ → Type 0 = λ n. IsNodeTree (nodes_held n held) in
    let Below : ℕ → Type 0 = λ n. All (λ h. h.node.slot < n) held in
    let few : Few v.head.nodes = subst Few is.slots (pages_next_by_slot basis next can.tree.nodes can.tree.own_slot) in
    record {
      range = is.can.range;
      tree = subst Tree is.slots (next_tree basis next can.tree (can_seal v next is can) (omega (arith, is.slots, is.can.range.nodes_high)));
      few = omega (arith, few, can.pages, ap (λ (l : Limits). l.pages) is.can.limits);
      own = own_next basis next can.tree.own_slot;
      below = subst Below is.slots (below_next basis next can.tree.nodes);
      used = all_held_are (IsNextNode (length basis.nodes)) (λ (h : Held). is_free h.node.kind ≡ false) basis (λ taken x node. node.used) 0 next can.tree.nodes;
      each_page = all_held_are (IsNextNode (length basis.nodes)) (λ (h : Held). length h.refs ≡ data_pages_of h.node.length) basis (λ taken x node. length-refs_from basis.free taken x.pages ∙ node.each_page) 0 next can.tree.nodes;
    }

-- the index of the next view
abbrev pub index_next : ViewState → List NextNode → IndexState
index_next v next = record { limits = limits_of v.head; nodes = slots_next (basis_at v) next }

pub index_made : (v : ViewState) (next : List NextNode) (index : IndexState) → IsView v → index ≡ record { limits = limits_of v.head; nodes = by_slot v.head.nodes (all_held (basis_at v) 0 next) } → index ≡ index_next v next
index_made v next index is made =
    let With : ℕ → IndexState = λ n. record { limits = limits_of v.head; nodes = by_slot n (all_held (basis_at v) 0 next) } in
    made ∙ ap With (sym is.slots)

pub slots_made : (v : ViewState) (next : List NextNode) → IsView v → length (index_next v next).nodes ≡ v.head.nodes
slots_made v next is = length-by_slot (length v.index.nodes) (all_held (basis_at v) 0 next) ∙ is.slots

-- ---- its places

-- the places that are planned are the first free ones
planned_free : (v : ViewState) (next : List NextNode) → CanPlan (basis_at v) next → map place_of (all_pages (basis_at v) 0 next) ≡ take (length (all_pages (basis_at v) 0 next)) (free_places v.space)
planned_free v next can = places_of_plan (basis_at v) next can.room

swapped : {A B C D : Type 0} → (A → D) → (B → C) → A ⊎ B → C ⊎ D
swapped f g (inl a) = inr (f a)
swapped f g (inr b) = inl (g b)

pub taken_or_kept : (v : ViewState) (next : List NextNode) → IsView v → CanPlan (basis_at v) next → AreTakenOrKept v.space (length (all_pages (basis_at v) 0 next)) (places_in (slots_next (basis_at v) next))
taken_or_kept v next is can =
    let first = planned_free v next can in
    record {
      all_taken = λ place taken. next_written (basis_at v) next place can (subst (λ (l : List ℕ). Contains l place) (sym first) taken);
      others_kept = λ place used. swapped (is.committed place).1 (λ planned. subst (λ (l : List ℕ). Contains l place) first planned) (next_named (basis_at v) next place can used);
    }

-- a place that is planned is free
is_planned : (v : ViewState) (next : List NextNode) (place : ℕ) → CanPlan (basis_at v) next → Contains (map place_of (all_pages (basis_at v) 0 next)) place → IsFree v.space place
is_planned v next place can planned =
    let count = length (all_pages (basis_at v) 0 next) in
    All-contains (IsFree v.space) (take count (free_places v.space)) place (first_are_free v.space count) (subst (λ (l : List ℕ). Contains l place) (planned_free v next can) planned)

place_within : (v : ViewState) (next : List NextNode) (place : ℕ) → IsView v → CanPlan (basis_at v) next → Contains (places_in v.index.nodes) place ⊎ Contains (map place_of (all_pages (basis_at v) 0 next)) place → (data_start v.head ≤ place) × (place < v.head.blocks)
place_within v next place is can (inl old) =
    (All-contains (λ (p : ℕ). data_start v.head ≤ p) (places_in v.index.nodes) place is.can.above old, All-contains (λ (p : ℕ). p < v.head.blocks) (places_in v.index.nodes) place is.can.below old)
place_within v next place is can (inr planned) =
    let free = is_planned v next place can planned in
    (omega (arith, free.within.0, is.first), omega (arith, free.within.1, is.end))

all_of : (P : ℕ → Type 0) (places : List ℕ) → ((place : ℕ) → Contains places place → P place) → All P places
all_of P places each k d within = each (get_or places k d) (k, within, get_or_default places k (get_or places k d) d within)

named_once : (v : ViewState) (next : List NextNode) (place : ℕ) → IsView v → CanPlan (basis_at v) next → count_by (λ p. p == place) (places_in (slots_next (basis_at v) next)) ≤ 1
named_once v next place is can =
    let count = length (all_pages (basis_at v) 0 next) in
    let Once : List ℕ → Type 0 = λ l. count_by (λ p. p == place) l ≤ 1 in
    next_once (basis_at v) next place can (is.can.once place) (subst Once (sym (planned_free v next can)) (first_name_once v.space count place))
    (λ planned old. (
    let free = is_planned v next place can planned in
    let used = ((is.committed place).1 old).used in
    false≢true (sym (ap has_committed free.unused) ∙ used)))

-- the next index is one of a view
pub can_view_next : (v : ViewState) (next : List NextNode) → IsView v → HasNoneBegun v → CanFollow v.index next → CanView v.head (index_next v next)
can_view_next v next is none can =
    let basis = basis_at v in
    let held = all_held basis 0 next in
    let plan = can_plan v next is none can in
    let seal = can_seal v next is can in
    let within : (place : ℕ) → Contains (places_in (slots_next basis next)) place → (data_start v.head ≤ place) × (place < v.head.blocks) = λ place named. place_within v next place is plan (next_named basis next place plan named) in
    record {
      range = is.can.range;
      closed = is.can.closed;
      limits = refl;
      pages = omega (arith, pages_next_in basis next can.tree.nodes can.tree.own_slot, can.pages, ap (λ (l : Limits). l.pages) is.can.limits);
      refs = holds_in_slots (λ (h : Held). length h.refs ≡ data_pages_of h.node.length) (length basis.nodes) held
          (all_held_are (IsNextNode (length basis.nodes)) (λ (h : Held). length h.refs ≡ data_pages_of h.node.length) basis (λ taken x node. length-refs_from basis.free taken x.pages ∙ node.each_page) 0 next can.tree.nodes);
      maps = holds_in_slots (λ (h : Held). length h.node.maps ≡ map_pages_of h.node.length) (length basis.nodes) held
          (all_held_are (IsNextNode (length basis.nodes)) (λ (h : Held). length h.node.maps ≡ map_pages_of h.node.length) basis (λ taken x node. mapped_as_due basis taken x node.each_page) 0 next can.tree.nodes);
      map_refs = λ slot h there. (
          let below : slot < length basis.nodes = omega (arith, there_below (slots_next basis next) slot h there, length-by_slot (length basis.nodes) held) in
          let node : node_in slot (node_at (slots_next basis next) slot) ≡ h.node = ap (λ (o : Option Held). node_in slot (option_map (λ (x : Held). x.node) o)) there in
          (subst (IsNodeOf (length basis.nodes)) node (node_next_given basis next can.tree.nodes seal slot below)).refs);
      above = all_of (λ place. data_start v.head ≤ place) (places_in (slots_next basis next)) (λ place named. (within place named).0);
      below = all_of (λ place. place < v.head.blocks) (places_in (slots_next basis next)) (λ place named. (within place named).1);
      once = λ place. named_once v next place is plan;
    }

-- ---- the view

right_of : {B C : Type 0} → (B → ⊥) → B ⊎ C → C
right_of none (inl b) = absurd (none b)
right_of none (inr c) = c

pub view_begun : (v : ViewState) (index : IndexState) (space : DataPlaces) → IsView v → HasNoneBegun v → CanView v.head index → length index.nodes ≡ v.head.nodes → UsesToo v.space space (Contains (places_in index.nodes)) → IsView (record { head = v.head; index = v.index; next = Some index; space = space })
view_begun v index space is none can slots uses =
    let before : (place : ℕ) → IsNext v.space place → ⊥ = λ place used. (
    let at : Contains (places_of_next v.next) place = (is.begun place).0 used in
    let no : Contains [] place = subst (λ (o : Option IndexState). Contains (places_of_next o) place) none at in
    omega (arith, no.1)) in
    record {
      can = is.can;
      slots = is.slots;
      first = uses.first ∙ is.first;
      end = omega (arith, uses.first, uses.as_many, is.end);
      few = omega (arith, uses.counted, is.few);
      committed = λ place. (λ used. (is.committed place).0 ((uses.committed place).0 used), λ named. (uses.committed place).1 ((is.committed place).1 named));
      can_next = (can, slots);
      begun = λ place. (λ used. right_of (before place) ((uses.next place).0 used), λ named. (uses.next place).1 (inr named));
    }

-- ---- as the call finds them

pub planned_count : (made left : PlanState) (n : ℕ) (basis : Basis) (next : List NextNode) → n ≡ length left.pages → left ≡ record made { nodes = [] } → made ≡ plan_of basis next → n ≡ length (all_pages basis 0 next)
planned_count made left n basis next is without plan =
    is ∙ ap (λ (p : PlanState). length p.pages) without ∙ ap (λ (p : PlanState). length p.pages) plan

pub planned_held : (made : PlanState) (held taken : List Held) (basis : Basis) (next : List NextNode) → held ≡ taken → taken ≡ made.nodes → made ≡ plan_of basis next → held ≡ all_held basis 0 next
planned_held made held taken basis next is from plan = is ∙ from ∙ ap (λ (p : PlanState). p.nodes) plan

pub index_begun : (v : ViewState) (next : List NextNode) (held : List Held) (index : IndexState) → IsView v → held ≡ all_held (basis_at v) 0 next → index ≡ record { limits = limits_of v.head; nodes = by_slot v.head.nodes held } → index ≡ index_next v next
index_begun v next held index is from made =
    let With : List Held → IndexState = λ h. record { limits = limits_of v.head; nodes = by_slot v.head.nodes h } in
    index_made v next index is (made ∙ ap With from)

pub room_begun : (v : ViewState) (next : List NextNode) (n : ℕ) → CanPlan (basis_at v) next → n ≡ length (all_pages (basis_at v) 0 next) → n ≤ free_count v.space
room_begun v next n can is = omega (arith, is, can.room, length-free_from v.space.first v.space.users)

pub places_begun : (v : ViewState) (next : List NextNode) (index : IndexState) (n : ℕ) (used : List ℕ) → IsView v → CanPlan (basis_at v) next → index ≡ index_next v next → used ≡ places_in index.nodes → n ≡ length (all_pages (basis_at v) 0 next) → AreTakenOrKept v.space n used
places_begun v next index n used is can made named count =
    let same : used ≡ places_in (slots_next (basis_at v) next) = named ∙ ap (λ (x : IndexState). places_in x.nodes) made in
    subst (λ (l : List ℕ). AreTakenOrKept v.space n l) (sym same)
    (subst (λ (m : ℕ). AreTakenOrKept v.space m (places_in (slots_next (basis_at v) next))) (sym count) (taken_or_kept v next is can))

pub view_planned : (v : ViewState) (next : List NextNode) (index : IndexState) (space : DataPlaces) (used : List ℕ) → IsView v → HasNoneBegun v → CanFollow v.index next → index ≡ index_next v next → used ≡ places_in index.nodes → UsesToo v.space space (Contains used) → IsView (record { head = v.head; index = v.index; next = Some index; space = space })
view_planned v next index space used is none can made named uses =
    let could : CanView v.head index = subst (λ (x : IndexState). CanView v.head x) (sym made) (can_view_next v next is none can) in
    let slots : length index.nodes ≡ v.head.nodes = ap (λ (x : IndexState). length x.nodes) made ∙ slots_made v next is in
    view_begun v index space is none could slots (subst (λ (l : List ℕ). UsesToo v.space space (Contains l)) named uses)
