-- Nodes that are put one depth after the other: what an index holds on the way, and that the next one may be put.
use Rattle.std.proofs.Common.{◌≡◌, ℕ, zero, suc, ◌+◌, ◌-◌, ◌<◌, ◌≤◌, Bool, true, false, not, cond, ◌&&◌, ◌||◌, ◌==◌, nat_lt, List, [], ◌∷◌, length, take, get_or, set, replicate, Option, Some, None, inl, inr, refl, sym, ap, ◌∙◌, arith}
use Rattle.std.specs.List.{list_any}
use Rattle.std.proofs.lemmas.Bool.{cases_Bool, cases_lt, eqb-true, false≢true, le-ltb}
use Rattle.std.proofs.lemmas.Bool.Decides.{Decides-eqb, Decides-ltb}
use Rattle.std.proofs.lemmas.List.{ext_get_or, get_or-map, get_or-set_other, get_or-set_same, get_or-take, length-map, length-replicate, length-set, length-take}
use Rattle.vb_block.specs.declared.digest.Ref.{Ref}
use Rattle.vb_tree.specs.Trees.{data_pages_of, map_pages_of}
use Rattle.vb_inode.specs.declared.node.Node.{Node}
use Rattle.vb_inode.specs.declared.node.NodeKind.{NodeKind}
use Rattle.vb_inode.specs.declared.node.NodeKind.TheVariants.{Free, Folder, File}
use Rattle.vb_inode.specs.Nodes.{is_free, may_be_named, may_have_length}
use Rattle.vb_inode.specs.Reading.{IsNodeOf}
use Rattle.vb_inode.proofs.Checked.{map_pages-few}
use Rattle.vb_inode.proofs.Decoded.{nodes_same}
use Rattle.vb_index.specs.declared.held.Held.{Held}
use Rattle.vb_index.specs.Nodes.{child_of, held_at, holds_folder, is_child, is_file_node, is_folder_node, root_held, same_name, IsHeld}
use Rattle.vb_index.proofs.ChildLaws.{is_child-parts, same_name-Decides}
use Rattle.vb_index.proofs.Positions.{position-nowhere}
use Rattle.vb_nodes.specs.Paths.{free_node, node_at, parent_in}
use Rattle.vb_nodes.specs.Faults.{has_lower_twin, is_entry, IsNodeTree}
use Rattle.vb_index.specs.Changes.{blank_ref}
use Rattle.vb_nodes.specs.Holdings.{held_from, held_of}
use Rattle.vb_nodes.specs.Building.{depth_of, is_placed, HoldsPlaced}
use Rattle.vb_nodes.proofs.NodeLaws.{node-of, node-past}
use Rattle.vb_nodes.proofs.TreeFacts.{depth-above, depth-next, depth-of-root, entry-of-tree, root-of-tree}

-- ---- one slot more

placed-same : (depth_k depth k slot : ℕ) → (k ≡ slot → ⊥) → (nat_lt depth_k depth || (depth_k == depth && nat_lt k (slot + 1))) ≡ (nat_lt depth_k depth || (depth_k == depth && nat_lt k slot))
placed-same depth_k depth k slot apart =
    let same : nat_lt k (slot + 1) ≡ nat_lt k slot = elim (cases_lt k slot) [
      | inl lt ↦ (Decides-ltb k (slot + 1)).1 (omega arith) ∙ sym ((Decides-ltb k slot).1 lt)
      | inr le ↦ le-ltb k (slot + 1) (omega arith) ∙ sym (le-ltb k slot le)
    ] in
    ap (λ (b : Bool). nat_lt depth_k depth || (depth_k == depth && b)) same

or_true : (a : Bool) → (a || true) ≡ true
or_true true = refl
or_true false = refl

both_true : (a b : Bool) → a ≡ true → b ≡ true → (a && b) ≡ true
both_true true b e f = f
both_true false b e f = absurd (false≢true e)

placed-now : (depth_k depth k end : ℕ) → depth_k ≡ depth → k < end → (nat_lt depth_k depth || (depth_k == depth && nat_lt k end)) ≡ true
placed-now depth_k depth k end e lt =
    ap (λ (b : Bool). nat_lt depth_k depth || b) (both_true (depth_k == depth) (nat_lt k end) ((Decides-eqb depth_k depth).1 e) ((Decides-ltb k end).1 lt)) ∙ or_true (nat_lt depth_k depth)

pub placed-above : (depth_k depth k end : ℕ) → depth_k < depth → (nat_lt depth_k depth || (depth_k == depth && nat_lt k end)) ≡ true
placed-above depth_k depth k end lt = ap (λ (b : Bool). b || (depth_k == depth && nat_lt k end)) ((Decides-ltb depth_k depth).1 lt)

placed-not : (depth_k depth k end : ℕ) → depth ≤ depth_k → (depth_k ≡ depth → end ≤ k) → (nat_lt depth_k depth || (depth_k == depth && nat_lt k end)) ≡ false
placed-not depth_k depth k end le later =
    ap (λ (b : Bool). b || (depth_k == depth && nat_lt k end)) (le-ltb depth_k depth le) ∙ (elim (cases_Bool (depth_k == depth)) [
      | inl e ↦ ap (λ (b : Bool). b && nat_lt k end) e ∙ le-ltb k end (later (eqb-true depth_k depth e))
      | inr e ↦ ap (λ (b : Bool). b && nat_lt k end) e
    ])

-- the node of a slot is put
pub placed-put : (nodes : List Node) (depth slot : ℕ) (held new : List (Option Held)) → HoldsPlaced nodes depth slot held → slot < length nodes → depth_of nodes slot ≡ depth → new ≡ set held slot (held_from (node_at nodes slot)) → HoldsPlaced nodes depth (slot + 1) new
placed-put nodes depth slot held new h lt deep is = record {
  as_many = ap length is ∙ length-set held slot (held_from (node_at nodes slot)) ∙ h.as_many;
  each = λ k. ap (λ (ns : List (Option Held)). held_at ns k) is ∙ (elim (cases_Bool (k == slot)) [
    | inl e ↦ (let same : k ≡ slot = eqb-true k slot e in
        ap (λ (j : ℕ). get_or (set held slot (held_from (node_at nodes slot))) j None) same
        ∙ get_or-set_same held slot (held_from (node_at nodes slot)) None (omega (arith, h.as_many))
        ∙ ap (λ (j : ℕ). held_from (node_at nodes j)) (sym same)
        ∙ sym (ap (λ (b : Bool). cond b (held_from (node_at nodes k)) None) (placed-now (depth_of nodes k) depth k (slot + 1) (ap (depth_of nodes) same ∙ deep) (omega arith))))
    | inr e ↦ (let apart : k ≡ slot → ⊥ = λ same. false≢true (sym e ∙ (Decides-eqb k slot).1 same) in
        get_or-set_other held slot k (held_from (node_at nodes slot)) None apart
        ∙ h.each k
        ∙ sym (ap (λ (b : Bool). cond b (held_from (node_at nodes k)) None) (placed-same (depth_of nodes k) depth k slot apart)))
  ]);
}

-- it isn't the turn of a slot, or it is free
pub placed-skip : (nodes : List Node) (depth slot : ℕ) (held : List (Option Held)) → HoldsPlaced nodes depth slot held → (depth_of nodes slot ≡ depth → held_from (node_at nodes slot) ≡ None) → HoldsPlaced nodes depth (slot + 1) held
placed-skip nodes depth slot held h nothing = record {
  as_many = h.as_many;
  each = λ k. h.each k ∙ (elim (cases_Bool (k == slot)) [
    | inl e ↦ own k (eqb-true k slot e)
    | inr e ↦ (let apart : k ≡ slot → ⊥ = λ same. false≢true (sym e ∙ (Decides-eqb k slot).1 same) in
        sym (ap (λ (b : Bool). cond b (held_from (node_at nodes k)) None) (placed-same (depth_of nodes k) depth k slot apart)))
  ]);
} where
  either_none : (b : Bool) (o : Option Held) → o ≡ None → cond b o None ≡ None
  either_none true o e = e
  either_none false o e = refl

  own : (k : ℕ) → k ≡ slot → cond (is_placed nodes depth slot k) (held_from (node_at nodes k)) None ≡ cond (is_placed nodes depth (slot + 1) k) (held_from (node_at nodes k)) None
  own k same = elim (cases_Bool (depth_of nodes k == depth)) [
    | inl e ↦ (let none : held_from (node_at nodes k) ≡ None = ap (λ (j : ℕ). held_from (node_at nodes j)) same ∙ nothing (ap (depth_of nodes) (sym same) ∙ eqb-true (depth_of nodes k) depth e) in
        either_none (is_placed nodes depth slot k) _ none ∙ sym (either_none (is_placed nodes depth (slot + 1) k) _ none))
    | inr e ↦ ap (λ (b : Bool). cond (nat_lt (depth_of nodes k) depth || (b && nat_lt k slot)) (held_from (node_at nodes k)) None) e
        ∙ sym (ap (λ (b : Bool). cond (nat_lt (depth_of nodes k) depth || (b && nat_lt k (slot + 1))) (held_from (node_at nodes k)) None) e)
  ]

-- a depth is done
pub placed-next : (nodes : List Node) (depth : ℕ) (held : List (Option Held)) → HoldsPlaced nodes depth (length nodes) held → HoldsPlaced nodes (depth + 1) 0 held
placed-next nodes depth held h = record {
  as_many = h.as_many;
  each = λ k. h.each k ∙ (elim (cases_lt k (length nodes)) [
    | inl lt ↦ ap (λ (b : Bool). cond b (held_from (node_at nodes k)) None) (next k lt)
    | inr le ↦ (let none : held_from (node_at nodes k) ≡ None = ap held_from (node-past nodes k le) in
        either (is_placed nodes depth (length nodes) k) (is_placed nodes (depth + 1) 0 k) _ none)
  ]);
} where
  either : (a b : Bool) (o : Option Held) → o ≡ None → cond a o None ≡ cond b o None
  either true true o e = refl
  either true false o e = e
  either false true o e = sym e
  either false false o e = refl

  next : (k : ℕ) → k < length nodes → is_placed nodes depth (length nodes) k ≡ is_placed nodes (depth + 1) 0 k
  next k lt = elim (cases_lt (depth_of nodes k) (depth + 1)) [
    | inl shallow ↦ (elim (cases_lt (depth_of nodes k) depth) [
      | inl less ↦ placed-above (depth_of nodes k) depth k (length nodes) less ∙ sym (placed-above (depth_of nodes k) (depth + 1) k 0 shallow)
      | inr more ↦ placed-now (depth_of nodes k) depth k (length nodes) (omega arith) lt ∙ sym (placed-above (depth_of nodes k) (depth + 1) k 0 shallow)
    ])
    | inr deep ↦ placed-not (depth_of nodes k) depth k (length nodes) (omega arith) (λ e. absurd (omega arith)) ∙ sym (placed-not (depth_of nodes k) (depth + 1) k 0 deep (λ e. omega arith))
  ]

-- ---- what may be put

-- a folder isn't free
pub folder_used : (kind : NodeKind) → is_folder_node kind ≡ true → is_free kind ≡ false
folder_used Free e = absurd (false≢true e)
folder_used Folder e = refl
folder_used File e = refl

pub held_used : (node : Node) → is_free node.kind ≡ false → held_from node ≡ Some (record { node = node; refs = replicate (data_pages_of node.length) blank_ref })
held_used node used = ap (λ (b : Bool). cond b None (Some (let h : Held = record { node = node; refs = replicate (data_pages_of node.length) blank_ref } in h))) used

-- what is put of a node is what an index holds of it
pub held_is : (copied : Node) (refs : List Ref) (node : Node) → copied ≡ node → refs ≡ replicate (data_pages_of copied.length) blank_ref → is_free node.kind ≡ false → Some (let h : Held = record { node = copied; refs = refs } in h) ≡ held_from node
held_is copied refs node same is used =
    ap (λ (rs : List Ref). Some (let h : Held = record { node = copied; refs = rs } in h)) is
    ∙ ap (λ (n : Node). Some (let h : Held = record { node = n; refs = replicate (data_pages_of n.length) blank_ref } in h)) same
    ∙ sym (held_used node used)

-- the folder of an entry is there
pub folder-placed : (nodes : List Node) (depth slot : ℕ) (held : List (Option Held)) → IsNodeTree nodes → HoldsPlaced nodes depth slot held → 0 < slot → slot < length nodes → is_free (node_at nodes slot).kind ≡ false → depth_of nodes slot ≡ depth → holds_folder (held_at held (parent_in nodes slot)) ≡ true
folder-placed nodes depth slot held tree h above lt used deep =
    let entry = entry-of-tree nodes slot tree above lt used in
    let root = root-of-tree nodes tree in
    let parent = parent_in nodes slot in
    let up = depth-next nodes slot root.1 entry.rooted above in
    let there : is_placed nodes depth slot parent ≡ true = placed-above (depth_of nodes parent) depth parent slot (omega arith) in
    ap holds_folder (h.each parent ∙ ap (λ (b : Bool). cond b (held_from (node_at nodes parent)) None) there ∙ held_used (node_at nodes parent) (folder_used (node_at nodes parent).kind entry.in_folder)) ∙ entry.in_folder

-- a lower slot with the same parent and name is a twin
pub twin_from : (nodes : List Node) (low high : ℕ) → low < high → high < length nodes → is_free (node_at nodes low).kind ≡ false → (node_at nodes low).parent ≡ parent_in nodes high → (node_at nodes low).name ≡ (node_at nodes high).name → has_lower_twin nodes high ≡ true
twin_from nodes low high lt below used parents names =
    let p = is_entry (parent_in nodes high) (node_at nodes high).name in
    let first : not (is_free (node_at nodes low).kind) ≡ true = ap not used in
    let second : ((node_at nodes low).parent == parent_in nodes high) ≡ true = (Decides-eqb (node_at nodes low).parent (parent_in nodes high)).1 parents in
    let third : same_name (node_at nodes low).name (node_at nodes high).name ≡ true = (same_name-Decides (node_at nodes low).name (node_at nodes high).name).1 names in
    let is : p (node_at nodes low) ≡ true = both_true _ _ first (both_true _ _ second third) in
    let at : get_or (take high nodes) low free_node ≡ node_at nodes low = get_or-take high nodes low free_node lt in
    any_at p (take high nodes) low (omega (arith, length-take high nodes)) (ap p at ∙ is) where
      any_at : (p : Node → Bool) (xs : List Node) (k : ℕ) → k < length xs → p (get_or xs k free_node) ≡ true → list_any p xs ≡ true
      any_at p [] k lt is = absurd (omega arith)
      any_at p (x ∷ xs) zero lt is = ap (λ (b : Bool). b || list_any p xs) is
      any_at p (x ∷ xs) (suc k) lt is = ap (λ (b : Bool). p x || b) (any_at p xs k (omega arith) is) ∙ or_true (p x)

-- no entry of that name is there yet
pub name-new : (nodes : List Node) (depth slot : ℕ) (held : List (Option Held)) → IsNodeTree nodes → HoldsPlaced nodes depth slot held → 0 < slot → slot < length nodes → is_free (node_at nodes slot).kind ≡ false → depth_of nodes slot ≡ depth → child_of held (parent_in nodes slot) (node_at nodes slot).name ≡ None
unfolding child_of
name-new nodes depth slot held tree h above lt used deep = position-nowhere (is_child parent name) held None by where
  parent : ℕ
  parent = parent_in nodes slot

  name : List ℕ
  name = (node_at nodes slot).name

  -- a slot that is held is another one of the same parent and name
  other : (k : ℕ) → k < length nodes → is_placed nodes depth slot k ≡ true → is_free (node_at nodes k).kind ≡ false → 0 < (node_at nodes k).slot → (node_at nodes k).parent ≡ parent_in nodes slot → (node_at nodes k).name ≡ (node_at nodes slot).name → ⊥
  other k below placed there up parents names = elim (cases_lt k slot) [
    | inl low ↦ false≢true (sym (entry-of-tree nodes slot tree above lt used).alone ∙ twin_from nodes k slot low lt there parents names)
    | inr le ↦ (elim (cases_lt slot k) [
      | inl high ↦ false≢true (sym (entry-of-tree nodes k tree (omega arith) below there).alone ∙ twin_from nodes slot k high below used (sym parents) (sym names))
      | inr same ↦ (let is : k ≡ slot = omega arith in
          false≢true (sym (placed-not (depth_of nodes slot) depth slot slot (omega arith) (λ e. omega arith)) ∙ ap (is_placed nodes depth slot) (sym is) ∙ placed))
    ])
  ]

  by_kind : (k : ℕ) → k < length nodes → is_placed nodes depth slot k ≡ true → (b : Bool) → is_free (node_at nodes k).kind ≡ b → is_child (parent_in nodes slot) (node_at nodes slot).name (held_from (node_at nodes k)) ≡ false
  by_kind k below placed true free = ap (λ (b : Bool). is_child (parent_in nodes slot) (node_at nodes slot).name (cond b None (Some (let x : Held = record { node = node_at nodes k; refs = replicate (data_pages_of (node_at nodes k).length) blank_ref } in x)))) free
  by_kind k below placed false there =
      let one : Held = record { node = node_at nodes k; refs = replicate (data_pages_of (node_at nodes k).length) blank_ref } in
      ap (is_child (parent_in nodes slot) (node_at nodes slot).name) (held_used (node_at nodes k) there) ∙ (elim (cases_Bool (is_child (parent_in nodes slot) (node_at nodes slot).name (Some one))) [
        | inl e ↦ (let parts = is_child-parts (parent_in nodes slot) (node_at nodes slot).name one e in absurd (other k below placed there parts.0 parts.1 parts.2))
        | inr e ↦ e
      ])

  by : (k : ℕ) → k < length held → is_child (parent_in nodes slot) (node_at nodes slot).name (held_at held k) ≡ false
  by k below = ap (is_child (parent_in nodes slot) (node_at nodes slot).name) (h.each k) ∙ (elim (cases_Bool (is_placed nodes depth slot k)) [
    | inl e ↦ ap (λ (b : Bool). is_child (parent_in nodes slot) (node_at nodes slot).name (cond b (held_from (node_at nodes k)) None)) e ∙ by_kind k (omega (arith, h.as_many)) e (is_free (node_at nodes k).kind) refl
    | inr e ↦ ap (λ (b : Bool). is_child (parent_in nodes slot) (node_at nodes slot).name (cond b (held_from (node_at nodes k)) None)) e
  ])

-- the slot of an entry is free
pub slot-free : (nodes : List Node) (depth slot : ℕ) (held : List (Option Held)) → HoldsPlaced nodes depth slot held → depth_of nodes slot ≡ depth → held_at held slot ≡ None
slot-free nodes depth slot held h deep =
    h.each slot ∙ ap (λ (b : Bool). cond b (held_from (node_at nodes slot)) None) (placed-not (depth_of nodes slot) depth slot slot (omega arith) (λ e. omega arith))

-- a node of the store, with its blank references, fits its slot
pub node-fits : (nodes : ℕ) (node : Node) (refs : List Ref) → IsNodeOf nodes node → is_free node.kind ≡ false → refs ≡ replicate (data_pages_of node.length) blank_ref → IsHeld node.slot (record { node = node; refs = refs })
node-fits nodes node refs of used is = record {
  at_slot = refl;
  either = either node.kind used;
  folder_empty = λ folder. no_bytes node.kind node.length folder of.in_range.measured;
  short = (map_pages-few node.kind node.length of.in_range.measured).0;
  each_page = ap length is ∙ length-replicate {A = Ref} (data_pages_of node.length) blank_ref;
} where
  either : (kind : NodeKind) → is_free kind ≡ false → is_file_node kind ≡ not (is_folder_node kind)
  either Free e = absurd (false≢true (sym e))
  either Folder e = refl
  either File e = refl

  no_bytes : (kind : NodeKind) (len : ℕ) → is_folder_node kind ≡ true → may_have_length kind len ≡ true → len ≡ 0
  no_bytes Free len e h = absurd (false≢true e)
  no_bytes Folder len e h = eqb-true len 0 h
  no_bytes File len e h = absurd (false≢true e)

-- ---- the begin and the end

folder_is : (kind : NodeKind) → is_folder_node kind ≡ true → kind ≡ Folder
folder_is Free e = absurd (false≢true e)
folder_is Folder e = refl
folder_is File e = absurd (false≢true e)

empty_is : {X : Type 0} (xs : List X) → length xs ≡ 0 → xs ≡ []
empty_is [] e = refl
empty_is (x ∷ xs) e = absurd (omega arith)

no_name : (name : List ℕ) → may_be_named 0 Folder name ≡ true → name ≡ []
unfolding may_be_named
no_name name e = empty_is name (eqb-true (length name) 0 e)

-- the node of slot 0 is the one with which an index begins
root_is : (node : Node) → node.slot ≡ 0 → is_folder_node node.kind ≡ true → node.parent ≡ 0 → may_be_named node.slot node.kind node.name ≡ true → may_have_length node.kind node.length ≡ true → length node.maps ≡ map_pages_of node.length → node ≡ root_held.node
root_is node own folder parent named measured mapped =
    let kind = folder_is node.kind folder in
    let name = no_name node.name (ap (λ (k : NodeKind). may_be_named 0 k node.name) (sym kind) ∙ ap (λ (s : ℕ). may_be_named s node.kind node.name) (sym own) ∙ named) in
    let len : node.length ≡ 0 = eqb-true node.length 0 (ap (λ (k : NodeKind). may_have_length k node.length) (sym kind) ∙ measured) in
    let maps = empty_is node.maps (mapped ∙ ap map_pages_of len) in
    nodes_same node root_held.node own kind parent name len maps

pub root_node : (nodes : List Node) → IsNodeTree nodes → node_at nodes 0 ≡ root_held.node
root_node nodes tree =
    let of = node-of nodes 0 tree.by_slot tree.some in
    let root = root-of-tree nodes tree in
    root_is (node_at nodes 0) (tree.by_slot.own_slots 0 tree.some) root.0 root.1 of.in_range.named of.in_range.measured of.in_range.mapped

-- at the begin there is the root
pub placed-begin : (nodes : List Node) (limit : ℕ) (held : List (Option Held)) → IsNodeTree nodes → length nodes ≡ limit → held ≡ Some root_held ∷ replicate (limit - 1) None → HoldsPlaced nodes 1 0 held
placed-begin nodes limit held tree len is = record {
  as_many = ap length is ∙ omega (arith, len, tree.some, length-replicate {A = Option Held} (limit - 1) None);
  each = λ k. ap (λ (ns : List (Option Held)). held_at ns k) is ∙ at k;
} where
  none_at : (n k : ℕ) → get_or (replicate {A = Option Held} n None) k None ≡ None
  none_at zero k = refl
  none_at (suc n) zero = refl
  none_at (suc n) (suc k) = none_at n k

  root : (is_folder_node (node_at nodes 0).kind ≡ true) × (parent_in nodes 0 ≡ 0)
  root = root-of-tree nodes tree

  at : (k : ℕ) → held_at (Some root_held ∷ replicate (limit - 1) None) k ≡ cond (is_placed nodes 1 0 k) (held_from (node_at nodes k)) None
  at zero = sym (ap (λ (b : Bool). cond b (held_from (node_at nodes 0)) None) (placed-above (depth_of nodes 0) 1 0 0 (omega (arith, depth-of-root nodes root.1))) ∙ ap held_from (root_node nodes tree))
  at (suc k) = none_at (limit - 1) k ∙ sym (ap (λ (b : Bool). cond b (held_from (node_at nodes (suc k))) None) (placed-not (depth_of nodes (suc k)) 1 (suc k) 0 (let deep = depth-above nodes (suc k) (omega arith) in omega arith) (λ e. omega arith)))

-- at the end there are all nodes
pub placed-end : (nodes : List Node) (held : List (Option Held)) → IsNodeTree nodes → HoldsPlaced nodes 33 0 held → held ≡ held_of nodes
placed-end nodes held tree h = ext_get_or None held (held_of nodes) (h.as_many ∙ sym (length-map nodes held_from)) each where
  no_matter : (b : Bool) → cond b None None ≡ (let o : Option Held = None in o)
  no_matter true = refl
  no_matter false = refl

  shallow : (k : ℕ) → k < length nodes → is_free (node_at nodes k).kind ≡ false → depth_of nodes k < 33
  shallow k lt used = elim (cases_lt 0 k) [
    | inl above ↦ (let few = (entry-of-tree nodes k tree above lt used).shallow in omega arith)
    | inr none ↦ (let is : k ≡ 0 = omega arith in let deep : depth_of nodes k ≡ 0 = ap (depth_of nodes) is ∙ depth-of-root nodes (root-of-tree nodes tree).1 in omega arith)
  ]

  all : (k : ℕ) → k < length nodes → (b : Bool) → is_free (node_at nodes k).kind ≡ b → cond (is_placed nodes 33 0 k) (held_from (node_at nodes k)) None ≡ held_from (node_at nodes k)
  all k lt true free = (let none : held_from (node_at nodes k) ≡ None = ap (λ (b : Bool). cond b None (Some (let x : Held = record { node = node_at nodes k; refs = replicate (data_pages_of (node_at nodes k).length) blank_ref } in x))) free in
      ap (λ (o : Option Held). cond (is_placed nodes 33 0 k) o None) none ∙ no_matter (is_placed nodes 33 0 k) ∙ sym none)
  all k lt false used = ap (λ (b : Bool). cond b (held_from (node_at nodes k)) None) (placed-above (depth_of nodes k) 33 k 0 (shallow k lt used))

  each : (k : ℕ) → k < length held → get_or held k None ≡ get_or (held_of nodes) k None
  each k lt =
      let below : k < length nodes = omega (arith, h.as_many) in
      h.each k ∙ all k below (is_free (node_at nodes k).kind) refl ∙ sym (get_or-map held_from nodes k free_node None below)
