-- The nodes by slot after a commit are those of an index: a table that hangs on its root.
use Rattle.std.proofs.Common.{◌≡◌, ℕ, zero, suc, ◌<◌, ◌≤◌, Bool, true, false, cond, not, ◌&&◌, ◌==◌, List, [], ◌∷◌, ◌++◌, length, replicate, Option, Some, None, refl, sym, ap, subst, ◌∙◌, inl, inr, arith}
use Rattle.std.proofs.lemmas.Bool.{cases_lt, false≢true, ne_eqb}
use Rattle.std.specs.Option.{option_and_then, option_map}
use Rattle.vb_inode.specs.declared.next_view.NextNode.{NextNode}
use Rattle.vb_inode.specs.declared.node.Node.{Node}
use Rattle.vb_inode.specs.Nodes.{is_free, may_be_named}
use Rattle.vb_inode.specs.Reading.{IsNodeOf}
use Rattle.vb_index.specs.declared.held.Held.{Held}
use Rattle.vb_index.specs.Changes.{blank_ref}
use Rattle.vb_index.specs.Heights.{parent_in as held_parent, parent_at, path_up as held_up, path_to, IsRooted}
use Rattle.vb_index.specs.Listings.{name_at, name_in}
use Rattle.vb_index.specs.Nodes.{child_of, held_at, holds_folder, is_child, is_folder_node, same_name, slot_at, IsTable, root_held}
use Rattle.vb_index.proofs.ChildLaws.{child_of-None, child_of-Some, child-unique}
use Rattle.vb_index.proofs.Tables.{held_in_table}
use Rattle.vb_index.proofs.Walks.{walk-same, walk-snoc}
use Rattle.vb_nodes.specs.Building.{depth_of}
use Rattle.vb_nodes.specs.Faults.{IsNodeTree}
use Rattle.vb_nodes.specs.Holdings.{held_of}
use Rattle.vb_nodes.specs.Paths.{enough_steps, free_node, node_at, parent_in, path_in}
use Rattle.vb_nodes.proofs.NodeLaws.{node-of, node-past, parent-below}
use Rattle.vb_nodes.proofs.Placing.{folder_used, held_used, node-fits, root_node}
use Rattle.vb_nodes.proofs.Rooted.{named-part}
use Rattle.vb_nodes.proofs.TreeFacts.{depth-next, entry-of-tree, own_part-entry, path-next, path-of-root, root-of-tree}
use Rattle.vb_nodes.proofs.WalkLaws.{held-of-at, held_free, paths_lead}
use Rattle.vb_path.specs.Parts.{IsPart}
use Rattle.vb_plan.specs.Conditions.{CanSeal}
use Rattle.vb_plan.specs.Following.{IsNextTree}
use Rattle.vb_plan.specs.Laws.{nodes_next, slots_next}
use Rattle.vb_plan.specs.Plans.{Basis, all_held, node_in}
use Rattle.vb_plan.proofs.NextTrees.{length-nodes_next, next_at, next_tree, refs_next, used_next}
use Rattle.vb_plan.proofs.Slots.{holds_in_slots, length-by_slot}
use Rattle.vb_tree.specs.Renames.{is_deep}
use Rattle.vb_tree.specs.Trees.{data_pages_of}

-- each slot holds the node that stands there, with a reference for each of its pages, and nothing where that one is free
record HoldsNodes (nodes : List Node) (held : List (Option Held)) : Type 0 where
  pub as_many : length held ≡ length nodes
  pub is : (slot : ℕ) (one : Held) → held_at held slot ≡ Some one → node_at nodes slot ≡ one.node
  pub used : (slot : ℕ) (one : Held) → held_at held slot ≡ Some one → is_free one.node.kind ≡ false
  pub free : (slot : ℕ) → held_at held slot ≡ None → is_free (node_at nodes slot).kind ≡ true
  pub refs : (slot : ℕ) (one : Held) → held_at held slot ≡ Some one → length one.refs ≡ data_pages_of one.node.length

-- ---- what a slot holds

there : (nodes : List Node) (held : List (Option Held)) (slot : ℕ) (one : Held) → HoldsNodes nodes held → held_at held slot ≡ Some one → slot < length nodes
there nodes held slot one h at = omega (arith, held_in_table held slot one at, h.as_many)

used_at : (nodes : List Node) (held : List (Option Held)) (slot : ℕ) (one : Held) → HoldsNodes nodes held → held_at held slot ≡ Some one → is_free (node_at nodes slot).kind ≡ false
used_at nodes held slot one h at = ap (λ (n : Node). is_free n.kind) (h.is slot one at) ∙ h.used slot one at

-- a node that isn't free is held
held_there : (nodes : List Node) (held : List (Option Held)) (slot : ℕ) → HoldsNodes nodes held → is_free (node_at nodes slot).kind ≡ false → (one : Held) × (held_at held slot ≡ Some one)
held_there nodes held slot h used = by (held_at held slot) refl where
  by : (o : Option Held) → held_at held slot ≡ o → (one : Held) × (held_at held slot ≡ Some one)
  by None at = absurd (false≢true (sym used ∙ h.free slot at))
  by (Some one) at = (one, at)

folder_at : (nodes : List Node) (held : List (Option Held)) (slot : ℕ) → HoldsNodes nodes held → is_folder_node (node_at nodes slot).kind ≡ true → holds_folder (held_at held slot) ≡ true
folder_at nodes held slot h folder =
    let one = held_there nodes held slot h (folder_used (node_at nodes slot).kind folder) in
    ap holds_folder one.1 ∙ ap (λ (n : Node). is_folder_node n.kind) (sym (h.is slot one.0 one.1)) ∙ folder

-- ---- children

-- what the index of the nodes holds of a slot
of_held : (nodes : List Node) (slot : ℕ) (one : Held) → held_at (held_of nodes) slot ≡ Some one → (node_at nodes slot ≡ one.node) × (is_free (node_at nodes slot).kind ≡ false)
of_held nodes slot one at = by (is_free (node_at nodes slot).kind) refl where
  by : (b : Bool) → is_free (node_at nodes slot).kind ≡ b → (node_at nodes slot ≡ one.node) × (is_free (node_at nodes slot).kind ≡ false)
  by true free = absurd (let none : None ≡ Some one = sym (held-of-at nodes slot ∙ held_free (node_at nodes slot) free) ∙ at in cc none)
  by false used =
      let made : Held = record { node = node_at nodes slot; refs = replicate (data_pages_of (node_at nodes slot).length) blank_ref } in
      let same : Some made ≡ Some one = sym (held-of-at nodes slot ∙ held_used (node_at nodes slot) used) ∙ at in
      let is : made ≡ one = cc same in
      (ap (λ (x : Held). x.node) is, used)

-- the path of a node leads to its slot
leads : (nodes : List Node) (slot : ℕ) → IsNodeTree nodes → slot < length nodes → is_free (node_at nodes slot).kind ≡ false → slot_at (held_of nodes) (path_in nodes slot) ≡ Some slot
leads nodes slot tree within used = (paths_lead nodes (path_in nodes slot) slot tree).1 (record { there = within; used = used; leads = refl })

-- so each node is the child of its name in its folder
own_child : (nodes : List Node) (slot : ℕ) → IsNodeTree nodes → slot < length nodes → 0 < slot → is_free (node_at nodes slot).kind ≡ false → child_of (held_of nodes) (parent_in nodes slot) (node_at nodes slot).name ≡ Some slot
own_child nodes slot tree within above used =
    let entry = entry-of-tree nodes slot tree above within used in
    let root = root-of-tree nodes tree in
    let parent : ℕ = parent_in nodes slot in
    let name : List ℕ = (node_at nodes slot).name in
    let path : path_in nodes slot ≡ path_in nodes parent ++ name ∷ [] = path-next nodes slot root.1 entry.rooted ∙ ap (λ (p : List (List ℕ)). path_in nodes parent ++ p) (own_part-entry nodes slot above) in
    let up = leads nodes parent tree (parent-below nodes slot tree.by_slot tree.some) (folder_used (node_at nodes parent).kind entry.in_folder) in
    let last : slot_at (held_of nodes) (path_in nodes parent ++ name ∷ []) ≡ child_of (held_of nodes) parent name =
    walk-snoc (child_of (held_of nodes)) 0 (path_in nodes parent) name ∙ ap (option_and_then (λ t. child_of (held_of nodes) t name)) up in
    sym last ∙ ap (slot_at (held_of nodes)) (sym path) ∙ leads nodes slot tree within used

own_held : (nodes : List Node) (k : ℕ) (one : Held) → IsNodeTree nodes → held_at (held_of nodes) k ≡ Some one → (one.node.slot ≡ k) × (0 < k → child_of (held_of nodes) one.node.parent one.node.name ≡ Some k)
own_held nodes k one tree at =
    let is = of_held nodes k one at in
    let within : k < length nodes = below k is.1 in (
      ap (λ (n : Node). n.slot) (sym is.0) ∙ tree.by_slot.own_slots k within,
      λ above. ap (λ (n : Node). child_of (held_of nodes) n.parent n.name) (sym is.0) ∙ own_child nodes k tree within above is.1,
    )
  where
    below : (slot : ℕ) → is_free (node_at nodes slot).kind ≡ false → slot < length nodes
    below slot used = elim (cases_lt slot (length nodes)) [
      | inl within ↦ within
      | inr past ↦ absurd (false≢true (sym used ∙ ap (λ (n : Node). is_free n.kind) (node-past nodes slot past)))
    ]

-- a slot is a child in both indexes or in none
child_test : (nodes : List Node) (held : List (Option Held)) (parent : ℕ) (name : List ℕ) (k : ℕ) → HoldsNodes nodes held → is_child parent name (held_at held k) ≡ is_child parent name (held_at (held_of nodes) k)
child_test nodes held parent name k h = by (held_at held k) refl where
  by : (o : Option Held) → held_at held k ≡ o → is_child parent name (held_at held k) ≡ is_child parent name (held_at (held_of nodes) k)
  by None at = ap (is_child parent name) at ∙ sym (ap (is_child parent name) (held-of-at nodes k ∙ held_free (node_at nodes k) (h.free k at)))
  by (Some one) at =
      ap (is_child parent name) at
      ∙ ap (λ (n : Node). not (n.slot == 0) && (n.parent == parent && same_name n.name name)) (sym (h.is k one at))
      ∙ sym (ap (is_child parent name) (held-of-at nodes k ∙ held_used (node_at nodes k) (used_at nodes held k one h at)))

child_same : (nodes : List Node) (held : List (Option Held)) (parent : ℕ) (name : List ℕ) → IsNodeTree nodes → HoldsNodes nodes held → child_of held parent name ≡ child_of (held_of nodes) parent name
child_same nodes held parent name tree h = by (child_of held parent name) (child_of (held_of nodes) parent name) refl refl where
  test : (k : ℕ) → is_child parent name (held_at held k) ≡ is_child parent name (held_at (held_of nodes) k)
  test k = child_test nodes held parent name k h

  some_of : (o : Option Held) → is_child parent name o ≡ true → (one : Held) × (o ≡ Some one)
  some_of None e = absurd (false≢true e)
  some_of (Some one) e = (one, refl)

  in_both : (k : ℕ) → is_child parent name (held_at (held_of nodes) k) ≡ true → k < length (held_of nodes)
  in_both k e = let one = some_of (held_at (held_of nodes) k) e in held_in_table (held_of nodes) k one.0 one.1

  by_child : (k : ℕ) → is_child parent name (held_at (held_of nodes) k) ≡ true → k < length held
  by_child k e = let one = some_of (held_at held k) (test k ∙ e) in held_in_table held k one.0 one.1

  by : (a b : Option ℕ) → child_of held parent name ≡ a → child_of (held_of nodes) parent name ≡ b → child_of held parent name ≡ child_of (held_of nodes) parent name
  by None None first second = first ∙ sym second
  by None (Some k) first second =
      let is = child_of-Some (held_of nodes) parent name k second in
      let one = by_child k is.1 in
      absurd (false≢true (sym (child_of-None held parent name k first one) ∙ test k ∙ is.1))
  by (Some k) None first second =
      let is = child_of-Some held parent name k first in
      let within : k < length (held_of nodes) = in_both k (sym (test k) ∙ is.1) in
      absurd (false≢true (sym (child_of-None (held_of nodes) parent name k second within) ∙ sym (test k) ∙ is.1))
  by (Some k) (Some slot) first second =
      let is = child_of-Some held parent name k first in
      let same : k ≡ slot = child-unique (held_of nodes) (λ j one at. own_held nodes j one tree at) parent name k slot second (sym (test k) ∙ is.1) in
      first ∙ ap (λ (n : ℕ). let o : Option ℕ = Some n in o) same ∙ sym second

-- ---- paths

path_same : (nodes : List Node) (held : List (Option Held)) (path : List (List ℕ)) → IsNodeTree nodes → HoldsNodes nodes held → slot_at held path ≡ slot_at (held_of nodes) path
path_same nodes held path tree h = walk-same (child_of (held_of nodes)) (child_of held) (λ t y. child_same nodes held t y tree h) path 0

nothing : (path : List (List ℕ)) → length path ≤ 0 → [] ≡ path
nothing [] few = refl
nothing (p ∷ ps) few = absurd (omega arith)

-- the parents of a slot make the path that the nodes say
up_is : (nodes : List Node) (held : List (Option Held)) (steps slot : ℕ) → IsNodeTree nodes → HoldsNodes nodes held → slot < length nodes → is_free (node_at nodes slot).kind ≡ false → depth_of nodes slot ≤ steps → held_up held steps slot ≡ path_in nodes slot
up_is nodes held zero slot tree h within used few = nothing (path_in nodes slot) few
up_is nodes held (suc n) zero tree h within used few = sym (path-of-root nodes enough_steps (root-of-tree nodes tree).1)
up_is nodes held (suc n) (suc k) tree h within used few =
    let entry = entry-of-tree nodes (suc k) tree (omega arith) within used in
    let root = root-of-tree nodes tree in
    let parent : ℕ = parent_in nodes (suc k) in
    let deeper = depth-next nodes (suc k) root.1 entry.rooted (omega arith) in
    let one = held_there nodes held (suc k) h used in
    let node : one.0.node ≡ node_at nodes (suc k) = sym (h.is (suc k) one.0 one.1) in
    let up = up_is nodes held n (parent_in nodes (suc k)) tree h (parent-below nodes (suc k) tree.by_slot tree.some) (folder_used (node_at nodes (parent_in nodes (suc k))).kind entry.in_folder) (omega (arith, deeper, few)) in
    ap (λ (b : Bool). cond b [] (held_up held n (parent_at held (suc k)) ++ name_at held (suc k) ∷ [])) (ne_eqb (suc k) 0 (λ e. omega arith))
    ∙ ap (λ (o : Option Held). held_up held n (held_parent o) ++ name_in o ∷ []) one.1
    ∙ ap (λ (x : Node). held_up held n x.parent ++ x.name ∷ []) node
    ∙ ap (λ (p : List (List ℕ)). p ++ (node_at nodes (suc k)).name ∷ []) up
    ∙ ap (λ (p : List (List ℕ)). path_in nodes (parent_in nodes (suc k)) ++ p) (sym (own_part-entry nodes (suc k) (omega arith)))
    ∙ sym (path-next nodes (suc k) root.1 entry.rooted)

few_parts : (nodes : List Node) (slot : ℕ) → IsNodeTree nodes → slot < length nodes → is_free (node_at nodes slot).kind ≡ false → (depth_of nodes slot ≤ 32) × (is_deep (path_in nodes slot) ≡ false)
few_parts nodes slot tree within used = elim (cases_lt 0 slot) [
  | inl above ↦ (let entry = entry-of-tree nodes slot tree above within used in (entry.shallow, entry.fits))
  | inr none ↦
      let is : slot ≡ 0 = omega (arith, none) in
      let root = root-of-tree nodes tree in
      let empty : path_in nodes slot ≡ [] = ap (path_in nodes) is ∙ path-of-root nodes enough_steps root.1 in
      (omega (arith, ap length empty), ap is_deep empty)
]

path_is : (nodes : List Node) (held : List (Option Held)) (slot : ℕ) (one : Held) → IsNodeTree nodes → HoldsNodes nodes held → held_at held slot ≡ Some one → path_to held slot ≡ path_in nodes slot
unfolding path_to
path_is nodes held slot one tree h at =
    let within = there nodes held slot one h at in
    let used = used_at nodes held slot one h at in
    up_is nodes held 32 slot tree h within used (few_parts nodes slot tree within used).0

-- ---- the table

table_of : (nodes : List Node) (held : List (Option Held)) → IsNodeTree nodes → HoldsNodes nodes held → IsTable held
table_of nodes held tree h = record {
  few = omega (arith, tree.few, h.as_many);
  root = folder_at nodes held 0 h (root-of-tree nodes tree).0;
  fits = λ slot one at.
      let node = h.is slot one at in
      let within = there nodes held slot one h at in
      let of : IsNodeOf (length nodes) one.node = subst (λ (n : Node). IsNodeOf (length nodes) n) node (node-of nodes slot tree.by_slot within) in
      let fits = node-fits (length nodes) one.node (replicate (data_pages_of one.node.length) blank_ref) of (h.used slot one at) refl in
      record {
        at_slot = ap (λ (n : Node). n.slot) (sym node) ∙ tree.by_slot.own_slots slot within;
        either = fits.either;
        folder_empty = fits.folder_empty;
        short = fits.short;
        each_page = h.refs slot one at;
      };
  in_folder = λ slot one at above.
      let entry = entry-of-tree nodes slot tree above (there nodes held slot one h at) (used_at nodes held slot one h at) in
      subst (λ (n : Node). holds_folder (held_at held n.parent) ≡ true) (h.is slot one at) (folder_at nodes held (parent_in nodes slot) h entry.in_folder);
  one_name = λ slot one at above.
      subst (λ (n : Node). child_of held n.parent n.name ≡ Some slot) (h.is slot one at)
      (child_same nodes held (parent_in nodes slot) (node_at nodes slot).name tree h
      ∙ own_child nodes slot tree (there nodes held slot one h at) above (used_at nodes held slot one h at));
}

rooted_of : (nodes : List Node) (held : List (Option Held)) → IsNodeTree nodes → HoldsNodes nodes held → IsRooted held
rooted_of nodes held tree h =
    let root = held_there nodes held 0 h (folder_used (node_at nodes 0).kind (root-of-tree nodes tree).0) in
    let node : root.0.node ≡ root_held.node = sym (h.is 0 root.0 root.1) ∙ root_node nodes tree in
    record {
      own_parent = ap held_parent root.1 ∙ ap (λ (n : Node). n.parent) node;
      no_name = ap name_in root.1 ∙ ap (λ (n : Node). n.name) node;
      valid = λ slot one at above.
          let within = there nodes held slot one h at in
          let own = tree.by_slot.own_slots slot within in
          let of = node-of nodes slot tree.by_slot within in
          subst (λ (n : Node). IsPart n.name) (h.is slot one at)
          (named-part slot (node_at nodes slot).kind (node_at nodes slot).name above (used_at nodes held slot one h at)
          (subst (λ (s : ℕ). may_be_named s (node_at nodes slot).kind (node_at nodes slot).name ≡ true) own of.in_range.named));
      leads = λ slot one at.
          ap (slot_at held) (path_is nodes held slot one tree h at) ∙ path_same nodes held (path_in nodes slot) tree h
          ∙ leads nodes slot tree (there nodes held slot one h at) (used_at nodes held slot one h at);
      shallow = λ slot one at.
          ap is_deep (path_is nodes held slot one tree h at) ∙ (few_parts nodes slot tree (there nodes held slot one h at) (used_at nodes held slot one h at)).1;
    }

-- ---- after a commit

next_holds : (basis : Basis) (next : List NextNode) → IsNextTree (length basis.nodes) next → HoldsNodes (nodes_next basis next) (slots_next basis next)
next_holds basis next tree =
    let many : length (slots_next basis next) ≡ length basis.nodes = length-by_slot (length basis.nodes) (all_held basis 0 next) in
    record {
      as_many = many ∙ sym (length-nodes_next basis next);
      is = λ slot one at.
          next_at basis next slot free_node (omega (arith, held_in_table (slots_next basis next) slot one at, many))
          ∙ ap (λ (o : Option Held). node_in slot (option_map (λ (x : Held). x.node) o)) at;
      used = λ slot one at. holds_in_slots (λ (x : Held). is_free x.node.kind ≡ false) (length basis.nodes) (all_held basis 0 next) (used_next basis next tree.nodes) slot one at;
      free = λ slot at. elim (cases_lt slot (length basis.nodes)) [
        | inl within ↦ ap (λ (n : Node). is_free n.kind) (next_at basis next slot free_node within ∙ ap (λ (o : Option Held). node_in slot (option_map (λ (x : Held). x.node) o)) at)
        | inr past ↦ ap (λ (n : Node). is_free n.kind) (node-past (nodes_next basis next) slot (omega (arith, past, length-nodes_next basis next)))
      ];
      refs = λ slot one at. holds_in_slots (λ (x : Held). length x.refs ≡ data_pages_of x.node.length) (length basis.nodes) (all_held basis 0 next) (refs_next basis next tree.nodes) slot one at;
    }

-- what the slots hold after the commit of a tree is a table that hangs on its root
pub next-table : (basis : Basis) (next : List NextNode) → IsNextTree (length basis.nodes) next → CanSeal basis next → length basis.nodes ≤ 65536 → IsTable (slots_next basis next) × IsRooted (slots_next basis next)
next-table basis next tree seal few =
    let nodes = next_tree basis next tree seal few in
    let holds = next_holds basis next tree in
    (table_of (nodes_next basis next) (slots_next basis next) nodes holds, rooted_of (nodes_next basis next) (slots_next basis next) nodes holds)
