-- The index that the nodes of a tree make has the shape of each tree that has their entries.
use Rattle.std.proofs.Common.{◌≡◌, ℕ, Bool, true, false, not, cond, is_some, List, [], ◌∷◌, length, Option, Some, None, inl, inr, refl, sym, ap, ◌∙◌, arith}
use Rattle.std.specs.Option.{option_and_then, option_map}
use Rattle.std.proofs.lemmas.Bool.{cases_Bool, eqb-true}
use Rattle.std.proofs.lemmas.List.Sums.{sum_by-cons}
use Rattle.vb_inode.specs.declared.node.Node.{Node}
use Rattle.vb_inode.specs.Nodes.{is_free}
use Rattle.vb_tree.specs.declared.tree.Kind.TheVariants.{Folder}
use Rattle.vb_tree.specs.declared.tree.TreeEntry.{TreeEntry}
use Rattle.vb_tree.specs.Trees.{entry_at, is_root}
use Rattle.vb_index.specs.Nodes.{held_at, nodes_in, nodes_of_slot, slot_at}
use Rattle.vb_index.specs.Indexes.{Shape, shape_at, shape_of, shape_of_entry, HasShapeOf}
use Rattle.vb_nodes.specs.Paths.{node_at}
use Rattle.vb_nodes.specs.Faults.{IsNodeTree}
use Rattle.vb_nodes.specs.Holdings.{held_from, held_of}
use Rattle.vb_nodes.specs.Walking.{node_shape, used_in, HasEntriesOf}
use Rattle.vb_nodes.proofs.Placing.{held_used, root_node}
use Rattle.vb_nodes.proofs.WalkLaws.{held-of-at, held_free, pages_stay, paths_lead}

-- the shape at a slot
shape-of-slot : (nodes : List Node) (slot : ℕ) → is_free (node_at nodes slot).kind ≡ false → option_map shape_of (held_at (held_of nodes) slot) ≡ Some (node_shape (node_at nodes slot))
shape-of-slot nodes slot used = ap (option_map shape_of) (held-of-at nodes slot ∙ held_used (node_at nodes slot) used)

-- the same shape at the root
root_same : (nodes : List Node) → IsNodeTree nodes → shape_at (held_of nodes) [] ≡ Some (let s : Shape = record { kind = Folder; len = 0 } in s)
root_same nodes tree =
    let is = root_node nodes tree in
    shape-of-slot nodes 0 (ap (λ (node : Node). is_free node.kind) is) ∙ ap (λ (node : Node). Some (node_shape node)) is

-- and at every other path
entry_same : (nodes : List Node) (tree : List TreeEntry) (path : List (List ℕ)) → IsNodeTree nodes → HasEntriesOf nodes tree → is_root path ≡ false → shape_at (held_of nodes) path ≡ option_map shape_of_entry (entry_at path tree)
entry_same nodes tree path is has below = by (slot_at (held_of nodes) path) refl where
  at : Option ℕ → Option Shape
  at o = option_and_then (λ slot. option_map shape_of (held_at (held_of nodes) slot)) o

  nowhere : slot_at (held_of nodes) path ≡ None → (o : Option TreeEntry) → entry_at path tree ≡ o → None ≡ option_map shape_of_entry o
  nowhere none None e = refl
  nowhere none (Some entry) e =
      let found = has.only path (ap is_some e) in
      let there : slot_at (held_of nodes) path ≡ Some found.0 = (paths_lead nodes path found.0 is).1 found.1 in
      absurd (let clash : None ≡ Some found.0 = sym none ∙ there in cc)

  by : (o : Option ℕ) → slot_at (held_of nodes) path ≡ o → shape_at (held_of nodes) path ≡ option_map shape_of_entry (entry_at path tree)
  by (Some slot) e =
      let found = (paths_lead nodes path slot is).0 e in
      ap (λ (o : Option ℕ). option_and_then (λ s. option_map shape_of (held_at (held_of nodes) s)) o) e
      ∙ shape-of-slot nodes slot found.used
      ∙ sym (has.found path slot found below)
  by None e =
      ap (λ (o : Option ℕ). option_and_then (λ s. option_map shape_of (held_at (held_of nodes) s)) o) e
      ∙ nowhere e (entry_at path tree) refl

nodes_held : (node : Node) (b : Bool) → is_free node.kind ≡ b → nodes_of_slot (held_from node) ≡ cond (not b) 1 0
nodes_held node true free = ap nodes_of_slot (held_free node free)
nodes_held node false used = ap nodes_of_slot (held_used node used)

nodes_stay : (nodes : List Node) → nodes_in (held_of nodes) ≡ used_in nodes
nodes_stay [] = refl
nodes_stay (node ∷ nodes) =
    let first = nodes_held node (is_free node.kind) refl in
    sum_by-cons nodes_of_slot (held_from node) (held_of nodes) ∙ omega (arith, first, nodes_stay nodes, sum_by-cons (λ (n : Node). cond (not (is_free n.kind)) 1 0) node nodes)

-- the index has the shape of the tree
pub same_shape : (nodes : List Node) (tree : List TreeEntry) → IsNodeTree nodes → HasEntriesOf nodes tree → HasShapeOf (held_of nodes) tree
same_shape nodes tree is has = record {
  same = λ path. elim (cases_Bool (is_root path)) [
    | inl e ↦ (let empty : path ≡ [] = no_parts path (eqb-true (length path) 0 e) in
        ap (shape_at (held_of nodes)) empty ∙ root_same nodes is ∙ sym (ap (λ (b : Bool). cond b (Some (let s : Shape = record { kind = Folder; len = 0 } in s)) (option_map shape_of_entry (entry_at path tree))) e))
    | inr e ↦ entry_same nodes tree path is has e ∙ sym (ap (λ (b : Bool). cond b (Some (let s : Shape = record { kind = Folder; len = 0 } in s)) (option_map shape_of_entry (entry_at path tree))) e)
  ];
  as_many = nodes_stay nodes ∙ sym has.as_many;
  as_large = pages_stay nodes is.by_slot ∙ sym has.as_large;
} where
  no_parts : (path : List (List ℕ)) → length path ≡ 0 → path ≡ []
  no_parts [] e = refl
  no_parts (part ∷ path) e = absurd (omega arith)
