-- The parents of a list that is a tree are slots of the store.
use Rattle.std.proofs.Common.{◌≡◌, ℕ, ◌<◌, ◌==◌, Bool, true, false, not, cond, List, length, get_or, All, Option, None, inl, inr, refl, sym, ap, ◌∙◌, arith}
use Rattle.std.specs.Option.{option_map}
use Rattle.std.proofs.lemmas.Bool.{and_parts, cases_lt, eqb-true, false≢true}
use Rattle.std.proofs.lemmas.Bool.Decides.{Decides-eqb}
use Rattle.std.proofs.lemmas.List.{get_or_past}
use Rattle.std.proofs.lemmas.List.FromFn.{get_or-map-range_with_len, length-map-range_with_len}
use Rattle.vb_block.specs.declared.why.Why.{Why}
use Rattle.vb_block.specs.declared.why.Why.TheVariants.{Root, Parent, Cycle, SameName, Deep}
use Rattle.vb_tree.specs.Renames.{is_deep}
use Rattle.vb_inode.specs.declared.node.Node.{Node}
use Rattle.vb_inode.specs.declared.next_view.NextNode.{NextNode}
use Rattle.vb_inode.specs.Nodes.{is_free}
use Rattle.vb_index.specs.Nodes.{is_folder_node}
use Rattle.vb_nodes.specs.Paths.{free_node, leads_to_root, node_at as node_of, parent_in, path_in}
use Rattle.vb_nodes.specs.Faults.{fault_of_entry, fault_of_slot, has_lower_twin, is_root_node, refuse}
use Rattle.vb_nodes.proofs.Judging.{fault-none-at}
use Rattle.vb_plan.specs.Following.{node_of_slot, nodes_by_slot, IsNextTree}
use Rattle.vb_plan.specs.Plans.{node_in}
use Rattle.vb_plan.proofs.Listed.{only-found}

passed : (t : Bool) (why : Why) (rest : Option Why) → refuse t why rest ≡ None → t ≡ false
passed true why rest e = absurd (cc)
passed false why rest e = refl

true_from : (b : Bool) → not b ≡ false → b ≡ true
true_from true e = refl
true_from false e = absurd (false≢true (sym e))

-- a node by slot
pub by_slot_at : (slots slot : ℕ) (next : List NextNode) → slot < slots → node_of (nodes_by_slot slots next) slot ≡ node_in slot (node_of_slot next slot)
by_slot_at slots slot next within = get_or-map-range_with_len (λ slot. node_in slot (node_of_slot next slot)) 0 slots slot slot free_node within (omega arith)

-- a node of the list stands in its slot
pub in_slot : (slots k : ℕ) (next : List NextNode) (d : NextNode) → IsNextTree slots next → k < length next → node_of (nodes_by_slot slots next) (get_or next k d).node.slot ≡ (get_or next k d).node
in_slot slots k next d tree within =
    let x = get_or next k d in
    let own : (x.node.slot == x.node.slot) ≡ true = (Decides-eqb x.node.slot x.node.slot).1 refl in
    by_slot_at slots x.node.slot next (tree.nodes k d within).slot
    ∙ ap (λ (o : Option NextNode). node_in x.node.slot (option_map (λ x. x.node) o)) (only-found (λ (y : NextNode). y.node.slot == x.node.slot) next k d (tree.own_slot x.node.slot) within own)

-- a slot past the end has no folder
folder_below : (nodes : List Node) (slot : ℕ) → is_folder_node (node_of nodes slot).kind ≡ true → slot < length nodes
folder_below nodes slot folder = elim (cases_lt slot (length nodes)) [
  | inl below ↦ below
  | inr past ↦ absurd (false≢true (sym (ap (λ (n : Node). is_folder_node n.kind) (get_or_past nodes slot free_node past)) ∙ folder))
]

-- the parent of a node that has no fault is below the end
parent_of_used : (nodes : List Node) (slot : ℕ) → 0 < length nodes → is_free (node_of nodes slot).kind ≡ false → fault_of_slot nodes slot ≡ None → parent_in nodes slot < length nodes
parent_of_used nodes slot some used fine = by (slot == 0) refl where
  entry : fault_of_entry nodes slot ≡ None → parent_in nodes slot < length nodes
  entry e = folder_below nodes (parent_in nodes slot) (true_from _ (passed (not (is_folder_node (node_of nodes (parent_in nodes slot)).kind)) Parent (refuse (not (leads_to_root nodes slot)) Cycle (refuse (has_lower_twin nodes slot) SameName (refuse (is_deep (path_in nodes slot)) Deep None))) e))

  by : (b : Bool) → (slot == 0) ≡ b → parent_in nodes slot < length nodes
  by true e =
      let root = passed (not (is_root_node (node_of nodes 0))) Root None (sym (ap (λ (b : Bool). cond b (refuse (not (is_root_node (node_of nodes 0))) Root None) (cond (is_free (node_of nodes slot).kind) None (fault_of_entry nodes slot))) e) ∙ fine) in
      let both = and_parts (is_folder_node (node_of nodes 0).kind) (parent_in nodes 0 == 0) (true_from _ root) in
      let at : slot ≡ 0 = eqb-true slot 0 e in
      omega (arith, some, ap (parent_in nodes) at, eqb-true (parent_in nodes 0) 0 both.1)
  by false e =
      entry (
      sym (ap (λ (b : Bool). cond b None (fault_of_entry nodes slot)) used)
      ∙ sym (ap (λ (b : Bool). cond b (refuse (not (is_root_node (node_of nodes 0))) Root None) (cond (is_free (node_of nodes slot).kind) None (fault_of_entry nodes slot))) e)
      ∙ fine)

-- so is each of a list that is a tree
pub parents_below : (slots : ℕ) (next : List NextNode) → IsNextTree slots next → All (λ x. x.node.parent < slots) next
parents_below slots next tree k d within =
    let x = get_or next k d in
    let nodes = nodes_by_slot slots next in
    let is = tree.nodes k d within in
    let count : length nodes ≡ slots = length-map-range_with_len (λ slot. node_in slot (node_of_slot next slot)) 0 slots in
    let there = in_slot slots k next d tree within in
    let below = parent_of_used nodes x.node.slot (omega (arith, count, is.slot)) (ap (λ (n : Node). is_free n.kind) there ∙ is.used) (fault-none-at nodes (length nodes) x.node.slot tree.no_fault (omega (arith, count, is.slot))) in
    omega (arith, below, count, ap (λ (n : Node). n.parent) there)
