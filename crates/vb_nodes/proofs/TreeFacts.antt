-- What holds of the slots of nodes that are a tree.
use Rattle.std.proofs.Common.{◌≡◌, ℕ, zero, suc, ◌+◌, ◌<◌, ◌≤◌, Bool, true, false, not, cond, ◌||◌, ◌==◌, nat_lt, List, [], ◌∷◌, ◌++◌, length, Option, None, inl, inr, refl, sym, ap, ◌∙◌, arith}
use Rattle.std.proofs.lemmas.Bool.{and_parts, cases_Bool, cases_lt, false≢true, eqb-true, ltb-false}
use Rattle.std.proofs.lemmas.List.{append-nil, length-append}
use Rattle.vb_block.specs.declared.why.Why.{Why}
use Rattle.vb_block.specs.declared.why.Why.TheVariants.{Root, Parent, Cycle, SameName, Deep}
use Rattle.vb_tree.specs.Renames.{is_deep}
use Rattle.vb_path.specs.Paths.{text_of_path}
use Rattle.vb_inode.specs.declared.node.Node.{Node}
use Rattle.vb_inode.specs.Nodes.{is_free}
use Rattle.vb_index.specs.Nodes.{is_folder_node}
use Rattle.vb_nodes.specs.Paths.{ancestor, enough_steps, leads_to_root, node_at, own_part, parent_in, path_in, path_up}
use Rattle.vb_nodes.specs.Faults.{fault_of_entry, fault_of_slot, has_lower_twin, is_root_node, refuse, IsNodeTree}
use Rattle.vb_nodes.specs.Building.{depth_of}
use Rattle.vb_nodes.proofs.Climbs.{path_up-add}
use Rattle.vb_nodes.proofs.Judging.{fault-none-at}

refuse_none : (t : Bool) (why : Why) (next : Option Why) → refuse t why next ≡ None → (t ≡ false) × (next ≡ None)
refuse_none true why next e = absurd cc
refuse_none false why next e = (refl, e)

true_from_not : (b : Bool) → not b ≡ false → b ≡ true
true_from_not true e = refl
true_from_not false e = absurd (false≢true (sym e))

eqb_false : (a b : ℕ) → (a ≡ b → ⊥) → (a == b) ≡ false
eqb_false a b ne = elim (cases_Bool (a == b)) [ inl e ↦ absurd (ne (eqb-true a b e)) | inr e ↦ e ]

-- a path that isn't too deep has at most 32 parts
pub few-parts : (path : List (List ℕ)) → is_deep path ≡ false → length path ≤ 32
few-parts path h = ltb-false 32 (length path) (second (nat_lt 1024 (length (text_of_path path))) (nat_lt 32 (length path)) h) where
  second : (a b : Bool) → (a || b) ≡ false → b ≡ false
  second true b h = absurd (false≢true (sym h))
  second false b h = h

-- the entry in a slot keeps every rule
pub record IsEntryOf (nodes : List Node) (slot : ℕ) : Type 0 where
  pub in_folder : is_folder_node (node_at nodes (parent_in nodes slot)).kind ≡ true
  pub rooted : ancestor nodes enough_steps slot ≡ 0
  pub alone : has_lower_twin nodes slot ≡ false
  pub shallow : depth_of nodes slot ≤ 32
  pub fits : is_deep (path_in nodes slot) ≡ false

entry_from_none : (nodes : List Node) (slot : ℕ) → fault_of_entry nodes slot ≡ None → IsEntryOf nodes slot
entry_from_none nodes slot e =
    let one = refuse_none (not (is_folder_node (node_at nodes (parent_in nodes slot)).kind)) Parent (refuse (not (leads_to_root nodes slot)) Cycle (refuse (has_lower_twin nodes slot) SameName (refuse (is_deep (path_in nodes slot)) Deep None))) e in
    let two = refuse_none (not (leads_to_root nodes slot)) Cycle (refuse (has_lower_twin nodes slot) SameName (refuse (is_deep (path_in nodes slot)) Deep None)) one.1 in
    let three = refuse_none (has_lower_twin nodes slot) SameName (refuse (is_deep (path_in nodes slot)) Deep None) two.1 in
    let four = refuse_none (is_deep (path_in nodes slot)) Deep None three.1 in
    record {
      in_folder = true_from_not _ one.0;
      rooted = eqb-true (ancestor nodes enough_steps slot) 0 (true_from_not _ two.0);
      alone = three.0;
      shallow = few-parts (path_in nodes slot) four.0;
      fits = four.0;
    }

-- the entry in a slot that isn't free, of a tree
pub entry-of-tree : (nodes : List Node) (slot : ℕ) → IsNodeTree nodes → 0 < slot → slot < length nodes → is_free (node_at nodes slot).kind ≡ false → IsEntryOf nodes slot
entry-of-tree nodes slot tree above lt used =
    let fine = fault-none-at nodes (length nodes) slot tree.no_fault lt in
    let not_root : (slot == 0) ≡ false = eqb_false slot 0 (λ e. omega arith) in
    let is : fault_of_slot nodes slot ≡ fault_of_entry nodes slot =
    ap (λ (b : Bool). cond b (refuse (not (is_root_node (node_at nodes 0))) Root None) (cond (is_free (node_at nodes slot).kind) None (fault_of_entry nodes slot))) not_root
    ∙ ap (λ (b : Bool). cond b None (fault_of_entry nodes slot)) used in
    entry_from_none nodes slot (sym is ∙ fine)

-- slot 0 of a tree has the root
pub root-of-tree : (nodes : List Node) → IsNodeTree nodes → (is_folder_node (node_at nodes 0).kind ≡ true) × (parent_in nodes 0 ≡ 0)
root-of-tree nodes tree =
    let fine = fault-none-at nodes (length nodes) 0 tree.no_fault tree.some in
    let root = refuse_none (not (is_root_node (node_at nodes 0))) Root None fine in
    let both = and_parts (is_folder_node (node_at nodes 0).kind) (parent_in nodes 0 == 0) (true_from_not _ root.0) in
    (both.0, eqb-true (parent_in nodes 0) 0 both.1)

-- ---- depths

-- the root's path has no parts
pub path-of-root : (nodes : List Node) (steps : ℕ) → parent_in nodes 0 ≡ 0 → path_up nodes steps 0 ≡ []
path-of-root nodes zero e = refl
path-of-root nodes (suc n) e = append-nil (path_up nodes n (parent_in nodes 0)) ∙ ap (path_up nodes n) e ∙ path-of-root nodes n e

-- the part of an entry is its name
pub own_part-entry : (nodes : List Node) (slot : ℕ) → 0 < slot → own_part nodes slot ≡ (node_at nodes slot).name ∷ []
own_part-entry nodes slot above = ap (λ (b : Bool). cond b [] ((node_at nodes slot).name ∷ [])) (eqb_false slot 0 (λ e. omega arith))

one_part : (nodes : List Node) (slot : ℕ) → 0 < slot → length (own_part nodes slot) ≡ 1
one_part nodes slot above = ap length (own_part-entry nodes slot above)

-- an entry's path is its folder's, and then its own part
below_folder : (nodes : List Node) (m slot : ℕ) → parent_in nodes 0 ≡ 0 → ancestor nodes (suc m) slot ≡ 0 → path_up nodes (suc m) slot ≡ path_up nodes (suc m) (parent_in nodes slot) ++ own_part nodes slot
below_folder nodes m slot root up =
    let parent = parent_in nodes slot in
    let e : suc m ≡ m + 1 = omega arith in
    let last : path_up nodes 1 (ancestor nodes m parent) ≡ [] = ap (path_up nodes 1) up ∙ path-of-root nodes 1 root in
    let same : path_up nodes (suc m) parent ≡ path_up nodes m parent = ap (λ (n : ℕ). path_up nodes n parent) e ∙ path_up-add nodes m 1 parent ∙ ap (λ (p : List (List ℕ)). p ++ path_up nodes m parent) last in
    ap (λ (p : List (List ℕ)). p ++ own_part nodes slot) (sym same)

pub enough-suc : (m : ℕ) × (enough_steps ≡ suc m)
unfolding enough_steps
enough-suc = (131071, refl)

pub path-next : (nodes : List Node) (slot : ℕ) → parent_in nodes 0 ≡ 0 → ancestor nodes enough_steps slot ≡ 0 → path_in nodes slot ≡ path_in nodes (parent_in nodes slot) ++ own_part nodes slot
path-next nodes slot root up =
    let m = enough-suc.0 in
    let e = enough-suc.1 in
    let up_m : ancestor nodes (suc m) slot ≡ 0 = ap (λ (n : ℕ). ancestor nodes n slot) (sym e) ∙ up in
    ap (λ (n : ℕ). path_up nodes n slot) e ∙ below_folder nodes m slot root up_m ∙ ap (λ (n : ℕ). path_up nodes n (parent_in nodes slot) ++ own_part nodes slot) (sym e)

-- so it has one part more
pub depth-next : (nodes : List Node) (slot : ℕ) → parent_in nodes 0 ≡ 0 → ancestor nodes enough_steps slot ≡ 0 → 0 < slot → depth_of nodes slot ≡ depth_of nodes (parent_in nodes slot) + 1
depth-next nodes slot root up above =
    omega (arith, ap length (path-next nodes slot root up), length-append (path_in nodes (parent_in nodes slot)) (own_part nodes slot), one_part nodes slot above)

pub depth-of-root : (nodes : List Node) → parent_in nodes 0 ≡ 0 → depth_of nodes 0 ≡ 0
depth-of-root nodes root = ap length (path-of-root nodes enough_steps root)

-- every other slot's path has a part
pub depth-above : (nodes : List Node) (slot : ℕ) → 0 < slot → 0 < depth_of nodes slot
depth-above nodes slot above =
    let m = enough-suc.0 in
    let e : depth_of nodes slot ≡ length (path_up nodes (suc m) slot) = ap (λ (n : ℕ). length (path_up nodes n slot)) enough-suc.1 in
    omega (arith, e, length-append (path_up nodes m (parent_in nodes slot)) (own_part nodes slot), one_part nodes slot above)

-- a slot whose path has a part isn't the root's
pub above-root : (nodes : List Node) (slot : ℕ) → IsNodeTree nodes → 0 < depth_of nodes slot → 0 < slot
above-root nodes slot tree deep = elim (cases_lt 0 slot) [
  | inl above ↦ above
  | inr none ↦ absurd (let is : slot ≡ 0 = omega arith in let flat : depth_of nodes slot ≡ 0 = ap (depth_of nodes) is ∙ depth-of-root nodes (root-of-tree nodes tree).1 in omega arith)
]
