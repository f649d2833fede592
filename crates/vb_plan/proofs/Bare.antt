-- What a mount finds wrong with nodes doesn't look at their map references.
use Rattle.std.proofs.Common.{◌≡◌, ℕ, zero, suc, Bool, not, cond, ◌||◌, ◌==◌, List, [], ◌∷◌, ◌++◌, length, take, map, Option, None, refl, sym, ap, ◌∙◌}
use Rattle.std.specs.List.{list_any}
use Rattle.std.specs.Option.{option_map, option_or}
use Rattle.std.proofs.lemmas.List.{length-map}
use Rattle.vb_block.specs.declared.why.Why.{Why}
use Rattle.vb_block.specs.declared.why.Why.TheVariants.{Root, Parent, Cycle, SameName, Deep}
use Rattle.vb_inode.specs.declared.node.Node.{Node}
use Rattle.vb_inode.specs.Nodes.{is_free}
use Rattle.vb_index.specs.Nodes.{is_folder_node}
use Rattle.vb_tree.specs.Renames.{is_deep}
use Rattle.vb_nodes.specs.Paths.{ancestor, enough_steps, leads_to_root, node_at, own_part, parent_in, path_in, path_up}
use Rattle.vb_nodes.specs.Faults.{fault_below, fault_of_entry, fault_of_slot, has_lower_twin, is_entry, is_root_node, refuse, table_fault, Fault}

-- a node without map references
abbrev pub bare : Node → Node
bare node = record node { maps = [] }

pub bare_at : (nodes : List Node) (slot : ℕ) → node_at (map bare nodes) slot ≡ bare (node_at nodes slot)
bare_at [] slot = refl
bare_at (node ∷ nodes) zero = refl
bare_at (node ∷ nodes) (suc slot) = bare_at nodes slot

same_parent : (nodes : List Node) (slot : ℕ) → parent_in (map bare nodes) slot ≡ parent_in nodes slot
same_parent nodes slot = ap (λ (n : Node). n.parent) (bare_at nodes slot)

same_ancestor : (nodes : List Node) (steps slot : ℕ) → ancestor (map bare nodes) steps slot ≡ ancestor nodes steps slot
same_ancestor nodes zero slot = refl
same_ancestor nodes (suc steps) slot = ap (ancestor (map bare nodes) steps) (same_parent nodes slot) ∙ same_ancestor nodes steps (parent_in nodes slot)

same_own : (nodes : List Node) (slot : ℕ) → own_part (map bare nodes) slot ≡ own_part nodes slot
same_own nodes slot = ap (λ (n : Node). cond (slot == 0) [] (n.name ∷ [])) (bare_at nodes slot)

same_path : (nodes : List Node) (steps slot : ℕ) → path_up (map bare nodes) steps slot ≡ path_up nodes steps slot
same_path nodes zero slot = refl
same_path nodes (suc steps) slot =
    ap (λ (parent : ℕ). path_up (map bare nodes) steps parent ++ own_part (map bare nodes) slot) (same_parent nodes slot)
    ∙ ap (λ (path : List (List ℕ)). path ++ own_part (map bare nodes) slot) (same_path nodes steps (parent_in nodes slot))
    ∙ ap (λ (part : List (List ℕ)). path_up nodes steps (parent_in nodes slot) ++ part) (same_own nodes slot)

same_entries : (parent : ℕ) (name : List ℕ) (nodes : List Node) (count : ℕ) → list_any (is_entry parent name) (take count (map bare nodes)) ≡ list_any (is_entry parent name) (take count nodes)
same_entries parent name nodes zero = refl
same_entries parent name [] (suc count) = refl
same_entries parent name (node ∷ nodes) (suc count) = ap (λ (b : Bool). is_entry parent name node || b) (same_entries parent name nodes count)

same_twin : (nodes : List Node) (slot : ℕ) → has_lower_twin (map bare nodes) slot ≡ has_lower_twin nodes slot
same_twin nodes slot =
    ap (λ (n : Node). list_any (is_entry n.parent n.name) (take slot (map bare nodes))) (bare_at nodes slot)
    ∙ same_entries (parent_in nodes slot) (node_at nodes slot).name nodes slot

-- the faults of an entry, by what each test says
faults : (folder roots twin : Bool) (path : List (List ℕ)) → Option Why
faults folder roots twin path = refuse (not folder) Parent (refuse (not roots) Cycle (refuse twin SameName (refuse (is_deep path) Deep None)))

same_entry : (nodes : List Node) (slot : ℕ) → fault_of_entry (map bare nodes) slot ≡ fault_of_entry nodes slot
unfolding faults
same_entry nodes slot =
    let all = map bare nodes in
    let folder : is_folder_node (node_at all (parent_in all slot)).kind ≡ is_folder_node (node_at nodes (parent_in nodes slot)).kind =
    ap (λ (p : ℕ). is_folder_node (node_at (map bare nodes) p).kind) (same_parent nodes slot) ∙ ap (λ (n : Node). is_folder_node n.kind) (bare_at nodes (parent_in nodes slot)) in
    let roots : leads_to_root all slot ≡ leads_to_root nodes slot = ap (λ (a : ℕ). a == 0) (same_ancestor nodes enough_steps slot) in
    ap (λ (b : Bool). faults b (leads_to_root (map bare nodes) slot) (has_lower_twin (map bare nodes) slot) (path_in (map bare nodes) slot)) folder
    ∙ ap (λ (b : Bool). faults (is_folder_node (node_at nodes (parent_in nodes slot)).kind) b (has_lower_twin (map bare nodes) slot) (path_in (map bare nodes) slot)) roots
    ∙ ap (λ (b : Bool). faults (is_folder_node (node_at nodes (parent_in nodes slot)).kind) (leads_to_root nodes slot) b (path_in (map bare nodes) slot)) (same_twin nodes slot)
    ∙ ap (faults (is_folder_node (node_at nodes (parent_in nodes slot)).kind) (leads_to_root nodes slot) (has_lower_twin nodes slot)) (same_path nodes enough_steps slot)

same_slot : (nodes : List Node) (slot : ℕ) → fault_of_slot (map bare nodes) slot ≡ fault_of_slot nodes slot
same_slot nodes slot =
    ap (λ (n : Node). cond (slot == 0) (refuse (not (is_root_node n)) Root None) (cond (is_free (node_at (map bare nodes) slot).kind) None (fault_of_entry (map bare nodes) slot))) (bare_at nodes 0)
    ∙ ap (λ (n : Node). cond (slot == 0) (refuse (not (is_root_node (node_at nodes 0))) Root None) (cond (is_free n.kind) None (fault_of_entry (map bare nodes) slot))) (bare_at nodes slot)
    ∙ ap (λ (o : Option Why). cond (slot == 0) (refuse (not (is_root_node (node_at nodes 0))) Root None) (cond (is_free (node_at nodes slot).kind) None o)) (same_entry nodes slot)

same_below : (nodes : List Node) (n : ℕ) → fault_below (map bare nodes) n ≡ fault_below nodes n
same_below nodes zero = refl
same_below nodes (suc slot) =
    ap (λ (f : Option Fault). option_or f (option_map (λ why. record { slot = slot; why = why }) (fault_of_slot (map bare nodes) slot))) (same_below nodes slot)
    ∙ ap (λ (o : Option Why). option_or (fault_below nodes slot) (option_map {T = Why} {U = Fault} (λ why. record { slot = slot; why = why }) o)) (same_slot nodes slot)

-- nodes that differ in their map references alone have the same fault
pub same_fault : (a b : List Node) → map bare a ≡ map bare b → table_fault a ≡ table_fault b
same_fault a b same =
    sym (of_bare a) ∙ ap table_fault same ∙ of_bare b
  where
    of_bare : (nodes : List Node) → table_fault (map bare nodes) ≡ table_fault nodes
    of_bare nodes = ap (fault_below (map bare nodes)) (length-map nodes bare) ∙ same_below nodes (length nodes)
