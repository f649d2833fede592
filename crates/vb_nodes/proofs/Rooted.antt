-- Nodes by slot and the index that holds them: they make the same paths, and what an index holds has no fault.
use Rattle.std.proofs.Common.{◌≡◌, ℕ, zero, suc, ◌<◌, ◌≤◌, Bool, true, false, not, cond, ◌||◌, ◌&&◌, ◌==◌, List, [], ◌∷◌, ◌++◌, length, take, get_or, replicate, Option, Some, None, inl, inr, refl, sym, ap, ◌∙◌, subst, arith}
use Rattle.std.specs.List.{list_any}
use Rattle.std.specs.Option.{option_map, option_or}
use Rattle.std.proofs.lemmas.Bool.{and_parts, cases_Bool, false≢true, eqb-true, le-leb}
use Rattle.std.proofs.lemmas.Bool.Decides.{Decides-eqb}
use Rattle.std.proofs.lemmas.List.{get_or-take, length-append, length-take}
use Rattle.vb_block.specs.declared.why.Why.{Why}
use Rattle.vb_block.specs.declared.why.Why.TheVariants.{Root, Parent, Cycle, SameName, Deep}
use Rattle.vb_tree.specs.Trees.{data_pages_of, longest_file, map_pages_of}
use Rattle.vb_tree.specs.Renames.{is_deep}
use Rattle.vb_path.specs.Parts.{is_part, IsPart}
use Rattle.vb_inode.specs.declared.node.Node.{Node}
use Rattle.vb_inode.specs.declared.node.NodeKind.{NodeKind}
use Rattle.vb_inode.specs.declared.node.NodeKind.TheVariants.{Free, Folder, File}
use Rattle.vb_inode.specs.Layout.{AreRefs}
use Rattle.vb_inode.specs.Reading.{IsNodeOf}
use Rattle.vb_block.specs.declared.digest.Ref.{Ref}
use Rattle.vb_inode.specs.Nodes.{is_free, may_be_named, may_have_length, may_have_parent, IsInRange}
use Rattle.vb_index.specs.declared.held.Held.{Held}
use Rattle.vb_index.specs.Changes.{blank_ref}
use Rattle.vb_index.specs.Heights.{parent_in as held_parent, parent_at, path_up as held_up, path_to, IsRooted}
use Rattle.vb_index.specs.Listings.{name_in, name_at}
use Rattle.vb_index.specs.Nodes.{child_of, held_at, holds_folder, is_file_node, is_folder_node, same_name, slot_at, IsTable}
use Rattle.vb_index.proofs.ChildLaws.{same_name-Decides}
use Rattle.vb_index.proofs.Growth.{slot_holds}
use Rattle.vb_index.proofs.Places.{child-place}
use Rattle.vb_index.proofs.Tables.{folder_in, held_in_table}
use Rattle.vb_index.proofs.Walks.{last_step, snoc-ind}
use Rattle.vb_nodes.specs.Paths.{ancestor, enough_steps, free_node, leads_to_root, node_at, own_part, parent_in, path_in, path_up}
use Rattle.vb_nodes.specs.Faults.{fault_below, fault_of_entry, fault_of_slot, has_lower_twin, is_entry, is_root_node, refuse, table_fault, Fault, IsNodeTree}
use Rattle.vb_nodes.specs.Holdings.{held_from, StandsFor, StandForAll}
use Rattle.vb_nodes.specs.Building.{depth_of, HoldsPlaced}
use Rattle.vb_nodes.proofs.NodeLaws.{parent-below}
use Rattle.vb_nodes.proofs.Placing.{folder_used, held_used, placed-above}
use Rattle.vb_nodes.proofs.TreeFacts.{depth-next, entry-of-tree, few-parts, own_part-entry, path-next, path-of-root, root-of-tree}

-- ---- a node that is put

empty_is : {X : Type 0} (xs : List X) → length xs ≤ 0 → xs ≡ []
empty_is [] le = refl
empty_is (x ∷ xs) le = absurd (omega arith)

not_zero : (slot : ℕ) → 0 < slot → (slot == 0) ≡ false
not_zero slot h = elim (cases_Bool (slot == 0)) [ inr e ↦ e | inl e ↦ absurd (let is = eqb-true slot 0 e in omega arith) ]

-- the parents of a slot that is placed make the path that the nodes say
same-path : (nodes : List Node) (depth end : ℕ) (held : List (Option Held)) → IsNodeTree nodes → HoldsPlaced nodes depth end held → (steps slot : ℕ) → slot < length nodes → is_free (node_at nodes slot).kind ≡ false → depth_of nodes slot ≤ steps → depth_of nodes slot < depth → held_up held steps slot ≡ path_in nodes slot
same-path nodes depth end held tree h zero slot lt used few above = sym (empty_is (path_in nodes slot) few)
same-path nodes depth end held tree h (suc n) zero lt used few above = sym (path-of-root nodes enough_steps (root-of-tree nodes tree).1)
same-path nodes depth end held tree h (suc n) (suc k) lt used few above =
    let slot : ℕ = suc k in
    let entry = entry-of-tree nodes (suc k) tree (omega arith) lt used in
    let root = root-of-tree nodes tree in
    let parent : ℕ = parent_in nodes (suc k) in
    let deeper = depth-next nodes (suc k) root.1 entry.rooted (omega arith) in
    let holds : held_at held (suc k) ≡ Some (record { node = node_at nodes (suc k); refs = replicate (data_pages_of (node_at nodes (suc k)).length) blank_ref }) =
    h.each (suc k) ∙ ap (λ (b : Bool). cond b (held_from (node_at nodes (suc k))) None) (placed-above (depth_of nodes (suc k)) depth (suc k) end above) ∙ held_used (node_at nodes (suc k)) used in
    let up : held_up held n (parent_in nodes (suc k)) ≡ path_in nodes (parent_in nodes (suc k)) =
    same-path nodes depth end held tree h n (parent_in nodes (suc k)) (parent-below nodes (suc k) tree.by_slot tree.some) (folder_used (node_at nodes (parent_in nodes (suc k))).kind entry.in_folder) (omega arith) (omega arith) in
    ap (λ (b : Bool). cond b [] (held_up held n (parent_at held (suc k)) ++ name_at held (suc k) ∷ [])) (not_zero (suc k) (omega arith))
    ∙ ap (λ (o : Option Held). held_up held n (held_parent o) ++ name_in o ∷ []) holds
    ∙ ap (λ (p : List (List ℕ)). p ++ (node_at nodes (suc k)).name ∷ []) up
    ∙ ap (λ (p : List (List ℕ)). path_in nodes (parent_in nodes (suc k)) ++ p) (sym (own_part-entry nodes (suc k) (omega arith)))
    ∙ sym (path-next nodes (suc k) root.1 entry.rooted)

-- the path of a node that is put isn't too deep
pub put-shallow : (nodes : List Node) (slot : ℕ) (held : List (Option Held)) → IsNodeTree nodes → HoldsPlaced nodes (depth_of nodes slot) slot held → 0 < slot → slot < length nodes → is_free (node_at nodes slot).kind ≡ false → is_deep (path_to held (parent_in nodes slot) ++ (node_at nodes slot).name ∷ []) ≡ false
unfolding path_to
put-shallow nodes slot held tree h above lt used =
    let entry = entry-of-tree nodes slot tree above lt used in
    let root = root-of-tree nodes tree in
    let few = entry.shallow in
    let deeper = depth-next nodes slot root.1 entry.rooted above in
    let up : held_up held 32 (parent_in nodes slot) ≡ path_in nodes (parent_in nodes slot) =
    same-path nodes (depth_of nodes slot) slot held tree h 32 (parent_in nodes slot) (parent-below nodes slot tree.by_slot tree.some) (folder_used (node_at nodes (parent_in nodes slot)).kind entry.in_folder) (omega arith) (omega arith) in
    ap (λ (p : List (List ℕ)). is_deep (p ++ (node_at nodes slot).name ∷ [])) up
    ∙ ap (λ (p : List (List ℕ)). is_deep (path_in nodes (parent_in nodes slot) ++ p)) (sym (own_part-entry nodes slot above))
    ∙ ap is_deep (sym (path-next nodes slot root.1 entry.rooted))
    ∙ entry.fits

-- an entry that isn't free has a valid name
pub named-part : (slot : ℕ) (kind : NodeKind) (name : List ℕ) → 0 < slot → is_free kind ≡ false → may_be_named slot kind name ≡ true → IsPart name
unfolding may_be_named
named-part slot kind name above used named =
    sym (ap (λ (b : Bool). cond (b || is_free kind) (length name == 0) (is_part name)) (not_zero slot above) ∙ ap (λ (b : Bool). cond b (length name == 0) (is_part name)) used) ∙ named

-- ---- nodes that stand for what an index holds

-- the node of what a slot holds
stands : (nodes : List Node) (held : List (Option Held)) (slot : ℕ) (one : Held) → StandForAll nodes held → held_at held slot ≡ Some one → node_at nodes slot ≡ record one.node { maps = (node_at nodes slot).maps }
stands nodes held slot one all e = subst (λ (o : Option Held). StandsFor o (node_at nodes slot)) e (all.each slot)

-- a slot that holds nothing has a free node
stands-free : (nodes : List Node) (held : List (Option Held)) (slot : ℕ) → StandForAll nodes held → held_at held slot ≡ None → is_free (node_at nodes slot).kind ≡ true
stands-free nodes held slot all e = subst (λ (o : Option Held). StandsFor o (node_at nodes slot)) e (all.each slot)

some_held : (o : Option Held) → holds_folder o ≡ true → (one : Held) × (o ≡ Some one) × (is_folder_node one.node.kind ≡ true)
some_held None h = absurd (false≢true h)
some_held (Some one) h = (one, refl, h)

-- a folder of an index has the node of a folder
stands-folder : (nodes : List Node) (held : List (Option Held)) (slot : ℕ) → StandForAll nodes held → holds_folder (held_at held slot) ≡ true → is_folder_node (node_at nodes slot).kind ≡ true
stands-folder nodes held slot all h =
    let one = some_held (held_at held slot) h in
    ap (λ (n : Node). is_folder_node n.kind) (stands nodes held slot one.0 all one.1) ∙ one.2

-- the root's node is its own parent
root-parent : (nodes : List Node) (held : List (Option Held)) → IsTable held → IsRooted held → StandForAll nodes held → parent_in nodes 0 ≡ 0
root-parent nodes held table rooted all =
    let one = some_held (held_at held 0) table.root in
    ap (λ (n : Node). n.parent) (stands nodes held 0 one.0 all one.1) ∙ sym (ap held_parent one.1) ∙ rooted.own_parent

-- the root leads to itself
root-stays : (nodes : List Node) (steps : ℕ) → parent_in nodes 0 ≡ 0 → ancestor nodes steps 0 ≡ 0
root-stays nodes zero e = refl
root-stays nodes (suc n) e = ap (ancestor nodes n) e ∙ root-stays nodes n e

abbrev Climbs : List Node → List (Option Held) → List (List ℕ) → Type 0
Climbs nodes held path = (steps slot : ℕ) → slot_at held path ≡ Some slot → length path ≤ steps → (ancestor nodes steps slot ≡ 0) × (path_up nodes steps slot ≡ path)

-- where a path leads, the parents lead to the root and make that path
climbs : (nodes : List Node) (held : List (Option Held)) → IsTable held → IsRooted held → StandForAll nodes held → (path : List (List ℕ)) → Climbs nodes held path
climbs nodes held table rooted all = snoc-ind (Climbs nodes held) root more where
  own : parent_in nodes 0 ≡ 0
  own = root-parent nodes held table rooted all

  root : Climbs nodes held []
  root steps slot at le =
      let zero : slot ≡ 0 = (let both : Some 0 ≡ Some slot = at in cc) in
      (ap (ancestor nodes steps) zero ∙ root-stays nodes steps own, ap (path_up nodes steps) zero ∙ path-of-root nodes steps own)

  more : (q : List (List ℕ)) (y : List ℕ) → Climbs nodes held q → Climbs nodes held (q ++ y ∷ [])
  more q y ih zero slot at le = absurd (omega (arith, length-append q (y ∷ [])))
  more q y ih (suc n) slot at le =
      let last = last_step (child_of held) q y slot at in
      let one = slot_holds held table (q ++ y ∷ []) slot at in
      let place = child-place held last.0 y slot one.0 table last.2 one.1 in
      let is = stands nodes held slot one.0 all one.1 in
      let parent : parent_in nodes slot ≡ last.0 = ap (λ (m : Node). m.parent) is ∙ place.1 in
      let name : (node_at nodes slot).name ≡ y = ap (λ (m : Node). m.name) is ∙ place.2 in
      let up = ih n last.0 last.1 (omega (arith, length-append q (y ∷ []))) in (
        ap (ancestor nodes n) parent ∙ up.0,
        ap (λ (t : ℕ). path_up nodes n t ++ own_part nodes slot) parent
            ∙ ap (λ (p : List (List ℕ)). p ++ own_part nodes slot) up.1
            ∙ ap (λ (p : List (List ℕ)). q ++ p) (own_part-entry nodes slot place.0)
            ∙ ap (λ (x : List ℕ). q ++ x ∷ []) name,
      )

many_steps : (n : ℕ) → n ≤ 32 → n ≤ enough_steps
unfolding enough_steps
many_steps n le = omega arith

-- the parents of a slot make the path that leads to it
pub path-held : (nodes : List Node) (held : List (Option Held)) (slot : ℕ) (one : Held) → IsTable held → IsRooted held → StandForAll nodes held → held_at held slot ≡ Some one → path_in nodes slot ≡ path_to held slot
path-held nodes held slot one table rooted all holds =
    (climbs nodes held table rooted all (path_to held slot) enough_steps slot (rooted.leads slot one holds) (many_steps (length (path_to held slot)) (few-parts (path_to held slot) (rooted.shallow slot one holds)))).1

no_part : IsPart [] → ⊥
unfolding is_part
no_part h = false≢true h

any_none : (p : Node → Bool) (xs : List Node) → ((k : ℕ) → k < length xs → p (get_or xs k free_node) ≡ false) → list_any p xs ≡ false
any_none p [] all = refl
any_none p (x ∷ xs) all = ap (λ (b : Bool). b || list_any p xs) (all 0 (omega arith)) ∙ any_none p xs (λ k lt. all (suc k) (omega arith))

not_from_false : (b : Bool) → b ≡ false → not b ≡ true
not_from_false b e = ap not e

true_from_not : (b : Bool) → not b ≡ true → b ≡ false
true_from_not true e = absurd (false≢true e)
true_from_not false e = refl

-- no lower slot has the parent and the name of an entry
no-twin : (nodes : List Node) (held : List (Option Held)) (slot : ℕ) (one : Held) → IsTable held → IsRooted held → StandForAll nodes held → held_at held slot ≡ Some one → 0 < slot → slot < length nodes → has_lower_twin nodes slot ≡ false
no-twin nodes held slot one table rooted all holds above lt =
    any_none (is_entry (parent_in nodes slot) (node_at nodes slot).name) (take slot nodes) (λ k in_front.
    let low : k < slot = omega (arith, length-take slot nodes) in
    ap (is_entry (parent_in nodes slot) (node_at nodes slot).name) (get_or-take slot nodes k free_node low) ∙ other k low)
  where
    is : node_at nodes slot ≡ record one.node { maps = (node_at nodes slot).maps }
    is = stands nodes held slot one all holds

    clash : (k : ℕ) (twin : Held) → k < slot → held_at held k ≡ Some twin → twin.node.parent ≡ one.node.parent → twin.node.name ≡ one.node.name → ⊥
    clash zero twin low e parents names =
        no_part (subst IsPart (sym names ∙ sym (ap name_in e) ∙ rooted.no_name) (rooted.valid slot one holds above))
    clash (suc k) twin low e parents names =
        let mine : child_of held one.node.parent one.node.name ≡ Some slot = table.one_name slot one holds above in
        let theirs : child_of held one.node.parent one.node.name ≡ Some (suc k) = ap (λ (p : ℕ). child_of held p one.node.name) (sym parents) ∙ ap (child_of held twin.node.parent) (sym names) ∙ table.one_name (suc k) twin e (omega arith) in
        let both : Some slot ≡ Some (suc k) = sym mine ∙ theirs in
        let same : slot ≡ suc k = cc in
        omega (arith, same)

    by : (k : ℕ) → k < slot → (o : Option Held) → held_at held k ≡ o → is_entry (parent_in nodes slot) (node_at nodes slot).name (node_at nodes k) ≡ true → ⊥
    by k low None e h =
        let used = and_parts (not (is_free (node_at nodes k).kind)) ((node_at nodes k).parent == parent_in nodes slot && same_name (node_at nodes k).name (node_at nodes slot).name) h in
        false≢true (sym (true_from_not (is_free (node_at nodes k).kind) used.0) ∙ stands-free nodes held k all e)
    by k low (Some twin) e h =
        let used = and_parts (not (is_free (node_at nodes k).kind)) ((node_at nodes k).parent == parent_in nodes slot && same_name (node_at nodes k).name (node_at nodes slot).name) h in
        let both = and_parts ((node_at nodes k).parent == parent_in nodes slot) (same_name (node_at nodes k).name (node_at nodes slot).name) used.1 in
        let theirs = stands nodes held k twin all e in
        clash k twin low e
        (sym (ap (λ (n : Node). n.parent) theirs) ∙ eqb-true (node_at nodes k).parent (parent_in nodes slot) both.0 ∙ ap (λ (n : Node). n.parent) is)
        (sym (ap (λ (n : Node). n.name) theirs) ∙ (same_name-Decides (node_at nodes k).name (node_at nodes slot).name).0 both.1 ∙ ap (λ (n : Node). n.name) is)

    other : (k : ℕ) → k < slot → is_entry (parent_in nodes slot) (node_at nodes slot).name (node_at nodes k) ≡ false
    other k low = elim (cases_Bool (is_entry (parent_in nodes slot) (node_at nodes slot).name (node_at nodes k))) [
      | inr e ↦ e
      | inl e ↦ absurd (by k low (held_at held k) refl e)
    ]

-- no entry of an index has a fault
entry-no_fault : (nodes : List Node) (held : List (Option Held)) (slot : ℕ) (one : Held) → IsTable held → IsRooted held → StandForAll nodes held → held_at held slot ≡ Some one → 0 < slot → slot < length nodes → fault_of_entry nodes slot ≡ None
entry-no_fault nodes held slot one table rooted all holds above lt =
    let is = stands nodes held slot one all holds in
    let folder : is_folder_node (node_at nodes (parent_in nodes slot)).kind ≡ true =
    ap (λ (t : ℕ). is_folder_node (node_at nodes t).kind) (ap (λ (n : Node). n.parent) is) ∙ stands-folder nodes held one.node.parent all (table.in_folder slot one holds above) in
    let shallow = rooted.shallow slot one holds in
    let up = climbs nodes held table rooted all (path_to held slot) enough_steps slot (rooted.leads slot one holds) (many_steps (length (path_to held slot)) (few-parts (path_to held slot) shallow)) in
    ap (λ (b : Bool). refuse (not b) Parent (refuse (not (leads_to_root nodes slot)) Cycle (refuse (has_lower_twin nodes slot) SameName (refuse (is_deep (path_in nodes slot)) Deep None)))) folder
    ∙ ap (λ (b : Bool). refuse (not b) Cycle (refuse (has_lower_twin nodes slot) SameName (refuse (is_deep (path_in nodes slot)) Deep None))) ((Decides-eqb (ancestor nodes enough_steps slot) 0).1 up.0)
    ∙ ap (λ (b : Bool). refuse b SameName (refuse (is_deep (path_in nodes slot)) Deep None)) (no-twin nodes held slot one table rooted all holds above lt)
    ∙ ap (λ (b : Bool). refuse b Deep None) (ap is_deep up.1 ∙ shallow)

-- no slot of an index has a fault
slot-no_fault : (nodes : List Node) (held : List (Option Held)) → IsTable held → IsRooted held → StandForAll nodes held → (slot : ℕ) → slot < length nodes → fault_of_slot nodes slot ≡ None
slot-no_fault nodes held table rooted all zero lt =
    ap (λ (b : Bool). refuse (not (b && parent_in nodes 0 == 0)) Root None) (stands-folder nodes held 0 all table.root)
    ∙ ap (λ (b : Bool). refuse (not b) Root None) ((Decides-eqb (parent_in nodes 0) 0).1 (root-parent nodes held table rooted all))
slot-no_fault nodes held table rooted all (suc k) lt =
    ap (λ (b : Bool). cond b (refuse (not (is_root_node (node_at nodes 0))) Root None) (cond (is_free (node_at nodes (suc k)).kind) None (fault_of_entry nodes (suc k)))) (not_zero (suc k) (omega arith))
    ∙ by (held_at held (suc k)) refl
  where
    either : (b : Bool) → fault_of_entry nodes (suc k) ≡ None → cond b None (fault_of_entry nodes (suc k)) ≡ None
    either true e = refl
    either false e = e

    by : (o : Option Held) → held_at held (suc k) ≡ o → cond (is_free (node_at nodes (suc k)).kind) None (fault_of_entry nodes (suc k)) ≡ None
    by None e = ap (λ (b : Bool). cond b None (fault_of_entry nodes (suc k))) (stands-free nodes held (suc k) all e)
    by (Some one) e = either (is_free (node_at nodes (suc k)).kind) (entry-no_fault nodes held (suc k) one table rooted all e (omega arith) lt)

below-no_fault : (nodes : List Node) → ((slot : ℕ) → slot < length nodes → fault_of_slot nodes slot ≡ None) → (n : ℕ) → n ≤ length nodes → fault_below nodes n ≡ None
below-no_fault nodes fine zero le = refl
below-no_fault nodes fine (suc m) le =
    ap (λ (a : Option Fault). option_or a (option_map (λ (why : Why). record { slot = m; why = why }) (fault_of_slot nodes m))) (below-no_fault nodes fine m (omega arith))
    ∙ ap (option_map {T = Why} {U = Fault} (λ (why : Why). record { slot = m; why = why })) (fine m (omega arith))

-- nodes that stand for what an index holds have no fault
pub held-no_fault : (nodes : List Node) (held : List (Option Held)) → IsTable held → IsRooted held → StandForAll nodes held → table_fault nodes ≡ None
held-no_fault nodes held table rooted all = below-no_fault nodes (slot-no_fault nodes held table rooted all) (length nodes) (omega arith)

-- ---- nodes of a store

held-used : (kind : NodeKind) → is_file_node kind ≡ not (is_folder_node kind) → is_free kind ≡ false
held-used Free e = absurd (false≢true e)
held-used Folder e = refl
held-used File e = refl

named-held : (slot : ℕ) (kind : NodeKind) (name : List ℕ) → is_free kind ≡ false → (slot ≡ 0 → name ≡ []) → (0 < slot → IsPart name) → may_be_named slot kind name ≡ true
unfolding may_be_named
named-held zero kind name used none valid = ap (λ (n : List ℕ). length n == 0) (none refl)
named-held (suc k) kind name used none valid =
    ap (λ (b : Bool). cond (b || is_free kind) (length name == 0) (is_part name)) (not_zero (suc k) (omega arith))
    ∙ ap (λ (b : Bool). cond b (length name == 0) (is_part name)) used
    ∙ valid (omega arith)

parented-held : (kind : NodeKind) (parent : ℕ) → is_free kind ≡ false → may_have_parent kind parent ≡ true
parented-held Free parent used = absurd (false≢true (sym used))
parented-held Folder parent used = refl
parented-held File parent used = refl

measured-held : (kind : NodeKind) (len : ℕ) → is_free kind ≡ false → (is_folder_node kind ≡ true → len ≡ 0) → len ≤ longest_file → may_have_length kind len ≡ true
measured-held Free len used none short = absurd (false≢true (sym used))
measured-held Folder len used none short = (Decides-eqb len 0).1 (none refl)
measured-held File len used none short = le-leb len longest_file short

-- the fields of a node that an index holds are in range, wherever its map pages lie
in-range : (held : List (Option Held)) (slot : ℕ) (one : Held) (maps : List Ref) → IsTable held → IsRooted held → held_at held slot ≡ Some one → length maps ≡ map_pages_of one.node.length → IsInRange (record one.node { maps = maps })
in-range held slot one maps table rooted holds mapped =
    let fits = table.fits slot one holds in
    let used = held-used one.node.kind fits.either in
    record {
      named = named-held one.node.slot one.node.kind one.node.name used
          (λ zero. sym (ap name_in holds) ∙ ap (name_at held) (sym fits.at_slot ∙ zero) ∙ rooted.no_name)
          (λ above. rooted.valid slot one holds (omega (arith, above, fits.at_slot)));
      parented = parented-held one.node.kind one.node.parent used;
      measured = measured-held one.node.kind one.node.length used fits.folder_empty fits.short;
      mapped = mapped;
    }

-- the parent of a node that an index holds is a slot of it
parent-in : (held : List (Option Held)) (slot : ℕ) (one : Held) → IsTable held → IsRooted held → held_at held slot ≡ Some one → one.node.parent < length held
parent-in held zero one table rooted holds = omega (arith, sym (ap held_parent holds) ∙ rooted.own_parent, folder_in held 0 table.root)
parent-in held (suc k) one table rooted holds = folder_in held one.node.parent (table.in_folder (suc k) one holds (omega arith))

-- a node that stands for what an index holds is one of a store
pub held-of_store : (nodes : List Node) (held : List (Option Held)) (slot : ℕ) (one : Held) → IsTable held → IsRooted held → StandForAll nodes held → held_at held slot ≡ Some one → length (node_at nodes slot).maps ≡ map_pages_of one.node.length → AreRefs (node_at nodes slot).maps → IsNodeOf (length nodes) (node_at nodes slot)
held-of_store nodes held slot one table rooted all holds mapped refs =
    let is = stands nodes held slot one all holds in
    record {
      slot = omega (arith, ap (λ (n : Node). n.slot) is, (table.fits slot one holds).at_slot, held_in_table held slot one holds, table.few);
      parent = omega (arith, ap (λ (n : Node). n.parent) is, all.as_many, parent-in held slot one table rooted holds);
      in_range = subst IsInRange (sym is) (in-range held slot one (node_at nodes slot).maps table rooted holds mapped);
      refs = refs;
    }
