-- After a rename the nodes have the shape of the tree after it.
use Rattle.std.proofs.Common.{◌≡◌, ℕ, ◌<◌, true, false, cond, ◌&&◌, ◌==◌, is_some, List, [], ◌∷◌, ◌++◌, length, drop, set, Option, Some, None, inl, inr, refl, sym, ap, ◌∙◌, subst, append-nil, arith, length-append}
use Rattle.std.specs.Option.{option_map, option_and_then}
use Rattle.std.proofs.lemmas.Bool.{cases_Bool, false≢true}
use Rattle.std.proofs.lemmas.Bool.Decides.{Decides-eqb}
use Rattle.vb_path.specs.Paths.{same_path}
use Rattle.vb_path.proofs.PathLaws.{same_path-Decides}
use Rattle.vb_tree.specs.declared.tree.Kind.TheVariants.{Folder}
use Rattle.vb_tree.specs.declared.tree.TreeEntry.{TreeEntry}
use Rattle.vb_tree.specs.Trees.{is_root, entry_at, without, parent_of, name_of, page_count, AreInOrder, IsTree}
use Rattle.vb_tree.specs.Renames.{is_within, moved_path, moved, in_path_order, renamed}
use Rattle.vb_tree.proofs.Removals.{AreInOrder-filter}
use Rattle.vb_tree.proofs.Within.{within-parts, within-parent, some_parts, not_root}
use Rattle.vb_index.specs.declared.held.Held.{Held}
use Rattle.vb_index.specs.Nodes.{held_at, holds_folder, is_child, child_of, slot_at, slot_below, IsTable}
use Rattle.vb_index.specs.Indexes.{shape_of, shape_at, shape_in, shape_of_entry, HasShapeOf}
use Rattle.vb_index.specs.Moves.{placed_in, with_place, without_slot, IsMove}
use Rattle.vb_index.proofs.ChildLaws.{is_child-parts, is_child-own, child_of-empty}
use Rattle.vb_index.proofs.Depths.{entry-some, walk-append}
use Rattle.vb_index.proofs.Growth.{path-split, slot_holds, no_children}
use Rattle.vb_index.proofs.MovedTrees.{path_before, before-in, before-gone, before-out, AllOutside, all-outside, entry-moved, sizes-same, without-none}
use Rattle.vb_index.proofs.MovedWalks.{DifferInPlace, walk-moved}
use Rattle.vb_index.proofs.Newness.{has_parts}
use Rattle.vb_index.proofs.Places.{Moves, Replaces, child_of-place, child-place, replaces-moves, sums_same, may-moves, may-replaces}
use Rattle.vb_index.proofs.Renamed.{may-place, may-replace, target-at}
use Rattle.vb_index.proofs.Shrinking.{shrunk}
use Rattle.vb_index.proofs.Tables.{own_places, table-forest, at_same, at_other, IsTable-empty}
use Rattle.vb_index.proofs.Walks.{last_step, walk-snoc, DifferInLeaf, walk-changed}

-- ---- one node gets another place

-- what a node is found as depends on its place alone
shape-held : (nodes : List (Option Held)) (slot : ℕ) (held : Held) (folder : ℕ) (name : List ℕ) (s : ℕ) → slot < length nodes → held_at nodes slot ≡ Some held → option_map shape_of (held_at (set nodes slot (Some (placed_in folder name held))) s) ≡ option_map shape_of (held_at nodes s)
shape-held nodes slot held folder name s l holds = elim (cases_Bool (s == slot)) [
  | inr h ↦ ap (option_map shape_of) (at_other nodes slot s (Some (placed_in folder name held)) h)
  | inl h ↦ ap (option_map shape_of) (at_same nodes slot s (Some (placed_in folder name held)) l ((Decides-eqb s slot).0 h)) ∙ sym (ap (option_map shape_of) (ap (held_at nodes) ((Decides-eqb s slot).0 h) ∙ holds))
]

same_on : {A B : Type 0} (f g : A → Option B) (o : Option A) → ((a : A) → f a ≡ g a) → option_and_then f o ≡ option_and_then g o
same_on f g None all = refl
same_on f g (Some a) all = all a

join-twice : {A B C : Type 0} (f : B → Option C) (g : A → Option B) (o : Option A) → option_and_then f (option_and_then g o) ≡ option_and_then (λ a. option_and_then f (g a)) o
join-twice f g None = refl
join-twice f g (Some a) = refl

-- how a place changes the slots of children
place-differs : (nodes : List (Option Held)) (slot : ℕ) (held : Held) (folder : ℕ) (name : List ℕ) (source at : List (List ℕ)) → IsTable nodes → Moves nodes slot held folder name → is_root source ≡ false → slot_at nodes source ≡ Some slot → slot_at nodes at ≡ Some folder → is_within source at ≡ false → DifferInPlace (child_of nodes) (child_of (set nodes slot (Some (placed_in folder name held)))) held.node.parent held.node.name folder name slot (parent_of source) at
place-differs nodes slot held folder name source at table m below source_at there outside =
    record {
      forest = table-forest nodes table;
      was = was;
      gone = placed held.node.parent held.node.name ∙ ap (λ v. cond v (Some slot) (cond (is_child held.node.parent held.node.name (Some held)) None (child_of nodes held.node.parent held.node.name))) other ∙ ap (λ v. cond v None (child_of nodes held.node.parent held.node.name)) (is_child-own held (omega (arith, fits, m.above_root)));
      is = placed folder name ∙ ap (λ v. cond v (Some slot) (cond (is_child folder name (Some held)) None (child_of nodes folder name))) (is_child-own (placed_in folder name held) (omega (arith, fits, m.above_root)));
      others = others;
      old_there = parent;
      new_there = there;
      outside = subst (λ p. is_within p at ≡ false) (path-split source (has_parts source below) ∙ ap (λ n. parent_of source ++ n ∷ []) (sym own_name)) outside;
    } where
      placed : (t : ℕ) (y : List ℕ) → child_of (set nodes slot (Some (placed_in folder name held))) t y ≡ cond (is_child t y (Some (placed_in folder name held))) (Some slot) (cond (is_child t y (Some held)) None (child_of nodes t y))
      placed = child_of-place nodes slot held folder name table m

      fits : held.node.slot ≡ slot
      fits = (table.fits slot held m.holds).at_slot

      was : child_of nodes held.node.parent held.node.name ≡ Some slot
      was = table.one_name slot held m.holds m.above_root

      last : (t : ℕ) × (slot_at nodes (parent_of source) ≡ Some t) × (child_of nodes t (name_of source) ≡ Some slot)
      last = last_step (child_of nodes) (parent_of source) (name_of source) slot (subst (λ p. slot_at nodes p ≡ Some slot) (path-split source (has_parts source below)) source_at)

      one : (held.node.parent ≡ last.0) × (held.node.name ≡ name_of source)
      one = (table-forest nodes table).one_parent held.node.parent last.0 held.node.name (name_of source) slot was last.2

      own_name : held.node.name ≡ name_of source
      own_name = one.1

      parent : slot_at nodes (parent_of source) ≡ Some held.node.parent
      parent = last.1 ∙ ap (λ k. Some k) (sym one.0)

      other : is_child held.node.parent held.node.name (Some (placed_in folder name held)) ≡ false
      other = elim (cases_Bool (is_child held.node.parent held.node.name (Some (placed_in folder name held)))) [
        | inr h ↦ h
        | inl h ↦ absurd (let parts = is_child-parts held.node.parent held.node.name (placed_in folder name held) h in
            let both : None ≡ Some slot = sym m.new_name ∙ ap (λ n. child_of nodes folder n) parts.2 ∙ ap (λ p. child_of nodes p held.node.name) parts.1 ∙ was in cc)
      ]

      others : (t : ℕ) (y : List ℕ) → ((t ≡ held.node.parent) × (y ≡ held.node.name) → ⊥) → ((t ≡ folder) × (y ≡ name) → ⊥) → child_of (set nodes slot (Some (placed_in folder name held))) t y ≡ child_of nodes t y
      others t y not_old not_new = placed t y ∙ (elim (cases_Bool (is_child t y (Some (placed_in folder name held)))) [
        | inl h ↦ absurd (let parts = is_child-parts t y (placed_in folder name held) h in not_new (sym parts.1, sym parts.2))
        | inr h ↦ ap (λ v. cond v (Some slot) (cond (is_child t y (Some held)) None (child_of nodes t y))) h ∙ (elim (cases_Bool (is_child t y (Some held))) [
          | inl g ↦ absurd (let parts = is_child-parts t y held g in not_old (sym parts.1, sym parts.2))
          | inr g ↦ ap (λ v. cond v None (child_of nodes t y)) g
        ])
      ])

pub root_is : (path : List (List ℕ)) → is_root path ≡ true → path ≡ []
root_is [] h = refl
root_is (x ∷ xs) h = absurd (false≢true (sym (some_parts (x ∷ xs) (omega arith)) ∙ h))

-- where what isn't the root stood isn't the root
below-before : (source target q p : List (List ℕ)) → is_root source ≡ false → is_root q ≡ false → path_before source target q ≡ Some p → is_root p ≡ false
below-before source target q p below root e = elim (cases_Bool (is_within target q)) [
  | inl h ↦ (let is : moved_path target source q ≡ p = (let both : Some (moved_path target source q) ≡ Some p = sym (before-in source target q h) ∙ e in cc) in
      subst (λ x. is_root x ≡ false) is (some_parts (source ++ drop (length target) q) (omega (arith, length-append source (drop (length target) q), not_root source below))))
  | inr h ↦ elim (cases_Bool (is_within source q)) [
    | inl g ↦ absurd (let both : None ≡ Some p = sym (before-gone source target q h g) ∙ e in cc)
    | inr g ↦ (let is : q ≡ p = (let both : Some q ≡ Some p = sym (before-out source target q h g) ∙ e in cc) in subst (λ x. is_root x ≡ false) is root)
  ]
]

-- below a name that is free, no tree of that shape has an entry
pub outside-tree : (nodes : List (Option Held)) (tree : List TreeEntry) (at : List (List ℕ)) (folder : ℕ) (name : List ℕ) → HasShapeOf nodes tree → slot_at nodes at ≡ Some folder → child_of nodes folder name ≡ None → AllOutside (at ++ name ∷ []) tree
outside-tree nodes tree at folder name shape there free = all-outside (at ++ name ∷ []) tree (λ p found. elim (cases_Bool (is_within (at ++ name ∷ []) p)) [
  | inr h ↦ h
  | inl h ↦ absurd (nowhere p (drop (length (at ++ name ∷ [])) p) (within-parts (at ++ name ∷ []) p h) found)
]) where
  nowhere : (p rest : List (List ℕ)) → p ≡ (at ++ name ∷ []) ++ rest → is_some (entry_at p tree) ≡ true → ⊥
  nowhere p rest e found =
      let none : slot_at nodes ((at ++ name ∷ []) ++ rest) ≡ None =
      walk-append (child_of nodes) 0 (at ++ name ∷ []) rest
      ∙ ap (option_and_then (λ t. slot_below (child_of nodes) t rest)) (walk-snoc (child_of nodes) 0 at name ∙ ap (option_and_then (λ t. child_of nodes t name)) there ∙ free) in
      let below : is_root ((at ++ name ∷ []) ++ rest) ≡ false = some_parts ((at ++ name ∷ []) ++ rest) (omega (arith, length-append (at ++ name ∷ []) rest, length-append at (name ∷ []))) in
      false≢true (sym (entry-some nodes tree ((at ++ name ∷ []) ++ rest) shape below ∙ ap (λ o. is_some (option_and_then (λ s. option_map shape_of (held_at nodes s)) o)) none) ∙ ap (λ x. is_some (entry_at x tree)) (sym e) ∙ found)

-- where paths lead once a node is at another place
pub placed-walk : (nodes : List (Option Held)) (slot : ℕ) (held : Held) (folder : ℕ) (name : List ℕ) (source at q : List (List ℕ)) → IsTable nodes → Moves nodes slot held folder name → is_root source ≡ false → slot_at nodes source ≡ Some slot → slot_at nodes at ≡ Some folder → is_within source at ≡ false → slot_at (set nodes slot (Some (placed_in folder name held))) q ≡ option_and_then (slot_at nodes) (path_before source (at ++ name ∷ []) q)
placed-walk nodes slot held folder name source at q table m below source_at there outside =
    walk-moved (child_of nodes) (child_of (set nodes slot (Some (placed_in folder name held)))) held.node.parent held.node.name folder name slot (parent_of source) at (place-differs nodes slot held folder name source at table m below source_at there outside) q
    ∙ ap (λ p. option_and_then (slot_at nodes) (path_before p (at ++ name ∷ []) q)) spelled
  where
    spelled : parent_of source ++ held.node.name ∷ [] ≡ source
    spelled =
        let last = last_step (child_of nodes) (parent_of source) (name_of source) slot (subst (λ p. slot_at nodes p ≡ Some slot) (path-split source (has_parts source below)) source_at) in
        let one = (table-forest nodes table).one_parent held.node.parent last.0 held.node.name (name_of source) slot (table.one_name slot held m.holds m.above_root) last.2 in
        ap (λ n. parent_of source ++ n ∷ []) one.1 ∙ sym (path-split source (has_parts source below))

-- a node at another place is the entries below it at their new paths
placed-shape : (nodes : List (Option Held)) (tree : List TreeEntry) (slot : ℕ) (held : Held) (folder : ℕ) (name : List ℕ) (source at : List (List ℕ)) → IsTable nodes → AreInOrder tree → HasShapeOf nodes tree → Moves nodes slot held folder name → is_root source ≡ false → slot_at nodes source ≡ Some slot → slot_at nodes at ≡ Some folder → is_within source at ≡ false → HasShapeOf (set nodes slot (Some (placed_in folder name held))) (in_path_order (moved source (at ++ name ∷ []) tree))
placed-shape nodes tree slot held folder name source at table order shape m below source_at there outside =
    record {
      same = same;
      as_many = (let sums = sums_same nodes slot held folder name m.there m.holds in omega (arith, sums.0, shape.as_many, sizes.0));
      as_large = (let sums = sums_same nodes slot held folder name m.there m.holds in sums.1 ∙ shape.as_large ∙ sym sizes.1);
    } where
      sizes : (length (in_path_order (moved source (at ++ name ∷ []) tree)) ≡ length tree) × (page_count (in_path_order (moved source (at ++ name ∷ []) tree)) ≡ page_count tree)
      sizes = sizes-same source (at ++ name ∷ []) tree

      -- where a path leads now
      walk : (q : List (List ℕ)) → slot_at (set nodes slot (Some (placed_in folder name held))) q ≡ option_and_then (slot_at nodes) (path_before source (at ++ name ∷ []) q)
      walk q = placed-walk nodes slot held folder name source at q table m below source_at there outside

      found : (q : List (List ℕ)) → shape_at (set nodes slot (Some (placed_in folder name held))) q ≡ option_and_then (shape_at nodes) (path_before source (at ++ name ∷ []) q)
      found q =
          same_on (λ s. option_map shape_of (held_at (set nodes slot (Some (placed_in folder name held))) s)) (λ s. option_map shape_of (held_at nodes s)) (slot_at (set nodes slot (Some (placed_in folder name held))) q) (λ s. shape-held nodes slot held folder name s m.there m.holds)
          ∙ ap (option_and_then (λ s. option_map shape_of (held_at nodes s))) (walk q)
          ∙ join-twice (λ s. option_map shape_of (held_at nodes s)) (slot_at nodes) (path_before source (at ++ name ∷ []) q)

      stood : (q : List (List ℕ)) → is_root q ≡ false → (o : Option (List (List ℕ))) → path_before source (at ++ name ∷ []) q ≡ o → option_and_then (shape_at nodes) o ≡ option_and_then (λ p. option_map shape_of_entry (entry_at p tree)) o
      stood q root None e = refl
      stood q root (Some p) e = shape.same p ∙ ap (λ v. cond v (Some (record { kind = Folder; len = 0 })) (option_map shape_of_entry (entry_at p tree))) (below-before source (at ++ name ∷ []) q p below root e)

      at_root : (q : List (List ℕ)) → q ≡ [] → shape_at (set nodes slot (Some (placed_in folder name held))) q ≡ shape_in q (in_path_order (moved source (at ++ name ∷ []) tree))
      at_root q e = ap (shape_at (set nodes slot (Some (placed_in folder name held)))) e ∙ shape-held nodes slot held folder name 0 m.there m.holds ∙ shape.same [] ∙ sym (ap (λ p. shape_in p (in_path_order (moved source (at ++ name ∷ []) tree))) e)

      same : (q : List (List ℕ)) → shape_at (set nodes slot (Some (placed_in folder name held))) q ≡ shape_in q (in_path_order (moved source (at ++ name ∷ []) tree))
      same q = elim (cases_Bool (is_root q)) [
        | inl h ↦ at_root q (root_is q h)
        | inr h ↦ found q ∙ stood q h (path_before source (at ++ name ∷ []) q) refl
            ∙ sym (entry-moved shape_of_entry (λ x p. refl) source (at ++ name ∷ []) q tree (outside-tree nodes tree at folder name shape there m.new_name) order (path_before source (at ++ name ∷ []) q) refl)
            ∙ sym (ap (λ v. cond v (Some (record { kind = Folder; len = 0 })) (option_map shape_of_entry (entry_at q (in_path_order (moved source (at ++ name ∷ []) tree))))) h)
      ]

-- ---- a node leaves

-- a node without children leaves: its name is free then
emptied-none : (nodes : List (Option Held)) (slot : ℕ) (held : Held) → IsTable nodes → slot < length nodes → 0 < slot → held_at nodes slot ≡ Some held → child_of (set nodes slot None) held.node.parent held.node.name ≡ None
emptied-none nodes slot held table l above holds =
    child_of-empty nodes slot held l holds above (own_places nodes table) held.node.parent held.node.name
    ∙ ap (λ v. cond v None (child_of nodes held.node.parent held.node.name)) (is_child-own held (omega (arith, (table.fits slot held holds).at_slot, above)))

-- how it changes the slots of children
emptied-differs : (nodes : List (Option Held)) (slot : ℕ) (held : Held) → IsTable nodes → slot < length nodes → 0 < slot → held_at nodes slot ≡ Some held → ((name : List ℕ) → child_of nodes slot name ≡ None) → DifferInLeaf (child_of nodes) (child_of (set nodes slot None)) held.node.parent held.node.name
emptied-differs nodes slot held table l above holds bare =
    record {
      forest = table-forest nodes table;
      others = others;
      none_before = λ y. ap (option_and_then (λ s. child_of nodes s y)) (table.one_name slot held holds above) ∙ bare y;
      none_after = λ y. ap (option_and_then (λ s. child_of (set nodes slot None) s y)) (emptied-none nodes slot held table l above holds);
    } where
      others : (t : ℕ) (y : List ℕ) → ((t ≡ held.node.parent) × (y ≡ held.node.name) → ⊥) → child_of (set nodes slot None) t y ≡ child_of nodes t y
      others t y differ = child_of-empty nodes slot held l holds above (own_places nodes table) t y ∙ (elim (cases_Bool (is_child t y (Some held))) [
        | inr h ↦ ap (λ v. cond v None (child_of nodes t y)) h
        | inl h ↦ absurd (let parts = is_child-parts t y held h in differ (sym parts.1, sym parts.2))
      ])

-- where paths lead once it is gone
pub walk-emptied : (nodes : List (Option Held)) (slot : ℕ) (held : Held) (at q : List (List ℕ)) → IsTable nodes → slot < length nodes → 0 < slot → held_at nodes slot ≡ Some held → ((name : List ℕ) → child_of nodes slot name ≡ None) → slot_at nodes at ≡ Some held.node.parent → (q ≡ at ++ held.node.name ∷ [] → ⊥) → slot_at (set nodes slot None) q ≡ slot_at nodes q
walk-emptied nodes slot held at q table l above holds bare there apart =
    elim (walk-changed (child_of nodes) (child_of (set nodes slot None)) held.node.parent held.node.name at (emptied-differs nodes slot held table l above holds bare) there q) [
      | inl h ↦ absurd (apart h.0)
      | inr h ↦ h.1
    ]

-- and its own path leads nowhere
pub gone-emptied : (nodes : List (Option Held)) (slot : ℕ) (held : Held) (at : List (List ℕ)) → IsTable nodes → slot < length nodes → 0 < slot → held_at nodes slot ≡ Some held → ((name : List ℕ) → child_of nodes slot name ≡ None) → slot_at nodes at ≡ Some held.node.parent → slot_at (set nodes slot None) (at ++ held.node.name ∷ []) ≡ None
gone-emptied nodes slot held at table l above holds bare there =
    elim (walk-changed (child_of nodes) (child_of (set nodes slot None)) held.node.parent held.node.name at (emptied-differs nodes slot held table l above holds bare) there (at ++ held.node.name ∷ [])) [
      | inl h ↦ h.1 ∙ emptied-none nodes slot held table l above holds
      | inr h ↦ absurd (h.0 refl)
    ]

-- ---- a rename

-- the target's folder isn't within the source
pub folder-outside : (nodes : List (Option Held)) (source target : List (List ℕ)) (slot folder : ℕ) (replaced : Option ℕ) → slot_at nodes source ≡ Some slot → IsMove nodes source target slot folder replaced → is_within source (parent_of target) ≡ false
folder-outside nodes source target slot folder replaced at m = elim (cases_Bool (is_within source (parent_of target))) [
  | inr h ↦ h
  | inl h ↦ absurd (elim (cases_Bool (holds_folder (held_at nodes slot))) [
    | inl f ↦ false≢true (sym m.outside ∙ ap (λ v. v && is_within source target) f ∙ within-parent source target h)
    | inr f ↦ below_file f (drop (length source) (parent_of target)) (within-parts source (parent_of target) h)
  ])
] where
  below_file : holds_folder (held_at nodes slot) ≡ false → (rest : List (List ℕ)) → parent_of target ≡ source ++ rest → ⊥
  below_file f [] e =
      let both : Some folder ≡ Some slot = sym m.folder_at ∙ ap (slot_at nodes) (e ∙ append-nil source) ∙ at in
      let is : folder ≡ slot = cc in
      false≢true (sym f ∙ ap (λ k. holds_folder (held_at nodes k)) (sym is) ∙ m.in_folder)
  below_file f (part ∷ parts) e =
      let none : slot_at nodes (source ++ part ∷ parts) ≡ None =
      walk-append (child_of nodes) 0 source (part ∷ parts)
      ∙ ap (option_and_then (λ t. slot_below (child_of nodes) t (part ∷ parts))) at
      ∙ ap (option_and_then (λ t. slot_below (child_of nodes) t parts)) (no_children nodes m.table slot f part) in
      let both : Some folder ≡ None = sym m.folder_at ∙ ap (slot_at nodes) e ∙ none in cc

-- the tree after a rename that moves something
abbrev after_move : List (List ℕ) → List (List ℕ) → List TreeEntry → List TreeEntry
after_move source target tree = in_path_order (moved source target (without target tree))

-- nothing stands at a target whose name is free
pub free-entry : (nodes : List (Option Held)) (tree : List TreeEntry) (source target : List (List ℕ)) (slot folder : ℕ) → HasShapeOf nodes tree → is_root target ≡ false → IsMove nodes source target slot folder None → entry_at target tree ≡ None
free-entry nodes tree source target slot folder shape to m =
    none_mapped (entry_at target tree) (entry-some nodes tree target shape to ∙ ap (λ o. is_some (option_and_then (λ s. option_map shape_of (held_at nodes s)) o)) (target-at nodes source target slot folder None to m))
  where
    none_mapped : (o : Option TreeEntry) → is_some o ≡ false → o ≡ None
    none_mapped None h = refl
    none_mapped (Some e) h = absurd (false≢true (sym h))

-- a rename to a name that was free
to-free : (nodes : List (Option Held)) (tree : List TreeEntry) (source target : List (List ℕ)) (slot folder : ℕ) (held : Held) → HasShapeOf nodes tree → IsTree tree → is_root source ≡ false → is_root target ≡ false → slot_at nodes source ≡ Some slot → held_at nodes slot ≡ Some held → IsMove nodes source target slot folder None → HasShapeOf (set nodes slot (Some (placed_in folder (name_of target) held))) (after_move source target tree)
to-free nodes tree source target slot folder held shape is_tree below to at holds m =
    subst (λ t. HasShapeOf (set nodes slot (Some (placed_in folder (name_of target) held))) (in_path_order (moved source target t))) (sym (without-none target tree (free-entry nodes tree source target slot folder shape to m)))
    (subst (λ t. HasShapeOf (set nodes slot (Some (placed_in folder (name_of target) held))) (in_path_order (moved source t tree))) (sym split)
    (placed-shape nodes tree slot held folder (name_of target) source (parent_of target) m.table is_tree.in_order shape (may-moves nodes slot folder (name_of target) held m.table (may-place nodes source target slot folder None below at m refl) holds) below at m.folder_at (folder-outside nodes source target slot folder None at m)))
  where
    split : target ≡ parent_of target ++ name_of target ∷ []
    split = path-split target (has_parts target to)

-- what a rename over a file knows of that file
pub record IsOver (nodes : List (Option Held)) (source target : List (List ℕ)) (slot folder other : ℕ) (held gone : Held) : Type 0 where
  pub replaces : Replaces nodes slot held other gone folder (name_of target)
  pub parent : slot_at nodes (parent_of target) ≡ Some gone.node.parent
  pub whole : parent_of target ++ gone.node.name ∷ [] ≡ target
  pub not_source : source ≡ parent_of target ++ gone.node.name ∷ [] → ⊥
  pub not_folder : parent_of target ≡ parent_of target ++ gone.node.name ∷ [] → ⊥

pub is-over : (nodes : List (Option Held)) (source target : List (List ℕ)) (slot folder other : ℕ) (held gone : Held) → is_root source ≡ false → is_root target ≡ false → same_path source target ≡ false → slot_at nodes source ≡ Some slot → held_at nodes slot ≡ Some held → held_at nodes other ≡ Some gone → IsMove nodes source target slot folder (Some other) → IsOver nodes source target slot folder other held gone
is-over nodes source target slot folder other held gone below to differ at holds goes m =
    let place = child-place nodes folder (name_of target) other gone m.table m.taken goes in
    let whole : parent_of target ++ gone.node.name ∷ [] ≡ target = ap (λ n. parent_of target ++ n ∷ []) place.2 ∙ sym (path-split target (has_parts target to)) in
    record {
      replaces = may-replaces nodes slot other folder (name_of target) held gone m.table (may-replace nodes source target slot folder (Some other) other below to differ at m refl) holds goes;
      parent = m.folder_at ∙ ap (λ k. Some k) (sym place.1);
      whole = whole;
      not_source = λ e. false≢true (sym differ ∙ (same_path-Decides source target).1 (e ∙ whole));
      not_folder = λ e. omega (arith, ap length e, length-append (parent_of target) (gone.node.name ∷ []));
    }

-- a rename over a file
over-file : (nodes : List (Option Held)) (tree : List TreeEntry) (source target : List (List ℕ)) (slot folder other : ℕ) (held gone : Held) → HasShapeOf nodes tree → IsTree tree → is_root source ≡ false → is_root target ≡ false → slot_at nodes source ≡ Some slot → IsOver nodes source target slot folder other held gone → held_at nodes other ≡ Some gone → IsMove nodes source target slot folder (Some other) → HasShapeOf (set (set nodes other None) slot (Some (placed_in folder (name_of target) held))) (after_move source target tree)
over-file nodes tree source target slot folder other held gone shape is_tree below to at over goes m =
    let r = over.replaces in
    let less : IsTable (set nodes other None) = IsTable-empty nodes other gone m.table r.other_there r.other_above goes r.bare in
    let smaller : HasShapeOf (set nodes other None) (without target tree) = subst (λ p. HasShapeOf (set nodes other None) (without p tree)) over.whole (shrunk nodes tree other gone (parent_of target) m.table is_tree shape (record { there = r.other_there; above_root = r.other_above; holds = goes; bare = r.bare }) over.parent) in
    subst (λ t. HasShapeOf (set (set nodes other None) slot (Some (placed_in folder (name_of target) held))) (in_path_order (moved source t (without target tree)))) (sym (path-split target (has_parts target to)))
    (placed-shape (set nodes other None) (without target tree) slot held folder (name_of target) source (parent_of target) less (AreInOrder-filter _ tree is_tree.in_order) smaller (replaces-moves nodes slot held other gone folder (name_of target) m.table r) below
    (walk-emptied nodes other gone (parent_of target) source m.table r.other_there r.other_above goes r.bare over.parent over.not_source ∙ at)
    (walk-emptied nodes other gone (parent_of target) (parent_of target) m.table r.other_there r.other_above goes r.bare over.parent over.not_folder ∙ m.folder_at)
    (folder-outside nodes source target slot folder (Some other) at m))

-- after a rename the nodes have the shape of the tree after it
pub renamed-shape : (nodes new : List (Option Held)) (tree : List TreeEntry) (source target : List (List ℕ)) (slot folder : ℕ) (replaced : Option ℕ) → HasShapeOf nodes tree → IsTree tree → is_root source ≡ false → is_root target ≡ false → same_path source target ≡ false → slot_at nodes source ≡ Some slot → IsMove nodes source target slot folder replaced → new ≡ with_place (without_slot nodes replaced) slot folder (name_of target) → HasShapeOf new (renamed source target tree)
renamed-shape nodes new tree source target slot folder None shape is_tree below to differ at m e =
    let held = slot_holds nodes m.table source slot at in
    let is : new ≡ set nodes slot (Some (placed_in folder (name_of target) held.0)) = e ∙ ap (λ o. set nodes slot (option_map (placed_in folder (name_of target)) o)) held.1 in
    subst (λ v. HasShapeOf new (cond v tree (after_move source target tree))) (sym differ)
    (subst (λ ns. HasShapeOf ns (after_move source target tree)) (sym is) (to-free nodes tree source target slot folder held.0 shape is_tree below to at held.1 m))
renamed-shape nodes new tree source target slot folder (Some other) shape is_tree below to differ at m e =
    let held = slot_holds nodes m.table source slot at in
    let gone = slot_holds nodes m.table target other (target-at nodes source target slot folder (Some other) to m) in
    let over = is-over nodes source target slot folder other held.0 gone.0 below to differ at held.1 gone.1 m in
    let moves = replaces-moves nodes slot held.0 other gone.0 folder (name_of target) m.table over.replaces in
    let is : new ≡ set (set nodes other None) slot (Some (placed_in folder (name_of target) held.0)) = e ∙ ap (λ o. set (set nodes other None) slot (option_map (placed_in folder (name_of target)) o)) moves.holds in
    subst (λ v. HasShapeOf new (cond v tree (after_move source target tree))) (sym differ)
    (subst (λ ns. HasShapeOf ns (after_move source target tree)) (sym is) (over-file nodes tree source target slot folder other held.0 gone.0 shape is_tree below to at over gone.1 m))
