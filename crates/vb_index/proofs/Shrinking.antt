-- A node that leaves is an entry that leaves every tree that has the shape of the nodes.
use Rattle.std.proofs.Common.{◌≡◌, ℕ, ◌+◌, ◌<◌, false, not, cond, ◌==◌, List, [], ◌∷◌, ◌++◌, length, set, Option, Some, None, inl, inr, refl, sym, ap, ◌∙◌, subst, arith}
use Rattle.std.specs.Option.{option_map, option_and_then}
use Rattle.std.specs.Ordering.{is_eq}
use Rattle.std.proofs.lemmas.Bool.{cases_Bool}
use Rattle.std.proofs.lemmas.Bool.Decides.{Decides-eqb}
use Rattle.std.proofs.lemmas.List.Sums.{sum_by-cons}
use Rattle.vb_path.specs.Paths.{same_path}
use Rattle.vb_path.proofs.PathLaws.{same_path-Decides, same_path-ties}
use Rattle.vb_tree.specs.declared.tree.Kind.TheVariants.{Folder}
use Rattle.vb_tree.specs.declared.tree.TreeEntry.{TreeEntry}
use Rattle.vb_tree.specs.Trees.{is_root, entry_at, without, pages_of_length, page_count, AllAfter, AreInOrder, IsTree}
use Rattle.vb_index.specs.declared.held.Held.{Held}
use Rattle.vb_index.specs.Nodes.{held_at, is_child, child_of, slot_at, nodes_of_slot, pages_of_slot, IsTable}
use Rattle.vb_index.specs.Indexes.{Shape, shape_of, shape_at, shape_of_entry, shape_in, HasShapeOf}
use Rattle.vb_index.proofs.ChildLaws.{is_child-parts, is_child-own, child_of-empty}
use Rattle.vb_index.proofs.Walks.{walk-snoc, walk-alone, DifferInLeaf, walk-changed}
use Rattle.vb_index.proofs.Tables.{own_places, table-forest, at_other, nodes_in-set, pages_in-set}
use Rattle.vb_index.proofs.Growth.{below_root}

-- ---- trees

-- nothing stands at a path from which all is gone
entry_at-gone : (path : List (List ℕ)) (es : List TreeEntry) → entry_at path (without path es) ≡ None
entry_at-gone path [] = refl
entry_at-gone path (e ∷ es) = elim (cases_Bool (same_path path e.path)) [
  | inl h ↦ ap (λ v. entry_at path (cond (not v) (e ∷ without path es) (without path es))) h ∙ entry_at-gone path es
  | inr h ↦ ap (λ v. entry_at path (cond (not v) (e ∷ without path es) (without path es))) h ∙ ap (λ v. cond v (Some e) (entry_at path (without path es))) h ∙ entry_at-gone path es
]

-- what stands elsewhere stays
entry_at-stays : (q path : List (List ℕ)) (es : List TreeEntry) → (q ≡ path → ⊥) → entry_at q (without path es) ≡ entry_at q es
entry_at-stays q path [] apart = refl
entry_at-stays q path (e ∷ es) apart = elim (cases_Bool (same_path path e.path)) [
  | inr h ↦ ap (λ v. entry_at q (cond (not v) (e ∷ without path es) (without path es))) h ∙ ap (λ o. cond (same_path q e.path) (Some e) o) (entry_at-stays q path es apart)
  | inl h ↦ (let is : path ≡ e.path = (same_path-Decides path e.path).0 h in
      let other : same_path q e.path ≡ false = elim (cases_Bool (same_path q e.path)) [ inr g ↦ g | inl g ↦ absurd (apart ((same_path-Decides q e.path).0 g ∙ sym is)) ] in
      ap (λ v. entry_at q (cond (not v) (e ∷ without path es) (without path es))) h ∙ entry_at-stays q path es apart ∙ sym (ap (λ v. cond v (Some e) (entry_at q es)) other))
]

-- what comes after a path isn't at it
after_stays : (path : List (List ℕ)) (es : List TreeEntry) → AllAfter path es → without path es ≡ es
after_stays path [] all = refl
after_stays path (e ∷ es) all =
    let apart : same_path path e.path ≡ false = same_path-ties path e.path ∙ ap is_eq all.0 in
    ap (λ v. cond (not v) (e ∷ without path es) (without path es)) apart ∙ ap (λ t. e ∷ t) (after_stays path es all.1)

abbrev LessBy : TreeEntry → List TreeEntry → List TreeEntry → Type 0
LessBy e before after = (length after + 1 ≡ length before) × (page_count after + pages_of_length (length e.bytes) ≡ page_count before)

-- a tree without one of its entries has one less
sizes-without : (path : List (List ℕ)) (es : List TreeEntry) (e : TreeEntry) → AreInOrder es → entry_at path es ≡ Some e → LessBy e es (without path es)
sizes-without path [] e order found = absurd cc
sizes-without path (x ∷ xs) e order found = elim (cases_Bool (same_path path x.path)) [
  | inl h ↦ (let is : path ≡ x.path = (same_path-Decides path x.path).0 h in
      let one : Some x ≡ Some e = sym (ap (λ v. cond v (Some x) (entry_at path xs)) h) ∙ found in
      let same : x ≡ e = cc in
      let rest : without path (x ∷ xs) ≡ xs = ap (λ v. cond (not v) (x ∷ without path xs) (without path xs)) h ∙ after_stays path xs (let P : List (List ℕ) → Type 0 = λ p. AllAfter p xs in subst P (sym is) order.0) in
      let P : List TreeEntry → Type 0 = λ t. LessBy e (x ∷ xs) t in
      let len = ap (λ (t : TreeEntry). pages_of_length (length t.bytes)) same in
      subst P (sym rest) (omega arith, omega (arith, sum_by-cons (λ (t : TreeEntry). pages_of_length (length t.bytes)) x xs, len)))
  | inr h ↦ (let below = sizes-without path xs e order.1 (sym (ap (λ v. cond v (Some x) (entry_at path xs)) h) ∙ found) in
      let rest : without path (x ∷ xs) ≡ x ∷ without path xs = ap (λ v. cond (not v) (x ∷ without path xs) (without path xs)) h in
      let P : List TreeEntry → Type 0 = λ t. LessBy e (x ∷ xs) t in
      subst P (sym rest) (omega (arith, below.0), omega (arith, below.1, sum_by-cons (λ (t : TreeEntry). pages_of_length (length t.bytes)) x xs, sum_by-cons (λ (t : TreeEntry). pages_of_length (length t.bytes)) x (without path xs))))
]

-- ---- nodes

-- a node that may leave
pub record Leaves (nodes : List (Option Held)) (slot : ℕ) (held : Held) : Type 0 where
  pub there : slot < length nodes
  pub above_root : 0 < slot
  pub holds : held_at nodes slot ≡ Some held
  pub bare : (name : List ℕ) → child_of nodes slot name ≡ None

some_mapped : (o : Option TreeEntry) (s : Shape) → option_map shape_of_entry o ≡ Some s → (e : TreeEntry) × (o ≡ Some e) × (shape_of_entry e ≡ s)
some_mapped None s h = absurd cc
some_mapped (Some e) s h = (e, refl, cc)

-- the entry of a tree at the path of a node
pub entry-held : (nodes : List (Option Held)) (tree : List TreeEntry) (at : List (List ℕ)) (name : List ℕ) (slot : ℕ) (held : Held) → HasShapeOf nodes tree → slot_at nodes (at ++ name ∷ []) ≡ Some slot → held_at nodes slot ≡ Some held → (e : TreeEntry) × (entry_at (at ++ name ∷ []) tree ≡ Some e) × (shape_of_entry e ≡ shape_of held)
entry-held nodes tree at name slot held shape walk holds =
    some_mapped (entry_at (at ++ name ∷ []) tree) (shape_of held)
    (sym (ap (λ v. cond v (Some (record { kind = Folder; len = 0 })) (option_map shape_of_entry (entry_at (at ++ name ∷ []) tree))) (below_root at name))
    ∙ sym (shape.same (at ++ name ∷ []))
    ∙ ap (option_and_then (λ s. option_map shape_of (held_at nodes s))) walk
    ∙ ap (option_map shape_of) holds)

-- a node that leaves is an entry that leaves
pub shrunk : (nodes : List (Option Held)) (tree : List TreeEntry) (slot : ℕ) (held : Held) (at : List (List ℕ)) → IsTable nodes → IsTree tree → HasShapeOf nodes tree → Leaves nodes slot held → slot_at nodes at ≡ Some held.node.parent → HasShapeOf (set nodes slot None) (without (at ++ held.node.name ∷ []) tree)
shrunk nodes tree slot held at table is_tree shape l there =
    record {
      same = same;
      as_many = (let sums = nodes_in-set nodes slot None l.there in let old = ap nodes_of_slot l.holds in omega (arith, sums, old, shape.as_many, sizes.0));
      as_large = (let sums = pages_in-set nodes slot None l.there in let old = ap pages_of_slot l.holds in let len = ap (λ (s : Shape). pages_of_length s.len) entry.2 in omega (arith, sums, old, len, shape.as_large, sizes.1));
    } where
      path : List (List ℕ)
      path = at ++ held.node.name ∷ []

      own : child_of nodes held.node.parent held.node.name ≡ Some slot
      own = table.one_name slot held l.holds l.above_root

      walk : slot_at nodes (at ++ held.node.name ∷ []) ≡ Some slot
      walk = walk-snoc (child_of nodes) 0 at held.node.name ∙ ap (option_and_then (λ t. child_of nodes t held.node.name)) there ∙ own

      entry : (e : TreeEntry) × (entry_at (at ++ held.node.name ∷ []) tree ≡ Some e) × (shape_of_entry e ≡ shape_of held)
      entry = entry-held nodes tree at held.node.name slot held shape walk l.holds

      sizes : LessBy entry.0 tree (without (at ++ held.node.name ∷ []) tree)
      sizes = sizes-without (at ++ held.node.name ∷ []) tree entry.0 is_tree.in_order entry.1

      emptied : (t : ℕ) (y : List ℕ) → child_of (set nodes slot None) t y ≡ cond (is_child t y (Some held)) None (child_of nodes t y)
      emptied = child_of-empty nodes slot held l.there l.holds l.above_root (own_places nodes table)

      none : child_of (set nodes slot None) held.node.parent held.node.name ≡ None
      none = emptied held.node.parent held.node.name ∙ ap (λ v. cond v None (child_of nodes held.node.parent held.node.name)) (is_child-own held (omega (arith, (table.fits slot held l.holds).at_slot, l.above_root)))

      others : (t : ℕ) (y : List ℕ) → ((t ≡ held.node.parent) × (y ≡ held.node.name) → ⊥) → child_of (set nodes slot None) t y ≡ child_of nodes t y
      others t y apart = emptied t y ∙ (elim (cases_Bool (is_child t y (Some held))) [
        | inr h ↦ ap (λ v. cond v None (child_of nodes t y)) h
        | inl h ↦ absurd (let parts = is_child-parts t y held h in apart (sym parts.1, sym parts.2))
      ])

      differs : DifferInLeaf (child_of nodes) (child_of (set nodes slot None)) held.node.parent held.node.name
      differs = record {
        forest = table-forest nodes table;
        others = others;
        none_before = λ y. ap (option_and_then (λ s. child_of nodes s y)) own ∙ l.bare y;
        none_after = λ y. ap (option_and_then (λ s. child_of (set nodes slot None) s y)) none;
      }

      here : (q : List (List ℕ)) → q ≡ at ++ held.node.name ∷ [] → slot_at (set nodes slot None) q ≡ child_of (set nodes slot None) held.node.parent held.node.name → shape_at (set nodes slot None) q ≡ shape_in q (without (at ++ held.node.name ∷ []) tree)
      here q e w =
          let mine : shape_at (set nodes slot None) q ≡ None = ap (option_and_then (λ s. option_map shape_of (held_at (set nodes slot None) s))) (w ∙ none) in
          let theirs : entry_at q (without (at ++ held.node.name ∷ []) tree) ≡ None = ap (λ p. entry_at p (without (at ++ held.node.name ∷ []) tree)) e ∙ entry_at-gone (at ++ held.node.name ∷ []) tree in
          let below : is_root q ≡ false = ap is_root e ∙ below_root at held.node.name in
          let found : shape_in q (without (at ++ held.node.name ∷ []) tree) ≡ None = ap (λ v. cond v (Some (record { kind = Folder; len = 0 })) (option_map shape_of_entry (entry_at q (without (at ++ held.node.name ∷ []) tree)))) below ∙ ap (option_map shape_of_entry) theirs in
          mine ∙ sym found

      kept : (q : List (List ℕ)) → (q ≡ at ++ held.node.name ∷ [] → ⊥) → (o : Option ℕ) → slot_at nodes q ≡ o → option_and_then (λ s. option_map shape_of (held_at (set nodes slot None) s)) o ≡ option_and_then (λ s. option_map shape_of (held_at nodes s)) o
      kept q apart None e = refl
      kept q apart (Some s) e = ap (option_map shape_of) (at_other nodes slot s None (elim (cases_Bool (s == slot)) [
        | inr h ↦ h
        | inl h ↦ absurd (apart (walk-alone (child_of nodes) (table-forest nodes table) q (at ++ held.node.name ∷ []) slot (e ∙ ap (λ k. Some k) ((Decides-eqb s slot).0 h)) walk))
      ]))

      away : (q : List (List ℕ)) → (q ≡ at ++ held.node.name ∷ [] → ⊥) → slot_at (set nodes slot None) q ≡ slot_at nodes q → shape_at (set nodes slot None) q ≡ shape_in q (without (at ++ held.node.name ∷ []) tree)
      away q apart w =
          ap (option_and_then (λ s. option_map shape_of (held_at (set nodes slot None) s))) w
          ∙ kept q apart (slot_at nodes q) refl ∙ shape.same q
          ∙ ap (λ o. cond (is_root q) (Some (record { kind = Folder; len = 0 })) (option_map shape_of_entry o)) (sym (entry_at-stays q (at ++ held.node.name ∷ []) tree apart))

      same : (q : List (List ℕ)) → shape_at (set nodes slot None) q ≡ shape_in q (without (at ++ held.node.name ∷ []) tree)
      same q = elim (walk-changed (child_of nodes) (child_of (set nodes slot None)) held.node.parent held.node.name at differs there q) [
        | inl h ↦ here q h.0 h.1
        | inr h ↦ away q h.0 h.1
      ]
