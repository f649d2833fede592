-- A new node is a new entry of every tree that has the shape of the nodes.
use Rattle.std.proofs.Common.{◌≡◌, ℕ, ◌+◌, ◌-◌, ◌<◌, true, false, cond, ◌==◌, List, [], ◌∷◌, ◌++◌, length, take, set, Option, Some, None, inl, inr, refl, sym, ap, ◌∙◌, arith, length-append}
use Rattle.std.specs.Option.{option_map, option_and_then}
use Rattle.std.specs.Ordering.{is_lt}
use Rattle.std.proofs.lemmas.Bool.{cases_Bool, false≢true}
use Rattle.std.proofs.lemmas.Bool.Decides.{Decides-eqb}
use Rattle.std.proofs.lemmas.List.{take_more, take_all}
use Rattle.std.proofs.lemmas.List.Sums.{sum_by-cons}
use Rattle.vb_path.specs.Paths.{same_path, path_cmp}
use Rattle.vb_path.proofs.PathLaws.{same_path-Decides}
use Rattle.vb_tree.specs.declared.tree.Kind.TheVariants.{Folder}
use Rattle.vb_tree.specs.declared.tree.TreeEntry.{TreeEntry}
use Rattle.vb_tree.specs.Trees.{is_root, entry_at, insert_entry, parent_of, name_of, pages_of_length, page_count}
use Rattle.vb_tree.proofs.TreeLaws.{entry_at-insert}
use Rattle.vb_index.specs.declared.held.Held.{Held}
use Rattle.vb_index.specs.Nodes.{held_at, holds_folder, is_child, child_of, slot_at, nodes_of_slot, pages_of_slot, IsHeld, IsTable}
use Rattle.vb_index.specs.Indexes.{Shape, shape_of, shape_at, shape_of_entry, shape_in, HasShapeOf}
use Rattle.vb_index.proofs.ChildLaws.{is_child-parts, is_child-own, child_of-Some, child_of-fill}
use Rattle.vb_index.proofs.Walks.{snoc-ind, last_step, DifferInLeaf, walk-changed}
use Rattle.vb_index.proofs.Tables.{table-forest, at_same, at_other, nodes_in-set, pages_in-set}
use Rattle.vb_index.proofs.Shapes.{shape_at-below}

-- ---- trees

entry_at-here : (new : TreeEntry) (tree : List TreeEntry) → entry_at new.path tree ≡ None → entry_at new.path (insert_entry new tree) ≡ Some new
entry_at-here new [] none = ap (λ v. cond v (Some new) None) ((same_path-Decides new.path new.path).1 refl)
entry_at-here new (e ∷ es) none =
    elim (cases_Bool (same_path new.path e.path)) [
      | inl h ↦ absurd (let found : Some e ≡ None = sym (ap (λ v. cond v (Some e) (entry_at new.path es)) h) ∙ none in cc)
      | inr h ↦ (let rest : entry_at new.path es ≡ None = sym (ap (λ v. cond v (Some e) (entry_at new.path es)) h) ∙ none in
          elim (is_lt (path_cmp new.path e.path)) as (λ v. entry_at new.path (cond v (new ∷ e ∷ es) (e ∷ insert_entry new es)) ≡ Some new) [
            | true ↦ ap (λ v. cond v (Some new) (entry_at new.path (e ∷ es))) ((same_path-Decides new.path new.path).1 refl)
            | false ↦ ap (λ v. cond v (Some e) (entry_at new.path (insert_entry new es))) h ∙ entry_at-here new es rest
          ])
    ]

length-insert_entry : (new : TreeEntry) (tree : List TreeEntry) → length (insert_entry new tree) ≡ length tree + 1
length-insert_entry new [] = refl
length-insert_entry new (e ∷ es) =
    let rest = length-insert_entry new es in
    elim (is_lt (path_cmp new.path e.path)) as (λ v. length (cond v (new ∷ e ∷ es) (e ∷ insert_entry new es)) ≡ length (e ∷ es) + 1) [
      | true ↦ omega arith
      | false ↦ omega (arith, rest)
    ]

page_count-insert_entry : (new : TreeEntry) (tree : List TreeEntry) → page_count (insert_entry new tree) ≡ page_count tree + pages_of_length (length new.bytes)
page_count-insert_entry new [] = sum_by-cons (λ e. pages_of_length (length e.bytes)) new [] ∙ omega arith
page_count-insert_entry new (e ∷ es) =
    let rest = page_count-insert_entry new es in
    let tail = sum_by-cons (λ (x : TreeEntry). pages_of_length (length x.bytes)) e es in
    elim (is_lt (path_cmp new.path e.path)) as (λ v. page_count (cond v (new ∷ e ∷ es) (e ∷ insert_entry new es)) ≡ page_count (e ∷ es) + pages_of_length (length new.bytes)) [
      | true ↦ omega (arith, sum_by-cons (λ (x : TreeEntry). pages_of_length (length x.bytes)) new (e ∷ es))
      | false ↦ omega (arith, sum_by-cons (λ (x : TreeEntry). pages_of_length (length x.bytes)) e (insert_entry new es), rest, tail)
    ]

-- ---- paths

-- a path that isn't the root is its folder's with its name
pub path-split : (path : List (List ℕ)) → 0 < length path → path ≡ parent_of path ++ name_of path ∷ []
path-split path h =
    let n : length path - 1 + 1 ≡ length path = omega arith in
    sym (take_all (length path) path (omega arith)) ∙ ap (λ k. take k path) (sym n) ∙ take_more path (length path - 1) [] (omega arith)

pub below_root : (at : List (List ℕ)) (name : List ℕ) → is_root (at ++ name ∷ []) ≡ false
below_root at name = elim (cases_Bool (is_root (at ++ name ∷ []))) [
  | inr h ↦ h
  | inl h ↦ absurd (let is = (Decides-eqb (length (at ++ name ∷ [])) 0).0 h in omega (arith, is, length-append at (name ∷ [])))
]

-- ---- nodes

-- a slot to which a path leads holds a node
pub slot_holds : (nodes : List (Option Held)) → IsTable nodes → (path : List (List ℕ)) (slot : ℕ) → slot_at nodes path ≡ Some slot → (held : Held) × (held_at nodes slot ≡ Some held)
slot_holds nodes table path slot h = snoc-ind (λ p. slot_at nodes p ≡ Some slot → (held : Held) × (held_at nodes slot ≡ Some held)) root more path h where
  root : slot_at nodes [] ≡ Some slot → (held : Held) × (held_at nodes slot ≡ Some held)
  root e = by (held_at nodes 0) refl where
    zero : 0 ≡ slot
    zero = let both : Some 0 ≡ Some slot = e in cc

    by : (o : Option Held) → held_at nodes 0 ≡ o → (held : Held) × (held_at nodes slot ≡ Some held)
    by None f = absurd (false≢true (sym (ap holds_folder f) ∙ table.root))
    by (Some held) f = (held, ap (held_at nodes) (sym zero) ∙ f)

  more : (q : List (List ℕ)) (y : List ℕ) → (slot_at nodes q ≡ Some slot → (held : Held) × (held_at nodes slot ≡ Some held)) → slot_at nodes (q ++ y ∷ []) ≡ Some slot → (held : Held) × (held_at nodes slot ≡ Some held)
  more q y ih e = by (held_at nodes slot) refl where
    last : (t : ℕ) × (slot_at nodes q ≡ Some t) × (child_of nodes t y ≡ Some slot)
    last = last_step (child_of nodes) q y slot e

    by : (o : Option Held) → held_at nodes slot ≡ o → (held : Held) × (held_at nodes slot ≡ Some held)
    by None f = absurd (false≢true (sym (ap (is_child last.0 y) f) ∙ (child_of-Some nodes last.0 y slot last.2).1))
    by (Some held) f = (held, f)

-- nothing is below what is no folder
pub no_children : (nodes : List (Option Held)) → IsTable nodes → (slot : ℕ) → holds_folder (held_at nodes slot) ≡ false → (name : List ℕ) → child_of nodes slot name ≡ None
no_children nodes table slot bare name = by (child_of nodes slot name) refl where
  one : (k : ℕ) → child_of nodes slot name ≡ Some k → (o : Option Held) → held_at nodes k ≡ o → ⊥
  one k e None f = false≢true (sym (ap (is_child slot name) f) ∙ (child_of-Some nodes slot name k e).1)
  one k e (Some held) f =
      let parts = is_child-parts slot name held (sym (ap (is_child slot name) f) ∙ (child_of-Some nodes slot name k e).1) in
      let up : 0 < k = omega (arith, parts.0, (table.fits k held f).at_slot) in
      false≢true (sym bare ∙ ap (λ p. holds_folder (held_at nodes p)) (sym parts.1) ∙ table.in_folder k held f up)

  by : (o : Option ℕ) → child_of nodes slot name ≡ o → child_of nodes slot name ≡ None
  by None e = e
  by (Some k) e = absurd (one k e (held_at nodes k) refl)

-- a new node that fits
pub record Fills (nodes : List (Option Held)) (slot : ℕ) (held : Held) : Type 0 where
  pub there : slot < length nodes
  pub above_root : 0 < slot
  pub free : held_at nodes slot ≡ None
  pub in_folder : holds_folder (held_at nodes held.node.parent) ≡ true
  pub new_name : child_of nodes held.node.parent held.node.name ≡ None
  pub fits : IsHeld slot held

-- how a new node changes the slots of children
pub fill-differs : (nodes : List (Option Held)) (slot : ℕ) (held : Held) → IsTable nodes → Fills nodes slot held → DifferInLeaf (child_of nodes) (child_of (set nodes slot (Some held))) held.node.parent held.node.name
fill-differs nodes slot held table f =
    record {
      forest = table-forest nodes table;
      others = others;
      none_before = λ y. ap (option_and_then (λ s. child_of nodes s y)) f.new_name;
      none_after = λ y. ap (option_and_then (λ s. child_of (set nodes slot (Some held)) s y)) here ∙ leaf y;
    } where
      filled : (t : ℕ) (y : List ℕ) → child_of (set nodes slot (Some held)) t y ≡ cond (is_child t y (Some held)) (Some slot) (child_of nodes t y)
      filled = child_of-fill nodes slot held f.there f.free f.new_name

      others : (t : ℕ) (y : List ℕ) → ((t ≡ held.node.parent) × (y ≡ held.node.name) → ⊥) → child_of (set nodes slot (Some held)) t y ≡ child_of nodes t y
      others t y apart = filled t y ∙ (elim (cases_Bool (is_child t y (Some held))) [
        | inr h ↦ ap (λ v. cond v (Some slot) (child_of nodes t y)) h
        | inl h ↦ absurd (let parts = is_child-parts t y held h in apart (sym parts.1, sym parts.2))
      ])

      here : child_of (set nodes slot (Some held)) held.node.parent held.node.name ≡ Some slot
      here = filled held.node.parent held.node.name ∙ ap (λ v. cond v (Some slot) (child_of nodes held.node.parent held.node.name)) (is_child-own held (omega (arith, f.fits.at_slot, f.above_root)))

      leaf : (y : List ℕ) → child_of (set nodes slot (Some held)) slot y ≡ None
      leaf y = filled slot y ∙ (elim (cases_Bool (is_child slot y (Some held))) [
        | inr h ↦ ap (λ v. cond v (Some slot) (child_of nodes slot y)) h ∙ no_children nodes table slot (ap holds_folder f.free) y
        | inl h ↦ absurd (let parts = is_child-parts slot y held h in false≢true (sym (ap (λ p. holds_folder (held_at nodes p)) parts.1 ∙ ap holds_folder f.free) ∙ f.in_folder))
      ])

nothing_mapped : (o : Option TreeEntry) → option_map shape_of_entry o ≡ None → o ≡ None
nothing_mapped None h = refl
nothing_mapped (Some e) h = absurd cc

-- where no child is, no tree of that shape has an entry
pub nothing_there : (nodes : List (Option Held)) (tree : List TreeEntry) (at : List (List ℕ)) (folder : ℕ) (name : List ℕ) → HasShapeOf nodes tree → slot_at nodes at ≡ Some folder → child_of nodes folder name ≡ None → entry_at (at ++ name ∷ []) tree ≡ None
nothing_there nodes tree at folder name shape there none =
    nothing_mapped (entry_at (at ++ name ∷ []) tree)
    (sym (ap (λ v. cond v (Some (record { kind = Folder; len = 0 })) (option_map shape_of_entry (entry_at (at ++ name ∷ []) tree))) (below_root at name))
    ∙ sym (shape.same (at ++ name ∷ [])) ∙ shape_at-below nodes at name folder there
    ∙ ap (option_and_then (λ s. option_map shape_of (held_at nodes s))) none)

-- a new node is a new entry, a file without bytes or a folder
pub grown : (nodes : List (Option Held)) (tree : List TreeEntry) (slot : ℕ) (held : Held) (at : List (List ℕ)) (new : TreeEntry) → IsTable nodes → HasShapeOf nodes tree → Fills nodes slot held → slot_at nodes at ≡ Some held.node.parent → new.path ≡ at ++ held.node.name ∷ [] → shape_of_entry new ≡ shape_of held → HasShapeOf (set nodes slot (Some held)) (insert_entry new tree)
grown nodes tree slot held at new table shape f there path alike =
    record {
      same = same;
      as_many = (let sums = nodes_in-set nodes slot (Some held) f.there in let old = ap nodes_of_slot f.free in omega (arith, sums, old, shape.as_many, length-insert_entry new tree));
      as_large = (let sums = pages_in-set nodes slot (Some held) f.there in let old = ap pages_of_slot f.free in let len = ap (λ (s : Shape). pages_of_length s.len) alike in omega (arith, sums, old, len, shape.as_large, page_count-insert_entry new tree));
    } where
      none : entry_at new.path tree ≡ None
      none = ap (λ p. entry_at p tree) path ∙ nothing_there nodes tree at held.node.parent held.node.name shape there f.new_name

      differs : DifferInLeaf (child_of nodes) (child_of (set nodes slot (Some held))) held.node.parent held.node.name
      differs = fill-differs nodes slot held table f

      child : child_of (set nodes slot (Some held)) held.node.parent held.node.name ≡ Some slot
      child = child_of-fill nodes slot held f.there f.free f.new_name held.node.parent held.node.name ∙ ap (λ v. cond v (Some slot) (child_of nodes held.node.parent held.node.name)) (is_child-own held (omega (arith, f.fits.at_slot, f.above_root)))

      here : (q : List (List ℕ)) → q ≡ at ++ held.node.name ∷ [] → slot_at (set nodes slot (Some held)) q ≡ child_of (set nodes slot (Some held)) held.node.parent held.node.name → shape_at (set nodes slot (Some held)) q ≡ shape_in q (insert_entry new tree)
      here q e walk =
          let mine : shape_at (set nodes slot (Some held)) q ≡ Some (shape_of held) = ap (option_and_then (λ s. option_map shape_of (held_at (set nodes slot (Some held)) s))) (walk ∙ child) ∙ ap (option_map shape_of) (at_same nodes slot slot (Some held) f.there refl) in
          let theirs : entry_at q (insert_entry new tree) ≡ Some new = ap (λ p. entry_at p (insert_entry new tree)) (e ∙ sym path) ∙ entry_at-here new tree none in
          let below : is_root q ≡ false = ap is_root e ∙ below_root at held.node.name in
          let found : shape_in q (insert_entry new tree) ≡ Some (shape_of_entry new) = ap (λ v. cond v (Some (record { kind = Folder; len = 0 })) (option_map shape_of_entry (entry_at q (insert_entry new tree)))) below ∙ ap (option_map shape_of_entry) theirs in
          mine ∙ ap (λ s. Some s) (sym alike) ∙ sym found

      kept : (q : List (List ℕ)) (o : Option ℕ) → slot_at nodes q ≡ o → option_and_then (λ s. option_map shape_of (held_at (set nodes slot (Some held)) s)) o ≡ option_and_then (λ s. option_map shape_of (held_at nodes s)) o
      kept q None e = refl
      kept q (Some s) e = ap (option_map shape_of) (at_other nodes slot s (Some held) (elim (cases_Bool (s == slot)) [
        | inr h ↦ h
        | inl h ↦ absurd (let holds = slot_holds nodes table q s e in
            let both : None ≡ Some holds.0 = sym f.free ∙ ap (held_at nodes) (sym ((Decides-eqb s slot).0 h)) ∙ holds.1 in cc)
      ]))

      away : (q : List (List ℕ)) → (q ≡ at ++ held.node.name ∷ [] → ⊥) → slot_at (set nodes slot (Some held)) q ≡ slot_at nodes q → shape_at (set nodes slot (Some held)) q ≡ shape_in q (insert_entry new tree)
      away q apart walk =
          let other : same_path q new.path ≡ false = elim (cases_Bool (same_path q new.path)) [ inr h ↦ h | inl h ↦ absurd (apart ((same_path-Decides q new.path).0 h ∙ path)) ] in
          ap (option_and_then (λ s. option_map shape_of (held_at (set nodes slot (Some held)) s))) walk
          ∙ kept q (slot_at nodes q) refl ∙ shape.same q
          ∙ ap (λ o. cond (is_root q) (Some (record { kind = Folder; len = 0 })) (option_map shape_of_entry o)) (sym (entry_at-insert q new tree other))

      same : (q : List (List ℕ)) → shape_at (set nodes slot (Some held)) q ≡ shape_in q (insert_entry new tree)
      same q = elim (walk-changed (child_of nodes) (child_of (set nodes slot (Some held))) held.node.parent held.node.name at differs there q) [
        | inl h ↦ here q h.0 h.1
        | inr h ↦ away q h.0 h.1
      ]
