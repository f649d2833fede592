-- What is put behind an order is the next entry of the tree, since each entry's folder stands before it.
use Rattle.std.proofs.Common.{◌≡◌, ◌≢◌, ℕ, ◌+◌, ◌-◌, ◌<◌, ◌≤◌, true, false, cond, eqb, List, [], ◌∷◌, ◌++◌, length, map, take, Option, Some, None, unwrap_or, ◌⊎◌, inl, inr, refl, sym, ap, subst, ◌∙◌, arith, length-append, append_assoc, slice_get, zero, suc}
use Rattle.std.specs.Option.{option_map, option_and_then}
use Rattle.std.specs.List.{find, All}
use Rattle.std.proofs.lemmas.List.Elements.{All-cons, All-nil}
use Rattle.std.specs.Ordering.{is_eq, ordering_then}
use Rattle.std.specs.declared.cmp.Ordering.TheVariants.{Less}
use Rattle.std.proofs.lemmas.List.{length-map, map-append}
use Rattle.std.proofs.lemmas.Bool.{cases_Bool, false≢true}
use Rattle.std.proofs.lemmas.Bool.Decides.{Decides-eqb}
use Rattle.vb_path.specs.Paths.{same_path, path_cmp}
use Rattle.vb_path.proofs.PathLaws.{path_cmp-total, same_path-Decides, same_path-ties}
use Rattle.vb_tree.specs.declared.tree.Kind.TheVariants.{Folder}
use Rattle.vb_tree.specs.declared.tree.TreeEntry.{TreeEntry}
use Rattle.vb_tree.specs.Trees.{is_root, entry_at, kind_at, parent_of, name_of, AllAfter, AreInOrder, AllBelongIn, BelongsIn, IsTree}
use Rattle.vb_index.specs.declared.held.Held.{Held}
use Rattle.vb_index.specs.Nodes.{held_at, is_child, child_of, slot_at, refs_of, refs_at, IsTable}
use Rattle.vb_index.specs.Indexes.{Shape, shape_of, shape_of_entry, shape_at, HasShapeOf}
use Rattle.vb_index.specs.Listings.{paths_of, AreInPathOrder}
use Rattle.vb_index.proofs.Ascending.{In, of-append}
use Rattle.vb_index.proofs.ChildLaws.{is_child-parts, child_of-Some}
use Rattle.vb_index.proofs.Growth.{path-split, slot_holds}
use Rattle.vb_index.proofs.Named.{name_ties}
use Rattle.vb_index.proofs.Newness.{has_parts}
use Rattle.vb_index.proofs.Tables.{table-forest}
use Rattle.vb_index.proofs.Walks.{IsForest, walk-snoc, walk-alone}
use Rattle.vb_frozen.specs.declared.entry.FrozenEntry.{FrozenEntry}
use Rattle.vb_frozen.specs.Orders.{slot_of, entry_for, order_of, path_in, entry_below, AreApart}

-- ---- the order of paths

not_before : (p : List (List ℕ)) → path_cmp p p ≡ Less → ⊥
not_before p h = false≢true (sym (same_path-ties p p ∙ ap is_eq h) ∙ (same_path-Decides p p).1 refl)

-- a folder is before what is in it
before_entry : (p : List (List ℕ)) (name : List ℕ) → path_cmp p (p ++ name ∷ []) ≡ Less
before_entry [] name = refl
before_entry (x ∷ xs) name = ap (λ o. ordering_then o (path_cmp xs (xs ++ name ∷ []))) (name_ties x) ∙ before_entry xs name

after-member : (p : List (List ℕ)) (front : List TreeEntry) (e : TreeEntry) (back : List TreeEntry) → AllAfter p (front ++ e ∷ back) → path_cmp p e.path ≡ Less
after-member p [] e back all = all.0
after-member p (x ∷ xs) e back all = after-member p xs e back all.1

after-here : (front : List TreeEntry) (e : TreeEntry) (back : List TreeEntry) → AreInOrder (front ++ e ∷ back) → AllAfter e.path back
after-here [] e back order = order.0
after-here (x ∷ xs) e back order = after-here xs e back order.1

after-in : (p q : List (List ℕ)) (es : List TreeEntry) → AllAfter p es → In q (map (λ e. e.path) es) → path_cmp p q ≡ Less
after-in p q [] all is = absurd is
after-in p q (e ∷ es) all (inl same) = subst (λ r. path_cmp p r ≡ Less) (sym same) all.0
after-in p q (e ∷ es) all (inr is) = after-in p q es all.1 is

-- an entry is what stands at its path
entry-here : (front : List TreeEntry) (e : TreeEntry) (back : List TreeEntry) → AreInOrder (front ++ e ∷ back) → entry_at e.path (front ++ e ∷ back) ≡ Some e
entry-here [] e back order = ap (λ b. cond b (Some e) (entry_at e.path back)) ((same_path-Decides e.path e.path).1 refl)
entry-here (x ∷ xs) e back order =
    let apart : same_path e.path x.path ≡ false = elim (cases_Bool (same_path e.path x.path)) [
      | inr fails ↦ fails
      | inl holds ↦ absurd (not_before x.path (subst (λ r. path_cmp x.path r ≡ Less) ((same_path-Decides e.path x.path).0 holds) (after-member x.path xs e back order.0)))
    ] in
    ap (λ b. cond b (Some x) (entry_at e.path (xs ++ e ∷ back))) apart ∙ entry-here xs e back order.1

belongs-here : (tree front : List TreeEntry) (e : TreeEntry) (back : List TreeEntry) → AllBelongIn tree (front ++ e ∷ back) → BelongsIn tree e
belongs-here tree [] e back all = all.0
belongs-here tree (x ∷ xs) e back all = belongs-here tree xs e back all.1

-- what stands at a path is among the entries
path-in : (p : List (List ℕ)) (tree : List TreeEntry) → is_root p ≡ false → kind_at p tree ≡ Some Folder → In p (map (λ e. e.path) tree)
path-in p tree below there = go tree (ap (λ b. cond b (Some Folder) (option_map (λ (e : TreeEntry). e.kind) (entry_at p tree))) (sym below) ∙ there) where
  go : (es : List TreeEntry) → option_map (λ (e : TreeEntry). e.kind) (entry_at p es) ≡ Some Folder → In p (map (λ e. e.path) es)
  go [] h = absurd (cc h)
  go (e ∷ es) h = elim (cases_Bool (same_path p e.path)) [
    | inl holds ↦ inl ((same_path-Decides p e.path).0 holds)
    | inr fails ↦ inr (go es (sym (ap (λ b. option_map (λ (x : TreeEntry). x.kind) (cond b (Some e) (entry_at p es))) fails) ∙ h))
  ]

longer : (p : List (List ℕ)) (name : List ℕ) → p ≡ p ++ name ∷ [] → ⊥
longer p name e = omega (arith, ap length e, length-append p (name ∷ []))

no_parts : (p : List (List ℕ)) → is_root p ≡ true → p ≡ []
no_parts [] h = refl
no_parts (x ∷ xs) h = absurd (let is = (Decides-eqb (length (x ∷ xs)) 0).0 h in omega (arith, is))

-- an entry's folder is the root or stands before it
folder-before : (tree front : List TreeEntry) (e : TreeEntry) (back : List TreeEntry) → tree ≡ front ++ e ∷ back → IsTree tree → (parent_of e.path ≡ []) ⊎ In (parent_of e.path) (map (λ x. x.path) front)
folder-before tree front e back split is =
    let order : AreInOrder (front ++ e ∷ back) = subst AreInOrder split is.in_order in
    let here : BelongsIn tree e = belongs-here tree front e back (subst (AllBelongIn tree) split is.all_belong) in
    let p = parent_of e.path in
    let whole : e.path ≡ p ++ name_of e.path ∷ [] = path-split e.path (has_parts e.path here.below_root) in
    let less : path_cmp p e.path ≡ Less = subst (λ r. path_cmp p r ≡ Less) (sym whole) (before_entry p (name_of e.path)) in
    elim (cases_Bool (is_root p)) [
      | inl root ↦ inl (no_parts p root)
      | inr below ↦ elim (of-append p (map (λ x. x.path) front) (e.path ∷ map (λ x. x.path) back) (subst (In p) (ap (map (λ x. x.path)) split ∙ map-append (λ x. x.path) front (e ∷ back)) (path-in p tree below here.parent_there))) [
        | inl before ↦ inr before
        | inr (inl same) ↦ absurd (longer p (name_of e.path) (same ∙ whole))
        | inr (inr after) ↦ absurd (not_before p (path_cmp-total.trans p e.path p less (after-in e.path p back (after-here front e back order) after)))
      ]
    ]

-- ---- the slots of paths

-- every path of these entries leads to a slot
abbrev pub AllLead : List (Option Held) → List TreeEntry → Type 0
AllLead nodes [] = Unit {0}
AllLead nodes (e ∷ es) = ((slot : ℕ) × (slot_at nodes e.path ≡ Some slot)) × AllLead nodes es

leads-front : (nodes : List (Option Held)) (front back : List TreeEntry) → AllLead nodes (front ++ back) → AllLead nodes front
leads-front nodes [] back all = tt
leads-front nodes (x ∷ xs) back all = (all.0, leads-front nodes xs back all.1)

-- at the path of each of these entries the tree has it
abbrev pub AllAt : List TreeEntry → List TreeEntry → Type 0
AllAt tree [] = Unit {0}
AllAt tree (e ∷ es) = (entry_at e.path tree ≡ Some e) × AllAt tree es

pub all-here : (front es : List TreeEntry) → AreInOrder (front ++ es) → AllAt (front ++ es) es
all-here front [] order = tt
all-here front (e ∷ es) order = (
  entry-here front e es order,
  subst (λ t. AllAt t es) (append_assoc front (e ∷ []) es) (all-here (front ++ e ∷ []) es (subst AreInOrder (sym (append_assoc front (e ∷ []) es)) order)),
)

leads : (nodes : List (Option Held)) (tree es : List TreeEntry) → HasShapeOf nodes tree → AllAt tree es → AllBelongIn tree es → AllLead nodes es
leads nodes tree [] shape at belong = tt
leads nodes tree (e ∷ es) shape at belong = (by (slot_at nodes e.path) refl, leads nodes tree es shape at.1 belong.1) where
  seen : shape_at nodes e.path ≡ Some (shape_of_entry e)
  seen = shape.same e.path
      ∙ ap (λ b. cond b (Some (record { kind = Folder; len = 0 })) (option_map shape_of_entry (entry_at e.path tree))) belong.0.below_root
      ∙ ap (option_map shape_of_entry) at.0

  by : (o : Option ℕ) → slot_at nodes e.path ≡ o → (slot : ℕ) × (slot_at nodes e.path ≡ Some slot)
  by None is = absurd (let none : None ≡ Some (shape_of_entry e) = sym (ap (option_and_then (λ s. option_map shape_of (held_at nodes s))) is) ∙ seen in cc none)
  by (Some slot) is = (slot, is)

-- every path of a tree leads to a slot
pub tree-leads : (nodes : List (Option Held)) (tree : List TreeEntry) → IsTree tree → HasShapeOf nodes tree → AllLead nodes tree
tree-leads nodes tree is shape = leads nodes tree tree shape (all-here [] tree is.in_order) is.all_belong

-- the path of a slot is found among these entries
path-found : (nodes : List (Option Held)) (p : List (List ℕ)) (folder : ℕ) → IsForest (child_of nodes) → slot_at nodes p ≡ Some folder → (front : List TreeEntry) → AllLead nodes front → (p ≡ []) ⊎ In p (map (λ x. x.path) front) → path_in (order_of nodes front) folder ≡ p
path-found nodes p folder forest at [] all (inl root) = sym root
path-found nodes p folder forest at [] all (inr is) = absurd is
path-found nodes p folder forest at (x ∷ xs) all before = elim (cases_Bool (eqb (slot_of nodes x.path) folder)) [
  | inl holds ↦
      let same : slot_of nodes x.path ≡ folder = (Decides-eqb (slot_of nodes x.path) folder).0 holds in
      let there : slot_at nodes x.path ≡ Some folder = all.0.1 ∙ ap (λ (k : ℕ). Some k) (sym (ap (λ o. unwrap_or o 0) all.0.1) ∙ same) in
      ap (λ b. unwrap_or (option_map (λ (f : FrozenEntry). f.path) (cond b (Some (entry_for nodes x)) (find (λ f. eqb f.slot folder) (order_of nodes xs)))) []) holds
      ∙ walk-alone (child_of nodes) forest x.path p folder there at
  | inr fails ↦
      ap (λ b. unwrap_or (option_map (λ (f : FrozenEntry). f.path) (cond b (Some (entry_for nodes x)) (find (λ f. eqb f.slot folder) (order_of nodes xs)))) []) fails
      ∙ path-found nodes p folder forest at xs all.1 (other fails before)
] where
  other : eqb (slot_of nodes x.path) folder ≡ false → (p ≡ []) ⊎ In p (map (λ y. y.path) (x ∷ xs)) → (p ≡ []) ⊎ In p (map (λ y. y.path) xs)
  other fails (inl root) = inl root
  other fails (inr (inl same)) = absurd (false≢true (sym fails ∙ (Decides-eqb (slot_of nodes x.path) folder).1 (ap (λ o. unwrap_or o 0) (ap (slot_at nodes) (sym same) ∙ at))))
  other fails (inr (inr is)) = inr is

-- the folder of a path, and the child there
folder-of : (nodes : List (Option Held)) (path : List (List ℕ)) (slot : ℕ) → 0 < length path → slot_at nodes path ≡ Some slot → (folder : ℕ) × (slot_at nodes (parent_of path) ≡ Some folder) × (child_of nodes folder (name_of path) ≡ Some slot)
folder-of nodes path slot h at = by (slot_at nodes (parent_of path)) refl (sym (ap (slot_at nodes) (path-split path h) ∙ walk-snoc (child_of nodes) 0 (parent_of path) (name_of path)) ∙ at) where
  by : (o : Option ℕ) → slot_at nodes (parent_of path) ≡ o → option_and_then (λ t. child_of nodes t (name_of path)) (slot_at nodes (parent_of path)) ≡ Some slot → (folder : ℕ) × (slot_at nodes (parent_of path) ≡ Some folder) × (child_of nodes folder (name_of path) ≡ Some slot)
  by None is led = absurd (let none : None ≡ Some slot = sym (ap (option_and_then (λ t. child_of nodes t (name_of path))) is) ∙ led in cc none)
  by (Some folder) is led = (folder, is, sym (ap (option_and_then (λ t. child_of nodes t (name_of path))) is) ∙ led)

-- an entry has what a node of its shape has
same_entry : (a b : FrozenEntry) → a.path ≡ b.path → a.kind ≡ b.kind → a.len ≡ b.len → a.slot ≡ b.slot → a.parent ≡ b.parent → a.refs ≡ b.refs → a ≡ b
same_entry a b path kind len slot parent refs = λ i. record { path = path i; kind = kind i; len = len i; slot = slot i; parent = parent i; refs = refs i }

-- what is put behind an order of the entries before it is the tree's next entry
pub next-entry : (nodes : List (Option Held)) (tree front : List TreeEntry) (e : TreeEntry) (back : List TreeEntry) (slot : ℕ) (held : Held) → IsTable nodes → IsTree tree → HasShapeOf nodes tree → AllLead nodes tree → tree ≡ front ++ e ∷ back → slot_at nodes e.path ≡ Some slot → held_at nodes slot ≡ Some held → entry_below (order_of nodes front) held.node (unwrap_or (refs_of held) []) ≡ entry_for nodes e
next-entry nodes tree front e back slot held table is shape lead split at there =
    let order : AreInOrder (front ++ e ∷ back) = subst AreInOrder split is.in_order in
    let below : is_root e.path ≡ false = (belongs-here tree front e back (subst (AllBelongIn tree) split is.all_belong)).below_root in
    let whole : e.path ≡ parent_of e.path ++ name_of e.path ∷ [] = path-split e.path (has_parts e.path below) in
    let up = folder-of nodes e.path slot (has_parts e.path below) at in
    let parts = is_child-parts up.0 (name_of e.path) held (sym (ap (is_child up.0 (name_of e.path)) there) ∙ (child_of-Some nodes up.0 (name_of e.path) slot up.2).1) in
    let found : path_in (order_of nodes front) up.0 ≡ parent_of e.path = path-found nodes (parent_of e.path) up.0 (table-forest nodes table) up.1 front (leads-front nodes front (e ∷ back) (subst (AllLead nodes) split lead)) (folder-before tree front e back split is) in
    let slot_is : slot_of nodes e.path ≡ slot = ap (λ o. unwrap_or o 0) at in
    let seen : Some (shape_of held) ≡ Some (shape_of_entry e) =
    sym (ap (option_and_then (λ s. option_map shape_of (held_at nodes s))) at ∙ ap (option_map shape_of) there)
    ∙ shape.same e.path
    ∙ ap (λ b. cond b (Some (record { kind = Folder; len = 0 })) (option_map shape_of_entry (entry_at e.path tree))) below
    ∙ ap (option_map shape_of_entry) (ap (entry_at e.path) split ∙ entry-here front e back order) in
    let same : shape_of held ≡ shape_of_entry e = cc seen in
    same_entry (entry_below (order_of nodes front) held.node (unwrap_or (refs_of held) [])) (entry_for nodes e)
    (ap (λ (k : ℕ). path_in (order_of nodes front) k ++ held.node.name ∷ []) parts.1 ∙ ap (λ q. q ++ held.node.name ∷ []) found ∙ ap (λ n. parent_of e.path ++ n ∷ []) parts.2 ∙ sym whole)
    (ap (λ (s : Shape). s.kind) same)
    (ap (λ (s : Shape). s.len) same)
    ((table.fits slot held there).at_slot ∙ sym slot_is)
    (parts.1 ∙ sym (ap (λ o. unwrap_or o 0) up.1))
    (sym (ap (λ (k : ℕ). unwrap_or (refs_at nodes k) []) slot_is ∙ ap (λ o. unwrap_or (option_and_then refs_of o) []) there))

-- ---- one slot after the other

-- the entry of a tree at a place, whose path leads to this slot
pub record IsSplit (nodes : List (Option Held)) (tree : List TreeEntry) (j slot : ℕ) : Type 0 where
  pub front : List TreeEntry
  pub entry : TreeEntry
  pub back : List TreeEntry
  pub split : tree ≡ front ++ entry ∷ back
  pub before : take j tree ≡ front
  pub more : take (j + 1) tree ≡ front ++ entry ∷ []
  pub at : slot_at nodes entry.path ≡ Some slot

split-at : (nodes : List (Option Held)) (slots : List ℕ) (tree : List TreeEntry) (j slot : ℕ) → map (λ s. Some s) slots ≡ map (slot_at nodes) (map (λ e. e.path) tree) → slice_get slots j ≡ Some slot → IsSplit nodes tree j slot
split-at nodes [] tree j slot same there = absurd (cc there)
split-at nodes (s ∷ ss) [] j slot same there = absurd (omega (arith, ap length same))
split-at nodes (s ∷ ss) (x ∷ xs) zero slot same there =
    let here : Some s ≡ slot_at nodes x.path = cc same in
    record { front = []; entry = x; back = xs; split = refl; before = refl; more = refl; at = sym here ∙ there }
split-at nodes (s ∷ ss) (x ∷ xs) (suc j) slot same there =
    let others : map (λ k. Some k) ss ≡ map (slot_at nodes) (map (λ e. e.path) xs) = cc same in
    let rest = split-at nodes ss xs j slot others there in
    let next : suc j + 1 ≡ suc (j + 1) = omega arith in
    record {
      front = x ∷ rest.front;
      entry = rest.entry;
      back = rest.back;
      split = ap (λ (t : List TreeEntry). x ∷ t) rest.split;
      before = ap (λ (t : List TreeEntry). x ∷ t) rest.before;
      more = ap (λ n. take n (x ∷ xs)) next ∙ ap (λ (t : List TreeEntry). x ∷ t) rest.more;
      at = rest.at;
    }

split-slot : (nodes : List (Option Held)) (tree : List TreeEntry) (slots : List ℕ) (i slot : ℕ) → AreInPathOrder nodes tree slots → 1 ≤ i → slice_get slots i ≡ Some slot → IsSplit nodes tree (i - 1) slot
split-slot nodes tree [] i slot order h there = absurd (cc there)
split-slot nodes tree (s ∷ ss) zero slot order h there = absurd (omega (arith, h))
split-slot nodes tree (s ∷ ss) (suc j) slot order h there =
    let others : map (λ k. Some k) ss ≡ map (slot_at nodes) (map (λ e. e.path) tree) = cc order in
    let back : j ≡ suc j - 1 = omega arith in
    subst (λ n. IsSplit nodes tree n slot) back (split-at nodes ss tree j slot others there)

take_past : {A : Type 0} (xs : List A) (n : ℕ) → length xs ≤ n → take n xs ≡ xs
take_past [] zero h = refl
take_past [] (suc n) h = refl
take_past (x ∷ xs) zero h = absurd (omega (arith, h))
take_past {A} (x ∷ xs) (suc n) h = ap (λ (t : List A). x ∷ t) (take_past xs n (omega (arith, h)))

-- the order of the first entries of a tree, and one more
pub grown : (nodes : List (Option Held)) (tree : List TreeEntry) (slots : List ℕ) (entries new : List FrozenEntry) (i slot : ℕ) → IsTable nodes → IsTree tree → HasShapeOf nodes tree → AreInPathOrder nodes tree slots → 1 ≤ i → slice_get slots i ≡ Some slot → entries ≡ order_of nodes (take (i - 1) tree) → ((held : Held) → held_at nodes slot ≡ Some held → new ≡ entries ++ entry_below entries held.node (unwrap_or (refs_of held) []) ∷ []) → new ≡ order_of nodes (take (i + 1 - 1) tree)
grown nodes tree slots entries new i slot table is shape order h there was added =
    let s = split-slot nodes tree slots i slot order h there in
    let held = slot_holds nodes table s.entry.path slot s.at in
    let before : entries ≡ order_of nodes s.front = was ∙ ap (order_of nodes) s.before in
    let next : i + 1 - 1 ≡ i - 1 + 1 = omega (arith, h) in
    added held.0 held.1
    ∙ ap (λ es. es ++ entry_below es held.0.node (unwrap_or (refs_of held.0) []) ∷ []) before
    ∙ ap (λ e. order_of nodes s.front ++ e ∷ []) (next-entry nodes tree s.front s.entry s.back slot held.0 table is shape (tree-leads nodes tree is shape) s.split s.at held.1)
    ∙ sym (map-append (entry_for nodes) s.front (s.entry ∷ []))
    ∙ ap (order_of nodes) (sym (ap (λ n. take n tree) next ∙ s.more))

-- once all slots were gone over, the order is the tree's
pub all-grown : (nodes : List (Option Held)) (tree : List TreeEntry) (slots : List ℕ) (entries : List FrozenEntry) (i : ℕ) → AreInPathOrder nodes tree slots → length slots ≤ i → entries ≡ order_of nodes (take (i - 1) tree) → entries ≡ order_of nodes tree
all-grown nodes tree slots entries i order end was =
    let sizes : length slots ≡ length tree + 1 = omega (arith, length-map slots (λ (s : ℕ). Some s), ap length order, length-map tree (λ (e : TreeEntry). e.path), length-map (paths_of tree) (slot_at nodes)) in
    was ∙ ap (order_of nodes) (take_past tree (i - 1) (omega (arith, sizes, end)))

-- ---- no two entries of a tree have one slot

slots-after : (nodes : List (Option Held)) (e : TreeEntry) (es : List TreeEntry) → IsForest (child_of nodes) → AllLead nodes (e ∷ es) → AllAfter e.path es → All (λ (f : FrozenEntry). f.slot ≢ slot_of nodes e.path) (order_of nodes es)
slots-after nodes e [] forest lead after = All-nil (λ (f : FrozenEntry). f.slot ≢ slot_of nodes e.path)
slots-after nodes e (x ∷ xs) forest lead after =
    All-cons (λ (f : FrozenEntry). f.slot ≢ slot_of nodes e.path) (entry_for nodes x) (order_of nodes xs)
    (λ same.
    let there : slot_at nodes x.path ≡ Some (slot_of nodes x.path) = lead.1.0.1 ∙ ap (λ (k : ℕ). Some k) (sym (ap (λ o. unwrap_or o 0) lead.1.0.1)) in
    let here : slot_at nodes e.path ≡ Some (slot_of nodes e.path) = lead.0.1 ∙ ap (λ (k : ℕ). Some k) (sym (ap (λ o. unwrap_or o 0) lead.0.1)) in
    let path : x.path ≡ e.path = walk-alone (child_of nodes) forest x.path e.path (slot_of nodes e.path) (there ∙ ap (λ (k : ℕ). Some k) same) here in
    not_before e.path (subst (λ p. path_cmp e.path p ≡ Less) path after.0))
    (slots-after nodes e xs forest (lead.0, lead.1.1) after.1)

slots-apart : (nodes : List (Option Held)) (es : List TreeEntry) → IsForest (child_of nodes) → AllLead nodes es → AreInOrder es → AreApart (order_of nodes es)
slots-apart nodes [] forest lead order = tt
slots-apart nodes (e ∷ es) forest lead order = (slots-after nodes e es forest lead order.0, slots-apart nodes es forest lead.1 order.1)

pub order-apart : (nodes : List (Option Held)) (tree : List TreeEntry) → IsTable nodes → IsTree tree → HasShapeOf nodes tree → AreApart (order_of nodes tree)
order-apart nodes tree table is shape = slots-apart nodes tree (table-forest nodes table) (tree-leads nodes tree is shape) is.in_order
