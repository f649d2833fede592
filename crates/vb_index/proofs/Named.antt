-- The entries of a folder by name, as a map has them and as a tree has them.
use Rattle.std.proofs.Common.{◌≡◌, ℕ, ◌<◌, ◌≤◌, Bool, true, false, cond, is_some, List, [], ◌∷◌, ◌++◌, length, map, get_or, Option, Some, None, Result, Ok, Err, IfOk, inl, inr, refl, sym, ap, ◌∙◌, subst, arith, length-append}
use Rattle.std.specs.Option.{option_map, option_and_then}
use Rattle.std.specs.Map.{lookup, keys_of, values_of}
use Rattle.std.specs.BTreeMap as tree
use Rattle.std.specs.List.{filter, AllByRecursion}
use Rattle.std.specs.List.Sorted.{IsStrictlySortedBy}
use Rattle.std.specs.Ordering.{nat_cmp, is_eq, ordering_reverse}
use Rattle.std.specs.declared.cmp.Ordering.{Ordering}
use Rattle.std.specs.declared.cmp.Ordering.TheVariants.{Less, Equal, Greater}
use Rattle.std.specs.Cmp.Lexicographic.{slice_cmp, nat_list_cmp_total}
use Rattle.std.proofs.lemmas.Bool.{cases_Bool, false≢true}
use Rattle.std.proofs.Math.ListN.{get_or-eq_default}
use Rattle.vb_path.specs.Paths.{same_path}
use Rattle.vb_path.proofs.PathLaws.{same_path-Decides}
use Rattle.vb_tree.specs.declared.tree.Kind.TheVariants.{Folder}
use Rattle.vb_tree.specs.declared.tree.TreeEntry.{TreeEntry}
use Rattle.vb_tree.specs.Trees.{entry_at, parent_of, name_of, is_entry_of, names_in, IsTree, AllNamesAfter, AreNamesInOrder}
use Rattle.vb_tree.proofs.NameOrder.{names_in-ordered}
use Rattle.vb_index.specs.declared.held.Held.{Held}
use Rattle.vb_index.specs.declared.table.Table.TheInside.{Inside}
use Rattle.vb_index.specs.Nodes.{held_at, holds_folder, is_child, child_of, slot_at, IsTable}
use Rattle.vb_index.specs.Tables.{IsKept}
use Rattle.vb_index.specs.Indexes.{shape_of, shape_of_entry, shape_in, HasShapeOf}
use Rattle.vb_index.specs.Listings.{name_in, name_at, AreEntries}
use Rattle.vb_index.proofs.Ascending.{In, IsStrict, AllBelow, Ascends, below-in, ascending-same, in-map, contains-in, in-contains, map-same}
use Rattle.vb_index.proofs.ChildLaws.{same_name-Decides, is_child-parts, child_of-Some}
use Rattle.vb_index.proofs.Growth.{path-split, below_root, no_children}
use Rattle.vb_index.proofs.Leaving.{Entries, entry_path, entry_of-snoc}
use Rattle.vb_index.proofs.Shapes.{shape_at-below}
use Rattle.vb_index.proofs.Shrinking.{entry-held}
use Rattle.vb_index.proofs.Walks.{walk-snoc, snoc-inj}

-- what follows of a value at Ok
pub ok-then : {T E : Type 0} (r : Result T E) (P Q : T → Type 0) → ((x : T) → P x → Q x) → IfOk r P → IfOk r Q
ok-then (Ok x) P Q f h = f x h
ok-then (Err e) P Q f h = tt

-- ---- the order of names

abbrev pub NameBelow : List ℕ → List ℕ → Type 0
NameBelow a b = slice_cmp nat_cmp a b ≡ Less

-- a name ties with itself
pub name_ties : (a : List ℕ) → slice_cmp nat_cmp a a ≡ Equal
name_ties a = tied (slice_cmp nat_cmp a a) (nat_list_cmp_total.antisymm a a) where
  tied : (o : Ordering) → o ≡ ordering_reverse o → o ≡ Equal
  tied Less e = absurd (differ e) where
    differ : Less ≡ Greater → ⊥
    differ d = cc
  tied Equal e = refl
  tied Greater e = absurd (differ e) where
    differ : Greater ≡ Less → ⊥
    differ d = cc

pub names-strict : IsStrict NameBelow
names-strict = record { apart = λ a h. (let both : Less ≡ Equal = sym h ∙ name_ties a in cc); trans = nat_list_cmp_total.trans }

after-below : (x : List ℕ) (ys : List (List ℕ)) → AllNamesAfter x ys → AllBelow NameBelow x ys
after-below x [] all = tt
after-below x (y ∷ ys) all = (all.0, after-below x ys all.1)

pub order-ascends : (xs : List (List ℕ)) → AreNamesInOrder xs → Ascends NameBelow xs
order-ascends [] up = tt
order-ascends (x ∷ xs) up = (after-below x xs up.0, order-ascends xs up.1)

below-after : (x : List ℕ) (ys : List (List ℕ)) → AllBelow NameBelow x ys → AllNamesAfter x ys
below-after x [] all = tt
below-after x (y ∷ ys) all = (all.0, below-after x ys all.1)

ascends-order : (xs : List (List ℕ)) → Ascends NameBelow xs → AreNamesInOrder xs
ascends-order [] up = tt
ascends-order (x ∷ xs) up = (below-after x xs up.0, ascends-order xs up.1)

recursion-below : (x : List ℕ) (ys : List (List ℕ)) → AllByRecursion (λ y. slice_cmp nat_cmp x y ≡ Less) ys → AllBelow NameBelow x ys
recursion-below x [] all = tt
recursion-below x (y ∷ ys) all = (all.0, recursion-below x ys all.1)

sorted-ascends : (xs : List (List ℕ)) → IsStrictlySortedBy (slice_cmp nat_cmp) xs → Ascends NameBelow xs
unfolding IsStrictlySortedBy
sorted-ascends [] up = tt
sorted-ascends (x ∷ xs) up = (recursion-below x xs up.0, sorted-ascends xs up.1)

-- ---- maps

abbrev look : List ℕ → List (List ℕ × ℕ) → Option ℕ
look name es = lookup (tree.is_at (slice_cmp nat_cmp name)) es

other_key : (a b : List ℕ) → NameBelow a b → is_eq (slice_cmp nat_cmp b a) ≡ false
other_key a b h = elim (cases_Bool (is_eq (slice_cmp nat_cmp b a))) [
  | inr e ↦ e
  | inl e ↦ absurd (names-strict.apart a (subst (NameBelow a) ((same_name-Decides b a).0 e) h))
]

-- each value stands at its key
keys-look : (es : List (List ℕ × ℕ)) → Ascends NameBelow (keys_of es) → map (λ k. look k es) (keys_of es) ≡ map (λ v. Some v) (values_of es)
keys-look [] up = refl
keys-look (e ∷ es) up =
    ap (λ v. v ∷ map (λ k. look k (e ∷ es)) (keys_of es)) (ap (λ v. cond v (Some e.1) (look e.0 es)) ((same_name-Decides e.0 e.0).1 refl))
    ∙ ap (λ vs. Some e.1 ∷ vs) (map-same (λ k. look k (e ∷ es)) (λ k. look k es) (keys_of es) (λ k is. ap (λ v. cond v (Some e.1) (look k es)) (other_key e.0 k (below-in NameBelow e.0 k (keys_of es) up.0 is))) ∙ keys-look es up.1)

-- what is found is a value
look-in : (name : List ℕ) (v : ℕ) (es : List (List ℕ × ℕ)) → look name es ≡ Some v → In v (values_of es)
look-in name v [] h = absurd cc
look-in name v (e ∷ es) h = elim (cases_Bool (is_eq (slice_cmp nat_cmp name e.0))) [
  | inl t ↦ inl (let both : Some e.1 ≡ Some v = sym (ap (λ b. cond b (Some e.1) (look name es)) t) ∙ h in cc)
  | inr t ↦ inr (look-in name v es (sym (ap (λ b. cond b (Some e.1) (look name es)) t) ∙ h))
]

-- the name of a child is the one at which it was found
child-name : (nodes : List (Option Held)) (folder slot : ℕ) (name : List ℕ) → child_of nodes folder name ≡ Some slot → name_at nodes slot ≡ name
child-name nodes folder slot name h = by (held_at nodes slot) refl where
  by : (o : Option Held) → held_at nodes slot ≡ o → name_at nodes slot ≡ name
  by None e = absurd (false≢true (sym (ap (is_child folder name) e) ∙ (child_of-Some nodes folder name slot h).1))
  by (Some held) e = ap name_in e ∙ (is_child-parts folder name held (sym (ap (is_child folder name) e) ∙ (child_of-Some nodes folder name slot h).1)).2

-- the names of children found one by one
children-names : (nodes : List (Option Held)) (folder : ℕ) (names : List (List ℕ)) (slots : List ℕ) → map (child_of nodes folder) names ≡ map (λ s. Some s) slots → map (name_at nodes) slots ≡ names
children-names nodes folder [] [] h = refl
children-names nodes folder [] (s ∷ ss) h = absurd (omega (arith, ap length h))
children-names nodes folder (n ∷ ns) [] h = absurd (omega (arith, ap length h))
children-names nodes folder (n ∷ ns) (s ∷ ss) h =
    let first : child_of nodes folder n ≡ Some s = cc in
    let rest : map (child_of nodes folder) ns ≡ map (λ s. Some s) ss = cc in
    ap (λ x. x ∷ map (name_at nodes) ss) (child-name nodes folder s n first) ∙ ap (λ xs. n ∷ xs) (children-names nodes folder ns ss rest)

-- the values of a folder's map are the slots of its entries
pub values-entries : (a : Inside) (folder : ℕ) (m : Entries) (slots : List ℕ) → IsKept a → folder < length a.nodes.items → m ≡ get_or a.children.items folder m → slots ≡ tree.values m → tree.IsOrdered (slice_cmp nat_cmp) m → AreEntries a.nodes.items folder slots
values-entries a folder m slots k l is values ordered =
    subst (λ ss. AreEntries a.nodes.items folder ss) (sym values) (record {
      in_order = subst AreNamesInOrder (sym names) (ascends-order (keys_of m.entries) up);
      each = ap (map (child_of a.nodes.items folder)) names ∙ each;
      all = λ name slot h. in-contains (values_of m.entries) slot (look-in name slot m.entries (found name ∙ h));
    }) where
      up : Ascends NameBelow (keys_of m.entries)
      up = sorted-ascends (keys_of m.entries) ordered

      found : (name : List ℕ) → look name m.entries ≡ child_of a.nodes.items folder name
      found name = ap (λ x. tree.get (slice_cmp nat_cmp) x name) is ∙ k.found folder name m l

      each : map (child_of a.nodes.items folder) (keys_of m.entries) ≡ map (λ s. Some s) (values_of m.entries)
      each = map-same (child_of a.nodes.items folder) (λ n. look n m.entries) (keys_of m.entries) (λ n is. sym (found n)) ∙ keys-look m.entries up

      names : map (name_at a.nodes.items) (values_of m.entries) ≡ keys_of m.entries
      names = children-names a.nodes.items folder (keys_of m.entries) (values_of m.entries) each

-- what is no folder has no entries
pub past-entries : (nodes : List (Option Held)) (folder : ℕ) → IsTable nodes → length nodes ≤ folder → AreEntries nodes folder []
past-entries nodes folder table past =
    record {
      in_order = tt;
      each = refl;
      all = λ name slot h. absurd (let none = no_children nodes table folder (ap holds_folder (get_or-eq_default nodes None past)) name in
          let both : None ≡ Some slot = sym none ∙ h in cc);
    }

-- ---- trees

-- the last part of a folder's path with a name
pub name_of-snoc : (folder : List (List ℕ)) (name : List ℕ) → name_of (folder ++ name ∷ []) ≡ name
name_of-snoc folder name =
    let split = path-split (folder ++ name ∷ []) (omega (arith, length-append folder (name ∷ []))) in
    sym (snoc-inj folder (parent_of (folder ++ name ∷ [])) name (name_of (folder ++ name ∷ [])) split).1

-- the name of an entry of a folder is among the names
pub in-names : (folder : List (List ℕ)) (name : List ℕ) (es : List TreeEntry) (e : TreeEntry) → entry_at (folder ++ name ∷ []) es ≡ Some e → In name (names_in folder es)
in-names folder name [] e h = absurd cc
in-names folder name (x ∷ xs) e h = elim (cases_Bool (same_path (folder ++ name ∷ []) x.path)) [
  | inl s ↦ (let is : folder ++ name ∷ [] ≡ x.path = (same_path-Decides (folder ++ name ∷ []) x.path).0 s in
      let own : is_entry_of folder x.path ≡ true = ap (is_entry_of folder) (sym is) ∙ entry_of-snoc folder name in
      subst P (sym own) (inl (sym (ap name_of (sym is) ∙ name_of-snoc folder name))))
  | inr s ↦ (let below = in-names folder name xs e (sym (ap (λ v. cond v (Some x) (entry_at (folder ++ name ∷ []) xs)) s) ∙ h) in
      elim (is_entry_of folder x.path) as P [ true ↦ inr below | false ↦ below ])
] where
  P : Bool → Type 0
  P = λ v. In name (map (λ (y : TreeEntry). name_of y.path) (cond v (x ∷ filter (λ (y : TreeEntry). is_entry_of folder y.path) xs) (filter (λ (y : TreeEntry). is_entry_of folder y.path) xs)))

-- a name among those of a folder is that of an entry
pub of-names : (folder : List (List ℕ)) (name : List ℕ) (es : List TreeEntry) → In name (names_in folder es) → is_some (entry_at (folder ++ name ∷ []) es) ≡ true
of-names folder name [] is = absurd is
of-names folder name (x ∷ xs) is = elim (cases_Bool (is_entry_of folder x.path)) [
  | inl h ↦ here (entry_path folder x.path h) (of-names folder name xs) (subst P h is)
  | inr h ↦ later (of-names folder name xs (subst P h is))
] where
  P : Bool → Type 0
  P = λ v. In name (map (λ (y : TreeEntry). name_of y.path) (cond v (x ∷ filter (λ (y : TreeEntry). is_entry_of folder y.path) xs) (filter (λ (y : TreeEntry). is_entry_of folder y.path) xs)))

  later : is_some (entry_at (folder ++ name ∷ []) xs) ≡ true → is_some (entry_at (folder ++ name ∷ []) (x ∷ xs)) ≡ true
  later h = elim (same_path (folder ++ name ∷ []) x.path) as (λ v. is_some (cond v (Some x) (entry_at (folder ++ name ∷ []) xs)) ≡ true) [ true ↦ refl | false ↦ h ]

  here : x.path ≡ folder ++ name_of x.path ∷ [] → (In name (names_in folder xs) → is_some (entry_at (folder ++ name ∷ []) xs) ≡ true) → In name (name_of x.path ∷ names_in folder xs) → is_some (entry_at (folder ++ name ∷ []) (x ∷ xs)) ≡ true
  here e more (inl n) = ap (λ v. is_some (cond v (Some x) (entry_at (folder ++ name ∷ []) xs))) ((same_path-Decides (folder ++ name ∷ []) x.path).1 (ap (λ m. folder ++ m ∷ []) n ∙ sym e))
  here e more (inr is') = later (more is')

-- a child is an entry of the folder in a tree of that shape
child-entry : (nodes : List (Option Held)) (tree : List TreeEntry) (path : List (List ℕ)) (folder slot : ℕ) (name : List ℕ) → HasShapeOf nodes tree → slot_at nodes path ≡ Some folder → child_of nodes folder name ≡ Some slot → In name (names_in path tree)
child-entry nodes tree path folder slot name shape at h = by (held_at nodes slot) refl where
  by : (o : Option Held) → held_at nodes slot ≡ o → In name (names_in path tree)
  by None e = absurd (false≢true (sym (ap (is_child folder name) e) ∙ (child_of-Some nodes folder name slot h).1))
  by (Some held) e =
      let walk : slot_at nodes (path ++ name ∷ []) ≡ Some slot = walk-snoc (child_of nodes) 0 path name ∙ ap (option_and_then (λ t. child_of nodes t name)) at ∙ h in
      let entry = entry-held nodes tree path name slot held shape walk e in
      in-names path name tree entry.0 entry.1

-- an entry of a folder is a child
entry-child : (nodes : List (Option Held)) (tree : List TreeEntry) (path : List (List ℕ)) (folder : ℕ) (name : List ℕ) → HasShapeOf nodes tree → slot_at nodes path ≡ Some folder → In name (names_in path tree) → (slot : ℕ) × (child_of nodes folder name ≡ Some slot)
entry-child nodes tree path folder name shape at is = by (child_of nodes folder name) refl where
  found : is_some (entry_at (path ++ name ∷ []) tree) ≡ true
  found = of-names path name tree is

  some : (o : Option TreeEntry) → is_some o ≡ true → is_some (option_map shape_of_entry o) ≡ true
  some None h = h
  some (Some e) h = refl

  by : (o : Option ℕ) → child_of nodes folder name ≡ o → (slot : ℕ) × (child_of nodes folder name ≡ Some slot)
  by (Some slot) e = (slot, e)
  by None e = absurd (
      let none = shape_at-below nodes path name folder at ∙ ap (option_and_then (λ s. option_map shape_of (held_at nodes s))) e in
      let there : is_some (shape_in (path ++ name ∷ []) tree) ≡ true =
      ap (λ v. is_some (cond v (Some (record { kind = Folder; len = 0 })) (option_map shape_of_entry (entry_at (path ++ name ∷ []) tree)))) (below_root path name) ∙ some (entry_at (path ++ name ∷ []) tree) found in
      false≢true (sym (ap is_some (sym (shape.same (path ++ name ∷ [])) ∙ none)) ∙ there))

listed-found : (nodes : List (Option Held)) (folder : ℕ) (names : List (List ℕ)) (slots : List ℕ) (name : List ℕ) → map (child_of nodes folder) names ≡ map (λ s. Some s) slots → In name names → (slot : ℕ) × (child_of nodes folder name ≡ Some slot)
listed-found nodes folder [] slots name h is = absurd is
listed-found nodes folder (n ∷ ns) [] name h is = absurd (omega (arith, ap length h))
listed-found nodes folder (n ∷ ns) (s ∷ ss) name h (inl e) = (s, ap (child_of nodes folder) e ∙ (let first : child_of nodes folder n ≡ Some s = cc in first))
listed-found nodes folder (n ∷ ns) (s ∷ ss) name h (inr is) = let rest : map (child_of nodes folder) ns ≡ map (λ s. Some s) ss = cc in listed-found nodes folder ns ss name rest is

-- the names of a folder's entries are those that a tree of that shape has there
pub entries-names : (nodes : List (Option Held)) (tree : List TreeEntry) (path : List (List ℕ)) (folder : ℕ) (slots : List ℕ) → IsTree tree → HasShapeOf nodes tree → slot_at nodes path ≡ Some folder → AreEntries nodes folder slots → map (name_at nodes) slots ≡ names_in path tree
entries-names nodes tree path folder slots is shape at a =
    ascending-same NameBelow (map (name_at nodes) slots) (names_in path tree) names-strict
    (order-ascends (map (name_at nodes) slots) a.in_order) (order-ascends (names_in path tree) (names_in-ordered tree path is))
    (λ name there. let found = listed-found nodes folder (map (name_at nodes) slots) slots name a.each there in child-entry nodes tree path folder found.0 name shape at found.1)
    (λ name there. let found = entry-child nodes tree path folder name shape at there in
    let P : List ℕ → Type 0 = λ n. In n (map (name_at nodes) slots) in
    subst P (child-name nodes folder found.0 name found.1) (in-map (name_at nodes) found.0 slots (contains-in slots found.0 (a.all name found.0 found.1))))

-- the slots of a folder's entries are the children of the names that a tree has there
pub entries-children : (nodes : List (Option Held)) (tree : List TreeEntry) (path : List (List ℕ)) (folder : ℕ) (slots : List ℕ) → IsTree tree → HasShapeOf nodes tree → slot_at nodes path ≡ Some folder → AreEntries nodes folder slots → map (λ s. Some s) slots ≡ map (child_of nodes folder) (names_in path tree)
entries-children nodes tree path folder slots is shape at a = sym a.each ∙ ap (map (child_of nodes folder)) (entries-names nodes tree path folder slots is shape at a)
