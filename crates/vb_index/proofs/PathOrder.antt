-- All paths of a tree in order: each is followed by the paths below it, entry by entry in the order of names.
use Rattle.std.proofs.Common.{◌≡◌, ℕ, ◌+◌, Bool, true, false, cond, is_some, List, [], ◌∷◌, ◌++◌, length, drop, map, reverse, Option, Some, None, ◌⊎◌, inl, inr, refl, sym, ap, ◌∙◌, subst, append_assoc, append-nil, arith, length-append}
use Rattle.std.specs.Option.{option_map, option_and_then}
use Rattle.std.specs.List.{filter}
use Rattle.std.specs.Ordering.{is_eq, ordering_then}
use Rattle.std.specs.declared.cmp.Ordering.TheVariants.{Less}
use Rattle.std.proofs.lemmas.Bool.{cases_Bool, false≢true}
use Rattle.std.proofs.lemmas.List.{map-append, length-map, reverse-append, reverse-reverse}
use Rattle.vb_path.specs.Paths.{same_path, path_cmp}
use Rattle.vb_path.proofs.PathLaws.{path_cmp-total, same_path-Decides, same_path-ties}
use Rattle.vb_tree.specs.declared.tree.Kind.{Kind}
use Rattle.vb_tree.specs.declared.tree.Kind.TheVariants.{Folder}
use Rattle.vb_tree.specs.declared.tree.TreeEntry.{TreeEntry}
use Rattle.vb_tree.specs.Trees.{is_root, entry_at, kind_at, names_in, AllAfter, AreInOrder, AllBelongIn, IsTree}
use Rattle.vb_tree.specs.Renames.{is_within}
use Rattle.vb_tree.proofs.NameOrder.{names_in-ordered}
use Rattle.vb_tree.proofs.Within.{within-parts, within-append, folder-parent, folder-above}
use Rattle.vb_index.specs.declared.held.Held.{Held}
use Rattle.vb_index.specs.Nodes.{child_of, slot_at, nodes_in}
use Rattle.vb_index.specs.Indexes.{HasShapeOf}
use Rattle.vb_index.specs.Listings.{AreEntries, paths_of, AreInPathOrder}
use Rattle.vb_index.proofs.Ascending.{In, IsStrict, AllBelow, Ascends, below-in, below-all, ascending-same, of-map, in-append, of-append, of-filter, in-filter, ascends-filter, ascends-append}
use Rattle.vb_index.proofs.Growth.{below_root}
use Rattle.vb_index.proofs.Named.{NameBelow, name_ties, order-ascends, in-names, of-names, entries-children}
use Rattle.vb_index.proofs.Newness.{root-not}
use Rattle.vb_index.proofs.Walks.{walk-snoc}

abbrev pub PathBelow : List (List ℕ) → List (List ℕ) → Type 0
PathBelow p q = path_cmp p q ≡ Less

paths-strict : IsStrict PathBelow
paths-strict = record { apart = λ p h. false≢true (sym (same_path-ties p p ∙ ap is_eq h) ∙ (same_path-Decides p p).1 refl); trans = path_cmp-total.trans }

-- a path is before those below it
prefix-less : (p : List (List ℕ)) (n : List ℕ) (r : List (List ℕ)) → path_cmp p (p ++ n ∷ r) ≡ Less
prefix-less [] n r = refl
prefix-less (x ∷ xs) n r = ap (λ o. ordering_then o (path_cmp xs (xs ++ n ∷ r))) (name_ties x) ∙ prefix-less xs n r

-- in one folder the names decide
branch-less : (p : List (List ℕ)) (n m : List ℕ) (r s : List (List ℕ)) → NameBelow n m → path_cmp (p ++ n ∷ r) (p ++ m ∷ s) ≡ Less
branch-less [] n m r s h = ap (λ o. ordering_then o (path_cmp r s)) h
branch-less (x ∷ xs) n m r s h = ap (λ o. ordering_then o (path_cmp (xs ++ n ∷ r) (xs ++ m ∷ s))) (name_ties x) ∙ branch-less xs n m r s h

-- ---- all paths

after-below : (p : List (List ℕ)) (es : List TreeEntry) → AllAfter p es → AllBelow PathBelow p (map (λ e. e.path) es)
after-below p [] all = tt
after-below p (e ∷ es) all = (all.0, after-below p es all.1)

order-paths : (es : List TreeEntry) → AreInOrder es → Ascends PathBelow (map (λ e. e.path) es)
order-paths [] order = tt
order-paths (e ∷ es) order = (after-below e.path es order.0, order-paths es order.1)

root-before : (path : List (List ℕ)) → is_root path ≡ false → path_cmp [] path ≡ Less
root-before [] h = absurd (false≢true (sym h))
root-before (part ∷ parts) h = refl

root-below : (tree es : List TreeEntry) → AllBelongIn tree es → AllBelow PathBelow [] (map (λ e. e.path) es)
root-below tree [] all = tt
root-below tree (e ∷ es) all = (root-before e.path all.0.below_root, root-below tree es all.1)

paths-ascend : (tree : List TreeEntry) → IsTree tree → Ascends PathBelow (paths_of tree)
paths-ascend tree is = (root-below tree tree is.all_belong, order-paths tree is.in_order)

of-paths : (path : List (List ℕ)) (es : List TreeEntry) → In path (map (λ e. e.path) es) → (e : TreeEntry) × (entry_at path es ≡ Some e)
of-paths path [] is = absurd is
of-paths path (e ∷ es) (inl h) = (e, ap (λ v. cond v (Some e) (entry_at path es)) ((same_path-Decides path e.path).1 h))
of-paths path (e ∷ es) (inr is) = let below = of-paths path es is in by (same_path path e.path) refl below where
  by : (b : Bool) → same_path path e.path ≡ b → (x : TreeEntry) × (entry_at path es ≡ Some x) → (x : TreeEntry) × (entry_at path (e ∷ es) ≡ Some x)
  by true s below = (e, ap (λ v. cond v (Some e) (entry_at path es)) s)
  by false s below = (below.0, ap (λ v. cond v (Some e) (entry_at path es)) s ∙ below.1)

in-paths : (path : List (List ℕ)) (es : List TreeEntry) → is_some (entry_at path es) ≡ true → In path (map (λ e. e.path) es)
in-paths path [] h = absurd (false≢true h)
in-paths path (e ∷ es) h = elim (cases_Bool (same_path path e.path)) [
  | inl s ↦ inl ((same_path-Decides path e.path).0 s)
  | inr s ↦ inr (in-paths path es (sym (ap (λ v. is_some (cond v (Some e) (entry_at path es))) s) ∙ h))
]

some_of_kind : (o : Option TreeEntry) (k : Kind) → option_map (λ e. e.kind) o ≡ Some k → is_some o ≡ true
some_of_kind None k h = absurd cc
some_of_kind (Some e) k h = refl

-- what stands in a tree is one of its paths
kind-path : (tree : List TreeEntry) (path : List (List ℕ)) (k : Kind) → kind_at path tree ≡ Some k → In path (paths_of tree)
kind-path tree [] k h = inl refl
kind-path tree (part ∷ parts) k h = inr (in-paths (part ∷ parts) tree (some_of_kind (entry_at (part ∷ parts) tree) k
    (sym (ap (λ v. cond v (Some Folder) (option_map (λ e. e.kind) (entry_at (part ∷ parts) tree))) (root-not (part ∷ parts) (omega arith))) ∙ h)))

path-kind : (tree : List TreeEntry) (path : List (List ℕ)) → is_root path ≡ false → In path (paths_of tree) → (k : Kind) × (kind_at path tree ≡ Some k)
path-kind tree path below (inl e) = absurd (false≢true (sym below ∙ ap is_root e))
path-kind tree path below (inr is) =
    let found = of-paths path tree is in
    (found.0.kind, ap (λ v. cond v (Some Folder) (option_map (λ e. e.kind) (entry_at path tree))) below ∙ ap (option_map (λ e. e.kind)) found.1)

-- what stands above a path of a tree is one of its paths
path-above : (tree : List TreeEntry) (top : List (List ℕ)) (name : List ℕ) (rest : List (List ℕ)) → IsTree tree → In (top ++ name ∷ rest) (paths_of tree) → In (top ++ name ∷ []) (paths_of tree)
path-above tree top name [] is h = h
path-above tree top name (r ∷ rest) is h =
    let whole : (top ++ name ∷ []) ++ (r ∷ rest) ≡ top ++ name ∷ (r ∷ rest) = append_assoc top (name ∷ []) (r ∷ rest) in
    let there : In ((top ++ name ∷ []) ++ (r ∷ rest)) (paths_of tree) = let P : List (List ℕ) → Type 0 = λ p. In p (paths_of tree) in subst P (sym whole) h in
    let below : is_root ((top ++ name ∷ []) ++ (r ∷ rest)) ≡ false = root-not ((top ++ name ∷ []) ++ (r ∷ rest)) (omega (arith, length-append (top ++ name ∷ []) (r ∷ rest))) in
    let kind = path-kind tree ((top ++ name ∷ []) ++ (r ∷ rest)) below there in
    kind-path tree (top ++ name ∷ []) Folder (folder-above tree (top ++ name ∷ []) (r ∷ rest) is (omega arith) (folder-parent tree ((top ++ name ∷ []) ++ (r ∷ rest)) kind.0 is below kind.1))

-- ---- blocks

-- a path and those below it
abbrev pub block : List TreeEntry → List (List ℕ) → List (List (List ℕ))
block tree p = filter (is_within p) (paths_of tree)

-- the blocks of these paths, one after the other
abbrev pub blocks : List TreeEntry → List (List (List ℕ)) → List (List (List ℕ))
blocks tree [] = []
blocks tree (p ∷ ps) = block tree p ++ blocks tree ps

blocks-append : (tree : List TreeEntry) (ps qs : List (List (List ℕ))) → blocks tree (ps ++ qs) ≡ blocks tree ps ++ blocks tree qs
blocks-append tree [] qs = refl
blocks-append tree (p ∷ ps) qs = ap (λ t. block tree p ++ t) (blocks-append tree ps qs) ∙ sym (append_assoc (block tree p) (blocks tree ps) (blocks tree qs))

-- the paths of the entries of a folder
abbrev pub below_it : List (List ℕ) → List (List ℕ) → List (List (List ℕ))
below_it p names = map (λ n. p ++ n ∷ []) names

-- a path in a block has more parts
of-block : (tree : List TreeEntry) (p q : List (List ℕ)) → In q (block tree p) → (r : List (List ℕ)) × (In q (paths_of tree)) × (q ≡ p ++ r)
of-block tree p q is =
    let both = of-filter (is_within p) q (paths_of tree) is in
    (drop (length p) q, both.0, within-parts p q both.1)

in-block : (tree : List TreeEntry) (p r q : List (List ℕ)) → In q (paths_of tree) → q ≡ p ++ r → In q (block tree p)
in-block tree p r q is e = in-filter (is_within p) q (paths_of tree) is (ap (is_within p) e ∙ within-append p r)

of-blocks : (tree : List TreeEntry) (p q : List (List ℕ)) (names : List (List ℕ)) → In q (blocks tree (below_it p names)) → (n : List ℕ) × (In n names) × (r : List (List ℕ)) × (In q (paths_of tree)) × (q ≡ p ++ n ∷ r)
of-blocks tree p q [] is = absurd is
of-blocks tree p q (n ∷ ns) is = by (of-append q (block tree (p ++ n ∷ [])) (blocks tree (below_it p ns)) is) (of-blocks tree p q ns) where
  by : In q (block tree (p ++ n ∷ [])) ⊎ In q (blocks tree (below_it p ns)) → (In q (blocks tree (below_it p ns)) → (m : List ℕ) × (In m ns) × (r : List (List ℕ)) × (In q (paths_of tree)) × (q ≡ p ++ m ∷ r)) → (m : List ℕ) × (In m (n ∷ ns)) × (r : List (List ℕ)) × (In q (paths_of tree)) × (q ≡ p ++ m ∷ r)
  by (inl here) more = let b = of-block tree (p ++ n ∷ []) q here in (n, inl refl, b.0, b.1, b.2 ∙ append_assoc p (n ∷ []) b.0)
  by (inr later) more = let b = more later in (b.0, inr b.1, b.2, b.3, b.4)

in-blocks : (tree : List TreeEntry) (p q : List (List ℕ)) (names : List (List ℕ)) (n : List ℕ) (r : List (List ℕ)) → In n names → In q (paths_of tree) → q ≡ p ++ n ∷ r → In q (blocks tree (below_it p names))
in-blocks tree p q [] n r is there e = absurd is
in-blocks tree p q (m ∷ ms) n r (inl same) there e =
    in-append q (block tree (p ++ m ∷ [])) (blocks tree (below_it p ms))
    (inl (in-block tree (p ++ m ∷ []) r q there (e ∙ ap (λ x. p ++ x ∷ r) same ∙ sym (append_assoc p (m ∷ []) r))))
in-blocks tree p q (m ∷ ms) n r (inr is) there e =
    in-append q (block tree (p ++ m ∷ [])) (blocks tree (below_it p ms)) (inr (in-blocks tree p q ms n r is there e))

-- the blocks of a folder's entries ascend
blocks-ascend : (tree : List TreeEntry) (p : List (List ℕ)) (names : List (List ℕ)) → IsTree tree → Ascends NameBelow names → Ascends PathBelow (blocks tree (below_it p names))
blocks-ascend tree p [] is up = tt
blocks-ascend tree p (n ∷ ns) is up =
    ascends-append PathBelow (block tree (p ++ n ∷ [])) (blocks tree (below_it p ns)) (ascends-filter PathBelow (is_within (p ++ n ∷ [])) (paths_of tree) (paths-ascend tree is)) (blocks-ascend tree p ns is up.1)
    (λ x y here later.
    let a = of-block tree (p ++ n ∷ []) x here in
    let b = of-blocks tree p y ns later in
    let less = branch-less p n b.0 a.0 b.2 (below-in NameBelow n b.0 ns up.0 b.1) in
    let left : x ≡ p ++ n ∷ a.0 = a.2 ∙ append_assoc p (n ∷ []) a.0 in
    let P : List (List ℕ) → Type 0 = λ t. PathBelow t y in
    let Q : List (List ℕ) → Type 0 = λ t. PathBelow (p ++ n ∷ a.0) t in
    subst P (sym left) (subst Q (sym b.4) less))

-- the entry of a folder by which a path lies below it
first-name : (tree : List TreeEntry) (p : List (List ℕ)) (n : List ℕ) (r : List (List ℕ)) → IsTree tree → In (p ++ n ∷ r) (paths_of tree) → In n (names_in p tree)
first-name tree p n r is h = by (path-above tree p n r is h) where
  by : In (p ++ n ∷ []) (paths_of tree) → In n (names_in p tree)
  by (inl e) = absurd (false≢true (sym (below_root p n) ∙ ap is_root e))
  by (inr there) = let found = of-paths (p ++ n ∷ []) tree there in in-names p n tree found.0 found.1

-- a block is its path, and then the blocks of its entries
pub block-parts : (tree : List TreeEntry) (p : List (List ℕ)) → IsTree tree → In p (paths_of tree) → block tree p ≡ p ∷ blocks tree (below_it p (names_in p tree))
block-parts tree p is there =
    ascending-same PathBelow (block tree p) (p ∷ blocks tree (below_it p (names_in p tree))) paths-strict
    (ascends-filter PathBelow (is_within p) (paths_of tree) (paths-ascend tree is)) (
      below-all PathBelow p (blocks tree (below_it p (names_in p tree))) (λ q h. let b = of-blocks tree p q (names_in p tree) h in
          let P : List (List ℕ) → Type 0 = λ t. PathBelow p t in subst P (sym b.4) (prefix-less p b.0 b.2)),
      blocks-ascend tree p (names_in p tree) is (order-ascends (names_in p tree) (names_in-ordered tree p is)),
    )
    forth back
  where
    split : (q r : List (List ℕ)) → In q (paths_of tree) → q ≡ p ++ r → In q (p ∷ blocks tree (below_it p (names_in p tree)))
    split q [] h e = inl (e ∙ append-nil p)
    split q (n ∷ r) h e = let P : List (List ℕ) → Type 0 = λ t. In t (paths_of tree) in
        inr (in-blocks tree p q (names_in p tree) n r (first-name tree p n r is (subst P e h)) h e)

    forth : (q : List (List ℕ)) → In q (block tree p) → In q (p ∷ blocks tree (below_it p (names_in p tree)))
    forth q h = let b = of-block tree p q h in split q b.0 b.1 b.2

    back : (q : List (List ℕ)) → In q (p ∷ blocks tree (below_it p (names_in p tree))) → In q (block tree p)
    back q (inl e) = let P : List (List ℕ) → Type 0 = λ t. In t (paths_of tree) in in-block tree p [] q (subst P (sym e) there) (e ∙ sym (append-nil p))
    back q (inr h) = let b = of-blocks tree p q (names_in p tree) h in in-block tree p (b.0 ∷ b.2) q b.3 b.4

-- the entries of a folder of the tree are paths of the tree
below-paths : (tree : List TreeEntry) (p : List (List ℕ)) (names : List (List ℕ)) (q : List (List ℕ)) → ((n : List ℕ) → In n names → is_some (entry_at (p ++ n ∷ []) tree) ≡ true) → In q (below_it p names) → In q (paths_of tree)
below-paths tree p names q there is =
    let from = of-map (λ n. p ++ n ∷ []) q names is in
    let P : List (List ℕ) → Type 0 = λ t. In t (paths_of tree) in
    subst P (sym from.2) (inr (in-paths (p ++ from.0 ∷ []) tree (there from.0 from.1)))

-- ---- the walk

-- what was listed, and what is due: the paths of the tree are those listed, and the blocks of those due
pub record IsWalked (nodes : List (Option Held)) (tree : List TreeEntry) (listed due : List ℕ) : Type 0 where
  pub done : List (List (List ℕ))
  pub tops : List (List (List ℕ))
  pub split : paths_of tree ≡ done ++ blocks tree tops
  pub led : map (λ s. Some s) listed ≡ map (slot_at nodes) done
  pub at : map (λ s. Some s) (reverse due) ≡ map (slot_at nodes) tops
  pub known : (p : List (List ℕ)) → In p tops → In p (paths_of tree)

-- the walk begins with the root
pub walked-start : (nodes : List (Option Held)) (tree : List TreeEntry) → IsWalked nodes tree [] (0 ∷ [])
walked-start nodes tree =
    record {
      done = [];
      tops = [] ∷ [];
      split = sym (append-nil (block tree []) ∙ all (paths_of tree));
      led = refl;
      at = refl;
      known = λ p is. inl (only p is);
    } where
      all : (ps : List (List (List ℕ))) → filter (is_within []) ps ≡ ps
      all [] = refl
      all (p ∷ ps) = ap (λ v. cond v (p ∷ filter (is_within []) ps) (filter (is_within []) ps)) (within-append [] p) ∙ ap (λ t. p ∷ t) (all ps)

      only : (p : List (List ℕ)) → In p ([] ∷ []) → p ≡ []
      only p (inl e) = e
      only p (inr is) = absurd is

child-slots : (nodes : List (Option Held)) (p : List (List ℕ)) (slot : ℕ) (names : List (List ℕ)) → slot_at nodes p ≡ Some slot → map (slot_at nodes) (below_it p names) ≡ map (child_of nodes slot) names
child-slots nodes p slot [] at = refl
child-slots nodes p slot (n ∷ ns) at =
    ap (λ o. o ∷ map (slot_at nodes) (below_it p ns)) (walk-snoc (child_of nodes) 0 p n ∙ ap (option_and_then (λ t. child_of nodes t n)) at)
    ∙ ap (λ os. child_of nodes slot n ∷ os) (child-slots nodes p slot ns at)

-- one slot more is listed, and its entries are due before all else
pub walked-step : (nodes : List (Option Held)) (tree : List TreeEntry) (listed due rest slots : List ℕ) (slot : ℕ) → IsTree tree → HasShapeOf nodes tree → due ≡ rest ++ slot ∷ [] → AreEntries nodes slot slots → IsWalked nodes tree listed due → IsWalked nodes tree (listed ++ slot ∷ []) (rest ++ reverse slots)
walked-step nodes tree listed due rest slots slot is shape e entries w = by w.tops w.split (sym (ap (λ d. map (λ s. Some s) (reverse d)) e ∙ ap (map (λ s. Some s)) (reverse-append rest (slot ∷ []))) ∙ w.at) w.known where
  by : (tops : List (List (List ℕ))) → paths_of tree ≡ w.done ++ blocks tree tops → map (λ s. Some s) (slot ∷ reverse rest) ≡ map (slot_at nodes) tops → ((p : List (List ℕ)) → In p tops → In p (paths_of tree)) → IsWalked nodes tree (listed ++ slot ∷ []) (rest ++ reverse slots)
  by [] split at known = absurd (omega (arith, ap length at))
  by (p ∷ ps) split at known =
      let here : slot_at nodes p ≡ Some slot = cc in
      let others : map (λ s. Some s) (reverse rest) ≡ map (slot_at nodes) ps = cc in
      let names = names_in p tree in
      let children : map (λ s. Some s) slots ≡ map (child_of nodes slot) (names_in p tree) = entries-children nodes tree p slot slots is shape here entries in
      record {
        done = w.done ++ p ∷ [];
        tops = below_it p (names_in p tree) ++ ps;
        split = split
            ∙ ap (λ b. w.done ++ (b ++ blocks tree ps)) (block-parts tree p is (known p (inl refl)))
            ∙ sym (append_assoc w.done (p ∷ []) (blocks tree (below_it p (names_in p tree)) ++ blocks tree ps))
            ∙ ap (λ t. (w.done ++ p ∷ []) ++ t) (sym (blocks-append tree (below_it p (names_in p tree)) ps));
        led = map-append (λ s. Some s) listed (slot ∷ []) ∙ ap (λ t. t ++ Some slot ∷ []) w.led ∙ ap (λ o. map (slot_at nodes) w.done ++ o ∷ []) (sym here) ∙ sym (map-append (slot_at nodes) w.done (p ∷ []));
        at = ap (map (λ s. Some s)) (reverse-append rest (reverse slots) ∙ ap (λ t. t ++ reverse rest) (reverse-reverse slots))
            ∙ map-append (λ s. Some s) slots (reverse rest)
            ∙ ap (λ t. t ++ map (λ s. Some s) (reverse rest)) (children ∙ sym (child-slots nodes p slot (names_in p tree) here))
            ∙ ap (λ t. map (slot_at nodes) (below_it p (names_in p tree)) ++ t) others
            ∙ sym (map-append (slot_at nodes) (below_it p (names_in p tree)) ps);
        known = λ q is'. elim (of-append q (below_it p (names_in p tree)) ps is') [
          | inl h ↦ below-paths tree p (names_in p tree) q (λ n m. of-names p n tree m) h
          | inr h ↦ known q (inr h)
        ];
      }

-- where nothing is due, all is listed
pub walked-none : (nodes : List (Option Held)) (tree : List TreeEntry) (listed : List ℕ) → IsWalked nodes tree listed [] → AreInPathOrder nodes tree listed
walked-none nodes tree listed w = by w.tops w.split w.at where
  by : (tops : List (List (List ℕ))) → paths_of tree ≡ w.done ++ blocks tree tops → map (λ s. Some s) (reverse []) ≡ map (slot_at nodes) tops → AreInPathOrder nodes tree listed
  by [] split at = w.led ∙ ap (map (slot_at nodes)) (sym (split ∙ append-nil w.done))
  by (p ∷ ps) split at = absurd (omega (arith, ap length at))

no_more : (xs ys zs : List (List (List ℕ))) → zs ≡ xs ++ ys → length zs ≡ length xs → zs ≡ xs
no_more xs [] zs e l = e ∙ append-nil xs
no_more xs (y ∷ ys) zs e l = absurd (omega (arith, ap length e, length-append xs (y ∷ ys), l))

-- where as many are listed as there are nodes, all is listed
pub walked-all : (nodes : List (Option Held)) (tree : List TreeEntry) (listed due : List ℕ) → HasShapeOf nodes tree → length listed ≡ nodes_in nodes → IsWalked nodes tree listed due → AreInPathOrder nodes tree listed
walked-all nodes tree listed due shape count w =
    let sizes : length listed ≡ length w.done = sym (length-map listed (λ s. Some s)) ∙ ap length w.led ∙ length-map w.done (slot_at nodes) in
    let all : length (paths_of tree) ≡ length tree + 1 = omega (arith, length-map tree (λ (e : TreeEntry). e.path)) in
    w.led ∙ ap (map (slot_at nodes)) (sym (no_more w.done (blocks tree w.tops) (paths_of tree) w.split (omega (arith, sizes, all, count, shape.as_many))))
