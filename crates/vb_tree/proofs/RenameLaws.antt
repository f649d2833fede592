-- What a rename leaves of a tree.
use Rattle.std.proofs.Common.{◌≡◌, ℕ, ◌+◌, ◌≤◌, Bool, true, false, cond, not, ◌&&◌, List, [], ◌∷◌, ◌++◌, length, drop, Option, Some, None, inl, inr, refl, sym, ap, ◌∙◌, subst, arith, length-append, append-nil}
use Rattle.std.specs.Option.{option_map}
use Rattle.std.specs.Ordering.{ordering_reverse}
use Rattle.std.specs.declared.cmp.Ordering.TheVariants.{Less, Greater}
use Rattle.std.specs.List.{sum_by}
use Rattle.std.proofs.Math.Seq.{drop-append_seam}
use Rattle.std.proofs.lemmas.List.{append_cancel_left}
use Rattle.std.proofs.lemmas.Bool.{cases_Bool, false≢true}
use Rattle.std.proofs.lemmas.List.Sums.{sum_by-cons}
use Rattle.vb_tree.specs.declared.tree.Kind.{Kind}
use Rattle.vb_tree.specs.declared.tree.Kind.TheVariants.{Folder}
use Rattle.vb_tree.specs.declared.tree.TreeEntry.{TreeEntry}
use Rattle.vb_path.specs.Paths.{same_path, path_cmp, IsPath}
use Rattle.vb_path.proofs.PathLaws.{same_path-Decides, path_cmp-total}
use Rattle.vb_tree.specs.Trees.{is_root, entry_at, kind_at, without, parent_of, pages_of_length, page_count, AllAfter, AreInOrder, AllBelongIn, IsTree}
use Rattle.vb_tree.specs.Renames.{is_within, is_deep, makes_deep, moved_path, path_after, moved, in_path_order}
use Rattle.vb_tree.proofs.TreeLaws.{AreInOrder-insert, entry_at-insert, entry_at-inserted, AllBelongIn-insert}
use Rattle.vb_tree.proofs.Lookups.{length-insert_entry, page_count-insert_entry}
use Rattle.vb_tree.proofs.Removals.{either_false, sizes-without}
use Rattle.vb_tree.proofs.MovedPaths.{path_after-path}
use Rattle.vb_tree.proofs.Within.{within-parts, within-append, within-parent, parent_of-append, not_root, some_parts, folder-parent, folder-above}

-- ---- entries put into path order

-- no two of these entries stand at one path
abbrev pub AreApart : List TreeEntry → Type 0
AreApart [] = Unit {0}
AreApart (e ∷ es) = (entry_at e.path es ≡ None) × AreApart es

entry_at-ordered : (q : List (List ℕ)) (es : List TreeEntry) → AreApart es → entry_at q (in_path_order es) ≡ entry_at q es
entry_at-ordered q [] apart = refl
entry_at-ordered q (e ∷ es) apart =
    elim (cases_Bool (same_path q e.path)) [
      | inl s ↦
          entry_at-inserted q e (in_path_order es) s (entry_at-ordered e.path es apart.1 ∙ apart.0)
          ∙ sym (ap (λ v. cond v (Some e) (entry_at q es)) s)
      | inr s ↦
          entry_at-insert q e (in_path_order es) s
          ∙ entry_at-ordered q es apart.1
          ∙ sym (ap (λ v. cond v (Some e) (entry_at q es)) s)
    ]

AreInOrder-ordered : (es : List TreeEntry) → AreApart es → AreInOrder (in_path_order es)
AreInOrder-ordered [] apart = tt
AreInOrder-ordered (e ∷ es) apart =
    AreInOrder-insert e (in_path_order es) (entry_at-ordered e.path es apart.1 ∙ apart.0) (AreInOrder-ordered es apart.1)

AllBelongIn-ordered : (tree es : List TreeEntry) → AllBelongIn tree es → AllBelongIn tree (in_path_order es)
AllBelongIn-ordered tree [] all = tt
AllBelongIn-ordered tree (e ∷ es) all = AllBelongIn-insert tree e (in_path_order es) all.0 (AllBelongIn-ordered tree es all.1)

-- ---- paths after a rename

-- what holds where the source may move to the target
pub record IsMovable (source target : List (List ℕ)) (tree : List TreeEntry) : Type 0 where
  pub is_tree : IsTree tree
  pub source_below : is_root source ≡ false
  pub target_below : is_root target ≡ false
  pub target_free : kind_at target tree ≡ Some Folder → ⊥
  pub parent_there : kind_at (parent_of target) tree ≡ Some Folder
  pub parent_stays : is_within source (parent_of target) ≡ false
  pub target_valid : IsPath target
  pub shallow : makes_deep source target tree ≡ false

-- a path that lies in a folder of the tree and isn't the target
record IsPlace (target : List (List ℕ)) (tree : List TreeEntry) (path : List (List ℕ)) : Type 0 where
  below : is_root path ≡ false
  parent : kind_at (parent_of path) tree ≡ Some Folder
  other : same_path target path ≡ false

after-in : (source target path : List (List ℕ)) → is_within source path ≡ true → path_after source target path ≡ target ++ drop (length source) path
after-in source target path h = ap (λ v. cond v (moved_path source target path) path) h

after-out : (source target path : List (List ℕ)) → is_within source path ≡ false → path_after source target path ≡ path
after-out source target path h = ap (λ v. cond v (moved_path source target path) path) h

-- what is in the tree isn't below the target
none_below : (source target : List (List ℕ)) (tree : List TreeEntry) (path : List (List ℕ)) → IsMovable source target tree → IsPlace target tree path → is_within target path ≡ false
none_below source target tree path m at =
    elim (cases_Bool (is_within target path)) [
      | inr h ↦ h
      | inl h ↦ absurd (below_it (drop (length target) path) (within-parts target path h))
    ] where
      below_it : (rest : List (List ℕ)) → path ≡ target ++ rest → ⊥
      below_it [] e = false≢true (sym at.other ∙ (same_path-Decides target path).1 (sym (e ∙ append-nil target)))
      below_it (x ∷ xs) e = m.target_free (folder-above tree target (x ∷ xs) m.is_tree (omega arith) (subst (λ p. kind_at (parent_of p) tree ≡ Some Folder) e at.parent))

apart_paths : (source target : List (List ℕ)) (tree : List TreeEntry) (p q : List (List ℕ)) → IsMovable source target tree → IsPlace target tree q → is_within source p ≡ true → is_within source q ≡ false → path_after source target p ≡ path_after source target q → ⊥
apart_paths source target tree p q m at hp hq e =
    let is : q ≡ target ++ drop (length source) p = sym (after-out source target q hq) ∙ sym e ∙ after-in source target p hp in
    false≢true (sym (none_below source target tree q m at) ∙ subst (λ x. is_within target x ≡ true) (sym is) (within-append target (drop (length source) p)))

-- two paths stay two
after-injective : (source target : List (List ℕ)) (tree : List TreeEntry) (p q : List (List ℕ)) → IsMovable source target tree → IsPlace target tree p → IsPlace target tree q → path_after source target p ≡ path_after source target q → p ≡ q
after-injective source target tree p q m atp atq e =
    elim (cases_Bool (is_within source p)) [
      | inl hp ↦ elim (cases_Bool (is_within source q)) [
        | inl hq ↦ (
            let rest : drop (length source) p ≡ drop (length source) q =
            append_cancel_left target (drop (length source) p) (drop (length source) q) (sym (after-in source target p hp) ∙ e ∙ after-in source target q hq) in
            within-parts source p hp ∙ ap (λ r. source ++ r) rest ∙ sym (within-parts source q hq))
        | inr hq ↦ absurd (apart_paths source target tree p q m atq hp hq e)
      ]
      | inr hp ↦ elim (cases_Bool (is_within source q)) [
        | inl hq ↦ absurd (apart_paths source target tree q p m atp hq hp (sym e))
        | inr hq ↦ sym (after-out source target p hp) ∙ e ∙ after-out source target q hq
      ]
    ]

same-after : (source target : List (List ℕ)) (tree : List TreeEntry) (p q : List (List ℕ)) → IsMovable source target tree → IsPlace target tree p → IsPlace target tree q → same_path (path_after source target p) (path_after source target q) ≡ same_path p q
same-after source target tree p q m atp atq =
    let a = path_after source target p in
    let b = path_after source target q in
    elim (cases_Bool (same_path p q)) [
      | inl s ↦ (same_path-Decides a b).1 (ap (path_after source target) ((same_path-Decides p q).0 s)) ∙ sym s
      | inr s ↦ elim (cases_Bool (same_path a b)) [
        | inl t ↦ absurd (false≢true (sym s ∙ (same_path-Decides p q).1 (after-injective source target tree p q m atp atq ((same_path-Decides a b).0 t))))
        | inr t ↦ t ∙ sym s
      ]
    ]

-- ---- look-ups after a rename

abbrev kind_found : Option TreeEntry → Option Kind
kind_found o = option_map (λ e. e.kind) o

-- what stands at a path stands at its path after the rename
kind-moved : (source target : List (List ℕ)) (tree : List TreeEntry) (p : List (List ℕ)) (es : List TreeEntry) → IsMovable source target tree → IsPlace target tree p → AllBelongIn tree es → kind_found (entry_at (path_after source target p) (moved source target (without target es))) ≡ kind_found (entry_at p es)
kind-moved source target tree p [] m at all = refl
kind-moved source target tree p (e ∷ es) m at all =
    let q = path_after source target p in
    let rest = moved source target (without target es) in
    let e' : TreeEntry = record e { path = path_after source target e.path } in
    let more = kind-moved source target tree p es m at all.1 in
    elim (cases_Bool (same_path target e.path)) [
      | inl s ↦ (
          let other : same_path p e.path ≡ false = subst (λ x. same_path p x ≡ false) ((same_path-Decides target e.path).0 s) (not_same target p at.other) in
          ap (λ v. kind_found (entry_at q (moved source target (cond (not v) (e ∷ without target es) (without target es))))) s
          ∙ more
          ∙ sym (ap (λ v. kind_found (cond v (Some e) (entry_at p es))) other))
      | inr s ↦ (
          let ate : IsPlace target tree e.path = record { below = all.0.below_root; parent = all.0.parent_there; other = s } in
          ap (λ v. kind_found (entry_at q (moved source target (cond (not v) (e ∷ without target es) (without target es))))) s
          ∙ ap (λ v. kind_found (cond v (Some e') (entry_at q rest))) (same-after source target tree p e.path m at ate)
          ∙ (elim (same_path p e.path) as (λ v. kind_found (cond v (Some e') (entry_at q rest)) ≡ kind_found (cond v (Some e) (entry_at p es))) [
            | true ↦ refl
            | false ↦ more
          ]))
    ] where
      not_same : (a b : List (List ℕ)) → same_path a b ≡ false → same_path b a ≡ false
      not_same a b h = elim (cases_Bool (same_path b a)) [
        | inl t ↦ absurd (false≢true (sym h ∙ (same_path-Decides a b).1 (sym ((same_path-Decides b a).0 t))))
        | inr t ↦ t
      ]

none_found : (o : Option TreeEntry) → kind_found o ≡ None → o ≡ None
none_found None h = refl
none_found (Some e) h = absurd cc

less_greater : Less ≡ Greater → ⊥
less_greater e = cc

-- no path is before itself
not_before : (p : List (List ℕ)) → path_cmp p p ≡ Less → ⊥
not_before p h = less_greater (sym h ∙ path_cmp-total.antisymm p p ∙ ap ordering_reverse h)

entry_at-after : (p : List (List ℕ)) (es : List TreeEntry) → AllAfter p es → entry_at p es ≡ None
entry_at-after p [] all = refl
entry_at-after p (e ∷ es) all =
    elim (cases_Bool (same_path p e.path)) [
      | inl s ↦ absurd (
          let less : path_cmp p p ≡ Less = subst (λ x. path_cmp p x ≡ Less) (sym ((same_path-Decides p e.path).0 s)) all.0 in
          not_before p less)
      | inr s ↦ ap (λ v. cond v (Some e) (entry_at p es)) s ∙ entry_at-after p es all.1
    ]

AreApart-moved : (source target : List (List ℕ)) (tree es : List TreeEntry) → IsMovable source target tree → AllBelongIn tree es → AreInOrder es → AreApart (moved source target (without target es))
AreApart-moved source target tree [] m all order = tt
AreApart-moved source target tree (e ∷ es) m all order =
    let more = AreApart-moved source target tree es m all.1 order.1 in
    let P : Bool → Type 0 = λ v. AreApart (moved source target (cond (not v) (e ∷ without target es) (without target es))) in
    elim (cases_Bool (same_path target e.path)) [
      | inl s ↦ subst P (sym s) more
      | inr s ↦ (
          let ate : IsPlace target tree e.path = record { below = all.0.below_root; parent = all.0.parent_there; other = s } in
          let none = none_found (entry_at (path_after source target e.path) (moved source target (without target es))) (kind-moved source target tree e.path es m ate all.1 ∙ ap kind_found (entry_at-after e.path es order.0)) in
          subst P (sym s) (none, more))
    ]

-- ---- the tree after a rename

abbrev pub after_rename : List (List ℕ) → List (List ℕ) → List TreeEntry → List TreeEntry
after_rename source target tree = in_path_order (moved source target (without target tree))

below-after : (source target path : List (List ℕ)) → is_root target ≡ false → is_root path ≡ false → is_root (path_after source target path) ≡ false
below-after source target path t p =
    elim (cases_Bool (is_within source path)) [
      | inl h ↦ subst (λ x. is_root x ≡ false) (sym (after-in source target path h)) (some_parts (target ++ drop (length source) path) (omega (arith, not_root target t, length-append target (drop (length source) path))))
      | inr h ↦ subst (λ x. is_root x ≡ false) (sym (after-out source target path h)) p
    ]

-- a folder is a folder at its path after the rename
folder-moved : (source target : List (List ℕ)) (tree : List TreeEntry) (p : List (List ℕ)) → IsMovable source target tree → kind_at p tree ≡ Some Folder → kind_at (path_after source target p) (after_rename source target tree) ≡ Some Folder
folder-moved source target tree p m h =
    elim (cases_Bool (is_root p)) [
      | inl r ↦ (
          let empty : p ≡ [] = root_is p r in
          let out : is_within source p ≡ false = subst (λ x. is_within source x ≡ false) (sym empty) (root_out source m.source_below) in
          subst (λ x. kind_at x (after_rename source target tree) ≡ Some Folder) (sym (after-out source target p out ∙ empty)) refl)
      | inr r ↦ (
          let other : same_path target p ≡ false = (elim (cases_Bool (same_path target p)) [
            | inl s ↦ absurd (m.target_free (ap (λ x. kind_at x tree) ((same_path-Decides target p).0 s) ∙ h))
            | inr s ↦ s
          ]) in
          let at : IsPlace target tree p = record { below = r; parent = folder-parent tree p Folder m.is_tree r h; other = other } in
          let q = path_after source target p in
          let apart = AreApart-moved source target tree tree m m.is_tree.all_belong m.is_tree.in_order in
          ap (λ v. cond v (Some Folder) (kind_found (entry_at q (after_rename source target tree)))) (below-after source target p m.target_below r)
          ∙ ap kind_found (entry_at-ordered q (moved source target (without target tree)) apart)
          ∙ kind-moved source target tree p tree m at m.is_tree.all_belong
          ∙ sym (ap (λ v. cond v (Some Folder) (kind_found (entry_at p tree))) r)
          ∙ h)
    ] where
      root_is : (x : List (List ℕ)) → is_root x ≡ true → x ≡ []
      root_is [] e = refl
      root_is (y ∷ ys) e = absurd (false≢true (sym (some_parts (y ∷ ys) (omega arith)) ∙ e))

      root_out : (x : List (List ℕ)) → is_root x ≡ false → is_within x [] ≡ false
      root_out [] e = absurd (false≢true (sym e))
      root_out (y ∷ ys) e = refl

parent-after : (source target : List (List ℕ)) (tree : List TreeEntry) (path : List (List ℕ)) → IsMovable source target tree → kind_at (parent_of path) tree ≡ Some Folder → kind_at (parent_of (path_after source target path)) (after_rename source target tree) ≡ Some Folder
parent-after source target tree path m h =
    elim (cases_Bool (is_within source path)) [
      | inr out ↦ (
          let up : is_within source (parent_of path) ≡ false = (elim (cases_Bool (is_within source (parent_of path))) [
            | inl s ↦ absurd (false≢true (sym out ∙ within-parent source path s))
            | inr s ↦ s
          ]) in
          subst (λ x. kind_at x (after_rename source target tree) ≡ Some Folder) (after-out source target (parent_of path) up ∙ ap parent_of (sym (after-out source target path out))) (folder-moved source target tree (parent_of path) m h))
      | inl in_it ↦ by_rest (drop (length source) path) (within-parts source path in_it) (after-in source target path in_it)
    ] where
      by_rest : (rest : List (List ℕ)) → path ≡ source ++ rest → path_after source target path ≡ target ++ rest → kind_at (parent_of (path_after source target path)) (after_rename source target tree) ≡ Some Folder
      by_rest [] e a =
          subst (λ x. kind_at x (after_rename source target tree) ≡ Some Folder) (after-out source target (parent_of target) m.parent_stays ∙ ap parent_of (sym (a ∙ append-nil target))) (folder-moved source target tree (parent_of target) m m.parent_there)
      by_rest (x ∷ xs) e a =
          let up : parent_of path ≡ source ++ parent_of (x ∷ xs) = ap parent_of e ∙ parent_of-append source (x ∷ xs) (omega arith) in
          let at : path_after source target (parent_of path) ≡ target ++ parent_of (x ∷ xs) =
          ap (path_after source target) up
          ∙ after-in source target (source ++ parent_of (x ∷ xs)) (within-append source (parent_of (x ∷ xs)))
          ∙ ap (λ r. target ++ r) (drop-append_seam source (parent_of (x ∷ xs))) in
          subst (λ p. kind_at p (after_rename source target tree) ≡ Some Folder) (at ∙ sym (parent_of-append target (x ∷ xs) (omega arith)) ∙ ap parent_of (sym a)) (folder-moved source target tree (parent_of path) m h)

AllBelongIn-moved : (source target : List (List ℕ)) (tree es : List TreeEntry) → IsMovable source target tree → makes_deep source target es ≡ false → AllBelongIn tree es → AllBelongIn (after_rename source target tree) (moved source target (without target es))
AllBelongIn-moved source target tree [] m shallow all = tt
AllBelongIn-moved source target tree (e ∷ es) m shallow all =
    let each = either_false (is_within source e.path && is_deep (moved_path source target e.path)) (makes_deep source target es) shallow in
    let more = AllBelongIn-moved source target tree es m each.1 all.1 in
    elim (same_path target e.path) as (λ v. AllBelongIn (after_rename source target tree) (moved source target (cond (not v) (e ∷ without target es) (without target es)))) [
      | true ↦ more
      | false ↦ (
        record {
          path_valid = path_after-path source target e.path m.target_valid each.0 all.0.path_valid;
          below_root = below-after source target e.path m.target_below all.0.below_root;
          parent_there = parent-after source target tree e.path m all.0.parent_there;
          folder_empty = all.0.folder_empty;
          bytes_few = all.0.bytes_few;
        },
        more,
      )
    ]

-- a rename leaves a tree
pub IsTree-after_rename : (source target : List (List ℕ)) (tree : List TreeEntry) → IsMovable source target tree → IsTree (after_rename source target tree)
IsTree-after_rename source target tree m =
    record {
      in_order = AreInOrder-ordered (moved source target (without target tree)) (AreApart-moved source target tree tree m m.is_tree.all_belong m.is_tree.in_order);
      all_belong = AllBelongIn-ordered (after_rename source target tree) (moved source target (without target tree)) (AllBelongIn-moved source target tree tree m m.shallow m.is_tree.all_belong);
    }

-- ---- sizes

sizes-ordered : (es : List TreeEntry) → (length (in_path_order es) ≡ length es) × (page_count (in_path_order es) ≡ page_count es)
sizes-ordered [] = (refl, refl)
sizes-ordered (e ∷ es) =
    let more = sizes-ordered es in
    let f : TreeEntry → ℕ = λ x. pages_of_length (length x.bytes) in
    let one : sum_by f (e ∷ es) ≡ f e + sum_by f es = sum_by-cons f e es in
    let put : page_count (in_path_order (e ∷ es)) ≡ page_count (in_path_order es) + f e = page_count-insert_entry e (in_path_order es) in
    (omega (arith, more.0, length-insert_entry e (in_path_order es)), omega (arith, more.1, put, one))

sizes-moved : (source target : List (List ℕ)) (es : List TreeEntry) → (length (moved source target es) ≡ length es) × (page_count (moved source target es) ≡ page_count es)
sizes-moved source target [] = (refl, refl)
sizes-moved source target (e ∷ es) =
    let more = sizes-moved source target es in
    let f : TreeEntry → ℕ = λ x. pages_of_length (length x.bytes) in
    let e' : TreeEntry = record e { path = path_after source target e.path } in
    let one : sum_by f (e ∷ es) ≡ f e + sum_by f es = sum_by-cons f e es in
    let put : sum_by f (e' ∷ moved source target es) ≡ f e' + sum_by f (moved source target es) = sum_by-cons f e' (moved source target es) in
    (omega (arith, more.0), put ∙ ap (λ n. f e + n) more.1 ∙ sym one)

-- a rename adds no entries and no pages
pub sizes-after_rename : (source target : List (List ℕ)) (tree : List TreeEntry) → (length (after_rename source target tree) ≤ length tree) × (page_count (after_rename source target tree) ≤ page_count tree)
sizes-after_rename source target tree =
    let kept = sizes-without target tree in
    let put = sizes-moved source target (without target tree) in
    let all = sizes-ordered (moved source target (without target tree)) in
    (omega (arith, kept.0, put.0, all.0), omega (arith, kept.1, put.1, all.1))
