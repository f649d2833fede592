-- What stands where in a tree after a rename: each path of it, and the path at which that stood before.
use Rattle.std.proofs.Common.{◌≡◌, ℕ, ◌+◌, true, false, cond, not, is_some, List, [], ◌∷◌, ◌++◌, length, drop, Option, Some, None, inl, inr, refl, sym, ap, ◌∙◌, subst, arith}
use Rattle.std.specs.Option.{option_map, option_and_then}
use Rattle.std.specs.List.{sum_by}
use Rattle.std.specs.Ordering.{ordering_reverse}
use Rattle.std.specs.declared.cmp.Ordering.TheVariants.{Less, Greater}
use Rattle.std.proofs.Math.Seq.{drop-append_seam}
use Rattle.std.proofs.lemmas.Bool.{cases_Bool, false≢true}
use Rattle.std.proofs.lemmas.List.Sums.{sum_by-cons}
use Rattle.vb_path.specs.Paths.{same_path, path_cmp}
use Rattle.vb_path.proofs.PathLaws.{same_path-Decides, path_cmp-total}
use Rattle.vb_tree.specs.declared.tree.TreeEntry.{TreeEntry}
use Rattle.vb_tree.specs.Trees.{entry_at, without, pages_of_length, page_count, AllAfter, AreInOrder}
use Rattle.vb_tree.specs.Renames.{is_within, moved_path, path_after, moved, in_path_order}
use Rattle.vb_tree.proofs.Lookups.{length-insert_entry, page_count-insert_entry}
use Rattle.vb_tree.proofs.RenameLaws.{AreApart}
use Rattle.vb_tree.proofs.TreeLaws.{entry_at-insert, entry_at-inserted}
use Rattle.vb_tree.proofs.Within.{within-parts, within-append}
use Rattle.vb_index.specs.Indexes.{shape_of_entry}

-- where what stands at a path stood before a rename, if it stood anywhere
abbrev pub path_before : List (List ℕ) → List (List ℕ) → List (List ℕ) → Option (List (List ℕ))
path_before source target path = cond (is_within target path) (Some (moved_path target source path)) (cond (is_within source path) None (Some path))

pub before-in : (source target path : List (List ℕ)) → is_within target path ≡ true → path_before source target path ≡ Some (moved_path target source path)
before-in source target path h = ap (λ v. cond v (Some (moved_path target source path)) (cond (is_within source path) None (Some path))) h

pub before-gone : (source target path : List (List ℕ)) → is_within target path ≡ false → is_within source path ≡ true → path_before source target path ≡ None
before-gone source target path h g = ap (λ v. cond v (Some (moved_path target source path)) (cond (is_within source path) None (Some path))) h ∙ ap (λ v. cond v None (Some path)) g

pub before-out : (source target path : List (List ℕ)) → is_within target path ≡ false → is_within source path ≡ false → path_before source target path ≡ Some path
before-out source target path h g = ap (λ v. cond v (Some (moved_path target source path)) (cond (is_within source path) None (Some path))) h ∙ ap (λ v. cond v None (Some path)) g

-- what follows a path that moves stays
pub moved-rest : (from to rest : List (List ℕ)) → moved_path from to (from ++ rest) ≡ to ++ rest
moved-rest from to rest = ap (λ r. to ++ r) (drop-append_seam from rest)

pub after-in : (source target path : List (List ℕ)) → is_within source path ≡ true → path_after source target path ≡ moved_path source target path
after-in source target path h = ap (λ v. cond v (moved_path source target path) path) h

pub after-out : (source target path : List (List ℕ)) → is_within source path ≡ false → path_after source target path ≡ path
after-out source target path h = ap (λ v. cond v (moved_path source target path) path) h

-- a path that wasn't within the target is where its path after the rename stood
pub path-back : (source target path : List (List ℕ)) → is_within target path ≡ false → path_before source target (path_after source target path) ≡ Some path
path-back source target path out = elim (cases_Bool (is_within source path)) [
  | inl h ↦ (let rest = drop (length source) path in
      let is : path_after source target path ≡ target ++ rest = after-in source target path h in
      ap (path_before source target) is
      ∙ before-in source target (target ++ rest) (within-append target rest)
      ∙ ap (λ p. Some p) (moved-rest target source rest ∙ sym (within-parts source path h)))
  | inr h ↦ ap (path_before source target) (after-out source target path h) ∙ before-out source target path out h
]

some_same : {A : Type 0} (a b : A) → Some a ≡ Some b → a ≡ b
some_same a b e = cc

-- a path leads to where it stood before
path-forth : (source target q p : List (List ℕ)) → path_before source target q ≡ Some p → path_after source target p ≡ q
path-forth source target q p e = elim (cases_Bool (is_within target q)) [
  | inl h ↦ (let rest = drop (length target) q in
      let is : source ++ rest ≡ p = some_same (source ++ rest) p (sym (before-in source target q h) ∙ e) in
      ap (path_after source target) (sym is) ∙ after-in source target (source ++ rest) (within-append source rest) ∙ moved-rest source target rest ∙ sym (within-parts target q h))
  | inr h ↦ elim (cases_Bool (is_within source q)) [
    | inl g ↦ absurd (let both : None ≡ Some p = sym (before-gone source target q h g) ∙ e in cc)
    | inr g ↦ (let is : q ≡ p = some_same q p (sym (before-out source target q h g) ∙ e) in
        ap (path_after source target) (sym is) ∙ after-out source target q g)
  ]
]

-- ---- look-ups in the moved entries

-- no entry is within the target
abbrev pub AllOutside : List (List ℕ) → List TreeEntry → Type 0
AllOutside target [] = Unit {0}
AllOutside target (e ∷ es) = (is_within target e.path ≡ false) × AllOutside target es

-- no entry is, where none that can be found is
pub all-outside : (target : List (List ℕ)) (es : List TreeEntry) → ((p : List (List ℕ)) → is_some (entry_at p es) ≡ true → is_within target p ≡ false) → AllOutside target es
all-outside target [] all = tt
all-outside target (e ∷ es) all = (
  all e.path (ap (λ v. is_some (cond v (Some e) (entry_at e.path es))) ((same_path-Decides e.path e.path).1 refl)),
  all-outside target es (λ p h. all p (elim (same_path p e.path) as (λ v. is_some (cond v (Some e) (entry_at p es)) ≡ true) [ true ↦ refl | false ↦ h ])),
)

-- the entries that are left are outside as they were
pub outside-without : (target path : List (List ℕ)) (es : List TreeEntry) → AllOutside target es → AllOutside target (without path es)
outside-without target path [] all = tt
outside-without target path (e ∷ es) all =
    elim (same_path path e.path) as (λ v. AllOutside target (cond (not v) (e ∷ without path es) (without path es))) [
      | true ↦ outside-without target path es all.1
      | false ↦ (all.0, outside-without target path es all.1)
    ]

not_same : (a b : List (List ℕ)) → (a ≡ b → ⊥) → same_path a b ≡ false
not_same a b h = elim (cases_Bool (same_path a b)) [ inr e ↦ e | inl e ↦ absurd (h ((same_path-Decides a b).0 e)) ]

-- nothing is found where nothing stood before
found-none : (source target q : List (List ℕ)) (es : List TreeEntry) → AllOutside target es → path_before source target q ≡ None → entry_at q (moved source target es) ≡ None
found-none source target q [] all e = refl
found-none source target q (x ∷ xs) all e =
    let other : same_path q (path_after source target x.path) ≡ false = not_same q (path_after source target x.path) (λ is.
    let both : None ≡ Some x.path = sym e ∙ ap (path_before source target) is ∙ path-back source target x.path all.0 in cc) in
    ap (λ v. cond v (Some (record x { path = path_after source target x.path })) (entry_at q (moved source target xs))) other ∙ found-none source target q xs all.1 e

-- what doesn't depend on an entry's path
abbrev pub IgnoresPath : {Y : Type 0} → (TreeEntry → Y) → Type 0
IgnoresPath f = (e : TreeEntry) (path : List (List ℕ)) → f (record e { path = path }) ≡ f e

-- what is found is as what stood before, but for its path
found-some : {Y : Type 0} (f : TreeEntry → Y) → IgnoresPath f → (source target q p : List (List ℕ)) (es : List TreeEntry) → AllOutside target es → path_before source target q ≡ Some p → option_map f (entry_at q (moved source target es)) ≡ option_map f (entry_at p es)
found-some f ignores source target q p [] all e = refl
found-some f ignores source target q p (x ∷ xs) all e =
    let rest = found-some f ignores source target q p xs all.1 e in
    elim (cases_Bool (same_path p x.path)) [
      | inl h ↦ (let is : path_after source target x.path ≡ q = ap (path_after source target) (sym ((same_path-Decides p x.path).0 h)) ∙ path-forth source target q p e in
          ap (λ v. option_map f (cond v (Some (record x { path = path_after source target x.path })) (entry_at q (moved source target xs)))) ((same_path-Decides q (path_after source target x.path)).1 (sym is))
          ∙ ap (λ y. Some y) (ignores x (path_after source target x.path))
          ∙ sym (ap (λ v. option_map f (cond v (Some x) (entry_at p xs))) h))
      | inr h ↦ (let other : same_path q (path_after source target x.path) ≡ false = not_same q (path_after source target x.path) (λ is.
          false≢true (sym h ∙ (same_path-Decides p x.path).1 (some_same p x.path (sym e ∙ ap (path_before source target) is ∙ path-back source target x.path all.0)))) in
          ap (λ v. option_map f (cond v (Some (record x { path = path_after source target x.path })) (entry_at q (moved source target xs)))) other
          ∙ rest
          ∙ sym (ap (λ v. option_map f (cond v (Some x) (entry_at p xs))) h))
    ]

-- ---- the moved entries in path order

nothing_mapped : (o : Option TreeEntry) → option_map shape_of_entry o ≡ None → o ≡ None
nothing_mapped None h = refl
nothing_mapped (Some e) h = absurd cc

less_greater : Less ≡ Greater → ⊥
less_greater e = cc

-- what comes after a path isn't at it
pub entry_at-after : (p : List (List ℕ)) (es : List TreeEntry) → AllAfter p es → entry_at p es ≡ None
entry_at-after p [] all = refl
entry_at-after p (e ∷ es) all =
    let other : same_path p e.path ≡ false = not_same p e.path (λ is.
    let less : path_cmp p p ≡ Less = subst (λ x. path_cmp p x ≡ Less) (sym is) all.0 in
    less_greater (sym less ∙ path_cmp-total.antisymm p p ∙ ap ordering_reverse less)) in
    ap (λ v. cond v (Some e) (entry_at p es)) other ∙ entry_at-after p es all.1

AreApart-moved : (source target : List (List ℕ)) (es : List TreeEntry) → AllOutside target es → AreInOrder es → AreApart (moved source target es)
AreApart-moved source target [] all order = tt
AreApart-moved source target (e ∷ es) all order = (
  nothing_mapped (entry_at (path_after source target e.path) (moved source target es))
      (found-some shape_of_entry (λ x p. refl) source target (path_after source target e.path) e.path es all.1 (path-back source target e.path all.0) ∙ ap (option_map shape_of_entry) (entry_at-after e.path es order.0)),
  AreApart-moved source target es all.1 order.1,
)

entry_at-ordered : (q : List (List ℕ)) (es : List TreeEntry) → AreApart es → entry_at q (in_path_order es) ≡ entry_at q es
entry_at-ordered q [] apart = refl
entry_at-ordered q (e ∷ es) apart =
    elim (cases_Bool (same_path q e.path)) [
      | inl s ↦
          entry_at-inserted q e (in_path_order es) s (entry_at-ordered e.path es apart.1 ∙ apart.0)
          ∙ sym (ap (λ v. cond v (Some e) (entry_at q es)) s)
      | inr s ↦
          entry_at-insert q e (in_path_order es) s
          ∙ entry_at-ordered q es apart.1
          ∙ sym (ap (λ v. cond v (Some e) (entry_at q es)) s)
    ]

-- what stands in the tree after a rename is as what stood before, but for its path
pub entry-moved : {Y : Type 0} (f : TreeEntry → Y) → IgnoresPath f → (source target q : List (List ℕ)) (es : List TreeEntry) → AllOutside target es → AreInOrder es → (o : Option (List (List ℕ))) → path_before source target q ≡ o → option_map f (entry_at q (in_path_order (moved source target es))) ≡ option_and_then (λ p. option_map f (entry_at p es)) o
entry-moved f ignores source target q es all order None e =
    ap (option_map f) (entry_at-ordered q (moved source target es) (AreApart-moved source target es all order) ∙ found-none source target q es all e)
entry-moved f ignores source target q es all order (Some p) e =
    ap (option_map f) (entry_at-ordered q (moved source target es) (AreApart-moved source target es all order)) ∙ found-some f ignores source target q p es all e

-- ---- sizes

sizes-ordered : (es : List TreeEntry) → (length (in_path_order es) ≡ length es) × (page_count (in_path_order es) ≡ page_count es)
sizes-ordered [] = (refl, refl)
sizes-ordered (e ∷ es) =
    let more = sizes-ordered es in
    let f : TreeEntry → ℕ = λ x. pages_of_length (length x.bytes) in
    let one : sum_by f (e ∷ es) ≡ f e + sum_by f es = sum_by-cons f e es in
    let put : page_count (in_path_order (e ∷ es)) ≡ page_count (in_path_order es) + f e = page_count-insert_entry e (in_path_order es) in
    (omega (arith, more.0, length-insert_entry e (in_path_order es)), omega (arith, more.1, put, one))

sizes-moved : (source target : List (List ℕ)) (es : List TreeEntry) → (length (moved source target es) ≡ length es) × (page_count (moved source target es) ≡ page_count es)
sizes-moved source target [] = (refl, refl)
sizes-moved source target (e ∷ es) =
    let more = sizes-moved source target es in
    let f : TreeEntry → ℕ = λ x. pages_of_length (length x.bytes) in
    let e' : TreeEntry = record e { path = path_after source target e.path } in
    let one : sum_by f (e ∷ es) ≡ f e + sum_by f es = sum_by-cons f e es in
    let put : sum_by f (e' ∷ moved source target es) ≡ f e' + sum_by f (moved source target es) = sum_by-cons f e' (moved source target es) in
    (omega (arith, more.0), put ∙ ap (λ n. f e + n) more.1 ∙ sym one)

-- a move adds no entries and no pages, and takes none
pub sizes-same : (source target : List (List ℕ)) (es : List TreeEntry) → (length (in_path_order (moved source target es)) ≡ length es) × (page_count (in_path_order (moved source target es)) ≡ page_count es)
sizes-same source target es =
    let put = sizes-moved source target es in
    let all = sizes-ordered (moved source target es) in
    (all.0 ∙ put.0, all.1 ∙ put.1)

-- where nothing stands at a path, nothing is without it
pub without-none : (path : List (List ℕ)) (es : List TreeEntry) → entry_at path es ≡ None → without path es ≡ es
without-none path [] none = refl
without-none path (e ∷ es) none = elim (cases_Bool (same_path path e.path)) [
  | inl h ↦ absurd (let both : Some e ≡ None = sym (ap (λ v. cond v (Some e) (entry_at path es)) h) ∙ none in cc)
  | inr h ↦ ap (λ v. cond (not v) (e ∷ without path es) (without path es)) h ∙ ap (λ t. e ∷ t) (without-none path es (sym (ap (λ v. cond v (Some e) (entry_at path es)) h) ∙ none))
]
