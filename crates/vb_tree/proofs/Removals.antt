-- What a removal leaves of a tree.
use Rattle.std.proofs.Common.{◌≡◌, ℕ, ◌+◌, ◌≤◌, Bool, true, false, cond, not, ◌&&◌, ◌||◌, List, [], ◌∷◌, length, Some, inl, inr, refl, sym, ap, ◌∙◌, arith}
use Rattle.std.specs.Option.{option_map}
use Rattle.std.specs.List.{filter, sum_by}
use Rattle.std.proofs.lemmas.Bool.{cases_Bool, false≢true}
use Rattle.std.proofs.lemmas.List.Sums.{sum_by-cons}
use Rattle.vb_tree.specs.declared.tree.Kind.TheVariants.{Folder}
use Rattle.vb_tree.specs.declared.tree.TreeEntry.{TreeEntry}
use Rattle.vb_path.specs.Paths.{same_path}
use Rattle.vb_path.proofs.PathLaws.{same_path-Decides}
use Rattle.vb_tree.proofs.TreeLaws.{BelongsIn-kept}
use Rattle.vb_tree.specs.Trees.{is_root, entry_at, kind_at, is_folder, is_entry_of, has_entries, without, parent_of, pages_of_length, page_count, AllAfter, AreInOrder, AllBelongIn, IsTree}

AllAfter-filter : (test : TreeEntry → Bool) (p : List (List ℕ)) (es : List TreeEntry) → AllAfter p es → AllAfter p (filter test es)
AllAfter-filter test p [] all = tt
AllAfter-filter test p (e ∷ es) all =
    elim (test e) as (λ v. AllAfter p (cond v (e ∷ filter test es) (filter test es))) [
      | true ↦ (all.0, AllAfter-filter test p es all.1)
      | false ↦ AllAfter-filter test p es all.1
    ]

-- some of the entries stand in order where all do
pub AreInOrder-filter : (test : TreeEntry → Bool) (es : List TreeEntry) → AreInOrder es → AreInOrder (filter test es)
AreInOrder-filter test [] order = tt
AreInOrder-filter test (e ∷ es) order =
    elim (test e) as (λ v. AreInOrder (cond v (e ∷ filter test es) (filter test es))) [
      | true ↦ (AllAfter-filter test e.path es order.0, AreInOrder-filter test es order.1)
      | false ↦ AreInOrder-filter test es order.1
    ]

-- a removal changes no look-up at another path
pub entry_at-without : (q path : List (List ℕ)) (es : List TreeEntry) → same_path path q ≡ false → entry_at q (without path es) ≡ entry_at q es
entry_at-without q path [] h = refl
entry_at-without q path (e ∷ es) h =
    elim (cases_Bool (same_path path e.path)) [
      | inl s ↦ (
          let other : same_path q e.path ≡ false = (elim (cases_Bool (same_path q e.path)) [
            | inl t ↦ absurd (false≢true (sym h ∙ (same_path-Decides path q).1 ((same_path-Decides path e.path).0 s ∙ sym ((same_path-Decides q e.path).0 t))))
            | inr t ↦ t
          ]) in
          ap (λ v. entry_at q (cond (not v) (e ∷ without path es) (without path es))) s
          ∙ entry_at-without q path es h
          ∙ sym (ap (λ v. cond v (Some e) (entry_at q es)) other))
      | inr s ↦
          ap (λ v. entry_at q (cond (not v) (e ∷ without path es) (without path es))) s
          ∙ ap (λ t. cond (same_path q e.path) (Some e) t) (entry_at-without q path es h)
    ]

pub either_false : (a b : Bool) → (a || b) ≡ false → (a ≡ false) × (b ≡ false)
either_false true b h = absurd (false≢true (sym h))
either_false false b h = (refl, h)

-- no entry of a removed folder, in particular of what is none
pub no_entries : (tree : List TreeEntry) (path : List (List ℕ)) (es : List TreeEntry) → is_folder (kind_at path tree) ≡ false → AllBelongIn tree es → has_entries path es ≡ false
no_entries tree path [] h all = refl
no_entries tree path (e ∷ es) h all =
    elim (cases_Bool (same_path path (parent_of e.path))) [
      | inl s ↦ absurd (
          let is : kind_at path tree ≡ Some Folder = ap (λ p. kind_at p tree) ((same_path-Decides path (parent_of e.path)).0 s) ∙ all.0.parent_there in
          false≢true (sym h ∙ ap is_folder is))
      | inr s ↦
          ap (λ v. (not (is_root e.path) && v) || has_entries path es) s
          ∙ ap (λ v. (not v && false) || has_entries path es) all.0.below_root
          ∙ no_entries tree path es h all.1
    ]

belongs-without : (tree : List TreeEntry) (path : List (List ℕ)) (es : List TreeEntry) → has_entries path es ≡ false → AllBelongIn tree es → AllBelongIn (without path tree) (without path es)
belongs-without tree path [] none all = tt
belongs-without tree path (e ∷ es) none all =
    let each = either_false (is_entry_of path e.path) (has_entries path es) none in
    let more = belongs-without tree path es each.1 all.1 in
    let other : same_path path (parent_of e.path) ≡ false = sym (ap (λ v. not v && same_path path (parent_of e.path)) all.0.below_root) ∙ each.0 in
    let parent : kind_at (parent_of e.path) (without path tree) ≡ Some Folder =
    ap (λ o. cond (is_root (parent_of e.path)) (Some Folder) (option_map (λ x. x.kind) o)) (entry_at-without (parent_of e.path) path tree other) ∙ all.0.parent_there in
    elim (same_path path e.path) as (λ v. AllBelongIn (without path tree) (cond (not v) (e ∷ without path es) (without path es))) [
      | true ↦ more
      | false ↦ (BelongsIn-kept tree (without path tree) e parent all.0, more)
    ]

-- a tree without something that has no entries is a tree
pub IsTree-without : (path : List (List ℕ)) (tree : List TreeEntry) → has_entries path tree ≡ false → IsTree tree → IsTree (without path tree)
IsTree-without path tree none is =
    record {
      in_order = AreInOrder-filter (λ e. not (same_path path e.path)) tree is.in_order;
      all_belong = belongs-without tree path tree none is.all_belong;
    }

-- a removal adds no entries and no pages
pub sizes-without : (path : List (List ℕ)) (es : List TreeEntry) → (length (without path es) ≤ length es) × (page_count (without path es) ≤ page_count es)
sizes-without path [] = (omega arith, omega arith)
sizes-without path (e ∷ es) =
    let more = sizes-without path es in
    let f : TreeEntry → ℕ = λ x. pages_of_length (length x.bytes) in
    let one : sum_by f (e ∷ es) ≡ f e + sum_by f es = sum_by-cons f e es in
    let kept : sum_by f (e ∷ without path es) ≡ f e + sum_by f (without path es) = sum_by-cons f e (without path es) in
    elim (same_path path e.path) as (λ v. (length (cond (not v) (e ∷ without path es) (without path es)) ≤ length (e ∷ es)) × (page_count (cond (not v) (e ∷ without path es) (without path es)) ≤ page_count (e ∷ es))) [
      | true ↦ (omega (arith, more.0), omega (arith, more.1, one))
      | false ↦ (omega (arith, more.0), omega (arith, more.1, one, kept))
    ]
