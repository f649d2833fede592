-- Paths at and below a path, and what stands above an entry of a tree.
use Rattle.std.proofs.Common.{◌≡◌, ℕ, zero, suc, ◌+◌, ◌-◌, ◌<◌, true, false, cond, List, [], ◌∷◌, ◌++◌, length, take, drop, Option, Some, None, inl, inr, refl, sym, ap, ◌∙◌, subst, arith, length-append, append_assoc, append-nil, length-take}
use Rattle.std.proofs.lemmas.List.{take-append-drop}
use Rattle.std.proofs.lemmas.Bool.Decides.{eqb_tells}
use Rattle.std.specs.Option.{option_map}
use Rattle.std.proofs.Math.Seq.{take-append_seam, take-append-add}
use Rattle.std.proofs.lemmas.Bool.{cases_Bool, false≢true}
use Rattle.vb_tree.specs.declared.tree.Kind.{Kind}
use Rattle.vb_tree.specs.declared.tree.Kind.TheVariants.{Folder}
use Rattle.vb_tree.specs.declared.tree.TreeEntry.{TreeEntry}
use Rattle.vb_path.specs.Paths.{same_path}
use Rattle.vb_path.proofs.PathLaws.{same_path-Decides}
use Rattle.vb_tree.specs.Trees.{is_root, entry_at, kind_at, parent_of, BelongsIn, AllBelongIn, IsTree}
use Rattle.vb_tree.specs.Renames.{is_within}

-- a path within another is it with more parts
pub within-parts : (top path : List (List ℕ)) → is_within top path ≡ true → path ≡ top ++ drop (length top) path
within-parts top path h =
    sym (take-append-drop (length top) path)
    ∙ ap (λ t. t ++ drop (length top) path) (sym ((same_path-Decides top (take (length top) path)).0 h))

-- a path with more parts is within it
pub within-append : (top rest : List (List ℕ)) → is_within top (top ++ rest) ≡ true
within-append top rest = (same_path-Decides top (take (length top) (top ++ rest))).1 (sym (take-append_seam top rest))

-- the parent of a path with more parts
pub parent_of-append : (top rest : List (List ℕ)) → 0 < length rest → parent_of (top ++ rest) ≡ top ++ parent_of rest
parent_of-append top rest h =
    let n : length (top ++ rest) - 1 ≡ length top + (length rest - 1) = omega (arith, length-append top rest) in
    ap (λ k. take k (top ++ rest)) n ∙ take-append-add top rest (length rest - 1)

-- a path is its parent and what follows
pub parent-rest : (path : List (List ℕ)) → path ≡ parent_of path ++ drop (length path - 1) path
parent-rest path = sym (take-append-drop (length path - 1) path)

-- a path whose parent is within another is within it
pub within-parent : (top path : List (List ℕ)) → is_within top (parent_of path) ≡ true → is_within top path ≡ true
within-parent top path h =
    let last = drop (length path - 1) path in
    let r = drop (length top) (parent_of path) in
    let is : path ≡ top ++ (r ++ last) =
    parent-rest path ∙ ap (λ p. p ++ last) (within-parts top (parent_of path) h) ∙ append_assoc top r last in
    subst (λ p. is_within top p ≡ true) (sym is) (within-append top (r ++ last))

-- a path that isn't the root has parts, and the other way round
pub not_root : (path : List (List ℕ)) → is_root path ≡ false → 0 < length path
not_root [] h = absurd (false≢true (sym h))
not_root (x ∷ xs) h = omega arith

pub some_parts : (path : List (List ℕ)) → 0 < length path → is_root path ≡ false
some_parts [] h = absurd (omega arith)
some_parts (x ∷ xs) h = elim (eqb_tells (length (x ∷ xs)) 0) [ inl w ↦ absurd (omega (arith, w.1)) | inr w ↦ w.0 ]

-- an entry that was found belongs there
found_belongs : (tree es : List TreeEntry) (path : List (List ℕ)) (e : TreeEntry) → AllBelongIn tree es → entry_at path es ≡ Some e → BelongsIn tree e × (path ≡ e.path)
found_belongs tree [] path e all h = absurd cc
found_belongs tree (x ∷ xs) path e all h =
    elim (cases_Bool (same_path path x.path)) [
      | inl s ↦ (
          let found : Some x ≡ Some e = sym (ap (λ v. cond v (Some x) (entry_at path xs)) s) ∙ h in
          let same : x ≡ e = cc in
          (subst (BelongsIn tree) same all.0, (same_path-Decides path x.path).0 s ∙ ap (λ t. t.path) same))
      | inr s ↦ found_belongs tree xs path e all.1 (sym (ap (λ v. cond v (Some x) (entry_at path xs)) s) ∙ h)
    ]

some_kind : (o : Option TreeEntry) (k : Kind) → option_map (λ e. e.kind) o ≡ Some k → (e : TreeEntry) × (o ≡ Some e)
some_kind None k h = absurd cc
some_kind (Some e) k h = (e, refl)

-- the parent of what stands in a tree is a folder
pub folder-parent : (tree : List TreeEntry) (path : List (List ℕ)) (k : Kind) → IsTree tree → is_root path ≡ false → kind_at path tree ≡ Some k → kind_at (parent_of path) tree ≡ Some Folder
folder-parent tree path k is below h =
    let kind : option_map (λ e. e.kind) (entry_at path tree) ≡ Some k = sym (ap (λ v. cond v (Some Folder) (option_map (λ e. e.kind) (entry_at path tree))) below) ∙ h in
    let e = some_kind (entry_at path tree) k kind in
    let b = found_belongs tree tree path e.0 is.all_belong e.1 in
    subst (λ p. kind_at (parent_of p) tree ≡ Some Folder) (sym b.1) b.0.parent_there

above : (tree : List TreeEntry) → IsTree tree → (n : ℕ) (top rest : List (List ℕ)) → length rest ≡ suc n → kind_at (parent_of (top ++ rest)) tree ≡ Some Folder → kind_at top tree ≡ Some Folder
above tree is zero top rest e h =
    let one : length rest - 1 ≡ 0 = omega arith in
    let same : parent_of (top ++ rest) ≡ top = parent_of-append top rest (omega arith) ∙ ap (λ k. top ++ take k rest) one ∙ append-nil top in
    subst (λ p. kind_at p tree ≡ Some Folder) same h
above tree is (suc n) top rest e h =
    let up : parent_of (top ++ rest) ≡ top ++ parent_of rest = parent_of-append top rest (omega arith) in
    let here : kind_at (top ++ parent_of rest) tree ≡ Some Folder = subst (λ p. kind_at p tree ≡ Some Folder) up h in
    let len : length (parent_of rest) ≡ suc n = omega (arith, length-take (length rest - 1) rest) in
    let below : is_root (top ++ parent_of rest) ≡ false = some_parts (top ++ parent_of rest) (omega (arith, length-append top (parent_of rest))) in
    above tree is n top (parent_of rest) len (folder-parent tree (top ++ parent_of rest) Folder is below here)

-- what stands above an entry is a folder
pub folder-above : (tree : List TreeEntry) (top rest : List (List ℕ)) → IsTree tree → 0 < length rest → kind_at (parent_of (top ++ rest)) tree ≡ Some Folder → kind_at top tree ≡ Some Folder
folder-above tree top rest is h k =
    let len : length rest ≡ suc (length rest - 1) = omega arith in
    above tree is (length rest - 1) top rest len k
