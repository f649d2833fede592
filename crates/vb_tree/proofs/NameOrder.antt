-- The names of a folder's entries stand in byte order.
use Rattle.std.proofs.Common.{◌≡◌, ℕ, suc, ◌-◌, ◌<◌, Bool, true, false, cond, not, ◌&&◌, List, [], ◌∷◌, ◌++◌, length, drop, get_or, map, inl, inr, refl, sym, ap, ◌∙◌, subst, arith, drop-cons}
use Rattle.std.specs.List.{filter}
use Rattle.std.specs.declared.cmp.Ordering.{Ordering}
use Rattle.std.specs.declared.cmp.Ordering.TheVariants.{Less, Equal, Greater}
use Rattle.std.specs.Ordering.{nat_cmp, ordering_then, ordering_reverse}
use Rattle.std.specs.Cmp.Lexicographic.{slice_cmp, nat_list_cmp_total}
use Rattle.std.proofs.lemmas.List.{drop_all}
use Rattle.std.proofs.lemmas.Bool.{cases_Bool, false≢true}
use Rattle.vb_tree.specs.declared.tree.TreeEntry.{TreeEntry}
use Rattle.vb_path.specs.Paths.{same_path, path_cmp}
use Rattle.vb_path.proofs.PathLaws.{same_path-Decides}
use Rattle.vb_tree.specs.Trees.{is_root, parent_of, name_of, is_entry_of, names_in, AllAfter, AreInOrder, IsTree, AllNamesAfter, AreNamesInOrder}
use Rattle.vb_tree.proofs.Within.{parent-rest, not_root}

-- a name ties with itself
name_ties : (a : List ℕ) → slice_cmp nat_cmp a a ≡ Equal
name_ties a = tied (slice_cmp nat_cmp a a) (nat_list_cmp_total.antisymm a a) where
  tied : (o : Ordering) → o ≡ ordering_reverse o → o ≡ Equal
  tied Less e = absurd (differ e) where
    differ : Less ≡ Greater → ⊥
    differ d = cc
  tied Equal e = refl
  tied Greater e = absurd (differ e) where
    differ : Greater ≡ Less → ⊥
    differ d = cc

then_less : (o : Ordering) → ordering_then o Equal ≡ Less → o ≡ Less
then_less Less e = refl
then_less Equal e = e
then_less Greater e = e

-- in one folder the names decide
name_less : (folder : List (List ℕ)) (a b : List ℕ) → path_cmp (folder ++ a ∷ []) (folder ++ b ∷ []) ≡ Less → slice_cmp nat_cmp a b ≡ Less
name_less [] a b h = then_less (slice_cmp nat_cmp a b) h
name_less (x ∷ xs) a b h =
    name_less xs a b (sym (ap (λ o. ordering_then o (path_cmp (xs ++ a ∷ []) (xs ++ b ∷ []))) (name_ties x)) ∙ h)

both_true : (a b : Bool) → (a && b) ≡ true → (a ≡ true) × (b ≡ true)
both_true true b h = (refl, h)
both_true false b h = absurd (false≢true h)

not_true : (a : Bool) → not a ≡ true → a ≡ false
not_true true h = absurd (false≢true h)
not_true false h = refl

-- the path of a folder's entry is the folder's with the name
entry-parts : (folder path : List (List ℕ)) → is_entry_of folder path ≡ true → path ≡ folder ++ name_of path ∷ []
entry-parts folder path h =
    let both = both_true (not (is_root path)) (same_path folder (parent_of path)) h in
    let some = not_root path (not_true (is_root path) both.0) in
    let k = length path - 1 in
    let within : k < length path = omega (arith, some) in
    let last : drop k path ≡ name_of path ∷ [] =
    drop-cons path k [] within ∙ ap (λ t. get_or path k [] ∷ t) (drop_all (suc k) path (omega (arith, some))) in
    parent-rest path ∙ ap (λ t. parent_of path ++ t) last ∙ ap (λ p. p ++ name_of path ∷ []) (sym ((same_path-Decides folder (parent_of path)).0 both.1))

names-after : (folder path : List (List ℕ)) (es : List TreeEntry) → is_entry_of folder path ≡ true → AllAfter path es → AllNamesAfter (name_of path) (names_in folder es)
names-after folder path [] h all = tt
names-after folder path (e ∷ es) h all =
    let more = names-after folder path es h all.1 in
    let P : Bool → Type 0 = λ v. AllNamesAfter (name_of path) (map (λ (x : TreeEntry). name_of x.path) (cond v (e ∷ filter (λ (x : TreeEntry). is_entry_of folder x.path) es) (filter (λ (x : TreeEntry). is_entry_of folder x.path) es))) in
    elim (cases_Bool (is_entry_of folder e.path)) [
      | inl s ↦ subst P (sym s) (name_less folder (name_of path) (name_of e.path) (subst (λ p. path_cmp p (folder ++ name_of e.path ∷ []) ≡ Less) (entry-parts folder path h) (subst (λ q. path_cmp path q ≡ Less) (entry-parts folder e.path s) all.0)), more)
      | inr s ↦ subst P (sym s) more
    ]

names-ordered : (folder : List (List ℕ)) (es : List TreeEntry) → AreInOrder es → AreNamesInOrder (names_in folder es)
names-ordered folder [] order = tt
names-ordered folder (e ∷ es) order =
    let more = names-ordered folder es order.1 in
    let P : Bool → Type 0 = λ v. AreNamesInOrder (map (λ (x : TreeEntry). name_of x.path) (cond v (e ∷ filter (λ (x : TreeEntry). is_entry_of folder x.path) es) (filter (λ (x : TreeEntry). is_entry_of folder x.path) es))) in
    elim (cases_Bool (is_entry_of folder e.path)) [
      | inl s ↦ subst P (sym s) (names-after folder e.path es s order.0, more)
      | inr s ↦ subst P (sym s) more
    ]

-- on a tree the names of a folder's entries stand strictly in byte order
pub names_in-ordered : (tree : List TreeEntry) (folder : List (List ℕ)) → IsTree tree → AreNamesInOrder (names_in folder tree)
names_in-ordered tree folder is = names-ordered folder tree is.in_order

pub ruleset ordered_names = (names_in-ordered)
