-- What a binary search finds among entries that stand strictly in path order.
use Rattle.std.proofs.Common.{◌≡◌, ℕ, zero, suc, ◌+◌, ◌<◌, Bool, true, false, cond, List, [], ◌∷◌, length, get_or, position, Option, Some, None, refl, sym, ap, ◌∙◌, subst, inl, inr, arith}
use Rattle.std.specs.Prelude.{nat_lt, not}
use Rattle.std.specs.List.{position_or_len}
use Rattle.std.specs.Ordering.{is_lt, is_eq, ordering_index, ordering_reverse}
use Rattle.std.specs.declared.cmp.Ordering.TheVariants.{Less, Equal, Greater}
use Rattle.std.specs.List.{HoldsAt}
use Rattle.std.specs.List.Sorted.{IsNonDecreasingBy, IsPartitionPoint}
use Rattle.std.specs.Option.{option_map}
use Rattle.std.proofs.lemmas.List.Sorted.{searchable_from_sorted}
use Rattle.std.proofs.lemmas.List.{length-map}
use Rattle.std.proofs.Math.ListN.{get_or-map}
use Rattle.std.proofs.lemmas.Bool.Decides.{nat_tests}
use Rattle.vb_tree.proofs.Lookups.{entry_at-place, find-position}
use Rattle.vb_tree.specs.declared.tree.Kind.TheVariants.{Folder}
use Rattle.std.proofs.lemmas.Bool.{cases_Bool}
use Rattle.vb_path.specs.Paths.{same_path, path_cmp}
use Rattle.vb_path.proofs.PathLaws.{path_cmp-total, same_path-ties, same_path-Decides}
use Rattle.vb_tree.specs.declared.tree.TreeEntry.{TreeEntry}
use Rattle.vb_tree.specs.Trees.{AllAfter, AreInOrder, entry_at, kind_at, is_root, is_file, bytes_in}
use Rattle.vb_cloud.specs.declared.entry.CloudEntry.{CloudEntry}
use Rattle.vb_cloud.specs.Stored.{entry_of, stored_kind, stored_bytes, shown_tree}

-- an entry that stands in a list after a path's comes after that path
after_at : (path : List (List ℕ)) (es : List CloudEntry) (k : ℕ) (d : CloudEntry) → AllAfter path (shown_tree es) → k < length es → path_cmp path (get_or es k d).path ≡ Less
after_at path [] k d all h = absurd (omega arith)
after_at path (e ∷ es) zero d all h = all.0
after_at path (e ∷ es) (suc k) d all h = after_at path es k d all.1 (omega arith)

-- an earlier entry comes before a later one
before_at : (es : List CloudEntry) (i j : ℕ) (d : CloudEntry) → AreInOrder (shown_tree es) → i < j → j < length es → path_cmp (get_or es i d).path (get_or es j d).path ≡ Less
before_at [] i j d order h within = absurd (omega arith)
before_at (e ∷ es) i zero d order h within = absurd (omega arith)
before_at (e ∷ es) zero (suc j) d order h within = after_at e.path es j d order.0 (omega arith)
before_at (e ∷ es) (suc i) (suc j) d order h within = before_at es i j d order.1 (omega arith) (omega arith)

-- so the answers of a search rise along them
pub searchable : (path : List (List ℕ)) (es : List CloudEntry) → AreInOrder (shown_tree es) → IsNonDecreasingBy (λ e. ordering_index (path_cmp e.path path)) es
searchable path es order = searchable_from_sorted path_cmp-total (λ (e : CloudEntry). e.path) es path (λ k d low high.
    let less = before_at es k (k + 1) d order (omega arith) (omega arith) in
    ap is_lt (path_cmp-total.antisymm (get_or es (k + 1) d).path (get_or es k d).path ∙ ap ordering_reverse less))

-- ---- the first place that passes

-- whether an entry stands at a path
abbrev pub is_there : List (List ℕ) → TreeEntry → Bool
is_there path e = same_path path e.path

first_is : (path : List (List ℕ)) (es : List CloudEntry) (i : ℕ) (d : CloudEntry) → i < length es → same_path path (get_or es i d).path ≡ true → ((k : ℕ) → k < i → same_path path (get_or es k d).path ≡ false) → position_or_len (is_there path) (shown_tree es) ≡ i
first_is path [] i d within h before = absurd (omega arith)
first_is path (e ∷ es) zero d within h before = ap (λ v. cond (not v) (1 + position_or_len (is_there path) (shown_tree es)) 0) h
first_is path (e ∷ es) (suc i) d within h before =
    let rest = first_is path es i d (omega arith) h (λ k lt. before (suc k) (omega arith)) in
    let here = ap (λ v. cond (not v) (1 + position_or_len (is_there path) (shown_tree es)) 0) (before 0 (omega arith)) in
    here ∙ omega arith

none_is : (path : List (List ℕ)) (es : List CloudEntry) → ((k : ℕ) (d : CloudEntry) → k < length es → same_path path (get_or es k d).path ≡ false) → position_or_len (is_there path) (shown_tree es) ≡ length (shown_tree es)
none_is path [] h = refl
none_is path (e ∷ es) h =
    let rest = none_is path es (λ k d lt. h (suc k) d (omega arith)) in
    let here = ap (λ v. cond (not v) (1 + position_or_len (is_there path) (shown_tree es)) 0) (h 0 e (omega arith)) in
    here ∙ omega arith

position_at : (path : List (List ℕ)) (tree : List TreeEntry) (i : ℕ) → position_or_len (is_there path) tree ≡ i → i < length tree → position (is_there path) tree ≡ Some i
position_at path tree i is within = grind (arith, nat_tests)

position_past : (path : List (List ℕ)) (tree : List TreeEntry) → position_or_len (is_there path) tree ≡ length tree → position (is_there path) tree ≡ None
position_past path tree is = grind (arith, nat_tests)

apart : (path q : List (List ℕ)) → is_eq (path_cmp path q) ≡ false → same_path path q ≡ false
apart path q h = same_path-ties path q ∙ h

-- the search found the path's entry: it is the first, since the ones before it come before it
pub found : (path : List (List ℕ)) (es : List CloudEntry) (i : ℕ) → AreInOrder (shown_tree es) → i < length es → HoldsAt (λ (e : CloudEntry). path_cmp e.path path ≡ Equal) es i → Some i ≡ position (is_there path) (shown_tree es)
found path es i order within at =
    let d = first_of es within in
    let same : same_path path (get_or es i d).path ≡ true = same_path-ties path (get_or es i d).path ∙ ap is_eq (path_cmp-total.antisymm path (get_or es i d).path ∙ ap ordering_reverse (at d)) in
    let is : path ≡ (get_or es i d).path = (same_path-Decides path (get_or es i d).path).0 same in
    let before : (k : ℕ) → k < i → same_path path (get_or es k d).path ≡ false = λ k lt.
    apart path (get_or es k d).path (ap is_eq (path_cmp-total.antisymm path (get_or es k d).path ∙ ap ordering_reverse (subst (λ q. path_cmp (get_or es k d).path q ≡ Less) (sym is) (before_at es k i d order lt within)))) in
    let count = length-map es (λ (e : CloudEntry). entry_of e.path e.stored) in
    sym (position_at path (shown_tree es) i (first_is path es i d within same before) (omega arith)) where
      first_of : (xs : List CloudEntry) → i < length xs → CloudEntry
      first_of [] h = absurd (omega arith)
      first_of (x ∷ xs) h = x

-- the search found nothing: all entries before the place come before the path, and the others after it
pub found_none : (path : List (List ℕ)) (es : List CloudEntry) (i : ℕ) → AreInOrder (shown_tree es) → (IsNonDecreasingBy (λ (e : CloudEntry). ordering_index (path_cmp e.path path)) es → IsPartitionPoint (λ (e : CloudEntry). path_cmp e.path path ≡ Less) (λ (e : CloudEntry). path_cmp e.path path ≡ Greater) es i) → None ≡ position (is_there path) (shown_tree es)
found_none path es i order split =
    let parts = split (searchable path es order) in
    sym (position_past path (shown_tree es) (none_is path es (λ k d lt. elim (cases_Bool (nat_lt k i)) [
      | inl w ↦ apart path (get_or es k d).path (ap is_eq (path_cmp-total.antisymm path (get_or es k d).path ∙ ap ordering_reverse (parts.0 k d (omega arith) (grind (arith, nat_tests)))))
      | inr w ↦ apart path (get_or es k d).path (ap is_eq (path_cmp-total.antisymm path (get_or es k d).path ∙ ap ordering_reverse (parts.1 k d (grind (arith, nat_tests)) lt)))
    ])))

-- ---- the file at a path

-- what stands at the place of a path
entry_there : (path : List (List ℕ)) (es : List CloudEntry) (i : ℕ) (d : CloudEntry) → Some i ≡ position (is_there path) (shown_tree es) → entry_at path (shown_tree es) ≡ Some (entry_of (get_or es i d).path (get_or es i d).stored)
entry_there path es i d h =
    let here = entry_at-place path (shown_tree es) i (entry_of d.path d.stored) (sym h) in
    here.1 ∙ ap Some (get_or-map (λ (x : CloudEntry). entry_of x.path x.stored) es i d)

kind_there : (path : List (List ℕ)) (es : List CloudEntry) (o : Option TreeEntry) → is_root path ≡ false → entry_at path (shown_tree es) ≡ o → kind_at path (shown_tree es) ≡ option_map (λ (e : TreeEntry). e.kind) o
kind_there path es o below h = ap (λ v. cond v (Some Folder) (option_map (λ (e : TreeEntry). e.kind) (entry_at path (shown_tree es)))) below ∙ ap (option_map (λ (e : TreeEntry). e.kind)) h

-- no file stands where nothing does
pub no_file_there : (path : List (List ℕ)) (es : List CloudEntry) → is_root path ≡ false → None ≡ position (is_there path) (shown_tree es) → is_file (kind_at path (shown_tree es)) ≡ false
no_file_there path es below h = ap is_file (kind_there path es None below (find-position (is_there path) (shown_tree es) (sym h)))

-- whether a file stands at the place of a path, and its bytes
pub file_there : (path : List (List ℕ)) (es : List CloudEntry) (i : ℕ) (d : CloudEntry) → is_root path ≡ false → Some i ≡ position (is_there path) (shown_tree es) → (is_file (kind_at path (shown_tree es)) ≡ is_file (Some (stored_kind (get_or es i d).stored))) × (bytes_in (entry_at path (shown_tree es)) ≡ stored_bytes (get_or es i d).stored)
file_there path es i d below h =
    let there = entry_there path es i d h in
    (ap is_file (kind_there path es (Some (entry_of (get_or es i d).path (get_or es i d).stored)) below there), ap bytes_in there)

pub ruleset searching = (found, found_none)

pub ruleset reading = no_file_there
