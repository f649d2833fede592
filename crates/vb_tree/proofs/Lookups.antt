-- What the place of an entry says of it, and where a new entry stands.
use Rattle.std.proofs.Common.{◌≡◌, ℕ, ◌+◌, ◌<◌, ◌≤◌, Bool, true, false, cond, not, List, [], ◌∷◌, length, get_or, set, position, unwrap_or, Option, Some, None, refl, sym, ap, ◌∙◌, subst, one-add, arith}
use Rattle.std.specs.List.{position_or_len, insert, find}
use Rattle.std.specs.Ordering.{is_lt}
use Rattle.std.proofs.lemmas.Bool.Decides.{nat_tests}
use Rattle.std.proofs.lemmas.List.Sums.{prefix_len-le-length, sum_by-insert}
use Rattle.std.proofs.lemmas.List.Edits.{length-insert}
use Rattle.vb_tree.specs.declared.tree.TreeEntry.{TreeEntry}
use Rattle.vb_tree.specs.declared.tree.Kind.TheVariants.{Folder}
use Rattle.std.specs.Option.{option_map}
use Rattle.std.proofs.lemmas.List.Folds.{find_at}
use Rattle.std.proofs.lemmas.Option.{slice_get_past}
use Rattle.vb_path.specs.Paths.{same_path, path_cmp}
use Rattle.vb_tree.specs.Trees.{is_root, kind_at, length_at, bytes_in, entry_at, insert_entry, with_bytes_at, pages_of_length, page_count}

-- the first place that passes, or the length
pub unwrap_or-position : {X : Type 0} (p : X → Bool) (xs : List X) → (unwrap_or (position p xs) (length xs) ≡ position_or_len p xs) × (position_or_len p xs ≤ length xs)
unwrap_or-position p xs = let le = prefix_len-le-length (λ x. not (p x)) xs in grind (arith, nat_tests)

-- a new entry stands before the first that comes after it
pub insert_entry-place : (new : TreeEntry) (tree : List TreeEntry) → insert_entry new tree ≡ insert tree (position_or_len (λ e. is_lt (path_cmp new.path e.path)) tree) new
insert_entry-place new [] = refl
insert_entry-place new (e ∷ es) =
    let n = position_or_len (λ e. is_lt (path_cmp new.path e.path)) es in
    elim (is_lt (path_cmp new.path e.path)) as (λ v. cond v (new ∷ e ∷ es) (e ∷ insert_entry new es) ≡ insert (e ∷ es) (cond (not v) (1 + n) 0) new) [
      | true ↦ refl
      | false ↦ rw one-add (ap (λ t. e ∷ t) (insert_entry-place new es))
    ]

-- one entry more
pub length-insert_entry : (new : TreeEntry) (tree : List TreeEntry) → length (insert_entry new tree) ≡ length tree + 1
length-insert_entry new tree =
    let at = position_or_len (λ e. is_lt (path_cmp new.path e.path)) tree in
    ap length (insert_entry-place new tree) ∙ length-insert tree at new (prefix_len-le-length (λ e. not (is_lt (path_cmp new.path e.path))) tree)

-- its pages more
pub page_count-insert_entry : (new : TreeEntry) (tree : List TreeEntry) → page_count (insert_entry new tree) ≡ page_count tree + pages_of_length (length new.bytes)
page_count-insert_entry new tree =
    let at = position_or_len (λ e. is_lt (path_cmp new.path e.path)) tree in
    ap page_count (insert_entry-place new tree) ∙ sum_by-insert (λ e. pages_of_length (length e.bytes)) tree at new

-- what `position` answers is the first place
position-is : {X : Type 0} (p : X → Bool) (xs : List X) (i : ℕ) → position p xs ≡ Some i → (i ≡ position_or_len p xs) × (i < length xs)
position-is p xs i h = grind (arith, nat_tests)

abbrev Stands : List (List ℕ) → TreeEntry → List TreeEntry → ℕ → Option TreeEntry → (List ℕ → List TreeEntry) → Type 0
Stands path d tree i found changed =
    (found ≡ Some (get_or tree i d)) × ((bytes : List ℕ) → changed bytes ≡ set tree i (record (get_or tree i d) { bytes = bytes }))

stands : (path : List (List ℕ)) (d : TreeEntry) (tree : List TreeEntry) → position_or_len (λ e. same_path path e.path) tree < length tree → Stands path d tree (position_or_len (λ e. same_path path e.path) tree) (entry_at path tree) (λ bytes. with_bytes_at path bytes tree)
stands path d [] = λ h. absurd (omega arith)
stands path d (e ∷ es) =
    let n = position_or_len (λ x. same_path path x.path) es in
    elim (same_path path e.path) as (λ v. cond (not v) (1 + n) 0 < length (e ∷ es) → Stands path d (e ∷ es) (cond (not v) (1 + n) 0) (cond v (Some e) (entry_at path es)) (λ bytes. cond v (record e { bytes = bytes } ∷ es) (e ∷ with_bytes_at path bytes es))) [
      | true ↦ λ h. (refl, λ bytes. refl)
      | false ↦ λ h. let below = stands path d es (omega arith) in rw one-add (below.0, λ bytes. ap (λ t. e ∷ t) (below.1 bytes))
    ]

-- what stands at the place of a path, and what a change of its bytes is
pub entry_at-place : (path : List (List ℕ)) (tree : List TreeEntry) (i : ℕ) (d : TreeEntry) → position (λ e. same_path path e.path) tree ≡ Some i → (i < length tree) × (entry_at path tree ≡ Some (get_or tree i d)) × ((bytes : List ℕ) → with_bytes_at path bytes tree ≡ set tree i (record (get_or tree i d) { bytes = bytes }))
entry_at-place path tree i d h =
    let at = position-is (λ e. same_path path e.path) tree i h in
    let here = stands path d tree (omega arith) in
    subst (λ j. (i < length tree) × (entry_at path tree ≡ Some (get_or tree j d)) × ((bytes : List ℕ) → with_bytes_at path bytes tree ≡ set tree j (record (get_or tree j d) { bytes = bytes }))) (sym at.0) (at.1, here.0, here.1)

-- the first that passes is at the first place, or nowhere
pub find-position : {X : Type 0} (p : X → Bool) (xs : List X) → position p xs ≡ None → find p xs ≡ None
find-position p xs h =
    let le = prefix_len-le-length (λ x. not (p x)) xs in
    find_at p xs ∙ slice_get_past xs (position_or_len p xs) (grind (arith, nat_tests))

-- what stands at the place of a path that isn't the root
pub kind_at-place : (path : List (List ℕ)) (tree : List TreeEntry) (i : ℕ) (d : TreeEntry) → is_root path ≡ false → position (λ e. same_path path e.path) tree ≡ Some i → kind_at path tree ≡ Some (get_or tree i d).kind
kind_at-place path tree i d r h =
    let here = entry_at-place path tree i d h in
    ap (λ v. cond v (Some Folder) (option_map (λ e. e.kind) (entry_at path tree))) r ∙ ap (option_map (λ e. e.kind)) here.1

-- nothing stands at a path that has no place and isn't the root
pub kind_at-none : (path : List (List ℕ)) (tree : List TreeEntry) → is_root path ≡ false → position (λ e. same_path path e.path) tree ≡ None → kind_at path tree ≡ None
kind_at-none path tree r h =
    ap (λ v. cond v (Some Folder) (option_map (λ e. e.kind) (entry_at path tree))) r ∙ ap (option_map (λ e. e.kind)) (find-position (λ e. same_path path e.path) tree h)

-- the bytes at the place of a path
pub bytes_in-place : (path : List (List ℕ)) (tree : List TreeEntry) (i : ℕ) (d : TreeEntry) → position (λ e. same_path path e.path) tree ≡ Some i → bytes_in (entry_at path tree) ≡ (get_or tree i d).bytes
bytes_in-place path tree i d h = let here = entry_at-place path tree i d h in ap bytes_in here.1

-- the length at the place of a path
pub length_at-place : (path : List (List ℕ)) (tree : List TreeEntry) (i : ℕ) (d : TreeEntry) → position (λ e. same_path path e.path) tree ≡ Some i → length_at path tree ≡ length (get_or tree i d).bytes
length_at-place path tree i d h = ap length (bytes_in-place path tree i d h)

-- a change of the bytes at the place of a path
pub with_bytes_at-place : (change : List ℕ → List ℕ) (path : List (List ℕ)) (tree : List TreeEntry) (i : ℕ) (d : TreeEntry) → position (λ e. same_path path e.path) tree ≡ Some i → set tree i (record (get_or tree i d) { bytes = change (get_or tree i d).bytes }) ≡ with_bytes_at path (change (bytes_in (entry_at path tree))) tree
with_bytes_at-place change path tree i d h =
    let here = entry_at-place path tree i d h in
    ap (λ b. set tree i (record (get_or tree i d) { bytes = change b })) (sym (bytes_in-place path tree i d h))
    ∙ sym (here.2 (change (bytes_in (entry_at path tree))))

pub ruleset first_places = (unwrap_or-position)
