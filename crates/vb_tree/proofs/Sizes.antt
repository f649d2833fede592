-- How a change of one file's bytes changes the pages.
use Rattle.std.proofs.Common.{◌≡◌, ℕ, ◌+◌, ◌-◌, ◌<◌, ◌≤◌, max, true, false, cond, ◌==◌, List, ◌++◌, length, take, drop, replicate, get_or, position, Some, refl, sym, ap, ◌∙◌, arith, length-append, length-take, length-drop}
use Rattle.std.proofs.lemmas.List.{length-replicate}
use Rattle.std.proofs.lemmas.List.Sums.{sum_by-set, sum_by_more_le}
use Rattle.std.specs.List.{sum_by}
use Rattle.vb_tree.specs.declared.tree.Limits.{Limits}
use Rattle.vb_tree.specs.declared.tree.TreeEntry.{TreeEntry}
use Rattle.vb_path.specs.Paths.{same_path}
use Rattle.vb_tree.specs.Trees.{with_bytes_at, pages_of_length, page_count, pages_with}
use Rattle.vb_tree.specs.Contents.{written_over, new_length, truncated_to}
use Rattle.vb_tree.specs.Refusals.{refuse_length, refuse_resize}
use Rattle.vb_tree.proofs.Lookups.{entry_at-place, length_at-place}

-- how long a file is after a write
pub length-written_over : (offset : ℕ) (bytes old : List ℕ) → length (written_over offset bytes old) ≡ new_length offset (length bytes) (length old)
length-written_over offset bytes old =
    elim (length bytes == 0) as (λ v. length (cond v old (take offset old ++ replicate (offset - length old) 0 ++ bytes ++ drop (offset + length bytes) old)) ≡ cond v (length old) (max (length old) (offset + length bytes))) [
      | true ↦ refl
      | false ↦ omega (arith, length-append {A = ℕ}, length-take {A = ℕ}, length-drop {A = ℕ}, length-replicate {A = ℕ})
    ]

-- how long a file is after a truncate
pub length-truncated_to : (len : ℕ) (old : List ℕ) → length (truncated_to len old) ≡ len
length-truncated_to len old = omega (arith, length-append {A = ℕ}, length-take {A = ℕ}, length-replicate {A = ℕ})

-- the pages after a file's bytes became others
pub page_count-with_bytes_at : (path : List (List ℕ)) (tree : List TreeEntry) (bytes : List ℕ) (i : ℕ) (d : TreeEntry) → position (λ e. same_path path e.path) tree ≡ Some i → page_count (with_bytes_at path bytes tree) + pages_of_length (length (get_or tree i d).bytes) ≡ page_count tree + pages_of_length (length bytes)
page_count-with_bytes_at path tree bytes i d h =
    let here = entry_at-place path tree i d h in
    ap (λ t. page_count t + pages_of_length (length (get_or tree i d).bytes)) (here.2 bytes)
    ∙ sum_by-set (λ e. pages_of_length (length e.bytes)) tree i (record (get_or tree i d) { bytes = bytes }) d here.0

sum_by-at : {X : Type 0} (f : X → ℕ) (xs : List X) (i : ℕ) (d : X) → i < length xs → f (get_or xs i d) ≤ sum_by f xs
sum_by-at f xs i d h = omega (arith, sum_by_more_le f xs i d h)

-- the numbers of that change
after : (a old b new : ℕ) → a + old ≡ b + new → old ≤ b → a ≡ b - old + new
after a old b new e h = omega arith

-- how many pages there are after a file's bytes became others
pub page_count-changed : (path : List (List ℕ)) (tree : List TreeEntry) (bytes : List ℕ) (i : ℕ) (d : TreeEntry) → position (λ e. same_path path e.path) tree ≡ Some i → page_count (with_bytes_at path bytes tree) ≡ pages_with path (length bytes) tree
page_count-changed path tree bytes i d h =
    after (page_count (with_bytes_at path bytes tree)) (pages_of_length (length (get_or tree i d).bytes)) (page_count tree) (pages_of_length (length bytes)) (page_count-with_bytes_at path tree bytes i d h) (sum_by-at (λ e. pages_of_length (length e.bytes)) tree i d (entry_at-place path tree i d h).0)
    ∙ ap (λ n. page_count tree - pages_of_length n + pages_of_length (length bytes)) (sym (length_at-place path tree i d h))

-- whether a file may get a length, by its place and by the numbers of pages
pub refuse_resize-place : (limits : Limits) (path : List (List ℕ)) (tree : List TreeEntry) (len i : ℕ) (d : TreeEntry) (old before p q : ℕ) → position (λ e. same_path path e.path) tree ≡ Some i → old ≡ length (get_or tree i d).bytes → before ≡ page_count tree → p ≡ pages_of_length old → q ≡ pages_of_length len → refuse_resize limits tree path len ≡ refuse_length limits before (before - p + q) len
refuse_resize-place limits path tree len i d old before p q h eo eb ep eq =
    let count : pages_with path len tree ≡ before - p + q =
    ap (λ n. page_count tree - pages_of_length n + pages_of_length len) (length_at-place path tree i d h ∙ sym eo)
    ∙ ap (λ b. b - pages_of_length old + pages_of_length len) (sym eb)
    ∙ ap (λ x. before - x + pages_of_length len) (sym ep)
    ∙ ap (λ x. before - p + x) (sym eq) in
    ap (λ n. refuse_length limits (page_count tree) n len) count
    ∙ ap (λ b. refuse_length limits b (before - p + q) len) (sym eb)
