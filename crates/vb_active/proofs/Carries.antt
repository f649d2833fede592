-- Trees of a view: which pages they need, and that they stay where those pages do.
use Rattle.std.proofs.Common.{◌≡◌, ℕ, ◌<◌, ◌+◌, ◌-◌, true, cond, not, List, [], length, min, take, drop, get_or, Option, Some, None, IsSome, sym, ap, subst, ◌∙◌, inl, inr, arith, length-take, length-drop}
use Rattle.std.specs.Prelude.{unwrap_or, slice_get}
use Rattle.std.specs.Option.{option_and_then}
use Rattle.std.proofs.lemmas.Bool.{cases_Bool, cases_lt}
use Rattle.std.proofs.lemmas.Grind.{same_number_lists}
use Rattle.std.proofs.lemmas.List.{get_or-take}
use Rattle.vb_tree.specs.declared.tree.TreeEntry.{TreeEntry}
use Rattle.vb_tree.specs.Contents.{part_of}
use Rattle.vb_tree.specs.Trees.{is_root, entry_at, bytes_in, data_pages_of, IsTree}
use Rattle.vb_index.specs.declared.held.Held.{Held}
use Rattle.vb_index.specs.Contents.{HasTree}
use Rattle.vb_index.specs.Indexes.{Shape, HasShapeOf}
use Rattle.vb_index.specs.Nodes.{held_at, is_file_node, is_folder_node, refs_at, refs_of, slot_at, IsTable}
use Rattle.vb_index.proofs.Growth.{slot_holds}
use Rattle.vb_index.proofs.OneTree.{root-none}
use Rattle.vb_index.proofs.Resizing.{entry-file, file_below}
use Rattle.vb_active.specs.Files.{IsFileOf}
use Rattle.vb_active.specs.Views.{ref_at}
use Rattle.vb_active.proofs.Dues.{ref_at-some}

-- the references of a file
pub file-refs_at : (nodes : List (Option Held)) (slot : ℕ) (held : Held) → held_at nodes slot ≡ Some held → is_file_node held.node.kind ≡ true → unwrap_or (refs_at nodes slot) [] ≡ held.refs
file-refs_at nodes slot held there file = ap (λ o. unwrap_or (option_and_then refs_of o) []) there ∙ ap (λ b. unwrap_or (cond b (Some held.refs) None) []) file

-- a file has a reference for each of its pages
pub has-page : (nodes : List (Option Held)) (slot page : ℕ) (held : Held) → IsTable nodes → held_at nodes slot ≡ Some held → is_file_node held.node.kind ≡ true → page < data_pages_of held.node.length → IsSome (ref_at nodes slot page)
has-page nodes slot page held table there file below =
    subst (λ refs. IsSome (slice_get refs page)) (sym (file-refs_at nodes slot held there file))
    (ref_at-some held.refs page (omega (arith, below, (table.fits slot held there).each_page)))

pub page-of-file : (nodes : List (Option Held)) (path : List (List ℕ)) (slot len page : ℕ) → IsFileOf nodes path slot len → page < data_pages_of len → IsSome (ref_at nodes slot page)
page-of-file nodes path slot len page file below =
    has-page nodes slot page file.held file.table file.there file.file (subst (λ n. page < data_pages_of n) (sym file.long) below)

-- how long the file is in a tree
pub file-length : (nodes : List (Option Held)) (tree : List TreeEntry) (path : List (List ℕ)) (slot len : ℕ) → IsFileOf nodes path slot len → HasShapeOf nodes tree → length (bytes_in (entry_at path tree)) ≡ len
file-length nodes tree path slot len file shape =
    let entry = entry-file nodes tree path slot file.held shape (file_below nodes path slot file.held file.table file.at file.there file.file) file.at file.there in
    ap (λ o. length (bytes_in o)) entry.1 ∙ ap (λ (s : Shape). s.len) entry.2 ∙ file.long

-- a page of the bytes at a path is one of the slot there
pub has-ref : (nodes : List (Option Held)) (tree : List TreeEntry) (path : List (List ℕ)) (slot page : ℕ) → IsTable nodes → IsTree tree → HasShapeOf nodes tree → slot_at nodes path ≡ Some slot → page < data_pages_of (length (bytes_in (entry_at path tree))) → IsSome (ref_at nodes slot page)
has-ref nodes tree path slot page table is shape at below = elim (cases_Bool (is_root path)) [
  | inl root ↦ absurd (omega (arith, below, ap (λ o. length (bytes_in o)) (root-none tree tree path is.all_belong root)))
  | inr apart ↦ (
      let holds = slot_holds nodes table path slot at in
      let entry = entry-file nodes tree path slot holds.0 shape apart at holds.1 in
      let size : length (bytes_in (entry_at path tree)) ≡ holds.0.node.length = ap (λ o. length (bytes_in o)) entry.1 ∙ ap (λ (s : Shape). s.len) entry.2 in
      let long : page < data_pages_of holds.0.node.length = subst (λ n. page < data_pages_of n) size below in
      has-page nodes slot page holds.0 table holds.1 (is-file holds.0 (table.fits slot holds.0 holds.1).either (table.fits slot holds.0 holds.1).folder_empty long) long)
] where
  is-file : (held : Held) → is_file_node held.node.kind ≡ not (is_folder_node held.node.kind) → (is_folder_node held.node.kind ≡ true → held.node.length ≡ 0) → page < data_pages_of held.node.length → is_file_node held.node.kind ≡ true
  is-file held either empty long = elim (cases_Bool (is_folder_node held.node.kind)) [
    | inl h ↦ absurd (omega (arith, long, empty h))
    | inr h ↦ either ∙ ap not h
  ]

-- a tree stays where the pages that its files have stay
pub carried : (nodes : List (Option Held)) (pages changed : ℕ → ℕ → List ℕ) (tree : List TreeEntry) → IsTable nodes → HasTree nodes pages tree → ((slot page : ℕ) → IsSome (ref_at nodes slot page) → changed slot page ≡ pages slot page) → HasTree nodes changed tree
carried nodes pages changed tree table has same =
    record {
      is_tree = has.is_tree;
      shape = has.shape;
      contents = λ path slot at k below. same slot k (has-ref nodes tree path slot k table has.is_tree has.shape at below) ∙ has.contents path slot at k below;
    }

-- the part of a file that a read asks for
pub part-read : (file : List ℕ) (offset most end start : ℕ) → end ≡ min (length file) (offset + most) → start ≡ min offset end → take (end - start) (drop start file) ≡ part_of offset most file
part-read file offset most end start end_is start_is =
    elim (cases_lt offset (length file)) [
      | inl in_file ↦ (
          let here : start ≡ offset = omega arith in
          let left : length (take (end - start) (drop start file)) ≡ end - offset = omega (arith, length-take (end - start) (drop start file), length-drop start file) in
          let right : length (take most (drop offset file)) ≡ end - offset = omega (arith, length-take most (drop offset file), length-drop offset file) in
          same_number_lists (take (end - start) (drop start file)) (take most (drop offset file)) (left ∙ sym right) (λ i h.
          let low : i < end - start = omega (arith, h, left) in
          get_or-take (end - start) (drop start file) i 0 low ∙ ap (λ n. get_or (drop n file) i 0) here ∙ sym (get_or-take most (drop offset file) i 0 (omega arith))))
      | inr past ↦ (
          let left : length (take (end - start) (drop start file)) ≡ 0 = omega (arith, length-take (end - start) (drop start file), length-drop start file) in
          let right : length (take most (drop offset file)) ≡ 0 = omega (arith, length-take most (drop offset file), length-drop offset file) in
          same_number_lists (take (end - start) (drop start file)) (take most (drop offset file)) (left ∙ sym right) (λ i h. absurd (omega (arith, h, left))))
    ]
