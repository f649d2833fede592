-- The tree that nodes have with their pages, after each change of the nodes.
use Rattle.std.proofs.Common.{◌≡◌, ◌⊎◌, ℕ, ◌<◌, ◌≤◌, Bool, true, false, cond, List, [], ◌∷◌, ◌++◌, length, replicate, set, Option, Some, None, inl, inr, refl, sym, ap, ◌∙◌, subst, arith, length-append}
use Rattle.std.specs.Option.{option_map}
use Rattle.std.proofs.lemmas.Bool.{cases_Bool, false≢true}
use Rattle.vb_path.specs.Paths.{same_path, IsPath}
use Rattle.vb_path.proofs.PathLaws.{same_path-Decides}
use Rattle.vb_tree.specs.declared.tree.Kind.{Kind}
use Rattle.vb_tree.specs.declared.tree.Kind.TheVariants.{Folder, File}
use Rattle.vb_tree.specs.declared.tree.Limits.{Limits}
use Rattle.vb_tree.specs.declared.tree.TreeEntry.{TreeEntry}
use Rattle.vb_tree.specs.declared.operation.Op.{Op}
use Rattle.vb_tree.specs.declared.operation.Op.TheVariants.{Create, MakeDir, Remove, RemoveDir}
use Rattle.vb_tree.specs.declared.reply.Refusal.{Refusal}
use Rattle.vb_tree.specs.Trees.{longest_file, is_root, entry_at, bytes_in, kind_at, insert_entry, with_bytes_at, without, parent_of, name_of, IsTree, BelongsIn}
use Rattle.vb_tree.specs.Refusals.{refuse_new, refuse_unless_file, refusal_of}
use Rattle.vb_tree.specs.Operations.{HasPaths, answer_of, reply_unless, tree_after_reply}
use Rattle.vb_tree.proofs.Allowed.{IsTree-tree_after, refuse_unless_file-none}
use Rattle.vb_tree.proofs.Removals.{entry_at-without}
use Rattle.vb_tree.proofs.TreeLaws.{entry_at-insert, entry_at-inserted, IsTree-insert, IsTree-with_bytes_at}
use Rattle.vb_block.specs.declared.digest.Ref.{Ref}
use Rattle.vb_index.specs.declared.held.Held.{Held}
use Rattle.vb_index.specs.Nodes.{root_held, is_folder_node, kind_of, is_file_node, held_at, holds_folder, child_of, slot_at, IsTable}
use Rattle.vb_index.specs.Changes.{removal_of, resized, with_ref, MayLeave, IsFileAt}
use Rattle.vb_index.specs.Contents.{HasPages, HasTree, KeepsOthers}
use Rattle.vb_index.specs.Indexes.{Shape, shape_of, shape_of_entry, HasShapeOf, IsPlace, IsLeastFree, new_held}
use Rattle.vb_index.proofs.Additions.{place-fills, fresh-shape, new_shape}
use Rattle.vb_index.proofs.Growth.{Fills, fill-differs, grown, nothing_there, path-split, below_root}
use Rattle.vb_index.proofs.Leaving.{kind_at-held, leaves_from, detached}
use Rattle.vb_index.proofs.MovedShapes.{walk-emptied, gone-emptied}
use Rattle.vb_index.proofs.Resizing.{file_in, resized_changes, resized-tree, ref_changes, ref-tree, slot_at-kept, entry_at-with, entry_at-beside}
use Rattle.vb_index.proofs.Tables.{IsTable-fill, at_same, table-forest}
use Rattle.vb_index.proofs.Walks.{snoc-inj, walk-alone, walk-changed}

-- no bytes have no pages
pub none-due : (pages : ℕ → ℕ → List ℕ) (slot : ℕ) (bytes : List ℕ) → bytes ≡ [] → HasPages pages slot bytes
none-due pages slot bytes e k h = absurd (omega (arith, h, ap length e))

-- what stands at a path has no bytes, or those of a path that led to the same slot before
abbrev pub Stems : List (Option Held) → List TreeEntry → List TreeEntry → List (List ℕ) → ℕ → Type 0
Stems nodes tree after path slot =
    (bytes_in (entry_at path after) ≡ [])
    ⊎ ((old : List (List ℕ)) × (slot_at nodes old ≡ Some slot) × (bytes_in (entry_at path after) ≡ bytes_in (entry_at old tree)))

-- where bytes keep their slots, the pages stay those of the tree
pub carried : (nodes new : List (Option Held)) (pages : ℕ → ℕ → List ℕ) (tree after : List TreeEntry) → HasTree nodes pages tree → IsTree after → HasShapeOf new after → ((path : List (List ℕ)) (slot : ℕ) → slot_at new path ≡ Some slot → Stems nodes tree after path slot) → HasTree new pages after
carried nodes new pages tree after has is shape stems =
    record {
      is_tree = is;
      shape = shape;
      contents = λ path slot at. elim (stems path slot at) [
        | inl none ↦ none-due pages slot (bytes_in (entry_at path after)) none
        | inr w ↦ subst (HasPages pages slot) (sym w.2) (has.contents w.0 slot w.1)
      ];
    }

-- an operation that isn't refused leaves a tree
pub allowed-tree : (limits : Limits) (tree : List TreeEntry) (op : Op) → refusal_of limits tree op ≡ None → HasPaths op → IsTree tree → IsTree (tree_after_reply tree op (answer_of tree op))
allowed-tree limits tree op none valid is =
    subst (λ r. IsTree (tree_after_reply tree op (reply_unless r (answer_of tree op)))) none (IsTree-tree_after limits tree op valid is)

-- ---- a new node

-- a new node is a new entry whose bytes are in the pages of its slot
pub filled-tree : (nodes : List (Option Held)) (tree : List TreeEntry) (slot : ℕ) (held : Held) (at : List (List ℕ)) (entry : TreeEntry) (pages : ℕ → ℕ → List ℕ) → IsTable nodes → HasTree nodes pages tree → Fills nodes slot held → slot_at nodes at ≡ Some held.node.parent → entry.path ≡ at ++ held.node.name ∷ [] → shape_of_entry entry ≡ shape_of held → HasPages pages slot entry.bytes → IsTree (insert_entry entry tree) → HasTree (set nodes slot (Some held)) pages (insert_entry entry tree)
filled-tree nodes tree slot held at entry pages table has f there path alike here is =
    record {
      is_tree = is;
      shape = grown nodes tree slot held at entry table has.shape f there path alike;
      contents = λ q s e. elim (walk-changed (child_of nodes) (child_of (set nodes slot (Some held))) held.node.parent held.node.name at (fill-differs nodes slot held table f) there q) [
        | inl h ↦ (
            let both : Some s ≡ Some slot = sym e ∙ h.1 ∙ more.one_name slot held (at_same nodes slot slot (Some held) f.there refl) f.above_root in
            let same : s ≡ slot = cc in
            let found : entry_at q (insert_entry entry tree) ≡ Some entry = entry_at-inserted q entry tree ((same_path-Decides q entry.path).1 (h.0 ∙ sym path)) none in
            subst (λ o. HasPages pages s (bytes_in o)) (sym found) (subst (λ t. HasPages pages t entry.bytes) (sym same) here))
        | inr h ↦ (
            let kept : entry_at q (insert_entry entry tree) ≡ entry_at q tree = entry_at-insert q entry tree (apart q h.0) in
            subst (λ o. HasPages pages s (bytes_in o)) (sym kept) (has.contents q s (sym h.1 ∙ e)))
      ];
    } where
      more : IsTable (set nodes slot (Some held))
      more = IsTable-fill nodes slot held table f.there f.above_root f.free f.in_folder f.new_name f.fits

      none : entry_at entry.path tree ≡ None
      none = ap (λ p. entry_at p tree) path ∙ nothing_there nodes tree at held.node.parent held.node.name has.shape there f.new_name

      apart : (q : List (List ℕ)) → (q ≡ at ++ held.node.name ∷ [] → ⊥) → same_path q entry.path ≡ false
      apart q h = elim (cases_Bool (same_path q entry.path)) [ inr g ↦ g | inl g ↦ absurd (h ((same_path-Decides q entry.path).0 g ∙ path)) ]

made_op : Kind → List (List ℕ) → Op
made_op Folder path = MakeDir path
made_op File path = Create path

created-tree : (limits : Limits) (tree : List TreeEntry) (path : List (List ℕ)) (kind : Kind) → refuse_new limits tree path ≡ None → IsPath path → IsTree tree → IsTree (insert_entry (record { path = path; kind = kind; bytes = [] }) tree)
created-tree limits tree path Folder none valid is = allowed-tree limits tree (MakeDir path) none valid is
created-tree limits tree path File none valid is = allowed-tree limits tree (Create path) none valid is

-- a new entry in the least free slot
pub added-tree : (nodes new : List (Option Held)) (tree : List TreeEntry) (limits : Limits) (parts : List (List ℕ)) (folder slot : ℕ) (kind : Kind) (held : Held) (pages : ℕ → ℕ → List ℕ) → IsPlace nodes parts folder → IsLeastFree nodes slot → HasTree nodes pages tree → IsPath parts → refuse_new limits tree parts ≡ None → held ≡ new_held slot kind folder (name_of parts) → new ≡ set nodes slot (Some held) → HasTree new pages (insert_entry (record { path = parts; kind = kind; bytes = [] }) tree)
added-tree nodes new tree limits parts folder slot kind held pages p l has valid none is e =
    let entry : TreeEntry = record { path = parts; kind = kind; bytes = [] } in
    let P : List (Option Held) → Type 0 = λ ns. HasTree ns pages (insert_entry entry tree) in
    subst P (sym (e ∙ ap (λ h. set nodes slot (Some h)) is))
    (filled-tree nodes tree slot (new_held slot kind folder (name_of parts)) (parent_of parts) entry pages p.table has (place-fills nodes parts folder slot kind p l) p.at (path-split parts p.below_root) (new_shape slot kind folder (name_of parts) parts) (none-due pages slot [] refl) (created-tree limits tree parts kind none valid has.is_tree))

no_bytes : (bytes : List ℕ) → length bytes ≡ 0 → bytes ≡ []
no_bytes [] e = refl
no_bytes (b ∷ bytes) e = absurd (omega (arith, e))

folder_held : (o : Option Held) → holds_folder o ≡ true → option_map (λ (h : Held). kind_of h.node) o ≡ Some Folder
folder_held None h = absurd (false≢true h)
folder_held (Some held) h = ap (λ v. Some (cond v Folder File)) h

folder_kind : (b : Bool) → cond b Folder File ≡ Folder → b ≡ true
folder_kind true e = refl
folder_kind false e = absurd cc

-- the entry of a node in a folder belongs into each tree of that shape
put-belongs : (nodes : List (Option Held)) (tree : List TreeEntry) (slot : ℕ) (held : Held) (at : List (List ℕ)) (entry : TreeEntry) → HasShapeOf nodes tree → Fills nodes slot held → slot_at nodes at ≡ Some held.node.parent → IsPath entry.path → entry.path ≡ at ++ held.node.name ∷ [] → shape_of_entry entry ≡ shape_of held → BelongsIn tree entry
put-belongs nodes tree slot held at entry shape f there valid path alike =
    let kind : entry.kind ≡ kind_of held.node = ap (λ (s : Shape). s.kind) alike in
    let len : length entry.bytes ≡ held.node.length = ap (λ (s : Shape). s.len) alike in
    let split = path-split (at ++ held.node.name ∷ []) (omega (arith, length-append at (held.node.name ∷ []))) in
    let up : parent_of entry.path ≡ at = ap parent_of path ∙ sym (snoc-inj at (parent_of (at ++ held.node.name ∷ [])) held.node.name (name_of (at ++ held.node.name ∷ [])) split).0 in
    record {
      path_valid = valid;
      below_root = ap is_root path ∙ below_root at held.node.name;
      parent_there = ap (λ p. kind_at p tree) up ∙ kind_at-held nodes tree at held.node.parent (held_at nodes held.node.parent) shape there refl ∙ folder_held (held_at nodes held.node.parent) f.in_folder;
      folder_empty = λ is. no_bytes entry.bytes (len ∙ f.fits.folder_empty (folder_kind (is_folder_node held.node.kind) (sym kind ∙ is)));
      bytes_few = omega (arith, len, f.fits.short);
    }

-- a node put into its own slot
pub put-tree : (nodes new : List (Option Held)) (tree : List TreeEntry) (slot : ℕ) (held : Held) (at : List (List ℕ)) (entry : TreeEntry) (pages : ℕ → ℕ → List ℕ) → IsTable nodes → new ≡ set nodes slot (Some held) → HasTree nodes pages tree → Fills nodes slot held → slot_at nodes at ≡ Some held.node.parent → IsPath entry.path → entry.path ≡ at ++ held.node.name ∷ [] → shape_of_entry entry ≡ shape_of held → HasPages pages slot entry.bytes → HasTree new pages (insert_entry entry tree)
put-tree nodes new tree slot held at entry pages table e has f there valid path alike here =
    let none : entry_at entry.path tree ≡ None = ap (λ p. entry_at p tree) path ∙ nothing_there nodes tree at held.node.parent held.node.name has.shape there f.new_name in
    let P : List (Option Held) → Type 0 = λ ns. HasTree ns pages (insert_entry entry tree) in
    subst P (sym e) (filled-tree nodes tree slot held at entry pages table has f there path alike here
    (IsTree-insert entry tree none (put-belongs nodes tree slot held at entry has.shape f there valid path alike) has.is_tree))

-- a root without entries has the empty tree
pub fresh-tree : (n : ℕ) (pages : ℕ → ℕ → List ℕ) → HasTree (Some root_held ∷ replicate n None) pages []
fresh-tree n pages =
    record {
      is_tree = record { in_order = tt; all_belong = tt };
      shape = fresh-shape n;
      contents = λ path slot at. none-due pages slot [] refl;
    }

-- ---- a node leaves

removed-tree : (limits : Limits) (tree : List TreeEntry) (path : List (List ℕ)) (kind : Kind) → refusal_of limits tree (removal_of kind path) ≡ None → IsPath path → IsTree tree → IsTree (without path tree)
removed-tree limits tree path Folder none valid is = allowed-tree limits tree (RemoveDir path) none valid is
removed-tree limits tree path File none valid is = allowed-tree limits tree (Remove path) none valid is

-- what is left where a node without children is gone
pub left-stems : (nodes : List (Option Held)) (tree : List TreeEntry) (slot : ℕ) (held : Held) (at path q : List (List ℕ)) (s : ℕ) → IsTable nodes → slot < length nodes → 0 < slot → held_at nodes slot ≡ Some held → ((name : List ℕ) → child_of nodes slot name ≡ None) → slot_at nodes at ≡ Some held.node.parent → path ≡ at ++ held.node.name ∷ [] → slot_at (set nodes slot None) q ≡ Some s → Stems nodes tree (without path tree) q s
left-stems nodes tree slot held at path q s table there above holds bare folder whole e =
    elim (cases_Bool (same_path path q)) [
      | inl h ↦ absurd (
          let is : q ≡ at ++ held.node.name ∷ [] = sym ((same_path-Decides path q).0 h) ∙ whole in
          let both : None ≡ Some s = sym (ap (slot_at (set nodes slot None)) is ∙ gone-emptied nodes slot held at table there above holds bare folder) ∙ e in cc)
      | inr h ↦ inr (
        q,
        sym (walk-emptied nodes slot held at q table there above holds bare folder (λ is. false≢true (sym h ∙ (same_path-Decides path q).1 (whole ∙ sym is)))) ∙ e,
        ap bytes_in (entry_at-without q path tree h),
      )
    ]

-- a node that leaves from a path
pub detached-tree : (nodes new : List (Option Held)) (tree : List TreeEntry) (limits : Limits) (path : List (List ℕ)) (slot : ℕ) (kind : Kind) (pages : ℕ → ℕ → List ℕ) → MayLeave nodes path slot → HasTree nodes pages tree → IsPath path → refusal_of limits tree (removal_of kind path) ≡ None → new ≡ set nodes slot None → HasTree new pages (without path tree)
detached-tree nodes new tree limits path slot kind pages may has valid none e =
    let from = leaves_from nodes path slot may in
    let l = from.leaves in
    let P : List (Option Held) → Type 0 = λ ns. HasTree ns pages (without path tree) in
    subst P (sym e) (carried nodes (set nodes slot None) pages tree (without path tree) has (removed-tree limits tree path kind none valid has.is_tree) (detached nodes (set nodes slot None) tree path slot may has.is_tree has.shape refl)
    (λ q s at. left-stems nodes tree slot from.held (parent_of path) path q s may.table l.there l.above_root l.holds l.bare from.folder from.whole at))

-- ---- a file changes

-- a reference changes no page
pub ref-contents : (nodes new : List (Option Held)) (tree : List TreeEntry) (slot page : ℕ) (reference : Ref) (held : Held) (pages : ℕ → ℕ → List ℕ) → IsTable nodes → held_at nodes slot ≡ Some held → HasTree nodes pages tree → new ≡ set nodes slot (Some (with_ref page reference held)) → HasTree new pages tree
ref-contents nodes new tree slot page reference held pages table holds has e =
    let P : List (Option Held) → Type 0 = λ ns. HasTree ns pages tree in
    let after = set nodes slot (Some (with_ref page reference held)) in
    subst P (sym e) (carried nodes after pages tree tree has has.is_tree (ref-tree nodes after tree slot page reference held table holds has.shape refl)
    (λ q s at. inr (q, sym (slot_at-kept nodes slot held (with_ref page reference held) (ref_changes nodes slot page reference held table holds) q) ∙ at, refl)))

bytes_or_none : (o : Option TreeEntry) (bytes : List ℕ) → (bytes_in (option_map {T = TreeEntry} {U = TreeEntry} (λ e. record e { bytes = bytes }) o) ≡ []) ⊎ (bytes_in (option_map {T = TreeEntry} {U = TreeEntry} (λ e. record e { bytes = bytes }) o) ≡ bytes)
bytes_or_none None bytes = inl refl
bytes_or_none (Some e) bytes = inr refl

-- a file that gets another length has the bytes of its new pages, and every other stays
pub resized-contents : (nodes new : List (Option Held)) (tree : List TreeEntry) (path : List (List ℕ)) (slot len : ℕ) (bytes : List ℕ) (next : Option Refusal) (pages changed : ℕ → ℕ → List ℕ) → IsFileAt nodes path slot → len ≤ longest_file → HasTree nodes pages tree → length bytes ≡ len → refuse_unless_file tree path next ≡ None → HasPages changed slot bytes → KeepsOthers slot pages changed → ((held : Held) → held_at nodes slot ≡ Some held → new ≡ set nodes slot (Some (resized len held))) → HasTree new changed (with_bytes_at path bytes tree)
resized-contents nodes new tree path slot len bytes next pages changed is short has size none here others made =
    record {
      is_tree = IsTree-with_bytes_at path bytes tree (omega (arith, size, short)) (refuse_unless_file-none tree path next none).0 has.is_tree;
      shape = resized-tree nodes new tree path slot len bytes is short has.shape size made;
      contents = λ q s at. elim (cases_Bool (same_path q path)) [
        | inl h ↦ (
            let same : q ≡ path = (same_path-Decides q path).0 h in
            let both : Some s ≡ Some slot = sym (was q s at) ∙ ap (slot_at nodes) same ∙ is.at in
            let s_is : s ≡ slot = cc in
            let found : bytes_in (entry_at q (with_bytes_at path bytes tree)) ≡ bytes_in (option_map {T = TreeEntry} {U = TreeEntry} (λ e. record e { bytes = bytes }) (entry_at path tree)) = ap bytes_in (ap (λ p. entry_at p (with_bytes_at path bytes tree)) same ∙ entry_at-with path bytes tree) in
            elim (bytes_or_none (entry_at path tree) bytes) [
              | inl e ↦ none-due changed s (bytes_in (entry_at q (with_bytes_at path bytes tree))) (found ∙ e)
              | inr e ↦ subst (HasPages changed s) (sym (found ∙ e)) (subst (λ t. HasPages changed t bytes) (sym s_is) here)
            ])
        | inr h ↦ (
            let apart : q ≡ path → ⊥ = λ e. false≢true (sym h ∙ (same_path-Decides q path).1 e) in
            let other : s ≡ slot → ⊥ = λ e. apart (walk-alone (child_of nodes) (table-forest nodes is.table) q path slot (was q s at ∙ ap (λ k. Some k) e) is.at) in
            subst (HasPages changed s) (sym (ap bytes_in (entry_at-beside q path bytes tree apart)))
            (λ k lt. others s k other ∙ has.contents q s (was q s at) k lt))
      ];
    } where
      file : (held : Held) × (held_at nodes slot ≡ Some held) × (is_file_node held.node.kind ≡ true)
      file = file_in nodes slot is.file

      was : (q : List (List ℕ)) (s : ℕ) → slot_at new q ≡ Some s → slot_at nodes q ≡ Some s
      was q s at =
          sym (slot_at-kept nodes slot file.0 (resized len file.0) (resized_changes nodes slot len file.0 is.table file.1 file.2 short) q)
          ∙ sym (ap (λ ns. slot_at ns q) (made file.0 file.1)) ∙ at
