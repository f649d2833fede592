-- What a new entry, and other bytes of a file, do to a tree.
use Rattle.std.proofs.Common.{◌≡◌, ℕ, Bool, true, false, cond, List, [], ◌∷◌, length, ◌≤◌, Option, Some, None, inl, inr, refl, sym, ap, ◌∙◌, subst}
use Rattle.std.specs.Option.{option_map}
use Rattle.std.specs.Ordering.{is_lt}
use Rattle.std.specs.declared.cmp.Ordering.TheVariants.{Less}
use Rattle.std.proofs.lemmas.Bool.{cases_Bool}
use Rattle.vb_tree.specs.declared.tree.Kind.{Kind}
use Rattle.vb_tree.specs.declared.tree.Kind.TheVariants.{Folder, File}
use Rattle.vb_tree.specs.declared.tree.TreeEntry.{TreeEntry}
use Rattle.vb_path.specs.Paths.{same_path, path_cmp}
use Rattle.vb_tree.specs.Trees.{longest_file, is_root, entry_at, kind_at, insert_entry, with_bytes_at, AllAfter, AreInOrder, parent_of, BelongsIn, AllBelongIn, IsTree}
use Rattle.vb_path.proofs.PathLaws.{path_cmp-total, same_path-Decides, after-path, before-path}

-- ---- order

AllAfter-earlier : (p q : List (List ℕ)) (es : List TreeEntry) → path_cmp p q ≡ Less → AllAfter q es → AllAfter p es
AllAfter-earlier p q [] h all = tt
AllAfter-earlier p q (e ∷ es) h all = (path_cmp-total.trans p q e.path h all.0, AllAfter-earlier p q es h all.1)

AllAfter-insert : (p : List (List ℕ)) (new : TreeEntry) (es : List TreeEntry) → path_cmp p new.path ≡ Less → AllAfter p es → AllAfter p (insert_entry new es)
AllAfter-insert p new [] h all = (h, tt)
AllAfter-insert p new (e ∷ es) h all =
    elim (is_lt (path_cmp new.path e.path)) as (λ v. AllAfter p (cond v (new ∷ e ∷ es) (e ∷ insert_entry new es))) [
      | true ↦ (h, all)
      | false ↦ (all.0, AllAfter-insert p new es h all.1)
    ]

-- the first entry isn't at a path at which nothing stands, nor is one of the others
not_here : (path : List (List ℕ)) (e : TreeEntry) (es : List TreeEntry) → entry_at path (e ∷ es) ≡ None → (same_path path e.path ≡ false) × (entry_at path es ≡ None)
not_here path e es =
    elim (same_path path e.path) as (λ v. cond v (Some e) (entry_at path es) ≡ None → (v ≡ false) × (entry_at path es ≡ None)) [
      | true ↦ λ h. absurd cc
      | false ↦ λ h. (refl, h)
    ]

-- a new entry leaves the entries in order
pub AreInOrder-insert : (new : TreeEntry) (tree : List TreeEntry) → entry_at new.path tree ≡ None → AreInOrder tree → AreInOrder (insert_entry new tree)
AreInOrder-insert new [] none order = (tt, tt)
AreInOrder-insert new (e ∷ es) none order =
    let away = not_here new.path e es none in
    let P : Bool → Type 0 = λ v. AreInOrder (cond v (new ∷ e ∷ es) (e ∷ insert_entry new es)) in
    elim (cases_Bool (is_lt (path_cmp new.path e.path))) [
      | inl h ↦ subst P (sym h) (let less = before-path new.path e.path h in ((less, AllAfter-earlier new.path e.path es less order.0), order))
      | inr h ↦ subst P (sym h) (AllAfter-insert e.path new es (after-path new.path e.path h away.0) order.0, AreInOrder-insert new es away.1 order.1)
    ]

-- ---- look-ups

-- a new entry changes no look-up at another path
pub entry_at-insert : (path : List (List ℕ)) (new : TreeEntry) (tree : List TreeEntry) → same_path path new.path ≡ false → entry_at path (insert_entry new tree) ≡ entry_at path tree
entry_at-insert path new [] h = ap (λ v. cond v (Some new) None) h
entry_at-insert path new (e ∷ es) h =
    elim (is_lt (path_cmp new.path e.path)) as (λ v. entry_at path (cond v (new ∷ e ∷ es) (e ∷ insert_entry new es)) ≡ entry_at path (e ∷ es)) [
      | true ↦ ap (λ v. cond v (Some new) (entry_at path (e ∷ es))) h
      | false ↦ ap (λ t. cond (same_path path e.path) (Some e) t) (entry_at-insert path new es h)
    ]

-- a new entry is found at its path, where nothing stood there
pub entry_at-inserted : (path : List (List ℕ)) (new : TreeEntry) (tree : List TreeEntry) → same_path path new.path ≡ true → entry_at new.path tree ≡ None → entry_at path (insert_entry new tree) ≡ Some new
entry_at-inserted path new [] h none = ap (λ v. cond v (Some new) None) h
entry_at-inserted path new (e ∷ es) h none =
    let away = not_here new.path e es none in
    let other : same_path path e.path ≡ false = subst (λ p. same_path p e.path ≡ false) (sym ((same_path-Decides path new.path).0 h)) away.0 in
    elim (is_lt (path_cmp new.path e.path)) as (λ v. entry_at path (cond v (new ∷ e ∷ es) (e ∷ insert_entry new es)) ≡ Some new) [
      | true ↦ ap (λ v. cond v (Some new) (entry_at path (e ∷ es))) h
      | false ↦ ap (λ v. cond v (Some e) (entry_at path (insert_entry new es))) other ∙ entry_at-inserted path new es h away.1
    ]

-- a new entry where nothing stood changes nothing that stands
pub kind_at-insert : (path : List (List ℕ)) (new : TreeEntry) (tree : List TreeEntry) (kind : Kind) → entry_at new.path tree ≡ None → is_root new.path ≡ false → kind_at path tree ≡ Some kind → kind_at path (insert_entry new tree) ≡ Some kind
kind_at-insert path new tree kind none below h =
    elim (cases_Bool (same_path path new.path)) [
      | inl same ↦ absurd (
          let is : path ≡ new.path = (same_path-Decides path new.path).0 same in
          let nothing : kind_at new.path tree ≡ None = ap (λ v. cond v (Some Folder) (option_map (λ e. e.kind) (entry_at new.path tree))) below ∙ ap (option_map (λ e. e.kind)) none in
          let there : kind_at new.path tree ≡ Some kind = subst (λ p. kind_at p tree ≡ Some kind) is h in
          cc)
      | inr other ↦ ap (λ o. cond (is_root path) (Some Folder) (option_map (λ e. e.kind) o)) (entry_at-insert path new tree other) ∙ h
    ]

-- ---- what belongs into a tree

pub AllBelongIn-insert : (tree : List TreeEntry) (new : TreeEntry) (es : List TreeEntry) → BelongsIn tree new → AllBelongIn tree es → AllBelongIn tree (insert_entry new es)
AllBelongIn-insert tree new [] h all = (h, tt)
AllBelongIn-insert tree new (e ∷ es) h all =
    elim (is_lt (path_cmp new.path e.path)) as (λ v. AllBelongIn tree (cond v (new ∷ e ∷ es) (e ∷ insert_entry new es))) [
      | true ↦ (h, all)
      | false ↦ (all.0, AllBelongIn-insert tree new es h all.1)
    ]

-- what belonged still does where its parent is a folder
pub BelongsIn-kept : (tree after : List TreeEntry) (e : TreeEntry) → kind_at (parent_of e.path) after ≡ Some Folder → BelongsIn tree e → BelongsIn after e
BelongsIn-kept tree after e parent belongs =
    record {
      path_valid = belongs.path_valid;
      below_root = belongs.below_root;
      parent_there = parent;
      folder_empty = belongs.folder_empty;
      bytes_few = belongs.bytes_few;
    }

-- what belonged still does, where every folder that was there still is
AllBelongIn-kept : (tree after es : List TreeEntry) → ((path : List (List ℕ)) → kind_at path tree ≡ Some Folder → kind_at path after ≡ Some Folder) → AllBelongIn tree es → AllBelongIn after es
AllBelongIn-kept tree after [] keeps all = tt
AllBelongIn-kept tree after (e ∷ es) keeps all =
    (BelongsIn-kept tree after e (keeps (parent_of e.path) all.0.parent_there) all.0, AllBelongIn-kept tree after es keeps all.1)

-- a new entry that belongs into a tree, at a path at which nothing stands, leaves a tree
pub IsTree-insert : (new : TreeEntry) (tree : List TreeEntry) → entry_at new.path tree ≡ None → BelongsIn tree new → IsTree tree → IsTree (insert_entry new tree)
IsTree-insert new tree none belongs is =
    let keeps : (path : List (List ℕ)) → kind_at path tree ≡ Some Folder → kind_at path (insert_entry new tree) ≡ Some Folder = λ path h. kind_at-insert path new tree Folder none belongs.below_root h in
    record {
      in_order = AreInOrder-insert new tree none is.in_order;
      all_belong = AllBelongIn-kept tree (insert_entry new tree) (insert_entry new tree) keeps (AllBelongIn-insert tree new tree belongs is.all_belong);
    }

-- ---- other bytes

AllAfter-with_bytes_at : (p path : List (List ℕ)) (bytes : List ℕ) (es : List TreeEntry) → AllAfter p es → AllAfter p (with_bytes_at path bytes es)
AllAfter-with_bytes_at p path bytes [] all = tt
AllAfter-with_bytes_at p path bytes (e ∷ es) all =
    elim (same_path path e.path) as (λ v. AllAfter p (cond v (record e { bytes = bytes } ∷ es) (e ∷ with_bytes_at path bytes es))) [
      | true ↦ all
      | false ↦ (all.0, AllAfter-with_bytes_at p path bytes es all.1)
    ]

AreInOrder-with_bytes_at : (path : List (List ℕ)) (bytes : List ℕ) (tree : List TreeEntry) → AreInOrder tree → AreInOrder (with_bytes_at path bytes tree)
AreInOrder-with_bytes_at path bytes [] order = tt
AreInOrder-with_bytes_at path bytes (e ∷ es) order =
    elim (same_path path e.path) as (λ v. AreInOrder (cond v (record e { bytes = bytes } ∷ es) (e ∷ with_bytes_at path bytes es))) [
      | true ↦ order
      | false ↦ (AllAfter-with_bytes_at e.path path bytes es order.0, AreInOrder-with_bytes_at path bytes es order.1)
    ]

kind_of_found-with_bytes_at : (path q : List (List ℕ)) (bytes : List ℕ) (tree : List TreeEntry) → option_map (λ e. e.kind) (entry_at q (with_bytes_at path bytes tree)) ≡ option_map (λ e. e.kind) (entry_at q tree)
kind_of_found-with_bytes_at path q bytes [] = refl
kind_of_found-with_bytes_at path q bytes (e ∷ es) =
    elim (same_path path e.path) as (λ v. option_map (λ x. x.kind) (entry_at q (cond v (record e { bytes = bytes } ∷ es) (e ∷ with_bytes_at path bytes es))) ≡ option_map (λ x. x.kind) (entry_at q (e ∷ es))) [
      | true ↦ elim (same_path q e.path) as (λ w. option_map (λ (x : TreeEntry). x.kind) (cond w (Some (record e { bytes = bytes })) (entry_at q es)) ≡ option_map (λ x. x.kind) (cond w (Some e) (entry_at q es))) [ true ↦ refl | false ↦ refl ]
      | false ↦ elim (same_path q e.path) as (λ w. option_map (λ (x : TreeEntry). x.kind) (cond w (Some e) (entry_at q (with_bytes_at path bytes es))) ≡ option_map (λ x. x.kind) (cond w (Some e) (entry_at q es))) [ true ↦ refl | false ↦ kind_of_found-with_bytes_at path q bytes es ]
    ]

-- other bytes change nothing of what stands where
pub kind_at-with_bytes_at : (path q : List (List ℕ)) (bytes : List ℕ) (tree : List TreeEntry) → kind_at q (with_bytes_at path bytes tree) ≡ kind_at q tree
kind_at-with_bytes_at path q bytes tree = ap (λ k. cond (is_root q) (Some Folder) k) (kind_of_found-with_bytes_at path q bytes tree)

-- the entry at a path is a file
abbrev pub HasFile : Option TreeEntry → Type 0
HasFile None = ⊥
HasFile (Some e) = e.kind ≡ File

AllBelongIn-with_bytes_at : (tree : List TreeEntry) (path : List (List ℕ)) (bytes : List ℕ) (es : List TreeEntry) → length bytes ≤ longest_file → HasFile (entry_at path es) → AllBelongIn tree es → AllBelongIn tree (with_bytes_at path bytes es)
AllBelongIn-with_bytes_at tree path bytes [] few h all = tt
AllBelongIn-with_bytes_at tree path bytes (e ∷ es) few h all =
    elim (same_path path e.path) as (λ v. HasFile (cond v (Some e) (entry_at path es)) → AllBelongIn tree (cond v (record e { bytes = bytes } ∷ es) (e ∷ with_bytes_at path bytes es))) [
      | true ↦ λ file. (
        record {
          path_valid = all.0.path_valid;
          below_root = all.0.below_root;
          parent_there = all.0.parent_there;
          folder_empty = λ folder. absurd (different (sym file ∙ folder));
          bytes_few = few;
        },
        all.1,
      )
      | false ↦ λ file. (all.0, AllBelongIn-with_bytes_at tree path bytes es few file all.1)
    ] h where
      different : File ≡ Folder → ⊥
      different e = cc

-- other bytes of a file leave a tree
pub IsTree-with_bytes_at : (path : List (List ℕ)) (bytes : List ℕ) (tree : List TreeEntry) → length bytes ≤ longest_file → HasFile (entry_at path tree) → IsTree tree → IsTree (with_bytes_at path bytes tree)
IsTree-with_bytes_at path bytes tree few file is =
    record {
      in_order = AreInOrder-with_bytes_at path bytes tree is.in_order;
      all_belong = AllBelongIn-kept tree (with_bytes_at path bytes tree) (with_bytes_at path bytes tree) (λ q h. kind_at-with_bytes_at path q bytes tree ∙ h) (AllBelongIn-with_bytes_at tree path bytes tree few file is.all_belong);
    }
