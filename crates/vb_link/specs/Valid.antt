-- What a link shows of a state that a cloud can have is a view that a link can show.
use Rattle.std.proofs.Common.{◌≡◌, ℕ, ◌+◌, ◌<◌, ◌≤◌, Bool, true, false, cond, List, [], ◌∷◌, ◌++◌, length, map, replicate, Option, Some, None, refl, sym, ap, ◌∙◌, subst, arith, length-append}
use Rattle.std.specs.Option.{option_map}
use Rattle.std.proofs.lemmas.List.{length-map, length-replicate}
use Rattle.vb_path.specs.Paths.{same_path}
use Rattle.vb_tree.specs.declared.tree.Kind.{Kind}
use Rattle.vb_tree.specs.declared.tree.Kind.TheVariants.{Folder}
use Rattle.vb_tree.specs.declared.tree.TreeEntry.{TreeEntry}
use Rattle.vb_tree.specs.Trees.{entry_at, kind_at, is_root, parent_of, AllAfter, AreInOrder, BelongsIn, AllBelongIn, IsTree, data_pages_of}
use Rattle.vb_cloud.specs.Machine.{CloudState}
use Rattle.vb_cloud.specs.Valid.{IsCloudState}
use Rattle.vb_cloud.proofs.Digests.{length-first_digests}
use Rattle.vb_link.specs.Views.{LinkView, told_entry, view_of, outline, AllHaveDigests, IsLinkView}

-- entries with zeros for their bytes
abbrev outlines : List TreeEntry → List TreeEntry
outlines es = map outline (map told_entry es)

outlined_after : (path : List (List ℕ)) (es : List TreeEntry) → AllAfter path es → AllAfter path (outlines es)
outlined_after path [] all = tt
outlined_after path (e ∷ es) all = (all.0, outlined_after path es all.1)

outlined_order : (es : List TreeEntry) → AreInOrder es → AreInOrder (outlines es)
outlined_order [] all = tt
outlined_order (e ∷ es) all = (outlined_after e.path es all.0, outlined_order es all.1)

abbrev kind_in : Option TreeEntry → Option Kind
kind_in o = option_map (λ (e : TreeEntry). e.kind) o

outlined_kind : (path : List (List ℕ)) (es : List TreeEntry) → kind_in (entry_at path (outlines es)) ≡ kind_in (entry_at path es)
outlined_kind path [] = refl
outlined_kind path (e ∷ es) =
    elim (same_path path e.path) as (λ v. kind_in (cond v (Some (outline (told_entry e))) (entry_at path (outlines es))) ≡ kind_in (cond v (Some e) (entry_at path es))) [
      | true ↦ refl
      | false ↦ outlined_kind path es
    ]

no_zeros : (bytes : List ℕ) → bytes ≡ [] → replicate {A = ℕ} (length bytes) 0 ≡ []
no_zeros bytes none = ap (λ (bs : List ℕ). replicate {A = ℕ} (length bs) 0) none

outlined_belongs : (tree : List TreeEntry) (e : TreeEntry) → BelongsIn tree e → BelongsIn (outlines tree) (outline (told_entry e))
outlined_belongs tree e belongs =
    let count : length (replicate {A = ℕ} (length e.bytes) 0) ≡ length e.bytes = length-replicate {A = ℕ} (length e.bytes) 0 in
    let few = belongs.bytes_few in
    record {
      path_valid = belongs.path_valid;
      below_root = belongs.below_root;
      parent_there = ap (λ k. cond (is_root (parent_of e.path)) (Some Folder) k) (outlined_kind (parent_of e.path) tree) ∙ belongs.parent_there;
      folder_empty = λ folder. no_zeros e.bytes (belongs.folder_empty folder);
      bytes_few = omega (arith, count);
    }

outlined_all : (tree es : List TreeEntry) → AllBelongIn tree es → AllBelongIn (outlines tree) (outlines es)
outlined_all tree [] all = tt
outlined_all tree (e ∷ es) all = (outlined_belongs tree e all.0, outlined_all tree es all.1)

told_digests : (es : List TreeEntry) → AllHaveDigests (map told_entry es)
told_digests [] = tt
told_digests (e ∷ es) = (length-first_digests (data_pages_of (length e.bytes)) e.bytes, told_digests es)

view_is_valid : (k : CloudState) → IsCloudState k → IsLinkView (view_of k)
view_is_valid k is =
    let count = length-map k.tree told_entry in
    let few = is.views.shown.few in
    record {
      id_whole = is.views.id_whole;
      small_epoch = is.views.shown.small_epoch;
      few = omega arith;
      listed = record { in_order = outlined_order k.tree is.views.shown.ordered.in_order; all_belong = outlined_all k.tree k.tree is.views.shown.ordered.all_belong };
      digests = told_digests k.tree;
    }

same_state : (a b : CloudState) → Some a ≡ Some b → a ≡ b
same_state a b e = cc

same_view : (a b : LinkView) → Some a ≡ Some b → a ≡ b
same_view a b e = cc

-- what is told is a state that a cloud can have
pub reached_of : (a k : CloudState) → IsCloudState a → Some a ≡ Some k → IsCloudState k
reached_of a k is e = subst IsCloudState (same_state a k e) is

-- what is shown is a view that a link can show
pub valid_of : (a : CloudState) (v : LinkView) → IsCloudState a → Some (view_of a) ≡ Some v → IsLinkView v
valid_of a v is e = subst IsLinkView (same_view (view_of a) v e) (view_is_valid a is)

-- what is shown is what is told
pub agree_of : (a k : CloudState) (v : LinkView) → Some a ≡ Some k → Some (view_of a) ≡ Some v → v ≡ view_of k
agree_of a k v told shown = sym (same_view (view_of a) v shown) ∙ ap view_of (same_state a k told)
