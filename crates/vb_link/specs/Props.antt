-- Facts on clouds that have at most one proof, so that a value can keep them.
use Rattle.std.specs.Prelude.{◌≡◌, ℕ, ◌<◌, ◌≤◌, List, [], ◌∷◌, length, Option, Some, None}
use Rattle.std.proofs.Props.{props}
use Rattle.std.specs.declared.cmp.Ordering.TheVariants.{Less}
use Rattle.vb_path.specs.Paths.{IsPath, path_cmp}
use Rattle.vb_tree.specs.declared.tree.Kind.TheVariants.{Folder}
use Rattle.vb_tree.specs.declared.tree.TreeEntry.{TreeEntry}
use Rattle.vb_tree.specs.Trees.{kind_at, is_root, parent_of, longest_file, AllAfter, AreInOrder, BelongsIn, AllBelongIn, IsTree}
use Rattle.vb_cloud.specs.Machine.{DraftState, CloudState}
use Rattle.vb_cloud.specs.Valid.{AllFit, object_bytes, IsView, IsDraft, IsDraftIfAny, HasViews, DraftFits, IsCloudState}

AllAfter-prop : (path : List (List ℕ)) (es : List TreeEntry) → IsProp (AllAfter path es)
AllAfter-prop path [] x y = λ i. tt
AllAfter-prop path (e ∷ es) x y =
    let first : IsProp (path_cmp path e.path ≡ Less) = hlevel props in
    λ i. (first x.0 y.0 i, AllAfter-prop path es x.1 y.1 i)

AreInOrder-prop : (es : List TreeEntry) → IsProp (AreInOrder es)
AreInOrder-prop [] x y = λ i. tt
AreInOrder-prop (e ∷ es) x y = λ i. (AllAfter-prop e.path es x.0 y.0 i, AreInOrder-prop es x.1 y.1 i)

BelongsIn-prop : (tree : List TreeEntry) (e : TreeEntry) → IsProp (BelongsIn tree e)
BelongsIn-prop tree e = hlevel props

AllBelongIn-prop : (tree es : List TreeEntry) → IsProp (AllBelongIn tree es)
AllBelongIn-prop tree [] x y = λ i. tt
AllBelongIn-prop tree (e ∷ es) x y = λ i. (BelongsIn-prop tree e x.0 y.0 i, AllBelongIn-prop tree es x.1 y.1 i)

IsTree-prop : (tree : List TreeEntry) → IsProp (IsTree tree)
IsTree-prop tree x y = λ i. record {
  in_order = AreInOrder-prop tree x.in_order y.in_order i;
  all_belong = AllBelongIn-prop tree tree x.all_belong y.all_belong i;
}

IsView-prop : (epoch : ℕ) (tree : List TreeEntry) → IsProp (IsView epoch tree)
IsView-prop epoch tree = hlevel (props, IsTree-prop)

IsDraftIfAny-prop : (shown : ℕ) (o : Option DraftState) → IsProp (IsDraftIfAny shown o)
IsDraftIfAny-prop shown None x y = λ i. tt
IsDraftIfAny-prop shown (Some d) x y =
    let draft : IsProp (IsDraft shown d) = hlevel (props, IsView-prop) in
    draft x y

AllFit-prop : (es : List TreeEntry) → IsProp (AllFit es)
AllFit-prop [] x y = λ i. tt
AllFit-prop (e ∷ es) x y =
    let first : IsProp (length e.bytes ≤ 44433408) = hlevel props in
    λ i. (first x.0 y.0 i, AllFit-prop es x.1 y.1 i)

DraftFits-prop : (o : Option DraftState) → IsProp (DraftFits o)
DraftFits-prop None x y = λ i. tt
DraftFits-prop (Some d) x y = AllFit-prop d.tree x y

HasViews-prop : (k : CloudState) → IsProp (HasViews k)
HasViews-prop k = hlevel (props, IsView-prop, IsDraftIfAny-prop)

-- that a state is one that messages can leave has at most one proof
pub IsCloudState-prop : (k : CloudState) → IsProp (IsCloudState k)
IsCloudState-prop k = hlevel (props, HasViews-prop, AllFit-prop, DraftFits-prop)
