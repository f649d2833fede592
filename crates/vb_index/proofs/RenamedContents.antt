-- The tree that nodes have with their pages after a rename.
use Rattle.std.proofs.Common.{◌≡◌, ℕ, false, cond, ◌||◌, List, [], ◌∷◌, ◌++◌, set, Option, Some, None, inl, inr, refl, sym, ap, ◌∙◌, subst}
use Rattle.std.specs.Option.{option_map, option_and_then}
use Rattle.vb_path.specs.Paths.{same_path, IsPath}
use Rattle.vb_tree.specs.declared.tree.Limits.{Limits}
use Rattle.vb_tree.specs.declared.tree.TreeEntry.{TreeEntry}
use Rattle.vb_tree.specs.declared.operation.Op.TheVariants.{Rename}
use Rattle.vb_tree.specs.declared.reply.Refusal.{Refusal}
use Rattle.vb_tree.specs.declared.reply.Refusal.TheVariants.{RootFixed}
use Rattle.vb_tree.specs.Trees.{is_root, entry_at, bytes_in, without, parent_of, name_of, AreInOrder, IsTree}
use Rattle.vb_tree.specs.Refusals.{allow, refuse, refuse_missing, refuse_move, refusal_of}
use Rattle.vb_tree.specs.Renames.{is_within, moved, in_path_order, renamed}
use Rattle.vb_tree.proofs.Removals.{AreInOrder-filter}
use Rattle.vb_index.specs.declared.held.Held.{Held}
use Rattle.vb_index.specs.Nodes.{held_at, slot_at, IsTable}
use Rattle.vb_index.specs.Indexes.{HasShapeOf}
use Rattle.vb_index.specs.Moves.{placed_in, with_place, without_slot, IsMove}
use Rattle.vb_index.specs.Contents.{HasTree}
use Rattle.vb_index.proofs.Contents.{Stems, carried, allowed-tree, left-stems}
use Rattle.vb_index.proofs.Growth.{path-split, slot_holds}
use Rattle.vb_index.proofs.MovedShapes.{IsOver, is-over, placed-walk, outside-tree, folder-outside, free-entry, walk-emptied, renamed-shape}
use Rattle.vb_index.proofs.MovedTrees.{path_before, entry-moved, without-none}
use Rattle.vb_index.proofs.Newness.{has_parts}
use Rattle.vb_index.proofs.Places.{Moves, replaces-moves, may-moves}
use Rattle.vb_index.proofs.Renamed.{may-place, target-at}
use Rattle.vb_index.proofs.Shrinking.{shrunk}
use Rattle.vb_index.proofs.Tables.{IsTable-empty}

bytes_mapped : (a b : Option TreeEntry) → option_map (λ (e : TreeEntry). e.bytes) a ≡ option_map (λ (e : TreeEntry). e.bytes) b → bytes_in a ≡ bytes_in b
bytes_mapped None None e = refl
bytes_mapped None (Some b) e = absurd cc
bytes_mapped (Some a) None e = absurd cc
bytes_mapped (Some a) (Some b) e = cc

-- where a node has another place, each path leads to the slot to which the path led at which that stood before
placed-stems : (nodes : List (Option Held)) (tree : List TreeEntry) (slot : ℕ) (held : Held) (folder : ℕ) (name : List ℕ) (source at q : List (List ℕ)) (s : ℕ) → IsTable nodes → AreInOrder tree → HasShapeOf nodes tree → Moves nodes slot held folder name → is_root source ≡ false → slot_at nodes source ≡ Some slot → slot_at nodes at ≡ Some folder → is_within source at ≡ false → slot_at (set nodes slot (Some (placed_in folder name held))) q ≡ Some s → Stems nodes tree (in_path_order (moved source (at ++ name ∷ []) tree)) q s
placed-stems nodes tree slot held folder name source at q s table order shape m below source_at there outside e =
    by (path_before source (at ++ name ∷ []) q) refl (sym (placed-walk nodes slot held folder name source at q table m below source_at there outside) ∙ e)
  where
    by : (o : Option (List (List ℕ))) → path_before source (at ++ name ∷ []) q ≡ o → option_and_then (slot_at nodes) o ≡ Some s → Stems nodes tree (in_path_order (moved source (at ++ name ∷ []) tree)) q s
    by None b w = absurd cc
    by (Some old) b w = inr (
      old,
      w,
      bytes_mapped (entry_at q (in_path_order (moved source (at ++ name ∷ []) tree))) (entry_at old tree)
          (entry-moved (λ (x : TreeEntry). x.bytes) (λ x p. refl) source (at ++ name ∷ []) q tree (outside-tree nodes tree at folder name shape there m.new_name) order (Some old) b),
    )

-- the tree after a rename that moves something
abbrev after_move : List (List ℕ) → List (List ℕ) → List TreeEntry → List TreeEntry
after_move source target tree = in_path_order (moved source target (without target tree))

-- a rename to a name that was free
free-stems : (nodes : List (Option Held)) (tree : List TreeEntry) (source target q : List (List ℕ)) (slot folder s : ℕ) (held : Held) → HasShapeOf nodes tree → IsTree tree → is_root source ≡ false → is_root target ≡ false → slot_at nodes source ≡ Some slot → held_at nodes slot ≡ Some held → IsMove nodes source target slot folder None → slot_at (set nodes slot (Some (placed_in folder (name_of target) held))) q ≡ Some s → Stems nodes tree (after_move source target tree) q s
free-stems nodes tree source target q slot folder s held shape is_tree below to at holds m e =
    subst (λ t. Stems nodes tree (in_path_order (moved source target t)) q s) (sym (without-none target tree (free-entry nodes tree source target slot folder shape to m)))
    (subst (λ t. Stems nodes tree (in_path_order (moved source t tree)) q s) (sym (path-split target (has_parts target to)))
    (placed-stems nodes tree slot held folder (name_of target) source (parent_of target) q s m.table is_tree.in_order shape (may-moves nodes slot folder (name_of target) held m.table (may-place nodes source target slot folder None below at m refl) holds) below at m.folder_at (folder-outside nodes source target slot folder None at m) e))

-- what comes from a tree that comes from another
chained : (nodes mid : List (Option Held)) (tree less after : List TreeEntry) (q : List (List ℕ)) (s : ℕ) → Stems mid less after q s → ((old : List (List ℕ)) → slot_at mid old ≡ Some s → Stems nodes tree less old s) → Stems nodes tree after q s
chained nodes mid tree less after q s (inl none) before = inl none
chained nodes mid tree less after q s (inr w) before = elim (before w.0 w.1) [
  | inl none ↦ inl (w.2 ∙ none)
  | inr v ↦ inr (v.0, v.1, w.2 ∙ v.2)
]

-- a rename over a file
over-stems : (nodes : List (Option Held)) (tree : List TreeEntry) (source target q : List (List ℕ)) (slot folder other s : ℕ) (held gone : Held) → HasShapeOf nodes tree → IsTree tree → is_root source ≡ false → is_root target ≡ false → slot_at nodes source ≡ Some slot → IsOver nodes source target slot folder other held gone → held_at nodes other ≡ Some gone → IsMove nodes source target slot folder (Some other) → slot_at (set (set nodes other None) slot (Some (placed_in folder (name_of target) held))) q ≡ Some s → Stems nodes tree (after_move source target tree) q s
over-stems nodes tree source target q slot folder other s held gone shape is_tree below to at over goes m e =
    let r = over.replaces in
    let mid = set nodes other None in
    let less : IsTable mid = IsTable-empty nodes other gone m.table r.other_there r.other_above goes r.bare in
    let smaller : HasShapeOf mid (without target tree) = subst (λ p. HasShapeOf mid (without p tree)) over.whole (shrunk nodes tree other gone (parent_of target) m.table is_tree shape (record { there = r.other_there; above_root = r.other_above; holds = goes; bare = r.bare }) over.parent) in
    chained nodes mid tree (without target tree) (after_move source target tree) q s
    (subst (λ t. Stems mid (without target tree) (in_path_order (moved source t (without target tree))) q s) (sym (path-split target (has_parts target to)))
    (placed-stems mid (without target tree) slot held folder (name_of target) source (parent_of target) q s less (AreInOrder-filter _ tree is_tree.in_order) smaller (replaces-moves nodes slot held other gone folder (name_of target) m.table r) below
    (walk-emptied nodes other gone (parent_of target) source m.table r.other_there r.other_above goes r.bare over.parent over.not_source ∙ at)
    (walk-emptied nodes other gone (parent_of target) (parent_of target) m.table r.other_there r.other_above goes r.bare over.parent over.not_folder ∙ m.folder_at)
    (folder-outside nodes source target slot folder (Some other) at m) e))
    (λ old led. left-stems nodes tree other gone (parent_of target) target old s m.table r.other_there r.other_above goes r.bare over.parent (sym over.whole) led)

renamed-stems : (nodes new : List (Option Held)) (tree : List TreeEntry) (source target q : List (List ℕ)) (slot folder s : ℕ) (replaced : Option ℕ) → HasShapeOf nodes tree → IsTree tree → is_root source ≡ false → is_root target ≡ false → same_path source target ≡ false → slot_at nodes source ≡ Some slot → IsMove nodes source target slot folder replaced → new ≡ with_place (without_slot nodes replaced) slot folder (name_of target) → slot_at new q ≡ Some s → Stems nodes tree (after_move source target tree) q s
renamed-stems nodes new tree source target q slot folder s None shape is_tree below to differ at m made e =
    let held = slot_holds nodes m.table source slot at in
    let is : new ≡ set nodes slot (Some (placed_in folder (name_of target) held.0)) = made ∙ ap (λ o. set nodes slot (option_map (placed_in folder (name_of target)) o)) held.1 in
    free-stems nodes tree source target q slot folder s held.0 shape is_tree below to at held.1 m (sym (ap (λ ns. slot_at ns q) is) ∙ e)
renamed-stems nodes new tree source target q slot folder s (Some other) shape is_tree below to differ at m made e =
    let held = slot_holds nodes m.table source slot at in
    let gone = slot_holds nodes m.table target other (target-at nodes source target slot folder (Some other) to m) in
    let over = is-over nodes source target slot folder other held.0 gone.0 below to differ at held.1 gone.1 m in
    let moves = replaces-moves nodes slot held.0 other gone.0 folder (name_of target) m.table over.replaces in
    let is : new ≡ set (set nodes other None) slot (Some (placed_in folder (name_of target) held.0)) = made ∙ ap (λ o. set (set nodes other None) slot (option_map (placed_in folder (name_of target)) o)) moves.holds in
    over-stems nodes tree source target q slot folder other s held.0 gone.0 shape is_tree below to at over gone.1 m (sym (ap (λ ns. slot_at ns q) is) ∙ e)

-- a rename that neither check refuses isn't refused
pub rename-allowed : (limits : Limits) (tree : List TreeEntry) (source target : List (List ℕ)) → ((next : Option Refusal) → refuse (is_root source || is_root target) RootFixed (refuse_missing tree source next) ≡ next) → same_path source target ≡ false → refuse_move tree source target ≡ None → refusal_of limits tree (Rename source target) ≡ None
rename-allowed limits tree source target found differ move =
    found (allow (same_path source target) (refuse_move tree source target))
    ∙ ap (λ v. allow v (refuse_move tree source target)) differ ∙ move

-- after a rename the nodes have the tree after it
pub renamed-tree : (nodes new : List (Option Held)) (tree : List TreeEntry) (limits : Limits) (source target : List (List ℕ)) (slot folder : ℕ) (replaced : Option ℕ) (pages : ℕ → ℕ → List ℕ) → HasTree nodes pages tree → IsPath source → IsPath target → refusal_of limits tree (Rename source target) ≡ None → is_root source ≡ false → is_root target ≡ false → same_path source target ≡ false → slot_at nodes source ≡ Some slot → IsMove nodes source target slot folder replaced → new ≡ with_place (without_slot nodes replaced) slot folder (name_of target) → HasTree new pages (renamed source target tree)
renamed-tree nodes new tree limits source target slot folder replaced pages has from to_valid none below to differ at m made =
    carried nodes new pages tree (renamed source target tree) has
    (allowed-tree limits tree (Rename source target) none (from, to_valid) has.is_tree)
    (renamed-shape nodes new tree source target slot folder replaced has.shape has.is_tree below to differ at m made)
    (λ q s e. subst (λ v. Stems nodes tree (cond v tree (after_move source target tree)) q s) (sym differ)
    (renamed-stems nodes new tree source target q slot folder s replaced has.shape has.is_tree below to differ at m made e))
