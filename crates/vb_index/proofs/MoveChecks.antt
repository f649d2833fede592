-- Whether a node may move to a path, by the nodes.
use Rattle.std.proofs.Common.{◌≡◌, ℕ, Bool, true, false, cond, not, ◌&&◌, ◌||◌, is_some, List, Option, Some, None, refl, sym, ap, ◌∙◌}
use Rattle.std.specs.Option.{option_map, option_and_then}
use Rattle.vb_tree.specs.declared.tree.Kind.{Kind}
use Rattle.vb_tree.specs.declared.tree.Kind.TheVariants.{Folder, File}
use Rattle.vb_tree.specs.declared.tree.TreeEntry.{TreeEntry}
use Rattle.vb_tree.specs.declared.reply.Refusal.{Refusal}
use Rattle.vb_tree.specs.declared.reply.Refusal.TheVariants.{Exists, IntoItself}
use Rattle.vb_tree.specs.Trees.{kind_at, is_root, is_folder, is_file, parent_of, name_of}
use Rattle.vb_tree.specs.Refusals.{refuse, refuse_way}
use Rattle.vb_tree.specs.Renames.{is_within}
use Rattle.vb_index.specs.declared.held.Held.{Held}
use Rattle.vb_index.specs.Nodes.{is_folder_node, held_at, holds_folder, is_child, child_of, slot_at, IsTable}
use Rattle.vb_index.specs.Indexes.{Shape, shape_of, HasShapeOf}
use Rattle.vb_index.specs.Moves.{blocks}
use Rattle.vb_index.proofs.ChildLaws.{child_of-Some}
use Rattle.vb_index.proofs.Growth.{slot_holds}
use Rattle.vb_index.proofs.Newness.{kind_at-child, has_parts}
use Rattle.vb_index.proofs.Shapes.{kind_at-shape}
use Rattle.std.proofs.lemmas.Bool.{false≢true}

-- the kind of what a slot holds
abbrev kind_held : Option Held → Option Kind
kind_held o = option_map (λ (s : Shape). s.kind) (option_map shape_of o)

-- what stands at a path is of the kind of its node
source-kind : (nodes : List (Option Held)) (tree : List TreeEntry) (path : List (List ℕ)) (slot : ℕ) → HasShapeOf nodes tree → slot_at nodes path ≡ Some slot → kind_at path tree ≡ kind_held (held_at nodes slot)
source-kind nodes tree path slot shape at =
    kind_at-shape path tree
    ∙ ap (option_map (λ (s : Shape). s.kind)) (sym (shape.same path) ∙ ap (option_and_then (λ s. option_map shape_of (held_at nodes s))) at)

folder_held : (o : Option Held) → is_folder (kind_held o) ≡ holds_folder o
folder_held None = refl
folder_held (Some held) = elim (is_folder_node held.node.kind) as (λ b. is_folder (Some (cond b Folder File)) ≡ b) [ true ↦ refl | false ↦ refl ]

file_held : (held : Held) → is_file (kind_held (Some held)) ≡ not (is_folder_node held.node.kind)
file_held held = elim (is_folder_node held.node.kind) as (λ b. is_file (Some (cond b Folder File)) ≡ not b) [ true ↦ refl | false ↦ refl ]

two_files : (a b : Bool) → not (not a && not b) ≡ (a || b)
two_files true b = refl
two_files false true = refl
two_files false false = refl

-- whether the target is taken by what stays, by the nodes
taken-child : (nodes : List (Option Held)) (folder : ℕ) (name : List ℕ) (held : Held) (slot : ℕ) → held_at nodes slot ≡ Some held → (o : Option ℕ) → child_of nodes folder name ≡ o → (is_some (kind_held (option_and_then (held_at nodes) o)) && not (is_file (kind_held (Some held)) && is_file (kind_held (option_and_then (held_at nodes) o)))) ≡ blocks nodes slot o
taken-child nodes folder name held slot holds None e = refl
taken-child nodes folder name held slot holds (Some other) e = by (held_at nodes other) refl where
  by : (o : Option Held) → held_at nodes other ≡ o → (is_some (kind_held (held_at nodes other)) && not (is_file (kind_held (Some held)) && is_file (kind_held (held_at nodes other)))) ≡ (holds_folder (held_at nodes slot) || holds_folder (held_at nodes other))
  by None f = absurd (false≢true (sym (ap (is_child folder name) f) ∙ (child_of-Some nodes folder name other e).1))
  by (Some taken) f =
      ap (λ o. is_some (kind_held o) && not (is_file (kind_held (Some held)) && is_file (kind_held o))) f
      ∙ ap (λ v. not (v && is_file (kind_held (Some taken)))) (file_held held)
      ∙ ap (λ v. not (not (is_folder_node held.node.kind) && v)) (file_held taken)
      ∙ two_files (is_folder_node held.node.kind) (is_folder_node taken.node.kind)
      ∙ sym (ap (λ o. holds_folder o || holds_folder (held_at nodes other)) holds ∙ ap (λ o. holds_folder (Some held) || holds_folder o) f)

join-maps : {A B C : Type 0} (f : B → C) (g : A → Option B) (o : Option A) → option_and_then (λ a. option_map f (g a)) o ≡ option_map f (option_and_then g o)
join-maps f g None = refl
join-maps f g (Some a) = refl

-- a folder that would move into itself
pub move-into : (nodes : List (Option Held)) (tree : List TreeEntry) (source target : List (List ℕ)) (slot : ℕ) → HasShapeOf nodes tree → slot_at nodes source ≡ Some slot → (is_folder (kind_at source tree) && is_within source target) ≡ (holds_folder (held_at nodes slot) && is_within source target)
move-into nodes tree source target slot shape at = ap (λ v. v && is_within source target) (ap is_folder (source-kind nodes tree source slot shape at) ∙ folder_held (held_at nodes slot))

-- what stands at the target, and whether it stays
pub move-taken : (nodes : List (Option Held)) (tree : List TreeEntry) (source target : List (List ℕ)) (slot folder : ℕ) → IsTable nodes → HasShapeOf nodes tree → slot_at nodes source ≡ Some slot → is_root target ≡ false → slot_at nodes (parent_of target) ≡ Some folder → (is_some (kind_at target tree) && not (is_file (kind_at source tree) && is_file (kind_at target tree))) ≡ blocks nodes slot (child_of nodes folder (name_of target))
move-taken nodes tree source target slot folder table shape at below there =
    let held = slot_holds nodes table source slot at in
    let mine : kind_at source tree ≡ kind_held (Some held.0) = source-kind nodes tree source slot shape at ∙ ap kind_held held.1 in
    let theirs : kind_at target tree ≡ kind_held (option_and_then (held_at nodes) (child_of nodes folder (name_of target))) =
    kind_at-child nodes tree target folder shape (has_parts target below) there
    ∙ ap (option_map (λ (s : Shape). s.kind)) (join-maps shape_of (held_at nodes) (child_of nodes folder (name_of target))) in
    ap (λ k. is_some (kind_at target tree) && not (is_file k && is_file (kind_at target tree))) mine
    ∙ ap (λ k. is_some k && not (is_file (kind_held (Some held.0)) && is_file k)) theirs
    ∙ taken-child nodes folder (name_of target) held.0 slot held.1 (child_of nodes folder (name_of target)) refl

-- why a place isn't to be had, by the nodes
pub place-checks : (nodes : List (Option Held)) (tree : List TreeEntry) (source target : List (List ℕ)) (slot folder : ℕ) (next : Option Refusal) → IsTable nodes → HasShapeOf nodes tree → slot_at nodes source ≡ Some slot → is_root target ≡ false → slot_at nodes (parent_of target) ≡ Some folder → ((more : Option Refusal) → refuse_way tree target more ≡ more) → (holds_folder (held_at nodes slot) && is_within source target) ≡ false → refuse (is_folder (kind_at source tree) && is_within source target) IntoItself (refuse_way tree target (refuse (is_some (kind_at target tree) && not (is_file (kind_at source tree) && is_file (kind_at target tree))) Exists next)) ≡ refuse (blocks nodes slot (child_of nodes folder (name_of target))) Exists next
place-checks nodes tree source target slot folder next table shape at below there way outside =
    ap (λ v. refuse v IntoItself (refuse_way tree target (refuse (is_some (kind_at target tree) && not (is_file (kind_at source tree) && is_file (kind_at target tree))) Exists next))) (move-into nodes tree source target slot shape at ∙ outside)
    ∙ way (refuse (is_some (kind_at target tree) && not (is_file (kind_at source tree) && is_file (kind_at target tree))) Exists next)
    ∙ ap (λ v. refuse v Exists next) (move-taken nodes tree source target slot folder table shape at below there)

-- a folder would move into itself
pub place-into : (nodes : List (Option Held)) (tree : List TreeEntry) (source target : List (List ℕ)) (slot : ℕ) (next : Option Refusal) → HasShapeOf nodes tree → slot_at nodes source ≡ Some slot → (holds_folder (held_at nodes slot) && is_within source target) ≡ true → refuse (is_folder (kind_at source tree) && is_within source target) IntoItself next ≡ Some IntoItself
place-into nodes tree source target slot next shape at h = ap (λ v. refuse v IntoItself next) (move-into nodes tree source target slot shape at ∙ h)

-- no folder would move into itself
pub place-outside : (nodes : List (Option Held)) (tree : List TreeEntry) (source target : List (List ℕ)) (slot : ℕ) (next : Option Refusal) → HasShapeOf nodes tree → slot_at nodes source ≡ Some slot → (holds_folder (held_at nodes slot) && is_within source target) ≡ false → refuse (is_folder (kind_at source tree) && is_within source target) IntoItself next ≡ next
place-outside nodes tree source target slot next shape at h = ap (λ v. refuse v IntoItself next) (move-into nodes tree source target slot shape at ∙ h)
