-- One step down a path: what stands at a name in a folder, and what that means for the way.
use Rattle.std.proofs.Common.{◌≡◌, ℕ, true, false, cond, List, Option, Some, None, refl, sym, ap, ◌∙◌}
use Rattle.std.specs.Option.{option_map, option_and_then}
use Rattle.vb_tree.specs.declared.tree.Kind.TheVariants.{Folder, File}
use Rattle.vb_tree.specs.declared.reply.Refusal.{Refusal}
use Rattle.vb_tree.specs.declared.reply.Refusal.TheVariants.{NoParent, ParentNotDir}
use Rattle.vb_tree.specs.Refusals.{refuse_step}
use Rattle.vb_index.specs.declared.held.Held.{Held}
use Rattle.vb_index.specs.Nodes.{is_folder_node, kind_of, held_at, child_of, IsTable}
use Rattle.vb_index.specs.Indexes.{Shape, shape_of, shape_below}

join-map : {A B C : Type 0} (f : B → C) (g : A → Option B) (o : Option A) → option_and_then (λ a. option_map f (g a)) o ≡ option_map f (option_and_then g o)
join-map f g None = refl
join-map f g (Some a) = refl

-- the shape of the entry that stands at a name
pub shape_below-entry : (nodes : List (Option Held)) (folder : ℕ) (name : List ℕ) (o : Option Held) → option_and_then (held_at nodes) (child_of nodes folder name) ≡ o → shape_below nodes folder name ≡ option_map shape_of o
shape_below-entry nodes folder name o e = join-map shape_of (held_at nodes) (child_of nodes folder name) ∙ ap (option_map shape_of) e

and_then-some : {A B : Type 0} (f : A → Option B) (o : Option A) (b : B) → option_and_then f o ≡ Some b → (a : A) × (o ≡ Some a) × (f a ≡ Some b)
and_then-some f None b h = absurd cc
and_then-some f (Some a) b h = (a, refl, h)

-- the slot of the entry that stands at a name
pub entry-slot : (nodes : List (Option Held)) (folder : ℕ) (name : List ℕ) (held : Held) → IsTable nodes → option_and_then (held_at nodes) (child_of nodes folder name) ≡ Some held → (child_of nodes folder name ≡ Some held.node.slot) × (held_at nodes held.node.slot ≡ Some held)
entry-slot nodes folder name held table e =
    let parts = and_then-some (held_at nodes) (child_of nodes folder name) held e in
    let at : held.node.slot ≡ parts.0 = (table.fits parts.0 held parts.2).at_slot in
    (parts.1 ∙ ap (λ k. Some k) (sym at), ap (held_at nodes) at ∙ parts.2)

-- nothing stands there: the way ends
pub step-none : (nodes : List (Option Held)) (folder : ℕ) (name : List ℕ) (next : Option Refusal) → option_and_then (held_at nodes) (child_of nodes folder name) ≡ None → refuse_step (option_map (λ s. s.kind) (shape_below nodes folder name)) next ≡ Some NoParent
step-none nodes folder name next e = ap (λ o. refuse_step (option_map (λ (s : Shape). s.kind) o) next) (shape_below-entry nodes folder name None e)

kind_folder : (held : Held) → is_folder_node held.node.kind ≡ true → kind_of held.node ≡ Folder
kind_folder held h = ap (λ b. cond b Folder File) h

kind_file : (held : Held) → is_folder_node held.node.kind ≡ false → kind_of held.node ≡ File
kind_file held h = ap (λ b. cond b Folder File) h

-- a folder stands there: the way goes on
pub step-folder : (nodes : List (Option Held)) (folder : ℕ) (name : List ℕ) (held : Held) (next : Option Refusal) → option_and_then (held_at nodes) (child_of nodes folder name) ≡ Some held → is_folder_node held.node.kind ≡ true → refuse_step (option_map (λ s. s.kind) (shape_below nodes folder name)) next ≡ next
step-folder nodes folder name held next e is =
    ap (λ o. refuse_step (option_map (λ (s : Shape). s.kind) o) next) (shape_below-entry nodes folder name (Some held) e)
    ∙ ap (λ k. refuse_step (Some k) next) (kind_folder held is)

-- a file stands there: the way ends
pub step-file : (nodes : List (Option Held)) (folder : ℕ) (name : List ℕ) (held : Held) (next : Option Refusal) → option_and_then (held_at nodes) (child_of nodes folder name) ≡ Some held → is_folder_node held.node.kind ≡ false → refuse_step (option_map (λ s. s.kind) (shape_below nodes folder name)) next ≡ Some ParentNotDir
step-file nodes folder name held next e is =
    ap (λ o. refuse_step (option_map (λ (s : Shape). s.kind) o) next) (shape_below-entry nodes folder name (Some held) e)
    ∙ ap (λ k. refuse_step (Some k) next) (kind_file held is)

pub ruleset steps = (step-none, step-folder, step-file, entry-slot)
