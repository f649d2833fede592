-- What stands at a path of the nodes, and at the same path of a tree of their shape.
use Rattle.std.proofs.Common.{◌≡◌, ℕ, ◌+◌, ◌<◌, ◌≤◌, Bool, true, false, List, [], ◌∷◌, ◌++◌, length, take, drop, get_or, Option, Some, None, refl, sym, ap, ◌∙◌, subst, arith}
use Rattle.std.specs.Option.{option_map, option_and_then}
use Rattle.std.proofs.lemmas.List.{take_more}
use Rattle.vb_tree.specs.declared.tree.TreeEntry.{TreeEntry}
use Rattle.vb_tree.specs.declared.reply.Refusal.{Refusal}
use Rattle.vb_tree.specs.Trees.{is_root, entry_at, kind_at}
use Rattle.vb_tree.specs.Refusals.{refuse_step, refuse_way, refuse_rest}
use Rattle.vb_tree.proofs.Ways.{refuse_rest-step, refuse_rest-end}
use Rattle.vb_index.specs.declared.held.Held.{Held}
use Rattle.vb_index.specs.Nodes.{held_at, holds_folder, child_of, slot_at, IsTable}
use Rattle.vb_index.specs.Indexes.{Shape, shape_of, shape_below, shape_at, shape_of_entry, shape_in, HasShapeOf}
use Rattle.vb_index.proofs.Walks.{walk-snoc}

kind_of_found : (o : Option TreeEntry) → option_map (λ e. e.kind) o ≡ option_map (λ (s : Shape). s.kind) (option_map shape_of_entry o)
kind_of_found None = refl
kind_of_found (Some e) = refl

-- the kind of what stands at a path of a tree is that of its shape
pub kind_at-shape : (path : List (List ℕ)) (tree : List TreeEntry) → kind_at path tree ≡ option_map (λ s. s.kind) (shape_in path tree)
kind_at-shape path tree = by (is_root path) refl where
  by : (b : Bool) → is_root path ≡ b → kind_at path tree ≡ option_map (λ s. s.kind) (shape_in path tree)
  by true e = cc
  by false e = let same = kind_of_found (entry_at path tree) in cc

join-twice : {A B C : Type 0} (f : B → Option C) (g : A → Option B) (o : Option A) → option_and_then f (option_and_then g o) ≡ option_and_then (λ a. option_and_then f (g a)) o
join-twice f g None = refl
join-twice f g (Some a) = refl

-- the shape at a path is that of its last part in its folder
pub shape_at-below : (nodes : List (Option Held)) (path : List (List ℕ)) (name : List ℕ) (folder : ℕ) → slot_at nodes path ≡ Some folder → shape_at nodes (path ++ name ∷ []) ≡ shape_below nodes folder name
shape_at-below nodes path name folder h =
    ap (option_and_then (λ slot. option_map shape_of (held_at nodes slot))) (walk-snoc (child_of nodes) 0 path name ∙ ap (option_and_then (λ t. child_of nodes t name)) h)

-- a walk on its way: where the first parts lead, and that nothing was refused so far
pub record OnWay (nodes : List (Option Held)) (parts : List (List ℕ)) (depth folder : ℕ) : Type 0 where
  pub at : slot_at nodes (take depth parts) ≡ Some folder
  pub is_folder : holds_folder (held_at nodes folder) ≡ true
  pub way : (tree : List TreeEntry) (next : Option Refusal) → HasShapeOf nodes tree → refuse_way tree parts next ≡ refuse_rest tree (take depth parts) (drop depth parts) next

-- the kind of what stands one part further down
pub kind-below : (nodes : List (Option Held)) (parts : List (List ℕ)) (depth folder : ℕ) (tree : List TreeEntry) → HasShapeOf nodes tree → depth < length parts → slot_at nodes (take depth parts) ≡ Some folder → kind_at (take (depth + 1) parts) tree ≡ option_map (λ s. s.kind) (shape_below nodes folder (get_or parts depth []))
kind-below nodes parts depth folder tree shape h at =
    kind_at-shape (take (depth + 1) parts) tree
    ∙ ap (option_map (λ (s : Shape). s.kind)) (sym (shape.same (take (depth + 1) parts)) ∙ ap (shape_at nodes) (take_more parts depth [] h) ∙ shape_at-below nodes (take depth parts) (get_or parts depth []) folder at)

-- one part more on the way
pub way-step : (nodes : List (Option Held)) (parts : List (List ℕ)) (depth folder : ℕ) → OnWay nodes parts depth folder → depth + 1 < length parts → (tree : List TreeEntry) (next : Option Refusal) → HasShapeOf nodes tree → refuse_way tree parts next ≡ refuse_step (option_map (λ s. s.kind) (shape_below nodes folder (get_or parts depth []))) (refuse_rest tree (take (depth + 1) parts) (drop (depth + 1) parts) next)
way-step nodes parts depth folder on h tree next shape =
    on.way tree next shape
    ∙ refuse_rest-step tree parts depth next h
    ∙ ap (λ k. refuse_step k (refuse_rest tree (take (depth + 1) parts) (drop (depth + 1) parts) next)) (kind-below nodes parts depth folder tree shape (omega arith) on.at)

-- the walk one part further down
pub OnWay-next : (nodes : List (Option Held)) (parts : List (List ℕ)) (depth folder slot : ℕ) → OnWay nodes parts depth folder → depth + 1 < length parts → child_of nodes folder (get_or parts depth []) ≡ Some slot → holds_folder (held_at nodes slot) ≡ true → ((next : Option Refusal) → refuse_step (option_map (λ s. s.kind) (shape_below nodes folder (get_or parts depth []))) next ≡ next) → OnWay nodes parts (depth + 1) slot
OnWay-next nodes parts depth folder slot on h child is passes =
    record {
      at = ap (slot_at nodes) (take_more parts depth [] (omega arith)) ∙ walk-snoc (child_of nodes) 0 (take depth parts) (get_or parts depth []) ∙ ap (option_and_then (λ t. child_of nodes t (get_or parts depth []))) on.at ∙ child;
      is_folder = is;
      way = λ tree next shape. way-step nodes parts depth folder on h tree next shape ∙ passes (refuse_rest tree (take (depth + 1) parts) (drop (depth + 1) parts) next);
    }

-- the same, at a depth that is one more
pub OnWay-step : (nodes : List (Option Held)) (parts : List (List ℕ)) (depth more folder slot : ℕ) (name : List ℕ) → OnWay nodes parts depth folder → more ≡ depth + 1 → depth + 1 < length parts → get_or parts depth [] ≡ name → child_of nodes folder name ≡ Some slot → holds_folder (held_at nodes slot) ≡ true → ((next : Option Refusal) → refuse_step (option_map (λ s. s.kind) (shape_below nodes folder name)) next ≡ next) → OnWay nodes parts more slot
OnWay-step nodes parts depth more folder slot name on up h same child is passes =
    let P : ℕ → Type 0 = λ k. OnWay nodes parts k slot in
    subst P (sym up) (OnWay-next nodes parts depth folder slot on h
    (ap (child_of nodes folder) same ∙ child) is
    (λ next. ap (λ m. refuse_step (option_map (λ (s : Shape). s.kind) (shape_below nodes folder m)) next) same ∙ passes next))

-- the way where its next step is refused
pub OnWay-refused : (nodes : List (Option Held)) (parts : List (List ℕ)) (depth folder : ℕ) (name : List ℕ) (reason : Refusal) → OnWay nodes parts depth folder → depth + 1 < length parts → get_or parts depth [] ≡ name → ((next : Option Refusal) → refuse_step (option_map (λ s. s.kind) (shape_below nodes folder name)) next ≡ Some reason) → (tree : List TreeEntry) (next : Option Refusal) → HasShapeOf nodes tree → refuse_way tree parts next ≡ Some reason
OnWay-refused nodes parts depth folder name reason on h same stops tree next shape =
    way-step nodes parts depth folder on h tree next shape
    ∙ ap (λ m. refuse_step (option_map (λ (s : Shape). s.kind) (shape_below nodes folder m)) (refuse_rest tree (take (depth + 1) parts) (drop (depth + 1) parts) next)) same
    ∙ stops (refuse_rest tree (take (depth + 1) parts) (drop (depth + 1) parts) next)

-- the walk at its begin
pub OnWay-start : (nodes : List (Option Held)) (parts : List (List ℕ)) → IsTable nodes → OnWay nodes parts 0 0
OnWay-start nodes parts table =
    record {
      at = refl;
      is_folder = table.root;
      way = λ tree next shape. refl;
    }

-- the walk at its end
pub OnWay-end : (nodes : List (Option Held)) (parts : List (List ℕ)) (depth folder : ℕ) → OnWay nodes parts depth folder → length parts ≤ depth + 1 → (tree : List TreeEntry) (next : Option Refusal) → HasShapeOf nodes tree → refuse_way tree parts next ≡ next
OnWay-end nodes parts depth folder on h tree next shape = on.way tree next shape ∙ refuse_rest-end tree parts depth next h
