-- Whether a new entry is refused, by the nodes.
use Rattle.std.proofs.Common.{◌≡◌, ℕ, ◌+◌, ◌-◌, ◌<◌, ◌≤◌, Bool, true, false, not, is_some, is_none, nat_lt, List, [], ◌∷◌, length, get_or, Option, Some, None, inl, inr, refl, sym, ap, ◌∙◌, arith}
use Rattle.std.specs.Option.{option_map, option_and_then}
use Rattle.std.proofs.lemmas.Bool.{cases_Bool, false≢true}
use Rattle.std.proofs.lemmas.Bool.Decides.{Decides-eqb, Decides-ltb}
use Rattle.std.proofs.lemmas.List.{get_or_default}
use Rattle.vb_tree.specs.declared.tree.TreeEntry.{TreeEntry}
use Rattle.vb_tree.specs.declared.tree.Limits.{Limits}
use Rattle.vb_tree.specs.declared.reply.Refusal.{Refusal}
use Rattle.vb_tree.specs.declared.reply.Refusal.TheVariants.{RootFixed, NoEntry, Exists, TooManyNodes}
use Rattle.vb_tree.specs.Trees.{is_root, kind_at, parent_of, name_of, node_count}
use Rattle.vb_tree.specs.Refusals.{refuse, refuse_way, refuse_missing, refuse_new}
use Rattle.vb_index.specs.declared.held.Held.{Held}
use Rattle.vb_index.specs.Nodes.{held_at, is_child, child_of, slot_at, nodes_in}
use Rattle.vb_index.specs.Indexes.{Shape, shape_of, shape_below, shape_at, HasShapeOf}
use Rattle.vb_index.proofs.ChildLaws.{child_of-Some}
use Rattle.vb_index.proofs.Growth.{path-split}
use Rattle.vb_index.proofs.Shapes.{kind_at-shape, shape_at-below}
use Rattle.vb_index.proofs.Walks.{walk-snoc}

pub root-not : (path : List (List ℕ)) → 0 < length path → is_root path ≡ false
root-not path h = elim (cases_Bool (is_root path)) [ inr e ↦ e | inl e ↦ absurd (let is = (Decides-eqb (length path) 0).0 e in omega (arith, is)) ]

-- a child has a shape
some_shape : (nodes : List (Option Held)) (folder : ℕ) (name : List ℕ) → is_some (option_map (λ (s : Shape). s.kind) (shape_below nodes folder name)) ≡ is_some (child_of nodes folder name)
some_shape nodes folder name = by (child_of nodes folder name) refl where
  held : (slot : ℕ) → child_of nodes folder name ≡ Some slot → (o : Option Held) → held_at nodes slot ≡ o → is_some (option_map (λ (s : Shape). s.kind) (option_map shape_of (held_at nodes slot))) ≡ true
  held slot e None f = absurd (false≢true (sym (ap (is_child folder name) f) ∙ (child_of-Some nodes folder name slot e).1))
  held slot e (Some one) f = ap (λ o. is_some (option_map (λ (s : Shape). s.kind) (option_map shape_of o))) f

  by : (o : Option ℕ) → child_of nodes folder name ≡ o → is_some (option_map (λ (s : Shape). s.kind) (shape_below nodes folder name)) ≡ is_some (child_of nodes folder name)
  by None e = ap (λ o. is_some (option_map (λ (s : Shape). s.kind) (option_and_then (λ slot. option_map shape_of (held_at nodes slot)) o))) e ∙ sym (ap is_some e)
  by (Some slot) e = ap (λ o. is_some (option_map (λ (s : Shape). s.kind) (option_and_then (λ k. option_map shape_of (held_at nodes k)) o))) e ∙ held slot e (held_at nodes slot) refl ∙ sym (ap is_some e)

-- the kind at a path of a tree, by the child in its folder
pub kind_at-child : (nodes : List (Option Held)) (tree : List TreeEntry) (path : List (List ℕ)) (folder : ℕ) → HasShapeOf nodes tree → 0 < length path → slot_at nodes (parent_of path) ≡ Some folder → kind_at path tree ≡ option_map (λ s. s.kind) (shape_below nodes folder (name_of path))
kind_at-child nodes tree path folder shape h at =
    kind_at-shape path tree
    ∙ ap (option_map (λ (s : Shape). s.kind)) (sym (shape.same path) ∙ ap (shape_at nodes) (path-split path h) ∙ shape_at-below nodes (parent_of path) (name_of path) folder at)

-- something stands at a path of a tree where the folder has a child of that name
pub there-child : (nodes : List (Option Held)) (tree : List TreeEntry) (path : List (List ℕ)) (folder : ℕ) → HasShapeOf nodes tree → 0 < length path → slot_at nodes (parent_of path) ≡ Some folder → is_some (kind_at path tree) ≡ is_some (child_of nodes folder (name_of path))
there-child nodes tree path folder shape h at = ap is_some (kind_at-child nodes tree path folder shape h at) ∙ some_shape nodes folder (name_of path)

-- the checks of a new entry past those of its way
pub new-checks : (limits : Limits) (nodes : List (Option Held)) (tree : List TreeEntry) (path : List (List ℕ)) (folder : ℕ) → HasShapeOf nodes tree → 0 < length path → slot_at nodes (parent_of path) ≡ Some folder → ((next : Option Refusal) → refuse_way tree path next ≡ next) → refuse_new limits tree path ≡ refuse (is_some (child_of nodes folder (name_of path))) Exists (refuse (nat_lt limits.nodes (nodes_in nodes + 1)) (TooManyNodes (nodes_in nodes + 1) limits.nodes) None)
new-checks limits nodes tree path folder shape h at way =
    ap (λ b. refuse b RootFixed (refuse_way tree path (refuse (is_some (kind_at path tree)) Exists (refuse (nat_lt limits.nodes (node_count tree + 1)) (TooManyNodes (node_count tree + 1) limits.nodes) None)))) (root-not path h)
    ∙ way (refuse (is_some (kind_at path tree)) Exists (refuse (nat_lt limits.nodes (node_count tree + 1)) (TooManyNodes (node_count tree + 1) limits.nodes) None))
    ∙ ap (λ b. refuse b Exists (refuse (nat_lt limits.nodes (node_count tree + 1)) (TooManyNodes (node_count tree + 1) limits.nodes) None)) (there-child nodes tree path folder shape h at)
    ∙ ap (λ n. refuse (is_some (child_of nodes folder (name_of path))) Exists (refuse (nat_lt limits.nodes (n + 1)) (TooManyNodes (n + 1) limits.nodes) None)) (sym shape.as_many)

-- the way to a path, where it is refused
pub new-way : (limits : Limits) (tree : List TreeEntry) (path : List (List ℕ)) (reason : Refusal) → 0 < length path → ((next : Option Refusal) → refuse_way tree path next ≡ Some reason) → refuse_new limits tree path ≡ Some reason
new-way limits tree path reason h way =
    ap (λ b. refuse b RootFixed (refuse_way tree path (refuse (is_some (kind_at path tree)) Exists (refuse (nat_lt limits.nodes (node_count tree + 1)) (TooManyNodes (node_count tree + 1) limits.nodes) None)))) (root-not path h)
    ∙ way (refuse (is_some (kind_at path tree)) Exists (refuse (nat_lt limits.nodes (node_count tree + 1)) (TooManyNodes (node_count tree + 1) limits.nodes) None))

-- a name that is taken
pub new-exists : (limits : Limits) (nodes : List (Option Held)) (tree : List TreeEntry) (path : List (List ℕ)) (folder : ℕ) → HasShapeOf nodes tree → 0 < length path → slot_at nodes (parent_of path) ≡ Some folder → ((next : Option Refusal) → refuse_way tree path next ≡ next) → is_some (child_of nodes folder (name_of path)) ≡ true → refuse_new limits tree path ≡ Some Exists
new-exists limits nodes tree path folder shape h at way taken = new-checks limits nodes tree path folder shape h at way ∙ ap (λ b. refuse b Exists (refuse (nat_lt limits.nodes (nodes_in nodes + 1)) (TooManyNodes (nodes_in nodes + 1) limits.nodes) None)) taken

-- one node too many
pub new-many : (limits : Limits) (nodes : List (Option Held)) (tree : List TreeEntry) (path : List (List ℕ)) (folder : ℕ) → HasShapeOf nodes tree → 0 < length path → slot_at nodes (parent_of path) ≡ Some folder → ((next : Option Refusal) → refuse_way tree path next ≡ next) → is_some (child_of nodes folder (name_of path)) ≡ false → limits.nodes < nodes_in nodes + 1 → refuse_new limits tree path ≡ Some (TooManyNodes (nodes_in nodes + 1) limits.nodes)
new-many limits nodes tree path folder shape h at way free many = new-checks limits nodes tree path folder shape h at way ∙ ap (λ b. refuse b Exists (refuse (nat_lt limits.nodes (nodes_in nodes + 1)) (TooManyNodes (nodes_in nodes + 1) limits.nodes) None)) free ∙ ap (λ b. refuse b (TooManyNodes (nodes_in nodes + 1) limits.nodes) None) ((Decides-ltb limits.nodes (nodes_in nodes + 1)).1 many)

not_less : (a b : ℕ) → b ≤ a → nat_lt a b ≡ false
not_less a b h = elim (cases_Bool (nat_lt a b)) [ inr e ↦ e | inl e ↦ absurd (let less = (Decides-ltb a b).0 e in omega arith) ]

-- a new entry that may stand there
pub new-allowed : (limits : Limits) (nodes : List (Option Held)) (tree : List TreeEntry) (path : List (List ℕ)) (folder : ℕ) → HasShapeOf nodes tree → 0 < length path → slot_at nodes (parent_of path) ≡ Some folder → ((next : Option Refusal) → refuse_way tree path next ≡ next) → is_some (child_of nodes folder (name_of path)) ≡ false → nodes_in nodes + 1 ≤ limits.nodes → refuse_new limits tree path ≡ None
new-allowed limits nodes tree path folder shape h at way free few = new-checks limits nodes tree path folder shape h at way ∙ ap (λ b. refuse b Exists (refuse (nat_lt limits.nodes (nodes_in nodes + 1)) (TooManyNodes (nodes_in nodes + 1) limits.nodes) None)) free ∙ ap (λ b. refuse b (TooManyNodes (nodes_in nodes + 1) limits.nodes) None) (not_less limits.nodes (nodes_in nodes + 1) few)

-- the root is always there
pub missing-root : (tree : List TreeEntry) (path : List (List ℕ)) (next : Option Refusal) → is_root path ≡ true → refuse_missing tree path next ≡ next
missing-root tree [] next h = refl
missing-root tree (part ∷ parts) next h = absurd (let is = (Decides-eqb (length (part ∷ parts)) 0).0 h in omega (arith, is))

-- the way to a path is refused
pub missing-way : (tree : List TreeEntry) (path : List (List ℕ)) (reason : Refusal) (next : Option Refusal) → ((more : Option Refusal) → refuse_way tree path more ≡ Some reason) → refuse_missing tree path next ≡ Some reason
missing-way tree path reason next way = way (refuse (is_none (kind_at path tree)) NoEntry next)

none_of : {A : Type 0} (o : Option A) (b : Bool) → is_some o ≡ b → is_none o ≡ not b
none_of None b h = ap not h
none_of (Some x) b h = ap not h

-- nothing is missing where the folder has a child of that name
pub missing-some : (nodes : List (Option Held)) (tree : List TreeEntry) (path : List (List ℕ)) (folder : ℕ) (next : Option Refusal) → HasShapeOf nodes tree → 0 < length path → slot_at nodes (parent_of path) ≡ Some folder → ((more : Option Refusal) → refuse_way tree path more ≡ more) → is_some (child_of nodes folder (name_of path)) ≡ true → refuse_missing tree path next ≡ next
missing-some nodes tree path folder next shape h at way there =
    way (refuse (is_none (kind_at path tree)) NoEntry next)
    ∙ ap (λ b. refuse b NoEntry next) (none_of (kind_at path tree) true (there-child nodes tree path folder shape h at ∙ there))

-- nothing is there where the folder has no child of that name
pub missing-none : (nodes : List (Option Held)) (tree : List TreeEntry) (path : List (List ℕ)) (folder : ℕ) (next : Option Refusal) → HasShapeOf nodes tree → 0 < length path → slot_at nodes (parent_of path) ≡ Some folder → ((more : Option Refusal) → refuse_way tree path more ≡ more) → is_some (child_of nodes folder (name_of path)) ≡ false → refuse_missing tree path next ≡ Some NoEntry
missing-none nodes tree path folder next shape h at way gone =
    way (refuse (is_none (kind_at path tree)) NoEntry next)
    ∙ ap (λ b. refuse b NoEntry next) (none_of (kind_at path tree) false (there-child nodes tree path folder shape h at ∙ gone))

-- a child in the folder of a path is the slot of the path
pub slot_at-child : (nodes : List (Option Held)) (path : List (List ℕ)) (folder : ℕ) → 0 < length path → slot_at nodes (parent_of path) ≡ Some folder → slot_at nodes path ≡ child_of nodes folder (name_of path)
slot_at-child nodes path folder h at =
    ap (slot_at nodes) (path-split path h) ∙ walk-snoc (child_of nodes) 0 (parent_of path) (name_of path) ∙ ap (option_and_then (λ t. child_of nodes t (name_of path))) at

-- the root's slot
pub slot_at-root : (nodes : List (Option Held)) (path : List (List ℕ)) → is_root path ≡ true → slot_at nodes path ≡ Some 0
slot_at-root nodes [] h = refl
slot_at-root nodes (part ∷ parts) h = absurd (let is = (Decides-eqb (length (part ∷ parts)) 0).0 h in omega (arith, is))

-- a path that isn't the root has a part
pub has_parts : (path : List (List ℕ)) → is_root path ≡ false → 0 < length path
has_parts [] h = absurd (false≢true (sym h))
has_parts (part ∷ parts) h = omega arith

-- the last part, by its place
pub last_name : (parts : List (List ℕ)) (i : ℕ) (name : List ℕ) → name ≡ get_or parts i name → i ≡ length parts - 1 → 0 < length parts → name_of parts ≡ name
last_name parts i name is at h =
    ap (λ k. get_or parts k []) (sym at) ∙ get_or_default parts i [] name (omega arith) ∙ sym is
