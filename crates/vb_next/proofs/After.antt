-- After the commit of a next view the slots hold the nodes of the view, and references that are kept or planned.
use Rattle.std.proofs.Common.{◌≡◌, ℕ, suc, ◌+◌, ◌==◌, ◌&&◌, Bool, false, not, cond, nat_lt, List, [], ◌∷◌, length, map, All, Option, None, Some, refl, sym, ap, ◌∙◌, arith}
use Rattle.std.specs.List.{position_or_len, sum_by}
use Rattle.std.specs.Option.{option_and_then, option_map}
use Rattle.std.proofs.lemmas.List.Elements.{All-contains, All-cons}
use Rattle.std.proofs.lemmas.List.Sums.{sum_by-cons}
use Rattle.vb_tree.specs.declared.tree.TreeEntry.{TreeEntry}
use Rattle.vb_tree.specs.Trees.{pages_of_length}
use Rattle.vb_inode.specs.declared.node.Node.{Node}
use Rattle.vb_inode.specs.declared.next_view.NextNode.{NextNode}
use Rattle.vb_index.specs.declared.held.Held.{Held}
use Rattle.vb_index.specs.Contents.{HasTree}
use Rattle.vb_index.specs.Indexes.{shape_at, shape_of, IndexState, Shape}
use Rattle.vb_index.specs.Nodes.{child_of, held_at, is_child, kind_of, nodes_of_slot, pages_of_slot, same_name, slot_at}
use Rattle.vb_index.proofs.Walks.{walk-same}
use Rattle.vb_pages.specs.declared.kept.KeptPage.{KeptPage}
use Rattle.vb_pages.specs.declared.kept.PageKey.{PageKey}
use Rattle.vb_frozen.specs.Orders.{order_of}
use Rattle.vb_frozen.specs.Sources.{next_node, next_of, next_root}
use Rattle.vb_plan.specs.Conditions.{CanPlan}
use Rattle.vb_plan.specs.Laws.{slots_next}
use Rattle.vb_plan.specs.Plans.{all_held, Basis}
use Rattle.vb_plan.proofs.Slots.{length-by_slot}
use Rattle.vb_plan.proofs.Stood.{node-stands, slot-stands}
use Rattle.vb_next.specs.Frozen.{IsViewOver}
use Rattle.vb_next.proofs.ByFind.{slot-listed}
use Rattle.vb_next.proofs.Standing.{all-stand, root-stands, StandsIn}

-- ---- nodes that differ in their map references and references alone

-- a node that is held, without map references
abbrev pub plain : Held → Node
plain held = record held.node { maps = [] }

-- two lists of slots have the same nodes
pub record AreAlike (a b : List (Option Held)) : Type 0 where
  pub as_many : length a ≡ length b
  pub each : (slot : ℕ) → option_map plain (held_at a slot) ≡ option_map plain (held_at b slot)

alike-lists : (a b : List (Option Held)) → length a ≡ length b → ((slot : ℕ) → option_map plain (held_at a slot) ≡ option_map plain (held_at b slot)) → map (option_map plain) a ≡ map (option_map plain) b
alike-lists [] [] many each = refl
alike-lists [] (y ∷ b) many each = absurd (omega (arith, many))
alike-lists (x ∷ a) [] many each = absurd (omega (arith, many))
alike-lists (x ∷ a) (y ∷ b) many each =
    ap (λ (o : Option Node). o ∷ map (option_map plain) a) (each 0)
    ∙ ap (λ (os : List (Option Node)). option_map plain y ∷ os) (alike-lists a b (omega (arith, many)) (λ slot. each (suc slot)))

-- what looks at the nodes alone finds the same in both
position-plain : (p : Option Held → Bool) (q : Option Node → Bool) → ((o : Option Held) → p o ≡ q (option_map plain o)) → (xs : List (Option Held)) → position_or_len p xs ≡ position_or_len q (map (option_map plain) xs)
position-plain p q each [] = refl
position-plain p q each (x ∷ xs) =
    ap (λ (b : Bool). cond (not b) (1 + position_or_len p xs) 0) (each x)
    ∙ ap (λ (n : ℕ). cond (not (q (option_map plain x))) (1 + n) 0) (position-plain p q each xs)

sum-plain : (f : Option Held → ℕ) (g : Option Node → ℕ) → ((o : Option Held) → f o ≡ g (option_map plain o)) → (xs : List (Option Held)) → sum_by f xs ≡ sum_by g (map (option_map plain) xs)
sum-plain f g each [] = refl
sum-plain f g each (x ∷ xs) = omega (arith, sum_by-cons f x xs, sum_by-cons g (option_map plain x) (map (option_map plain) xs), each x, sum-plain f g each xs)

-- a sum over slots
sum-alike : (f : Option Held → ℕ) (g : Option Node → ℕ) → ((o : Option Held) → f o ≡ g (option_map plain o)) → (a b : List (Option Held)) → AreAlike a b → sum_by f a ≡ sum_by f b
sum-alike f g each a b are = sum-plain f g each a ∙ ap (sum_by g) (alike-lists a b are.as_many are.each) ∙ sym (sum-plain f g each b)

-- whether a node is the entry of this name in a folder
abbrev is_child_node : ℕ → List ℕ → Option Node → Bool
is_child_node parent name None = false
is_child_node parent name (Some node) = not (node.slot == 0) && (node.parent == parent && same_name node.name name)

child-alike : (a b : List (Option Held)) → AreAlike a b → (parent : ℕ) (name : List ℕ) → child_of a parent name ≡ child_of b parent name
unfolding child_of
child-alike a b are parent name =
    ap (λ (n : ℕ). cond (nat_lt n (length a)) (Some n) None) place
    ∙ ap (λ (n : ℕ). cond (nat_lt (position_or_len (is_child parent name) b) n) (Some (position_or_len (is_child parent name) b)) None) are.as_many
  where
    each : (o : Option Held) → is_child parent name o ≡ is_child_node parent name (option_map plain o)
    each None = refl
    each (Some held) = refl

    place : position_or_len (is_child parent name) a ≡ position_or_len (is_child parent name) b
    place = position-plain (is_child parent name) (is_child_node parent name) each a
        ∙ ap (position_or_len (is_child_node parent name)) (alike-lists a b are.as_many are.each)
        ∙ sym (position-plain (is_child parent name) (is_child_node parent name) each b)

slot-alike : (a b : List (Option Held)) → AreAlike a b → (path : List (List ℕ)) → slot_at a path ≡ slot_at b path
slot-alike a b are path = walk-same (child_of b) (child_of a) (child-alike a b are) path 0

then-same : {X Y : Type 0} (f g : X → Option Y) → ((x : X) → f x ≡ g x) → (o : Option X) → option_and_then f o ≡ option_and_then g o
then-same f g same None = refl
then-same f g same (Some x) = same x

-- the shape of a node
abbrev shape_of_node : Node → Shape
shape_of_node node = record { kind = kind_of node; len = node.length }

shape-plain : (o : Option Held) → option_map shape_of o ≡ option_map shape_of_node (option_map plain o)
shape-plain None = refl
shape-plain (Some held) = refl

shape-alike : (a b : List (Option Held)) → AreAlike a b → (path : List (List ℕ)) → shape_at a path ≡ shape_at b path
shape-alike a b are path =
    ap (option_and_then (λ slot. option_map shape_of (held_at a slot))) (slot-alike a b are path)
    ∙ then-same (λ slot. option_map shape_of (held_at a slot)) (λ slot. option_map shape_of (held_at b slot)) (λ slot. shape-plain (held_at a slot) ∙ ap (option_map shape_of_node) (are.each slot) ∙ sym (shape-plain (held_at b slot))) (slot_at b path)

-- one where there is a node, and the pages of its length
abbrev one_of_node : Option Node → ℕ
one_of_node None = 0
one_of_node (Some node) = 1

abbrev pages_of_node : Option Node → ℕ
pages_of_node None = 0
pages_of_node (Some node) = pages_of_length node.length

-- so they have the same trees
pub tree-alike : (a b : List (Option Held)) (pages : ℕ → ℕ → List ℕ) (tree : List TreeEntry) → AreAlike a b → HasTree b pages tree → HasTree a pages tree
tree-alike a b pages tree are has = record {
  is_tree = has.is_tree;
  shape = record {
    same = λ path. shape-alike a b are path ∙ has.shape.same path;
    as_many = sum-alike nodes_of_slot one_of_node one a b are ∙ has.shape.as_many;
    as_large = sum-alike pages_of_slot pages_of_node large a b are ∙ has.shape.as_large;
  };
  contents = λ path slot at. has.contents path slot (sym (slot-alike a b are path) ∙ at);
} where
  one : (o : Option Held) → nodes_of_slot o ≡ one_of_node (option_map plain o)
  one None = refl
  one (Some held) = refl

  large : (o : Option Held) → pages_of_slot o ≡ pages_of_node (option_map plain o)
  large None = refl
  large (Some held) = refl

-- ---- the slots after the commit

-- each node of the next view stands for what its slot holds
pub next-stand : {committed : IndexState} (nodes : List (Option Held)) (tree : List TreeEntry) (table : List (PageKey × KeptPage)) → IsViewOver committed nodes tree table → All (StandsIn nodes) (next_of (order_of nodes tree) table)
next-stand nodes tree table is = All-cons (StandsIn nodes) next_root (map (next_node table) (order_of nodes tree)) (root-stands nodes is.table is.rooted) (λ k d within. (all-stand nodes table tree is.table is.is_tree is.shape k d within).stands)

some-alike : (nodes after : List (Option Held)) (next : List NextNode) (slot : ℕ) (x : NextNode) (one two : Held) → x.node.slot ≡ slot → held_at nodes x.node.slot ≡ Some one → x.node ≡ plain one → held_at after x.node.slot ≡ Some two → x.node ≡ plain two → option_map plain (held_at after slot) ≡ option_map plain (held_at nodes slot)
some-alike nodes after next slot x one two own there is there_after is_after =
    ap (λ (s : ℕ). option_map plain (held_at after s)) (sym own)
    ∙ ap (option_map plain) there_after
    ∙ ap (λ (n : Node). Some n) (sym is_after ∙ is)
    ∙ sym (ap (option_map plain) there)
    ∙ ap (λ (s : ℕ). option_map plain (held_at nodes s)) own

some-none : (held : Held) → None ≡ Some held → ⊥
some-none held e = cc

none-alike : (o : Option Held) → ((held : Held) → o ≡ Some held → ⊥) → option_map plain o ≡ None
none-alike None none = refl
none-alike (Some held) none = absurd (none held refl)

-- they hold the nodes of the view
pub after-alike : (committed : IndexState) (nodes : List (Option Held)) (tree : List TreeEntry) (table : List (PageKey × KeptPage)) (basis : Basis) → IsViewOver committed nodes tree table → length basis.nodes ≡ length committed.nodes → CanPlan basis (next_of (order_of nodes tree) table) → AreAlike (slots_next basis (next_of (order_of nodes tree) table)) nodes
after-alike committed nodes tree table basis is many can =
    let next = next_of (order_of nodes tree) table in
    record {
      as_many = omega (arith, length-by_slot (length basis.nodes) (all_held basis 0 next), many, is.slots);
      each = λ slot. by slot (held_at nodes slot) refl;
    }
  where
    by : (slot : ℕ) (o : Option Held) → held_at nodes slot ≡ o → option_map plain (held_at (slots_next basis (next_of (order_of nodes tree) table)) slot) ≡ option_map plain (held_at nodes slot)
    by slot (Some held) e =
        let next = next_of (order_of nodes tree) table in
        let listed = slot-listed nodes table tree slot held is.rooted is.shape e in
        let one = All-contains (StandsIn nodes) next listed.x (next-stand nodes tree table is) listed.there in
        let two = node-stands basis next listed.x can listed.there in
        some-alike nodes (slots_next basis next) next slot listed.x one.held two.0 listed.own one.there one.same two.1.there two.1.node
    by slot None e =
        let next = next_of (order_of nodes tree) table in
        none-alike (held_at (slots_next basis next) slot)
        (λ held there. (
        let stands = slot-stands basis next slot held can there in
        let one = All-contains (StandsIn nodes) next stands.0 (next-stand nodes tree table is) stands.2.listed in
        some-none one.held (sym e ∙ ap (held_at nodes) (sym stands.1) ∙ one.there)))
        ∙ sym (ap (option_map plain) e)
