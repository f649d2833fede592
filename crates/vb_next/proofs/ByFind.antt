-- The nodes of the next view by slot stand for what the index holds.
use Rattle.std.proofs.Common.{◌≡◌, ◌≢◌, ℕ, zero, suc, ◌≤◌, ◌==◌, Bool, true, false, cond, List, [], ◌∷◌, length, map, unwrap_or, All, Option, None, Some, inl, inr, refl, sym, ap, ◌∙◌, arith, subst}
use Rattle.std.specs.Prelude.{count_by, Contains}
use Rattle.std.specs.List.{find}
use Rattle.std.specs.Option.{option_and_then, option_map}
use Rattle.std.proofs.lemmas.Bool.{cases_Bool, cases_lt, eqb-true, false≢true}
use Rattle.std.proofs.lemmas.Bool.Decides.{Decides-eqb}
use Rattle.std.proofs.lemmas.List.{get_or_past}
use Rattle.std.proofs.lemmas.List.Elements.{All-contains, All-cons}
use Rattle.std.proofs.lemmas.List.FromFn.{length-map-range_with_len}
use Rattle.vb_path.specs.Paths.{same_path}
use Rattle.vb_path.proofs.PathLaws.{same_path-Decides}
use Rattle.vb_tree.specs.declared.tree.Kind.TheVariants.{Folder}
use Rattle.vb_tree.specs.declared.tree.TreeEntry.{TreeEntry}
use Rattle.vb_tree.specs.Trees.{entry_at, is_root, IsTree}
use Rattle.vb_block.specs.declared.digest.Ref.{Ref}
use Rattle.vb_inode.specs.declared.node.Node.{Node}
use Rattle.vb_inode.specs.declared.next_view.NextNode.{NextNode}
use Rattle.vb_inode.specs.Nodes.{is_free}
use Rattle.vb_index.specs.declared.held.Held.{Held}
use Rattle.vb_index.specs.Heights.{path_to, IsRooted}
use Rattle.vb_index.specs.Indexes.{shape_at, shape_of, shape_of_entry, Shape, HasShapeOf}
use Rattle.vb_index.specs.Nodes.{held_at, slot_at, IsTable}
use Rattle.vb_nodes.specs.Paths.{free_node, node_at as node_of}
use Rattle.vb_nodes.specs.Holdings.{StandsFor, StandForAll}
use Rattle.vb_pages.specs.declared.kept.KeptPage.{KeptPage}
use Rattle.vb_pages.specs.declared.kept.PageKey.{PageKey}
use Rattle.vb_frozen.specs.declared.entry.FrozenEntry.{FrozenEntry}
use Rattle.vb_frozen.specs.Orders.{entry_for, order_of, AreApart}
use Rattle.vb_frozen.specs.Sources.{next_node, next_of, next_root}
use Rattle.vb_plan.specs.Following.{node_of_slot, nodes_by_slot}
use Rattle.vb_plan.specs.Plans.{node_in}
use Rattle.vb_plan.proofs.Listed.{count-cons, found-first, found-in, found-later, found-passes, if-no, if-yes, same-some}
use Rattle.vb_plan.proofs.Parents.{by_slot_at}
use Rattle.vb_next.proofs.Standing.{all-stand, not-equal, root-stands, IsBelow, StandsIn}

-- ---- what is found

some-none : {X : Type 0} (x : X) → Some x ≡ None → ⊥
some-none x e = cc

-- where nothing is found, what is in the list fails
fails-in : {X : Type 0} (p : X → Bool) (xs : List X) (y : X) → find p xs ≡ None → Contains xs y → p y ≡ false
fails-in p [] y e has = absurd (omega (arith, has.1))
fails-in p (x ∷ xs) y e (zero, within, is) = elim (cases_Bool (p x)) [
  | inl t ↦ absurd (some-none x (sym (found-first p x xs t) ∙ e))
  | inr t ↦ sym (ap p is) ∙ t
]
fails-in p (x ∷ xs) y e (suc k, within, is) = elim (cases_Bool (p x)) [
  | inl t ↦ absurd (some-none x (sym (found-first p x xs t) ∙ e))
  | inr t ↦ fails-in p xs y (sym (found-later p x xs t) ∙ e) (k, omega arith, is)
]

map-in : {X Y : Type 0} (f : X → Y) (xs : List X) (x : X) → Contains xs x → Contains (map f xs) (f x)
map-in f [] x has = absurd (omega (arith, has.1))
map-in f (y ∷ xs) x (zero, within, is) = (0, omega arith, ap f is)
map-in f (y ∷ xs) x (suc k, within, is) =
    let later = map-in f xs x (k, omega arith, is) in
    (suc later.0, omega (arith, later.1), later.2)

-- ---- one node for each slot

-- a node of this slot is in the next view of an order
pub record IsListed (order : List FrozenEntry) (pages : List (PageKey × KeptPage)) (slot : ℕ) : Type 0 where
  pub x : NextNode
  pub there : Contains (next_of order pages) x
  pub own : x.node.slot ≡ slot

no_parts : (path : List (List ℕ)) → is_root path ≡ true → path ≡ []
no_parts [] e = refl
no_parts (part ∷ path) e = absurd (omega (arith, eqb-true (length (part ∷ path)) 0 e))

-- the root is
root-listed : (nodes : List (Option Held)) (order : List FrozenEntry) (pages : List (PageKey × KeptPage)) (path : List (List ℕ)) (slot : ℕ) → is_root path ≡ true → slot_at nodes path ≡ Some slot → IsListed order pages slot
root-listed nodes order pages path slot root at = record {
  x = next_root;
  there = (0, omega arith, refl);
  own = same-some 0 slot (sym (ap (slot_at nodes) (no_parts path root)) ∙ at);
}

-- so is an entry of the tree
entry-listed : (nodes : List (Option Held)) (pages : List (PageKey × KeptPage)) (tree : List TreeEntry) (path : List (List ℕ)) (slot : ℕ) (shape : Shape) (o : Option TreeEntry) → entry_at path tree ≡ o → option_map shape_of_entry o ≡ Some shape → slot_at nodes path ≡ Some slot → IsListed (order_of nodes tree) pages slot
entry-listed nodes pages tree path slot shape None e seen at = absurd (cc)
entry-listed nodes pages tree path slot shape (Some f) e seen at =
    let same : path ≡ f.path = (same_path-Decides path f.path).0 (found-passes (λ (f : TreeEntry). same_path path f.path) tree f e) in
    let in_order = map-in (entry_for nodes) tree f (found-in (λ (f : TreeEntry). same_path path f.path) tree f e) in
    let in_next = map-in (next_node pages) (order_of nodes tree) (entry_for nodes f) in_order in
    record {
      x = next_node pages (entry_for nodes f);
      there = (suc in_next.0, omega (arith, in_next.1), in_next.2);
      own = ap (λ (o : Option ℕ). unwrap_or o 0) (ap (slot_at nodes) (sym same) ∙ at);
    }

-- each slot that holds something is one of theirs
pub slot-listed : (nodes : List (Option Held)) (pages : List (PageKey × KeptPage)) (tree : List TreeEntry) (slot : ℕ) (held : Held) → IsRooted nodes → HasShapeOf nodes tree → held_at nodes slot ≡ Some held → IsListed (order_of nodes tree) pages slot
slot-listed nodes pages tree slot held rooted shape there =
    let path = path_to nodes slot in
    let at : slot_at nodes path ≡ Some slot = rooted.leads slot held there in
    let seen : shape_at nodes path ≡ Some (shape_of held) = ap (option_and_then (λ s. option_map shape_of (held_at nodes s))) at ∙ ap (option_map shape_of) there in
    elim (cases_Bool (is_root path)) [
      | inl root ↦ root-listed nodes (order_of nodes tree) pages path slot root at
      | inr below ↦ entry-listed nodes pages tree path slot (shape_of held) (entry_at path tree) refl
          (sym (ap (λ (b : Bool). cond b (Some (let s : Shape = record { kind = Folder; len = 0 } in s)) (option_map shape_of_entry (entry_at path tree))) below) ∙ sym (shape.same path) ∙ seen) at
    ]

-- a slot without a node in the next view holds nothing
nothing-held : (nodes : List (Option Held)) (pages : List (PageKey × KeptPage)) (tree : List TreeEntry) (slot : ℕ) (o : Option Held) → IsRooted nodes → HasShapeOf nodes tree → held_at nodes slot ≡ o → find (λ x. x.node.slot == slot) (next_of (order_of nodes tree) pages) ≡ None → StandsFor o (node_in slot None)
nothing-held nodes pages tree slot None rooted shape there none = refl
nothing-held nodes pages tree slot (Some held) rooted shape there none =
    let listed = slot-listed nodes pages tree slot held rooted shape there in
    absurd (false≢true (sym (fails-in (λ (x : NextNode). x.node.slot == slot) (next_of (order_of nodes tree) pages) listed.x none listed.there) ∙ (Decides-eqb listed.x.node.slot slot).1 listed.own))

-- a node with these map references
abbrev with_maps : Node → List Ref → Node
with_maps node maps = record node { maps = maps }

-- the node of a slot in the next view stands for what it holds
stands-for : (nodes : List (Option Held)) (pages : List (PageKey × KeptPage)) (tree : List TreeEntry) (slot : ℕ) (o : Option NextNode) → IsTable nodes → IsRooted nodes → IsTree tree → HasShapeOf nodes tree → find (λ x. x.node.slot == slot) (next_of (order_of nodes tree) pages) ≡ o → StandsFor (held_at nodes slot) (node_in slot (option_map (λ x. x.node) o))
stands-for nodes pages tree slot None table rooted is shape e = nothing-held nodes pages tree slot (held_at nodes slot) rooted shape refl e
stands-for nodes pages tree slot (Some x) table rooted is shape e =
    let next = next_of (order_of nodes tree) pages in
    let all : All (StandsIn nodes) next = All-cons (StandsIn nodes) next_root (map (next_node pages) (order_of nodes tree)) (root-stands nodes table rooted) (λ k d within. (all-stand nodes pages tree table is shape k d within).stands) in
    let own : x.node.slot ≡ slot = eqb-true x.node.slot slot (found-passes (λ (x : NextNode). x.node.slot == slot) next x e) in
    let stands = All-contains (StandsIn nodes) next x all (found-in (λ (x : NextNode). x.node.slot == slot) next x e) in
    let there : held_at nodes slot ≡ Some stands.held = ap (held_at nodes) (sym own) ∙ stands.there in
    let no_maps : x.node.maps ≡ [] = ap (λ (n : Node). n.maps) stands.same in
    subst (λ (o : Option Held). StandsFor o x.node) (sym there) (stands.same ∙ ap (with_maps stands.held.node) (sym no_maps))

-- so it is for each slot
pub stand-for-all : (nodes : List (Option Held)) (pages : List (PageKey × KeptPage)) (tree : List TreeEntry) → IsTable nodes → IsRooted nodes → IsTree tree → HasShapeOf nodes tree → StandForAll (nodes_by_slot (length nodes) (next_of (order_of nodes tree) pages)) nodes
stand-for-all nodes pages tree table rooted is shape =
    let next = next_of (order_of nodes tree) pages in
    let count : length (nodes_by_slot (length nodes) next) ≡ length nodes = length-map-range_with_len (λ slot. node_in slot (node_of_slot next slot)) 0 (length nodes) in
    record {
      as_many = count;
      each = λ slot. elim (cases_lt slot (length nodes)) [
        | inl within ↦ subst (StandsFor (held_at nodes slot)) (sym (by_slot_at (length nodes) slot next within)) (stands-for nodes pages tree slot (find (λ x. x.node.slot == slot) next) table rooted is shape refl)
        | inr past ↦ subst (λ (o : Option Held). StandsFor o (node_of (nodes_by_slot (length nodes) next) slot)) (sym (get_or_past nodes slot None past)) (ap (λ (n : Node). is_free n.kind) (get_or_past (nodes_by_slot (length nodes) next) slot free_node (omega (arith, count, past))))
      ];
    }

-- ---- each in a slot of its own

none-has : (pages : List (PageKey × KeptPage)) (slot : ℕ) (order : List FrozenEntry) → All (λ e. e.slot ≢ slot) order → count_by (λ x. x.node.slot == slot) (map (next_node pages) order) ≡ 0
none-has pages slot [] all = refl
none-has pages slot (e ∷ order) all =
    let x = next_node pages e in
    let other : (x.node.slot == slot) ≡ false = not-equal e.slot slot (all 0 e (omega arith)) in
    omega (arith, count-cons (λ (x : NextNode). x.node.slot == slot) x (map (next_node pages) order), if-no (λ (x : NextNode). x.node.slot == slot) x other, none-has pages slot order (λ k d within. all (suc k) d (omega arith)))

entries-own : (pages : List (PageKey × KeptPage)) (slot : ℕ) (order : List FrozenEntry) → AreApart order → count_by (λ x. x.node.slot == slot) (map (next_node pages) order) ≤ 1
entries-own pages slot [] apart = omega arith
entries-own pages slot (e ∷ order) apart =
    let has : NextNode → Bool = λ x. x.node.slot == slot in
    let x = next_node pages e in
    let rest = map (next_node pages) order in
    elim (cases_Bool (e.slot == slot)) [
      | inl same ↦ (
          let at : e.slot ≡ slot = eqb-true e.slot slot same in
          omega (arith, count-cons has x rest, if-yes has x same, none-has pages slot order (subst (λ (s : ℕ). All (λ f. f.slot ≢ s) order) at apart.0)))
      | inr fails ↦ omega (arith, count-cons has x rest, if-no has x fails, entries-own pages slot order apart.1)
    ]

pub next-own : (nodes : List (Option Held)) (pages : List (PageKey × KeptPage)) (order : List FrozenEntry) → AreApart order → All (IsBelow nodes) (map (next_node pages) order) → (slot : ℕ) → count_by (λ x. x.node.slot == slot) (next_of order pages) ≤ 1
next-own nodes pages order apart below (suc slot) =
    omega (
      arith,
      count-cons (λ (x : NextNode). x.node.slot == suc slot) next_root (map (next_node pages) order),
      if-no (λ (x : NextNode). x.node.slot == suc slot) next_root (not-equal 0 (suc slot) (λ e. omega arith)),
      entries-own pages (suc slot) order apart,
    )
next-own nodes pages order apart below zero =
    omega (arith, count-cons (λ (x : NextNode). x.node.slot == 0) next_root (map (next_node pages) order), none-below (map (next_node pages) order) below)
  where
    none-below : (xs : List NextNode) → All (IsBelow nodes) xs → count_by (λ x. x.node.slot == 0) xs ≡ 0
    none-below [] all = refl
    none-below (x ∷ xs) all =
        let above = (all 0 x (omega arith)).above in
        let other : (x.node.slot == 0) ≡ false = not-equal x.node.slot 0 (λ e. omega (arith, above, e)) in
        omega (arith, count-cons (λ (x : NextNode). x.node.slot == 0) x xs, if-no (λ (x : NextNode). x.node.slot == 0) x other, none-below xs (λ k d within. all (suc k) d (omega arith)))
