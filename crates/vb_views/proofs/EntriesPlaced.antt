-- Over nodes with the shape of a tree, the nodes in path order are the tree's entries.
use Rattle.std.proofs.Common.{◌≡◌, ◌≢◌, ℕ, zero, suc, ◌+◌, ◌<◌, Bool, true, false, cond, eqb, List, [], ◌∷◌, length, map, Option, Some, None, unwrap_or, refl, sym, ap, subst, ◌∙◌, ◌⊎◌, inl, inr, arith}
use Rattle.std.specs.Option.{option_and_then, option_map}
use Rattle.std.specs.Ordering.{is_eq, is_lt}
use Rattle.std.specs.declared.cmp.Ordering.TheVariants.{Less}
use Rattle.std.proofs.lemmas.Bool.{cases_Bool, cases_lt, eqb-true, false≢true}
use Rattle.std.proofs.lemmas.List.{length-map}
use Rattle.vb_index.specs.declared.held.Held.{Held}
use Rattle.vb_index.specs.Heights.{IsRooted}
use Rattle.vb_index.specs.Indexes.{Shape, shape_at, shape_of, shape_of_entry, HasShapeOf}
use Rattle.vb_index.specs.Nodes.{held_at, root_held, slot_at, IsTable}
use Rattle.vb_index.proofs.Ascending.{In, IsStrict, AllBelow, Ascends, ascending-same, below-all, in-map, of-map}
use Rattle.vb_index.proofs.Tables.{table-forest}
use Rattle.vb_index.proofs.Walks.{walk-alone}
use Rattle.vb_nodes.specs.Holdings.{StandForAll, StandsFor}
use Rattle.vb_nodes.proofs.Rooted.{path-held}
use Rattle.vb_path.specs.Paths.{path_cmp, same_path}
use Rattle.vb_path.proofs.PathLaws.{after-path, before-path, path_cmp-total, same_path-Decides, same_path-ties}
use Rattle.vb_store.specs.Recovered.{Placed, insert_placed, node_in, path_of, placed_by, placed_in}
use Rattle.vb_tree.specs.declared.tree.Kind.TheVariants.{Folder}
use Rattle.vb_tree.specs.declared.tree.TreeEntry.{TreeEntry}
use Rattle.vb_tree.specs.Trees.{entry_at, is_root, AllAfter, AllBelongIn, AreInOrder, IsTree}
use Rattle.std.proofs.Math.ListN.{get_or-map}

-- ---- the order

abbrev pub PlacedBelow : Placed → Placed → Type 0
PlacedBelow a b = path_cmp a.path b.path ≡ Less

not_below : (p : List (List ℕ)) → path_cmp p p ≡ Less → ⊥
not_below p less = false≢true (sym (same_path-ties p p ∙ ap is_eq less) ∙ (same_path-Decides p p).1 refl)

placed-strict : IsStrict PlacedBelow
placed-strict = record { apart = λ a. not_below a.path; trans = λ a b c. path_cmp-total.trans a.path b.path c.path }

-- ---- one more

of-inserted : (x new : Placed) (ps : List Placed) → In x (insert_placed new ps) → (x ≡ new) ⊎ In x ps
of-inserted x new [] is = is
of-inserted x new (p ∷ ps) is = by (is_lt (path_cmp new.path p.path)) (of-inserted x new ps) is where
  by : (b : Bool) → (In x (insert_placed new ps) → (x ≡ new) ⊎ In x ps) → In x (cond b (new ∷ p ∷ ps) (p ∷ insert_placed new ps)) → (x ≡ new) ⊎ In x (p ∷ ps)
  by true again here = here
  by false again (inl same) = inr (inl same)
  by false again (inr later) = elim (again later) [ inl same ↦ inl same | inr there ↦ inr (inr there) ]

in-inserted : (x new : Placed) (ps : List Placed) → (x ≡ new) ⊎ In x ps → In x (insert_placed new ps)
in-inserted x new [] is = is
in-inserted x new (p ∷ ps) is = by (is_lt (path_cmp new.path p.path)) (in-inserted x new ps) is where
  by : (b : Bool) → ((x ≡ new) ⊎ In x ps → In x (insert_placed new ps)) → (x ≡ new) ⊎ In x (p ∷ ps) → In x (cond b (new ∷ p ∷ ps) (p ∷ insert_placed new ps))
  by true again here = here
  by false again (inl same) = inr (again (inl same))
  by false again (inr (inl same)) = inl same
  by false again (inr (inr later)) = inr (again (inr later))

ascends-inserted : (new : Placed) (ps : List Placed) → Ascends PlacedBelow ps → ((q : Placed) → In q ps → new.path ≢ q.path) → Ascends PlacedBelow (insert_placed new ps)
ascends-inserted new [] up apart = (tt, tt)
ascends-inserted new (p ∷ ps) up apart = by (is_lt (path_cmp new.path p.path)) refl (ascends-inserted new ps up.1 (λ q is. apart q (inr is))) where
  after : is_lt (path_cmp new.path p.path) ≡ false → PlacedBelow p new
  after over = elim (cases_Bool (same_path new.path p.path)) [
    | inl same ↦ absurd (apart p (inl refl) ((same_path-Decides new.path p.path).0 same))
    | inr other ↦ after-path new.path p.path over other
  ]

  each : PlacedBelow p new → (x : Placed) → (x ≡ new) ⊎ In x ps → PlacedBelow p x
  each less x (inl same) = subst (PlacedBelow p) (sym same) less
  each less x (inr is) = below_in ps up.0 is where
    below_in : (qs : List Placed) → AllBelow PlacedBelow p qs → In x qs → PlacedBelow p x
    below_in [] all is = absurd is
    below_in (q ∷ qs) all (inl e) = subst (PlacedBelow p) (sym e) all.0
    below_in (q ∷ qs) all (inr is) = below_in qs all.1 is

  over_all : (qs : List Placed) → PlacedBelow new p → AllBelow PlacedBelow p qs → AllBelow PlacedBelow new qs
  over_all [] less all = tt
  over_all (q ∷ qs) less all = (placed-strict.trans new p q less all.0, over_all qs less all.1)

  by : (b : Bool) → is_lt (path_cmp new.path p.path) ≡ b → Ascends PlacedBelow (insert_placed new ps) → Ascends PlacedBelow (cond b (new ∷ p ∷ ps) (p ∷ insert_placed new ps))
  by true is again = let less : PlacedBelow new p = before-path new.path p.path is in ((less, over_all ps less up.0), up)
  by false is again = (below-all PlacedBelow p (insert_placed new ps) (λ x there. each (after is) x (of-inserted x new ps there)), again)

-- ---- the nodes of slots

-- a node in a slot, with its path
abbrev pub placed_at : List (Option Held) → Held → Placed
placed_at table held = record { path = path_of table held.node.slot; held = held }

-- one of these slots but the root's holds it
pub record IsPlacedIn (table slots : List (Option Held)) (x : Placed) : Type 0 where
  pub k : ℕ
  pub held : Held
  pub there : held_at slots k ≡ Some held
  pub above : 0 < held.node.slot
  pub is : x ≡ placed_at table held

later_in : (table : List (Option Held)) (o : Option Held) (slots : List (Option Held)) (x : Placed) → IsPlacedIn table slots x → IsPlacedIn table (o ∷ slots) x
later_in table o slots x i = record { k = suc i.k; held = i.held; there = i.there; above = i.above; is = i.is }

not_zero : (n : ℕ) → eqb n 0 ≡ false → 0 < n
not_zero zero e = absurd (cc e)
not_zero (suc n) e = omega arith

pub of-placed : (table slots : List (Option Held)) (x : Placed) → In x (placed_by table slots) → IsPlacedIn table slots x
of-placed table [] x is = absurd is
of-placed table (None ∷ slots) x is = later_in table None slots x (of-placed table slots x is)
of-placed table (Some held ∷ slots) x is = by (eqb held.node.slot 0) refl (of-placed table slots x) is where
  by : (b : Bool) → eqb held.node.slot 0 ≡ b → (In x (placed_by table slots) → IsPlacedIn table slots x) → In x (cond b (placed_by table slots) (insert_placed (placed_at table held) (placed_by table slots))) → IsPlacedIn table (Some held ∷ slots) x
  by true root again there = later_in table (Some held) slots x (again there)
  by false below again there = elim (of-inserted x (placed_at table held) (placed_by table slots) there) [
    | inl same ↦ record { k = 0; held = held; there = refl; above = not_zero held.node.slot below; is = same }
    | inr later ↦ later_in table (Some held) slots x (again later)
  ]

pub in-placed : (table slots : List (Option Held)) (k : ℕ) (held : Held) → held_at slots k ≡ Some held → 0 < held.node.slot → In (placed_at table held) (placed_by table slots)
in-placed table [] k held there above = absurd (cc there)
in-placed table (None ∷ slots) zero held there above = absurd (cc there)
in-placed table (None ∷ slots) (suc k) held there above = in-placed table slots k held there above
in-placed table (Some one ∷ slots) zero held there above = by (eqb one.node.slot 0) refl where
  same : one ≡ held
  same = cc there

  by : (b : Bool) → eqb one.node.slot 0 ≡ b → In (placed_at table held) (cond b (placed_by table slots) (insert_placed (placed_at table one) (placed_by table slots)))
  by true root = absurd (let zero_is : held.node.slot ≡ 0 = ap (λ (h : Held). h.node.slot) (sym same) ∙ eqb-true one.node.slot 0 root in omega (arith, above, zero_is))
  by false below = in-inserted (placed_at table held) (placed_at table one) (placed_by table slots) (inl (ap (placed_at table) (sym same)))
in-placed table (Some one ∷ slots) (suc k) held there above = by (eqb one.node.slot 0) (in-placed table slots k held there above) where
  by : (b : Bool) → In (placed_at table held) (placed_by table slots) → In (placed_at table held) (cond b (placed_by table slots) (insert_placed (placed_at table one) (placed_by table slots)))
  by true among = among
  by false among = in-inserted (placed_at table held) (placed_at table one) (placed_by table slots) (inr among)

-- ---- their paths

stands : (o : Option Held) → StandsFor o (node_in o)
stands None = refl
stands (Some held) = refl

stand_all : (table : List (Option Held)) → StandForAll (map node_in table) table
stand_all table = record {
  as_many = length-map table node_in;
  each = λ slot. subst (StandsFor (held_at table slot)) (sym (get_or-map node_in table slot None)) (stands (held_at table slot));
}

-- the path of a slot is the one that leads to it
pub path-leads : (table : List (Option Held)) (slot : ℕ) (held : Held) → IsTable table → IsRooted table → held_at table slot ≡ Some held → slot_at table (path_of table slot) ≡ Some slot
path-leads table slot held is rooted there =
    ap (slot_at table) (path-held (map node_in table) table slot held is rooted (stand_all table) there) ∙ rooted.leads slot held there

-- so the nodes of slots are strictly in path order
placed_ascends : (table slots : List (Option Held)) (from : ℕ) → IsTable table → IsRooted table → ((k : ℕ) (held : Held) → held_at slots k ≡ Some held → held_at table (from + k) ≡ Some held) → Ascends PlacedBelow (placed_by table slots)
placed_ascends table [] from is rooted part = tt
placed_ascends table (None ∷ slots) from is rooted part =
    placed_ascends table slots (from + 1) is rooted (λ k held there. ap (held_at table) (let e : from + 1 + k ≡ from + suc k = omega arith in e) ∙ part (suc k) held there)
placed_ascends table (Some held ∷ slots) from is rooted part = by (eqb held.node.slot 0) (placed_ascends table slots (from + 1) is rooted rest) where
  rest : (k : ℕ) (h : Held) → held_at slots k ≡ Some h → held_at table (from + 1 + k) ≡ Some h
  rest k h there = ap (held_at table) (let e : from + 1 + k ≡ from + suc k = omega arith in e) ∙ part (suc k) h there

  here : held_at table (from + 0) ≡ Some held
  here = part 0 held refl

  own : held.node.slot ≡ from + 0
  own = (is.fits (from + 0) held here).at_slot

  leads_here : slot_at table (path_of table held.node.slot) ≡ Some held.node.slot
  leads_here = path-leads table held.node.slot held is rooted (ap (held_at table) own ∙ here)

  apart : (q : Placed) → In q (placed_by table slots) → path_of table held.node.slot ≢ q.path
  apart q among same =
      let one = of-placed table slots q among in
      let there : held_at table (from + 1 + one.k) ≡ Some one.held = rest one.k one.held one.there in
      let slot : one.held.node.slot ≡ from + 1 + one.k = (is.fits (from + 1 + one.k) one.held there).at_slot in
      let path : q.path ≡ path_of table one.held.node.slot = ap (λ (x : Placed). x.path) one.is in
      let leads : slot_at table (path_of table one.held.node.slot) ≡ Some one.held.node.slot = path-leads table one.held.node.slot one.held is rooted (ap (held_at table) slot ∙ there) in
      let both : Some held.node.slot ≡ Some one.held.node.slot = sym leads_here ∙ ap (slot_at table) (same ∙ path) ∙ leads in
      let equal : held.node.slot ≡ one.held.node.slot = cc both in
      omega (arith, equal, own, slot)

  by : (b : Bool) → Ascends PlacedBelow (placed_by table slots) → Ascends PlacedBelow (cond b (placed_by table slots) (insert_placed (placed_at table held) (placed_by table slots)))
  by true again = again
  by false again = ascends-inserted (placed_at table held) (placed_by table slots) again apart

pub placed-ascends : (nodes : List (Option Held)) → IsTable nodes → IsRooted nodes → Ascends PlacedBelow (placed_in nodes)
placed-ascends nodes is rooted = placed_ascends nodes nodes 0 is rooted (λ k held there. ap (held_at nodes) (let e : 0 + k ≡ k = omega arith in e) ∙ there)

-- ---- the entries of a tree

-- the held node to which a path leads
abbrev pub held_for : List (Option Held) → List (List ℕ) → Held
held_for nodes path = unwrap_or (held_at nodes (unwrap_or (slot_at nodes path) 0)) root_held

-- the node of an entry, with the entry's path
abbrev pub placed_for : List (Option Held) → TreeEntry → Placed
placed_for nodes e = record { path = e.path; held = held_for nodes e.path }

-- the slot to which an entry's path leads, and what it holds
pub record IsEntryAt (nodes : List (Option Held)) (e : TreeEntry) : Type 0 where
  pub slot : ℕ
  pub held : Held
  pub leads : slot_at nodes e.path ≡ Some slot
  pub there : held_at nodes slot ≡ Some held
  pub above : 0 < slot
  pub shape : shape_of held ≡ shape_of_entry e

found_at : (nodes : List (Option Held)) (path : List (List ℕ)) (s : Shape) → shape_at nodes path ≡ Some s → (slot : ℕ) × (held : Held) × (slot_at nodes path ≡ Some slot) × (held_at nodes slot ≡ Some held) × (shape_of held ≡ s)
found_at nodes path s is = by (slot_at nodes path) refl is where
  at : (slot : ℕ) (o : Option Held) → slot_at nodes path ≡ Some slot → held_at nodes slot ≡ o → option_map shape_of o ≡ Some s → (slot : ℕ) × (held : Held) × (slot_at nodes path ≡ Some slot) × (held_at nodes slot ≡ Some held) × (shape_of held ≡ s)
  at slot None leads there e = absurd (cc e)
  at slot (Some held) leads there e = (slot, held, leads, there, (let same : shape_of held ≡ s = cc e in same))

  by : (o : Option ℕ) → slot_at nodes path ≡ o → option_and_then (λ slot. option_map shape_of (held_at nodes slot)) o ≡ Some s → (slot : ℕ) × (held : Held) × (slot_at nodes path ≡ Some slot) × (held_at nodes slot ≡ Some held) × (shape_of held ≡ s)
  by None leads e = absurd (cc e)
  by (Some slot) leads e = at slot (held_at nodes slot) leads refl e

pub root_only : (p : List (List ℕ)) → is_root p ≡ true → p ≡ []
root_only [] root = refl
root_only (x ∷ xs) root = absurd (let none = eqb-true (length (x ∷ xs)) 0 root in omega (arith, none))

-- a path that isn't the root's doesn't lead to slot 0
pub above_root : (nodes : List (Option Held)) (path : List (List ℕ)) (slot : ℕ) → IsTable nodes → is_root path ≡ false → slot_at nodes path ≡ Some slot → 0 < slot
above_root nodes path slot table below leads = elim (cases_lt 0 slot) [
  | inl above ↦ above
  | inr none ↦ absurd (
      let zero_is : slot ≡ 0 = omega (arith, none) in
      let root : path ≡ [] = walk-alone _ (table-forest nodes table) path [] slot leads (ap Some (sym zero_is)) in
      false≢true (sym below ∙ ap is_root root))
]

pub entry-at : (nodes : List (Option Held)) (tree : List TreeEntry) (e : TreeEntry) → IsTable nodes → HasShapeOf nodes tree → is_root e.path ≡ false → entry_at e.path tree ≡ Some e → IsEntryAt nodes e
entry-at nodes tree e table shape below here =
    let seen : shape_at nodes e.path ≡ Some (shape_of_entry e) = shape.same e.path
    ∙ ap (λ (b : Bool). cond b (Some (record { kind = Folder; len = 0 })) (option_map shape_of_entry (entry_at e.path tree))) below
    ∙ ap (option_map shape_of_entry) here in
    let found = found_at nodes e.path (shape_of_entry e) seen in
    record { slot = found.0; held = found.1; leads = found.2; there = found.3; above = above_root nodes e.path found.0 table below found.2; shape = found.4 }

-- the node of an entry is what stands at its path
pub held-for : (nodes : List (Option Held)) (path : List (List ℕ)) (slot : ℕ) (held : Held) → slot_at nodes path ≡ Some slot → held_at nodes slot ≡ Some held → held_for nodes path ≡ held
held-for nodes path slot held leads there =
    ap (λ (o : Option ℕ). unwrap_or (held_at nodes (unwrap_or o 0)) root_held) leads ∙ ap (λ (o : Option Held). unwrap_or o root_held) there

-- an entry of a tree is found at its path, and isn't the root
pub record IsFoundIn (tree : List TreeEntry) (e : TreeEntry) : Type 0 where
  pub here : entry_at e.path tree ≡ Some e
  pub below : is_root e.path ≡ false

same_placed : (a b : Placed) → a.path ≡ b.path → a.held ≡ b.held → a ≡ b
same_placed a b path held = λ i. record { path = path i; held = held i }

after_all : (p : List (List ℕ)) (es : List TreeEntry) (e : TreeEntry) → AllAfter p es → In e es → path_cmp p e.path ≡ Less
after_all p [] e all is = absurd is
after_all p (x ∷ xs) e all (inl same) = subst (λ (t : TreeEntry). path_cmp p t.path ≡ Less) (sym same) all.0
after_all p (x ∷ xs) e all (inr is) = after_all p xs e all.1 is

pub found_all : (es : List TreeEntry) (e : TreeEntry) → AreInOrder es → In e es → entry_at e.path es ≡ Some e
found_all [] e order is = absurd is
found_all (x ∷ xs) e order (inl same) = ap (λ (b : Bool). cond b (Some x) (entry_at e.path xs)) ((same_path-Decides e.path x.path).1 (ap (λ (t : TreeEntry). t.path) same)) ∙ ap Some (sym same)
found_all (x ∷ xs) e order (inr is) = elim (cases_Bool (same_path e.path x.path)) [
  | inl same ↦ absurd (not_below x.path (subst (λ (p : List (List ℕ)). path_cmp x.path p ≡ Less) ((same_path-Decides e.path x.path).0 same) (after_all x.path xs e order.0 is)))
  | inr other ↦ ap (λ (b : Bool). cond b (Some x) (entry_at e.path xs)) other ∙ found_all xs e order.1 is
]

below_all : (tree es : List TreeEntry) (e : TreeEntry) → AllBelongIn tree es → In e es → is_root e.path ≡ false
below_all tree [] e all is = absurd is
below_all tree (x ∷ xs) e all (inl same) = ap (λ (t : TreeEntry). is_root t.path) same ∙ all.0.below_root
below_all tree (x ∷ xs) e all (inr is) = below_all tree xs e all.1 is

pub found-in : (tree : List TreeEntry) (e : TreeEntry) → IsTree tree → In e tree → IsFoundIn tree e
found-in tree e is among = record { here = found_all tree e is.in_order among; below = below_all tree tree e is.all_belong among }

-- what is found at a path is among the entries, with that path
pub among-found : (path : List (List ℕ)) (es : List TreeEntry) (e : TreeEntry) → entry_at path es ≡ Some e → In e es × (e.path ≡ path)
among-found path [] e found = absurd (cc found)
among-found path (x ∷ xs) e found = by (same_path path x.path) refl (among-found path xs e) found where
  by : (b : Bool) → same_path path x.path ≡ b → (entry_at path xs ≡ Some e → In e xs × (e.path ≡ path)) → cond b (Some x) (entry_at path xs) ≡ Some e → In e (x ∷ xs) × (e.path ≡ path)
  by true same again is = let one : x ≡ e = cc is in (inl (sym one), ap (λ (t : TreeEntry). t.path) (sym one) ∙ sym ((same_path-Decides path x.path).0 same))
  by false other again is = let more = again is in (inr more.0, more.1)

tree_ascends : (nodes : List (Option Held)) (es : List TreeEntry) → AreInOrder es → Ascends PlacedBelow (map (placed_for nodes) es)
tree_ascends nodes [] order = tt
tree_ascends nodes (e ∷ es) order = (below es order.0, tree_ascends nodes es order.1) where
  below : (xs : List TreeEntry) → AllAfter e.path xs → AllBelow PlacedBelow (placed_for nodes e) (map (placed_for nodes) xs)
  below [] all = tt
  below (x ∷ xs) all = (all.0, below xs all.1)

-- the nodes in path order are those of the tree's entries, in their order
pub placed-is : (nodes : List (Option Held)) (tree : List TreeEntry) → IsTable nodes → IsRooted nodes → IsTree tree → HasShapeOf nodes tree → placed_in nodes ≡ map (placed_for nodes) tree
placed-is nodes tree table rooted is shape = ascending-same PlacedBelow (placed_in nodes) (map (placed_for nodes) tree) placed-strict (placed-ascends nodes table rooted) (tree_ascends nodes tree is.in_order) forth back where
  forth : (x : Placed) → In x (placed_in nodes) → In x (map (placed_for nodes) tree)
  forth x among =
      let one = of-placed nodes nodes x among in
      let own : one.held.node.slot ≡ one.k = (table.fits one.k one.held one.there).at_slot in
      let slot = one.held.node.slot in
      let there : held_at nodes slot ≡ Some one.held = ap (held_at nodes) own ∙ one.there in
      let path = path_of nodes slot in
      let leads : slot_at nodes path ≡ Some slot = path-leads nodes slot one.held table rooted there in
      let below : is_root path ≡ false = elim (cases_Bool (is_root path)) [
        | inr below ↦ below
        | inl root ↦ absurd (
            let both : Some 0 ≡ Some slot = sym (ap (slot_at nodes) (root_only path root)) ∙ leads in
            let zero_is : 0 ≡ slot = cc both in
            omega (arith, zero_is, one.above))
      ] in
      let seen : option_map shape_of_entry (entry_at path tree) ≡ Some (shape_of one.held) =
      ap (λ (b : Bool). cond b (Some (record { kind = Folder; len = 0 })) (option_map shape_of_entry (entry_at path tree))) (sym below) ∙ sym (shape.same path)
      ∙ ap (option_and_then (λ s. option_map shape_of (held_at nodes s))) leads ∙ ap (option_map shape_of) there in
      found path slot one refl leads there (entry_at path tree) refl seen
    where
      found : (path : List (List ℕ)) (slot : ℕ) (one : IsPlacedIn nodes nodes x) → path ≡ path_of nodes one.held.node.slot → slot_at nodes path ≡ Some slot → held_at nodes slot ≡ Some one.held → (o : Option TreeEntry) → entry_at path tree ≡ o → option_map shape_of_entry o ≡ Some (shape_of one.held) → In x (map (placed_for nodes) tree)
      found path slot one is_path leads there None at seen = absurd (cc seen)
      found path slot one is_path leads there (Some e) at seen =
          let entry = among-found path tree e at in
          let same : x ≡ placed_for nodes e = one.is ∙ same_placed (placed_at nodes one.held) (placed_for nodes e) (sym is_path ∙ sym entry.1) (sym (held-for nodes e.path slot one.held (ap (slot_at nodes) entry.1 ∙ leads) there)) in
          subst (λ (y : Placed). In y (map (placed_for nodes) tree)) (sym same) (in-map (placed_for nodes) e tree entry.0)

  back : (x : Placed) → In x (map (placed_for nodes) tree) → In x (placed_in nodes)
  back x among =
      let of = of-map (placed_for nodes) x tree among in
      let e = of.0 in
      let found = found-in tree e is of.1 in
      let at = entry-at nodes tree e table shape found.below found.here in
      let own : at.held.node.slot ≡ at.slot = (table.fits at.slot at.held at.there).at_slot in
      let path : path_of nodes at.held.node.slot ≡ e.path = walk-alone _ (table-forest nodes table) (path_of nodes at.held.node.slot) e.path at.slot
      (ap (λ (s : ℕ). slot_at nodes (path_of nodes s)) own ∙ path-leads nodes at.slot at.held table rooted at.there) at.leads in
      let same : x ≡ placed_at nodes at.held = of.2 ∙ same_placed (placed_for nodes e) (placed_at nodes at.held) (sym path) (held-for nodes e.path at.slot at.held at.leads at.there) in
      subst (λ (y : Placed). In y (placed_in nodes)) (sym same) (in-placed nodes nodes at.slot at.held at.there (omega (arith, own, at.above)))
