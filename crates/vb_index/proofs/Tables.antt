-- A table stays one when a slot is filled or emptied, and the totals follow.
use Rattle.std.proofs.Common.{◌≡◌, ℕ, ◌+◌, ◌*◌, ◌<◌, ◌≤◌, true, false, cond, ◌==◌, nat_lt, suc, List, [], ◌∷◌, length, get_or, set, Option, Some, None, inl, inr, refl, sym, ap, ◌∙◌, subst, arith}
use Rattle.std.proofs.lemmas.Bool.{cases_Bool, false≢true}
use Rattle.std.proofs.lemmas.Bool.Decides.{Decides-eqb, Decides-ltb, nat_tests}
use Rattle.std.proofs.Math.ListN.{get_or-eq_default}
use Rattle.std.proofs.lemmas.List.{length-set, get_or-set_same, get_or-set_other, get_or_default}
use Rattle.std.proofs.lemmas.List.Sums.{sum_by-set, sum_by-le, sum_by-cons, get_or-le-sum_by}
use Rattle.vb_index.specs.declared.held.Held.{Held}
use Rattle.vb_index.specs.Nodes.{held_at, holds_folder, is_child, child_of, nodes_of_slot, nodes_in, pages_of_slot, pages_in, IsHeld, IsTable}
use Rattle.vb_tree.specs.Trees.{pages_of_length}
use Rattle.vb_index.proofs.ChildLaws.{is_child-parts, is_child-own, child_of-Some, child_of-fill, child_of-empty}
use Rattle.vb_index.proofs.Walks.{IsForest}

-- what a table says of each slot's node, as the laws of children ask it
pub own_places : (nodes : List (Option Held)) → IsTable nodes → (k : ℕ) (one : Held) → held_at nodes k ≡ Some one → (one.node.slot ≡ k) × (0 < k → child_of nodes one.node.parent one.node.name ≡ Some k)
own_places nodes table k one e = ((table.fits k one e).at_slot, table.one_name k one e)

-- in a table each slot is the child of one name in one folder at most, and the root of none
pub table-forest : (nodes : List (Option Held)) → IsTable nodes → IsForest (child_of nodes)
table-forest nodes table = record { one_parent = one; root_apart = apart } where
  parts : (a : ℕ) (y : List ℕ) (slot : ℕ) (o : Option Held) → held_at nodes slot ≡ o → child_of nodes a y ≡ Some slot → (held : Held) × (o ≡ Some held) × (0 < held.node.slot) × (held.node.parent ≡ a) × (held.node.name ≡ y)
  parts a y slot None e h = absurd (false≢true (sym (ap (is_child a y) e) ∙ (child_of-Some nodes a y slot h).1))
  parts a y slot (Some held) e h =
      let p = is_child-parts a y held (sym (ap (is_child a y) e) ∙ (child_of-Some nodes a y slot h).1) in
      (held, refl, p.0, p.1, p.2)

  one : (a b : ℕ) (y z : List ℕ) (slot : ℕ) → child_of nodes a y ≡ Some slot → child_of nodes b z ≡ Some slot → (a ≡ b) × (y ≡ z)
  one a b y z slot h g =
      let p = parts a y slot (held_at nodes slot) refl h in
      let q = parts b z slot (held_at nodes slot) refl g in
      let both : Some p.0 ≡ Some q.0 = sym p.1 ∙ q.1 in
      let same : p.0 ≡ q.0 = cc in
      (sym p.3 ∙ ap (λ (h : Held). h.node.parent) same ∙ q.3, sym p.4 ∙ ap (λ (h : Held). h.node.name) same ∙ q.4)

  apart : (a : ℕ) (y : List ℕ) → child_of nodes a y ≡ Some 0 → ⊥
  apart a y h =
      let p = parts a y 0 (held_at nodes 0) refl h in
      let fits = table.fits 0 p.0 p.1 in
      omega (arith, fits.at_slot, p.2)

-- what a slot holds after one was set
pub at_same : (nodes : List (Option Held)) (slot k : ℕ) (new : Option Held) → slot < length nodes → k ≡ slot → held_at (set nodes slot new) k ≡ new
at_same nodes slot k new l e = ap (held_at (set nodes slot new)) e ∙ get_or-set_same nodes slot new None l

pub at_other : (nodes : List (Option Held)) (slot k : ℕ) (new : Option Held) → (k == slot) ≡ false → held_at (set nodes slot new) k ≡ held_at nodes k
at_other nodes slot k new e = get_or-set_other nodes slot k new None (λ is. false≢true (sym e ∙ (Decides-eqb k slot).1 is))

pub zero_apart : (slot : ℕ) → 0 < slot → (0 == slot) ≡ false
zero_apart slot h = elim (cases_Bool (0 == slot)) [ inr e ↦ e | inl e ↦ absurd (let is = (Decides-eqb 0 slot).0 e in omega arith) ]

-- a node in a free slot
pub IsTable-fill : (nodes : List (Option Held)) (slot : ℕ) (held : Held) → IsTable nodes → slot < length nodes → 0 < slot → held_at nodes slot ≡ None → holds_folder (held_at nodes held.node.parent) ≡ true → child_of nodes held.node.parent held.node.name ≡ None → IsHeld slot held → IsTable (set nodes slot (Some held))
IsTable-fill nodes slot held table l above free folder none fits =
    record {
      few = rw length-set table.few;
      root = ap holds_folder (at_other nodes slot 0 (Some held) (zero_apart slot above)) ∙ table.root;
      fits = fits_all;
      in_folder = λ k one e up. keeps one.node.parent (below k one e up);
      one_name = names;
    } where
      new : List (Option Held)
      new = set nodes slot (Some held)

      is_held : (k : ℕ) (one : Held) → held_at (set nodes slot (Some held)) k ≡ Some one → (k == slot) ≡ true → one ≡ held
      is_held k one e h = let both : Some one ≡ Some held = sym e ∙ at_same nodes slot k (Some held) l ((Decides-eqb k slot).0 h) in cc

      fits_all : (k : ℕ) (one : Held) → held_at (set nodes slot (Some held)) k ≡ Some one → IsHeld k one
      fits_all k one e = elim (cases_Bool (k == slot)) [
        | inl h ↦ (let P : Held → Type 0 = λ x. IsHeld k x in let Q : ℕ → Type 0 = λ j. IsHeld j held in subst P (sym (is_held k one e h)) (subst Q (sym ((Decides-eqb k slot).0 h)) fits))
        | inr h ↦ table.fits k one (sym (at_other nodes slot k (Some held) h) ∙ e)
      ]

      keeps : (p : ℕ) → holds_folder (held_at nodes p) ≡ true → holds_folder (held_at (set nodes slot (Some held)) p) ≡ true
      keeps p f = elim (cases_Bool (p == slot)) [
        | inl h ↦ absurd (false≢true (sym (ap (λ j. holds_folder (held_at nodes j)) ((Decides-eqb p slot).0 h) ∙ ap holds_folder free) ∙ f))
        | inr h ↦ ap holds_folder (at_other nodes slot p (Some held) h) ∙ f
      ]

      below : (k : ℕ) (one : Held) → held_at (set nodes slot (Some held)) k ≡ Some one → 0 < k → holds_folder (held_at nodes one.node.parent) ≡ true
      below k one e up = elim (cases_Bool (k == slot)) [
        | inl h ↦ ap (λ (x : Held). holds_folder (held_at nodes x.node.parent)) (is_held k one e h) ∙ folder
        | inr h ↦ table.in_folder k one (sym (at_other nodes slot k (Some held) h) ∙ e) up
      ]

      names : (k : ℕ) (one : Held) → held_at (set nodes slot (Some held)) k ≡ Some one → 0 < k → child_of (set nodes slot (Some held)) one.node.parent one.node.name ≡ Some k
      names k one e up = child_of-fill nodes slot held l free none one.node.parent one.node.name ∙ (elim (cases_Bool (k == slot)) [
        | inl h ↦ (let same = is_held k one e h in let at = fits.at_slot in
            let own : is_child one.node.parent one.node.name (Some held) ≡ true = ap (λ (x : Held). is_child x.node.parent x.node.name (Some held)) same ∙ is_child-own held (omega arith) in
            ap (λ v. cond v (Some slot) (child_of nodes one.node.parent one.node.name)) own ∙ ap (λ j. Some j) (sym ((Decides-eqb k slot).0 h)))
        | inr h ↦ (let old = table.one_name k one (sym (at_other nodes slot k (Some held) h) ∙ e) up in
            elim (cases_Bool (is_child one.node.parent one.node.name (Some held))) [
              | inr g ↦ ap (λ v. cond v (Some slot) (child_of nodes one.node.parent one.node.name)) g ∙ old
              | inl g ↦ absurd (let parts = is_child-parts one.node.parent one.node.name held g in
                  let nothing : child_of nodes one.node.parent one.node.name ≡ None = ap (λ n. child_of nodes one.node.parent n) (sym parts.2) ∙ ap (λ p. child_of nodes p held.node.name) (sym parts.1) ∙ none in
                  let both : Some k ≡ None = sym old ∙ nothing in cc)
            ])
      ])

-- a node without children leaves its slot
pub IsTable-empty : (nodes : List (Option Held)) (slot : ℕ) (held : Held) → IsTable nodes → slot < length nodes → 0 < slot → held_at nodes slot ≡ Some held → ((name : List ℕ) → child_of nodes slot name ≡ None) → IsTable (set nodes slot None)
IsTable-empty nodes slot held table l above there bare =
    record {
      few = rw length-set table.few;
      root = ap holds_folder (at_other nodes slot 0 None (zero_apart slot above)) ∙ table.root;
      fits = λ k one e. table.fits k one (old k one e);
      in_folder = folders;
      one_name = names;
    } where
      away : (k : ℕ) (one : Held) → held_at (set nodes slot None) k ≡ Some one → (k == slot) ≡ false
      away k one e = elim (cases_Bool (k == slot)) [
        | inr h ↦ h
        | inl h ↦ absurd (let both : None ≡ Some one = sym (at_same nodes slot k None l ((Decides-eqb k slot).0 h)) ∙ e in cc)
      ]

      old : (k : ℕ) (one : Held) → held_at (set nodes slot None) k ≡ Some one → held_at nodes k ≡ Some one
      old k one e = sym (at_other nodes slot k None (away k one e)) ∙ e

      folders : (k : ℕ) (one : Held) → held_at (set nodes slot None) k ≡ Some one → 0 < k → holds_folder (held_at (set nodes slot None) one.node.parent) ≡ true
      folders k one e up = elim (cases_Bool (one.node.parent == slot)) [
        | inr h ↦ ap holds_folder (at_other nodes slot one.node.parent None h) ∙ table.in_folder k one (old k one e) up
        | inl h ↦ absurd (let name = table.one_name k one (old k one e) up in
            let both : Some k ≡ None = sym name ∙ ap (λ p. child_of nodes p one.node.name) ((Decides-eqb one.node.parent slot).0 h) ∙ bare one.node.name in cc)
      ]

      names : (k : ℕ) (one : Held) → held_at (set nodes slot None) k ≡ Some one → 0 < k → child_of (set nodes slot None) one.node.parent one.node.name ≡ Some k
      names k one e up = child_of-empty nodes slot held l there above (own_places nodes table) one.node.parent one.node.name ∙ (
          let mine = table.one_name k one (old k one e) up in
          elim (cases_Bool (is_child one.node.parent one.node.name (Some held))) [
            | inr g ↦ ap (λ v. cond v None (child_of nodes one.node.parent one.node.name)) g ∙ mine
            | inl g ↦ absurd (let parts = is_child-parts one.node.parent one.node.name held g in
                let found : child_of nodes one.node.parent one.node.name ≡ Some slot = ap (λ n. child_of nodes one.node.parent n) (sym parts.2) ∙ ap (λ p. child_of nodes p held.node.name) (sym parts.1) ∙ table.one_name slot held there above in
                let both : Some k ≡ Some slot = sym mine ∙ found in
                let is : k ≡ slot = cc in
                false≢true (sym (away k one e) ∙ (Decides-eqb k slot).1 is))
          ])

-- ---- totals

-- the totals after a slot was set
pub nodes_in-set : (nodes : List (Option Held)) (slot : ℕ) (new : Option Held) → slot < length nodes → nodes_in (set nodes slot new) + nodes_of_slot (held_at nodes slot) ≡ nodes_in nodes + nodes_of_slot new
nodes_in-set nodes slot new l = sum_by-set nodes_of_slot nodes slot new None l

pub pages_in-set : (nodes : List (Option Held)) (slot : ℕ) (new : Option Held) → slot < length nodes → pages_in (set nodes slot new) + pages_of_slot (held_at nodes slot) ≡ pages_in nodes + pages_of_slot new
pages_in-set nodes slot new l = sum_by-set pages_of_slot nodes slot new None l

at_most_one : (o : Option Held) → nodes_of_slot o ≤ 1
at_most_one None = omega arith
at_most_one (Some held) = omega arith

-- there are no more nodes than slots
pub nodes_in-le : (nodes : List (Option Held)) → nodes_in nodes ≤ length nodes
nodes_in-le nodes = omega (arith, sum_by-le nodes_of_slot 1 nodes (λ k d l. at_most_one (get_or nodes k d)))

few_pages : (len : ℕ) → len ≤ 44433408 → pages_of_length len ≤ 10945
few_pages len h = omega arith

-- there are no more pages than a number that fits in memory's words
pub pages_in-le : (nodes : List (Option Held)) → IsTable nodes → pages_in nodes ≤ length nodes * 10945
pages_in-le nodes table = sum_by-le pages_of_slot 10945 nodes (λ k d l. let P : Option Held → Type 0 = λ o. pages_of_slot o ≤ 10945 in subst P (get_or_default nodes k None d l) (by k (held_at nodes k) refl)) where
  by : (k : ℕ) (o : Option Held) → held_at nodes k ≡ o → pages_of_slot (held_at nodes k) ≤ 10945
  by k None e = let P : Option Held → Type 0 = λ x. pages_of_slot x ≤ 10945 in subst P (sym e) (omega arith)
  by k (Some held) e = let P : Option Held → Type 0 = λ x. pages_of_slot x ≤ 10945 in subst P (sym e) (few_pages held.node.length (table.fits k held e).short)

-- ---- free slots

full_list : (nodes : List (Option Held)) → ((k : ℕ) → k < length nodes → nodes_of_slot (held_at nodes k) ≡ 1) → nodes_in nodes ≡ length nodes
full_list [] all = refl
full_list (n ∷ ns) all =
    let first : nodes_of_slot n ≡ 1 = all 0 (omega arith) in
    let rest = full_list ns (λ k l. all (suc k) (omega arith)) in
    omega (arith, sum_by-cons nodes_of_slot n ns, first, rest)

-- where there are fewer nodes than slots, a slot is free
pub some_free : (nodes : List (Option Held)) → nodes_in nodes < length nodes → ((k : ℕ) → k < length nodes → held_at nodes k ≡ None → ⊥) → ⊥
some_free nodes h none = let full = full_list nodes (λ k l. by k l (held_at nodes k) refl) in omega (arith, full) where
  by : (k : ℕ) → k < length nodes → (o : Option Held) → held_at nodes k ≡ o → nodes_of_slot (held_at nodes k) ≡ 1
  by k l None e = absurd (none k l e)
  by k l (Some held) e = ap nodes_of_slot e

-- a folder's slot is in the table
pub folder_in : (nodes : List (Option Held)) (slot : ℕ) → holds_folder (held_at nodes slot) ≡ true → slot < length nodes
folder_in nodes slot h = elim (cases_Bool (nat_lt slot (length nodes))) [
  | inl l ↦ (Decides-ltb slot (length nodes)).0 l
  | inr l ↦ absurd (let past : length nodes ≤ slot = grind (arith, nat_tests) in false≢true (sym (ap holds_folder (get_or-eq_default nodes None past)) ∙ h))
]

-- what holds a node is in the table
pub held_in_table : (nodes : List (Option Held)) (slot : ℕ) (held : Held) → held_at nodes slot ≡ Some held → slot < length nodes
held_in_table nodes slot held h = elim (cases_Bool (nat_lt slot (length nodes))) [
  | inl l ↦ (Decides-ltb slot (length nodes)).0 l
  | inr l ↦ absurd (let past : length nodes ≤ slot = grind (arith, nat_tests) in let both : None ≡ Some held = sym (get_or-eq_default nodes None past) ∙ h in cc)
]

-- a node and its pages are among those of the table
pub among_totals : (nodes : List (Option Held)) (slot : ℕ) (held : Held) → held_at nodes slot ≡ Some held → (1 ≤ nodes_in nodes) × (pages_of_length held.node.length ≤ pages_in nodes)
among_totals nodes slot held h =
    let l = held_in_table nodes slot held h in
    let one = get_or-le-sum_by nodes_of_slot nodes slot None l in
    let some = get_or-le-sum_by pages_of_slot nodes slot None l in
    let at = ap nodes_of_slot h in
    let at' = ap pages_of_slot h in
    (omega (arith, one, at), omega (arith, some, at'))

pub ruleset totals = (nodes_in-le, pages_in-le, nodes_in-set, pages_in-set)

pub ruleset slots = (folder_in)
