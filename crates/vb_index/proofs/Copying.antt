-- Which slot is the child of which among the first nodes of a table, and what a copy keeps.
use Rattle.std.proofs.Common.{◌≡◌, ℕ, ◌+◌, ◌<◌, Bool, true, false, cond, not, ◌&&◌, ◌==◌, List, length, take, get_or, Option, Some, None, inl, inr, refl, sym, ap, ◌∙◌, arith, length-take}
use Rattle.std.specs.List.{position}
use Rattle.std.proofs.lemmas.Bool.{cases_Bool, false≢true}
use Rattle.std.proofs.lemmas.Bool.Decides.{Decides-eqb, nat_tests}
use Rattle.std.proofs.lemmas.List.{get_or-take}
use Rattle.std.proofs.lemmas.List.Quantifiers.{position-Some}
use Rattle.vb_index.specs.declared.held.Held.{Held}
use Rattle.vb_index.specs.Nodes.{held_at, same_name, is_child, child_of, IsTable}
use Rattle.vb_index.proofs.ChildLaws.{is_child-parts, child-unique}
use Rattle.vb_index.proofs.Positions.{position-at, position-nowhere, position-None}
use Rattle.vb_index.proofs.Tables.{own_places}

-- the first place that passes, in a list that is one item longer
position-more : {X : Type 0} (p : X → Bool) (xs : List X) (k : ℕ) (d : X) → k < length xs → (p (get_or xs k d) ≡ true → (j : ℕ) → j < k → p (get_or xs j d) ≡ false) → position p (take (k + 1) xs) ≡ cond (p (get_or xs k d)) (Some k) (position p (take k xs))
position-more p xs k d l only = elim (cases_Bool (p (get_or xs k d))) [
  | inl h ↦ position-at p (take (k + 1) xs) k d (omega (arith, length-take (k + 1) xs)) (ap p (get_or-take (k + 1) xs k d (omega arith)) ∙ h) (λ j below. ap p (get_or-take (k + 1) xs j d (omega arith)) ∙ only h j below) ∙ sym (ap (λ v. cond v (Some k) (position p (take k xs))) h)
  | inr h ↦ by h (position p (take k xs)) refl ∙ sym (ap (λ v. cond v (Some k) (position p (take k xs))) h)
] where
  by : p (get_or xs k d) ≡ false → (o : Option ℕ) → position p (take k xs) ≡ o → position p (take (k + 1) xs) ≡ position p (take k xs)
  by h None e = position-nowhere p (take (k + 1) xs) d (λ j below. ap p (get_or-take (k + 1) xs j d (omega (arith, length-take (k + 1) xs))) ∙ (elim (cases_Bool (j == k)) [
    | inl is ↦ ap (λ i. p (get_or xs i d)) ((Decides-eqb j k).0 is) ∙ h
    | inr is ↦ (let less : j < k = (let some : j < k + 1 = omega (arith, length-take (k + 1) xs) in grind (arith, nat_tests)) in
        sym (ap p (get_or-take k xs j d less)) ∙ position-None p (take k xs) j d e (omega (arith, length-take k xs)))
  ])) ∙ sym e
  by h (Some i) e =
      let at = position-Some p (take k xs) i d e in
      let less : i < k = omega (arith, at.0, length-take k xs) in
      position-at p (take (k + 1) xs) i d (omega (arith, length-take (k + 1) xs)) (ap p (get_or-take (k + 1) xs i d (omega arith) ∙ sym (get_or-take k xs i d less)) ∙ at.1)
      (λ j below. ap p (get_or-take (k + 1) xs j d (omega arith) ∙ sym (get_or-take k xs j d (omega arith))) ∙ at.2 j below) ∙ sym e

-- a slot more: the child of that name is the new one where the test holds of it
pub child_of-more : (nodes : List (Option Held)) (k parent : ℕ) (name : List ℕ) → IsTable nodes → k < length nodes → 0 < k → child_of (take (k + 1) nodes) parent name ≡ cond (is_child parent name (held_at nodes k)) (Some k) (child_of (take k nodes) parent name)
unfolding child_of
child_of-more nodes k parent name table l up = position-more (is_child parent name) nodes k None l only where
  only : is_child parent name (held_at nodes k) ≡ true → (j : ℕ) → j < k → is_child parent name (held_at nodes j) ≡ false
  only h j below = elim (cases_Bool (is_child parent name (held_at nodes j))) [
    | inr g ↦ g
    | inl g ↦ absurd (let same = child-unique nodes (own_places nodes table) parent name j k (mine (held_at nodes k) refl) g in omega arith)
  ] where
    mine : (o : Option Held) → held_at nodes k ≡ o → child_of nodes parent name ≡ Some k
    mine None e = absurd (false≢true (sym (ap (is_child parent name) e) ∙ h))
    mine (Some held) e =
        let parts = is_child-parts parent name held (sym (ap (is_child parent name) e) ∙ h) in
        ap (λ n. child_of nodes parent n) (sym parts.2) ∙ ap (λ p. child_of nodes p held.node.name) (sym parts.1) ∙ table.one_name k held e up

-- the root alone is no child
pub child_of-first : (nodes : List (Option Held)) (parent : ℕ) (name : List ℕ) → IsTable nodes → child_of (take 1 nodes) parent name ≡ None
unfolding child_of
child_of-first nodes parent name table = position-nowhere (is_child parent name) (take 1 nodes) None (λ j below.
    let zero : j ≡ 0 = omega (arith, length-take 1 nodes) in
    ap (is_child parent name) (get_or-take 1 nodes j None (omega arith) ∙ ap (held_at nodes) zero) ∙ root (held_at nodes 0) refl)
  where
    root : (o : Option Held) → held_at nodes 0 ≡ o → is_child parent name (held_at nodes 0) ≡ false
    root None e = ap (is_child parent name) e
    root (Some held) e = ap (is_child parent name) e ∙ ap (λ s. not (s == 0) && (held.node.parent == parent && same_name held.node.name name)) (table.fits 0 held e).at_slot

-- a slot more that holds a node
pub child_of-more_held : (nodes : List (Option Held)) (k parent : ℕ) (name : List ℕ) (held : Held) → IsTable nodes → held_at nodes k ≡ Some held → k < length nodes → 0 < k → child_of (take (k + 1) nodes) parent name ≡ cond (held.node.parent == parent && same_name held.node.name name) (Some k) (child_of (take k nodes) parent name)
child_of-more_held nodes k parent name held table e l up =
    child_of-more nodes k parent name table l up
    ∙ ap (λ o. cond (is_child parent name o) (Some k) (child_of (take k nodes) parent name)) e
    ∙ ap (λ v. cond (v && (held.node.parent == parent && same_name held.node.name name)) (Some k) (child_of (take k nodes) parent name)) above
  where
    above : not (held.node.slot == 0) ≡ true
    above = elim (cases_Bool (held.node.slot == 0)) [ inr h ↦ ap not h | inl h ↦ absurd (let zero = (Decides-eqb held.node.slot 0).0 h in omega (arith, zero, (table.fits k held e).at_slot)) ]

-- a slot more that is free
pub child_of-more_free : (nodes : List (Option Held)) (k parent : ℕ) (name : List ℕ) → IsTable nodes → held_at nodes k ≡ None → k < length nodes → 0 < k → child_of (take (k + 1) nodes) parent name ≡ child_of (take k nodes) parent name
child_of-more_free nodes k parent name table e l up =
    child_of-more nodes k parent name table l up
    ∙ ap (λ o. cond (is_child parent name o) (Some k) (child_of (take k nodes) parent name)) e

-- what is no node is nothing
pub none_if : (o : Option Held) → ((one : Held) → o ≡ Some one → ⊥) → o ≡ None
none_if None h = refl
none_if (Some one) h = absurd (h one refl)
