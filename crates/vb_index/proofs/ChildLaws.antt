-- Which slot is the child of which, after a slot was filled or emptied.
use Rattle.std.proofs.Common.{◌≡◌, ℕ, ◌<◌, true, false, cond, not, ◌&&◌, ◌==◌, List, length, set, Option, Some, None, inl, inr, refl, sym, ap, ◌∙◌, arith}
use Rattle.std.specs.Bool.{Decides}
use Rattle.std.proofs.lemmas.Bool.{cases_Bool, and_parts, false≢true}
use Rattle.std.proofs.lemmas.Bool.Decides.{Decides-eqb, nat_tests}
use Rattle.std.proofs.lemmas.List.{length-set, get_or-set_same, get_or-set_other}
use Rattle.std.proofs.lemmas.List.Quantifiers.{position-Some}
use Rattle.std.proofs.lemmas.Map.Text.{is_eq-slice_cmp}
use Rattle.std.proofs.lemmas.Slice.Eq.{bytes_eq-Decides}
use Rattle.vb_index.specs.declared.held.Held.{Held}
use Rattle.vb_index.specs.Nodes.{held_at, same_name, is_child, child_of}
use Rattle.vb_index.proofs.Positions.{position-at, position-nowhere, position-None, position-set}

-- two names are one exactly where they are equal
pub same_name-Decides : (a b : List ℕ) → Decides (same_name a b) (a ≡ b)
same_name-Decides a b = ((λ h. (bytes_eq-Decides a b).0 (sym (is_eq-slice_cmp a b) ∙ h)), (λ h. is_eq-slice_cmp a b ∙ (bytes_eq-Decides a b).1 h))

-- what the test of a child says
pub is_child-parts : (parent : ℕ) (name : List ℕ) (held : Held) → is_child parent name (Some held) ≡ true → (0 < held.node.slot) × (held.node.parent ≡ parent) × (held.node.name ≡ name)
is_child-parts parent name held h =
    let both = and_parts (not (held.node.slot == 0)) (held.node.parent == parent && same_name held.node.name name) h in
    let pair = and_parts (held.node.parent == parent) (same_name held.node.name name) both.1 in
    let first : not (held.node.slot == 0) ≡ true = both.0 in
    (grind (arith, nat_tests), (Decides-eqb held.node.parent parent).0 pair.0, (same_name-Decides held.node.name name).0 pair.1)

-- a node other than the root is the child of its name in its folder
pub is_child-own : (held : Held) → 0 < held.node.slot → is_child held.node.parent held.node.name (Some held) ≡ true
is_child-own held h =
    let a : not (held.node.slot == 0) ≡ true = grind (arith, nat_tests) in
    let b : (held.node.parent == held.node.parent) ≡ true = (Decides-eqb held.node.parent held.node.parent).1 refl in
    let c : same_name held.node.name held.node.name ≡ true = (same_name-Decides held.node.name held.node.name).1 refl in
    ap (λ v. v && (held.node.parent == held.node.parent && same_name held.node.name held.node.name)) a
    ∙ ap (λ v. v && same_name held.node.name held.node.name) b ∙ c

-- what is found is there
pub child_of-Some : (nodes : List (Option Held)) (parent : ℕ) (name : List ℕ) (slot : ℕ) → child_of nodes parent name ≡ Some slot → (slot < length nodes) × (is_child parent name (held_at nodes slot) ≡ true)
unfolding child_of
child_of-Some nodes parent name slot h =
    let at = position-Some (is_child parent name) nodes slot None h in
    (at.0, at.1)

-- where nothing is found, nothing is there
pub child_of-None : (nodes : List (Option Held)) (parent : ℕ) (name : List ℕ) (slot : ℕ) → child_of nodes parent name ≡ None → slot < length nodes → is_child parent name (held_at nodes slot) ≡ false
unfolding child_of
child_of-None nodes parent name slot h l = position-None (is_child parent name) nodes slot None h l

-- a slot changes in nothing that the test of a child reads
pub child_of-same : (nodes : List (Option Held)) (slot : ℕ) (new : Option Held) (parent : ℕ) (name : List ℕ) → is_child parent name new ≡ is_child parent name (held_at nodes slot) → child_of (set nodes slot new) parent name ≡ child_of nodes parent name
unfolding child_of
child_of-same nodes slot new parent name h = position-set (is_child parent name) nodes slot new None h

-- a slot gets the only child of a name
pub child_of-new : (nodes : List (Option Held)) (slot : ℕ) (new : Option Held) (parent : ℕ) (name : List ℕ) → slot < length nodes → is_child parent name new ≡ true → child_of nodes parent name ≡ None → child_of (set nodes slot new) parent name ≡ Some slot
unfolding child_of
child_of-new nodes slot new parent name l t none =
    position-at (is_child parent name) (set nodes slot new) slot None
    (rw length-set l)
    (ap (is_child parent name) (get_or-set_same nodes slot new None l) ∙ t)
    (λ k below. ap (is_child parent name) (get_or-set_other nodes slot k new None (λ e. absurd (omega arith))) ∙ position-None (is_child parent name) nodes k None none (omega arith))

-- a slot loses the only child of a name
pub child_of-gone : (nodes : List (Option Held)) (slot parent : ℕ) (name : List ℕ) → slot < length nodes → ((k : ℕ) → k < length nodes → is_child parent name (held_at nodes k) ≡ true → k ≡ slot) → child_of (set nodes slot None) parent name ≡ None
unfolding child_of
child_of-gone nodes slot parent name l only =
    position-nowhere (is_child parent name) (set nodes slot None) None (λ k below.
    elim (cases_Bool (is_child parent name (held_at (set nodes slot None) k))) [
      | inr h ↦ h
      | inl h ↦ absurd (here k (rw length-set at below) h)
    ])
  where
    here : (k : ℕ) → k < length nodes → is_child parent name (held_at (set nodes slot None) k) ≡ true → ⊥
    here k below h = elim (cases_Bool (k == slot)) [
      | inl e ↦ (let is : k ≡ slot = (Decides-eqb k slot).0 e in
          false≢true (sym (ap (is_child parent name) (ap (λ j. held_at (set nodes slot None) j) is ∙ get_or-set_same nodes slot None None l)) ∙ h))
      | inr e ↦ (let apart : k ≡ slot → ⊥ = λ is. false≢true (sym e ∙ (Decides-eqb k slot).1 is) in
          apart (only k below (sym (ap (is_child parent name) (get_or-set_other nodes slot k None None apart)) ∙ h)))
    ]

-- a free slot is filled: the child of that name in that folder stands there, and no other changes
pub child_of-fill : (nodes : List (Option Held)) (slot : ℕ) (held : Held) → slot < length nodes → held_at nodes slot ≡ None → child_of nodes held.node.parent held.node.name ≡ None → (parent : ℕ) (name : List ℕ) → child_of (set nodes slot (Some held)) parent name ≡ cond (is_child parent name (Some held)) (Some slot) (child_of nodes parent name)
child_of-fill nodes slot held l free none parent name =
    elim (cases_Bool (is_child parent name (Some held))) [
      | inl h ↦ (let parts = is_child-parts parent name held h in
          let nothing : child_of nodes parent name ≡ None = ap (λ n. child_of nodes parent n) (sym parts.2) ∙ ap (λ p. child_of nodes p held.node.name) (sym parts.1) ∙ none in
          child_of-new nodes slot (Some held) parent name l h nothing ∙ sym (ap (λ v. cond v (Some slot) (child_of nodes parent name)) h))
      | inr h ↦ child_of-same nodes slot (Some held) parent name (h ∙ sym (ap (is_child parent name) free)) ∙ sym (ap (λ v. cond v (Some slot) (child_of nodes parent name)) h)
    ]

-- of two nodes with one name in one folder, the first is the second
pub child-unique : (nodes : List (Option Held)) → ((k : ℕ) (one : Held) → held_at nodes k ≡ Some one → (one.node.slot ≡ k) × (0 < k → child_of nodes one.node.parent one.node.name ≡ Some k)) → (parent : ℕ) (name : List ℕ) (k slot : ℕ) → child_of nodes parent name ≡ Some slot → is_child parent name (held_at nodes k) ≡ true → k ≡ slot
child-unique nodes facts parent name k slot found test = by (held_at nodes k) refl where
  by : (o : Option Held) → held_at nodes k ≡ o → k ≡ slot
  by None e = absurd (false≢true (sym (ap (is_child parent name) e) ∙ test))
  by (Some one) e =
      let parts = is_child-parts parent name one (sym (ap (is_child parent name) e) ∙ test) in
      let own = facts k one e in
      let there : child_of nodes one.node.parent one.node.name ≡ Some k = own.1 (omega (arith, own.0)) in
      let here : child_of nodes one.node.parent one.node.name ≡ Some slot = ap (λ n. child_of nodes one.node.parent n) parts.2 ∙ ap (λ p. child_of nodes p name) parts.1 ∙ found in
      let both : Some k ≡ Some slot = sym there ∙ here in
      cc

-- a slot is emptied: the child of that name is gone, and no other changes
pub child_of-empty : (nodes : List (Option Held)) (slot : ℕ) (held : Held) → slot < length nodes → held_at nodes slot ≡ Some held → 0 < slot → ((k : ℕ) (one : Held) → held_at nodes k ≡ Some one → (one.node.slot ≡ k) × (0 < k → child_of nodes one.node.parent one.node.name ≡ Some k)) → (parent : ℕ) (name : List ℕ) → child_of (set nodes slot None) parent name ≡ cond (is_child parent name (Some held)) None (child_of nodes parent name)
child_of-empty nodes slot held l there above facts parent name =
    elim (cases_Bool (is_child parent name (Some held))) [
      | inl h ↦ (let parts = is_child-parts parent name held h in
          let found : child_of nodes parent name ≡ Some slot = ap (λ n. child_of nodes parent n) (sym parts.2) ∙ ap (λ p. child_of nodes p held.node.name) (sym parts.1) ∙ (facts slot held there).1 above in
          child_of-gone nodes slot parent name l (λ k below t. child-unique nodes facts parent name k slot found t) ∙ sym (ap (λ v. cond v None (child_of nodes parent name)) h))
      | inr h ↦ child_of-same nodes slot None parent name (sym (ap (is_child parent name) there ∙ h)) ∙ sym (ap (λ v. cond v None (child_of nodes parent name)) h)
    ]
