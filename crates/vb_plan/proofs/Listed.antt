-- What stands in a slot after a commit is what the list of all nodes has for it.
use Rattle.std.proofs.Common.{◌≡◌, ◌≢◌, ℕ, zero, suc, ◌+◌, ◌<◌, ◌≤◌, ◌==◌, Bool, true, false, cond, List, [], ◌∷◌, length, get_or, set, replicate, Option, None, Some, inl, inr, refl, sym, ap, ◌∙◌, arith}
use Rattle.std.specs.Prelude.{count_by, Contains}
use Rattle.std.specs.List.{find}
use Rattle.std.specs.Option.{option_map, option_or}
use Rattle.std.proofs.lemmas.Bool.{cases_Bool, eqb-true, false≢true}
use Rattle.std.proofs.lemmas.Bool.Decides.{Decides-eqb}
use Rattle.std.proofs.lemmas.Grind.{get_or-set_at}
use Rattle.std.proofs.lemmas.List.{get_or-set_other, length-set, length-replicate}
use Rattle.std.proofs.lemmas.List.Sums.{sum_by-cons}
use Rattle.vb_index.specs.declared.held.Held.{Held}
use Rattle.vb_index.specs.Nodes.{held_at}
use Rattle.vb_inode.specs.declared.node.Node.{Node}
use Rattle.vb_inode.specs.declared.next_view.NextNode.{NextNode}
use Rattle.vb_plan.specs.Following.{node_of_slot}
use Rattle.vb_plan.specs.Laws.{slots_next}
use Rattle.vb_plan.specs.Plans.{Basis, all_held, by_slot, held_next, node_at, node_in, taken_by, with_held}
use Rattle.vb_plan.proofs.Bare.{bare}

-- ---- how many pass a test

-- 1 for one that passes
abbrev pub one_for : {X : Type 0} → (X → Bool) → X → ℕ
one_for p x = cond (p x) 1 0

pub count-cons : {X : Type 0} (p : X → Bool) (x : X) (xs : List X) → count_by p (x ∷ xs) ≡ one_for p x + count_by p xs
count-cons p x xs = sum_by-cons (one_for p) x xs

pub if-yes : {X : Type 0} (p : X → Bool) (x : X) → p x ≡ true → one_for p x ≡ 1
if-yes p x e = ap (λ (b : Bool). cond b 1 0) e

pub if-no : {X : Type 0} (p : X → Bool) (x : X) → p x ≡ false → one_for p x ≡ 0
if-no p x e = ap (λ (b : Bool). cond b 1 0) e

-- what is found among some, by whether the first passes
pub found-first : {X : Type 0} (p : X → Bool) (x : X) (xs : List X) → p x ≡ true → find p (x ∷ xs) ≡ Some x
found-first p x xs e = ap (λ (b : Bool). cond b (Some x) (find p xs)) e

pub found-later : {X : Type 0} (p : X → Bool) (x : X) (xs : List X) → p x ≡ false → find p (x ∷ xs) ≡ find p xs
found-later p x xs e = ap (λ (b : Bool). cond b (Some x) (find p xs)) e

-- where none passes, the first fails
first-fails : {X : Type 0} (p : X → Bool) (x : X) (xs : List X) → count_by p (x ∷ xs) ≡ 0 → p x ≡ false
first-fails p x xs none = elim (cases_Bool (p x)) [
  | inl e ↦ absurd (omega (arith, none, count-cons p x xs, if-yes p x e))
  | inr e ↦ e
]

-- and none is found
pub none-found : {X : Type 0} (p : X → Bool) (xs : List X) → count_by p xs ≡ 0 → find p xs ≡ None
none-found p [] none = refl
none-found p (x ∷ xs) none = found-later p x xs (first-fails p x xs none) ∙ none-found p xs (omega (arith, none, count-cons p x xs))

-- and each fails
pub none-passes : {X : Type 0} (p : X → Bool) (xs : List X) (k : ℕ) (d : X) → count_by p xs ≡ 0 → k < length xs → p (get_or xs k d) ≡ false
none-passes p [] k d none within = absurd (omega arith)
none-passes p (x ∷ xs) zero d none within = first-fails p x xs none
none-passes p (x ∷ xs) (suc k) d none within = none-passes p xs k d (omega (arith, none, count-cons p x xs)) (omega arith)

pub same-some : {X : Type 0} (x y : X) → Some x ≡ Some y → x ≡ y
same-some x y e = cc

-- what is found passes
pub found-passes : {X : Type 0} (p : X → Bool) (xs : List X) (y : X) → find p xs ≡ Some y → p y ≡ true
found-passes p [] y e = absurd (cc)
found-passes p (x ∷ xs) y e = elim (cases_Bool (p x)) [
  | inl t ↦ sym (ap p (same-some x y (sym (found-first p x xs t) ∙ e))) ∙ t
  | inr t ↦ found-passes p xs y (sym (found-later p x xs t) ∙ e)
]

-- what is found is in the list
pub found-in : {X : Type 0} (p : X → Bool) (xs : List X) (y : X) → find p xs ≡ Some y → Contains xs y
found-in p [] y e = absurd (cc)
found-in p (x ∷ xs) y e = elim (cases_Bool (p x)) [
  | inl t ↦ (0, omega arith, same-some x y (sym (found-first p x xs t) ∙ e))
  | inr t ↦ (
      let later = found-in p xs y (sym (found-later p x xs t) ∙ e) in
      (suc later.0, omega (arith, later.1), later.2))
]

-- the only one that passes is found
pub only-found : {X : Type 0} (p : X → Bool) (xs : List X) (k : ℕ) (d : X) → count_by p xs ≤ 1 → k < length xs → p (get_or xs k d) ≡ true → find p xs ≡ Some (get_or xs k d)
only-found p [] k d few within passes = absurd (omega arith)
only-found p (x ∷ xs) zero d few within passes = found-first p x xs passes
only-found p (x ∷ xs) (suc k) d few within passes = elim (cases_Bool (p x)) [
  | inl e ↦ absurd (false≢true (sym (none-passes p xs k d (omega (arith, few, count-cons p x xs, if-yes p x e)) (omega arith)) ∙ passes))
  | inr e ↦ found-later p x xs e ∙ only-found p xs k d (omega (arith, few, count-cons p x xs)) (omega arith) passes
]

-- ---- nodes by slot

-- whether a node that is held has a slot
abbrev pub has_slot : ℕ → Held → Bool
has_slot slot h = h.node.slot == slot

-- so many are in each slot as in the list
pub slots-kept : (basis : Basis) (taken slot : ℕ) (next : List NextNode) → count_by (has_slot slot) (all_held basis taken next) ≡ count_by (λ x. x.node.slot == slot) next
slots-kept basis taken slot [] = refl
slots-kept basis taken slot (x ∷ next) =
    omega (arith, count-cons (has_slot slot) (held_next basis taken x) (all_held basis (taken_by basis taken x) next), count-cons (λ (x : NextNode). x.node.slot == slot) x next, slots-kept basis (taken_by basis taken x) slot next)

-- each slot holds the node of its own, or else what it held before
held_found : (slots : List (Option Held)) (held : List Held) (k : ℕ) → k < length slots → count_by (has_slot k) held ≤ 1 → held_at (with_held slots held) k ≡ option_or (find (has_slot k) held) (held_at slots k)
held_found slots [] k within few = refl
held_found slots (h ∷ held) k within few =
    let rest = set slots h.node.slot (Some h) in
    let more : k < length rest = omega (arith, length-set slots h.node.slot (Some h), within) in
    elim (cases_Bool (has_slot k h)) [
      | inl e ↦ (
          let at : h.node.slot ≡ k = eqb-true h.node.slot k e in
          let others : count_by (has_slot k) held ≡ 0 = omega (arith, few, count-cons (has_slot k) h held, if-yes (has_slot k) h e) in
          held_found rest held k more (omega (arith, others))
          ∙ ap (λ (o : Option Held). option_or o (held_at (set slots h.node.slot (Some h)) k)) (none-found (has_slot k) held others)
          ∙ get_or-set_at slots h.node.slot k (Some h) None (sym at) (omega (arith, at, within))
          ∙ sym (ap (λ (o : Option Held). option_or o (held_at slots k)) (found-first (has_slot k) h held e)))
      | inr e ↦ (
          let apart : k ≢ h.node.slot = λ same. false≢true (sym e ∙ (Decides-eqb h.node.slot k).1 (sym same)) in
          held_found rest held k more (omega (arith, few, count-cons (has_slot k) h held))
          ∙ ap (option_or (find (has_slot k) held)) (get_or-set_other slots h.node.slot k (Some h) None apart)
          ∙ sym (ap (λ (o : Option Held). option_or o (held_at slots k)) (found-later (has_slot k) h held e)))
    ]

-- in an empty table each slot then holds the node of its own
pub by_slot-found : (slots : ℕ) (held : List Held) (k : ℕ) → k < slots → count_by (has_slot k) held ≤ 1 → held_at (by_slot slots held) k ≡ find (has_slot k) held
by_slot-found slots held k within few =
    held_found (replicate slots None) held k (omega (arith, length-replicate slots (let none : Option Held = None in none), within)) few
    ∙ or_none (find (has_slot k) held) (held_at (replicate slots None) k) (none_there slots k)
  where
    none_there : (n k : ℕ) → held_at (replicate n None) k ≡ None
    none_there zero k = refl
    none_there (suc n) zero = refl
    none_there (suc n) (suc k) = none_there n k

    or_none : (o rest : Option Held) → rest ≡ None → option_or o rest ≡ o
    or_none None rest e = e
    or_none (Some h) rest e = refl

-- what is found of the nodes that are held next is found of the list, but for its map references
found_bare : (basis : Basis) (taken slot : ℕ) (next : List NextNode) → option_map (λ h. bare h.node) (find (has_slot slot) (all_held basis taken next)) ≡ option_map (λ x. bare x.node) (find (λ x. x.node.slot == slot) next)
found_bare basis taken slot [] = refl
found_bare basis taken slot (x ∷ next) =
    either (x.node.slot == slot) (held_next basis taken x) x (find (has_slot slot) (all_held basis (taken_by basis taken x) next)) (find (λ x. x.node.slot == slot) next) refl (found_bare basis (taken_by basis taken x) slot next)
  where
    either : (b : Bool) (h : Held) (x : NextNode) (o : Option Held) (p : Option NextNode) → bare h.node ≡ bare x.node → option_map (λ (h : Held). bare h.node) o ≡ option_map (λ (x : NextNode). bare x.node) p → option_map (λ (h : Held). bare h.node) (cond b (Some h) o) ≡ option_map (λ (x : NextNode). bare x.node) (cond b (Some x) p)
    either true h x o p here later = ap (λ (n : Node). Some n) here
    either false h x o p here later = later

held-to-node : (o : Option Held) → option_map bare (option_map (λ (h : Held). h.node) o) ≡ option_map (λ (h : Held). bare h.node) o
held-to-node None = refl
held-to-node (Some h) = refl

next-to-node : (o : Option NextNode) → option_map bare (option_map (λ (x : NextNode). x.node) o) ≡ option_map (λ (x : NextNode). bare x.node) o
next-to-node None = refl
next-to-node (Some x) = refl

bare-in : (slot : ℕ) (o : Option Node) → bare (node_in slot o) ≡ node_in slot (option_map bare o)
bare-in slot None = refl
bare-in slot (Some node) = refl

-- each slot has the node of the list next, but for its map references
pub same_but_maps : (basis : Basis) (next : List NextNode) (slot : ℕ) → slot < length basis.nodes → count_by (λ x. x.node.slot == slot) next ≤ 1 → bare (node_in slot (node_at (slots_next basis next) slot)) ≡ bare (node_in slot (node_of_slot next slot))
same_but_maps basis next slot within few =
    let held = all_held basis 0 next in
    let one : count_by (has_slot slot) held ≤ 1 = omega (arith, few, slots-kept basis 0 slot next) in
    bare-in slot (node_at (slots_next basis next) slot)
    ∙ ap (node_in slot) (held-to-node (held_at (slots_next basis next) slot))
    ∙ ap (λ (o : Option Held). node_in slot (option_map (λ (h : Held). bare h.node) o)) (by_slot-found (length basis.nodes) held slot within one)
    ∙ ap (node_in slot) (found_bare basis 0 slot next)
    ∙ ap (node_in slot) (sym (next-to-node (find (λ x. x.node.slot == slot) next)))
    ∙ sym (bare-in slot (node_of_slot next slot))

-- what is in a slot has that slot
pub in_own_slot : (basis : Basis) (next : List NextNode) (slot : ℕ) → slot < length basis.nodes → count_by (λ x. x.node.slot == slot) next ≤ 1 → (node_in slot (node_at (slots_next basis next) slot)).slot ≡ slot
in_own_slot basis next slot within few =
    ap (λ (n : Node). n.slot) (same_but_maps basis next slot within few) ∙ own (find (λ x. x.node.slot == slot) next) refl
  where
    own : (o : Option NextNode) → find (λ x. x.node.slot == slot) next ≡ o → (node_in slot (option_map (λ (x : NextNode). x.node) o)).slot ≡ slot
    own None e = refl
    own (Some x) e = eqb-true x.node.slot slot (found-passes (λ (x : NextNode). x.node.slot == slot) next x e)
