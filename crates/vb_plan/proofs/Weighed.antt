-- What all slots weigh together is what the nodes of the list weigh.
use Rattle.std.proofs.Common.{◌≡◌, ◌≢◌, ℕ, zero, suc, ◌+◌, ◌<◌, ◌≤◌, ◌==◌, true, List, [], ◌∷◌, length, get_or, set, replicate, All, Option, None, Some, refl, sym, ap, ◌∙◌, arith}
use Rattle.std.specs.Prelude.{count_by}
use Rattle.std.specs.List.{range_with_len, sum_by}
use Rattle.std.proofs.lemmas.Bool.{false≢true}
use Rattle.std.proofs.lemmas.Bool.Decides.{Decides-eqb}
use Rattle.std.proofs.lemmas.List.{get_or-set_other, length-set, length-replicate}
use Rattle.std.proofs.lemmas.List.Sums.{sum_by-cons, sum_by-set}
use Rattle.vb_index.specs.declared.held.Held.{Held}
use Rattle.vb_index.specs.Nodes.{held_at}
use Rattle.vb_plan.specs.Plans.{by_slot, with_held}
use Rattle.vb_plan.proofs.Listed.{count-cons, has_slot, if-yes, none-passes}

-- each is in a slot of its own
abbrev pub AreInOwn : List Held → Type 0
AreInOwn held = (slot : ℕ) → count_by (has_slot slot) held ≤ 1

pub own-tail : (h : Held) (held : List Held) → AreInOwn (h ∷ held) → AreInOwn held
own-tail h held own slot = omega (arith, own slot, count-cons (has_slot slot) h held)

-- the others are in other slots
pub others-apart : (h : Held) (held : List Held) → AreInOwn (h ∷ held) → All (λ o. o.node.slot ≢ h.node.slot) held
others-apart h held own k d within =
    let mine : has_slot h.node.slot h ≡ true = (Decides-eqb h.node.slot h.node.slot).1 refl in
    let none : count_by (has_slot h.node.slot) held ≡ 0 = omega (arith, own h.node.slot, count-cons (has_slot h.node.slot) h held, if-yes (has_slot h.node.slot) h mine) in
    λ same. false≢true (sym (none-passes (has_slot h.node.slot) held k d none within) ∙ (Decides-eqb (get_or held k d).node.slot h.node.slot).1 same)

-- nodes that are put into free slots of their own add what they weigh
pub put-weighs : (weight : Option Held → ℕ) → weight None ≡ 0 → (slots : List (Option Held)) (held : List Held) → AreInOwn held → All (λ h. held_at slots h.node.slot ≡ None) held → All (λ h. h.node.slot < length slots) held → sum_by weight (with_held slots held) ≡ sum_by weight slots + sum_by (λ h. weight (Some h)) held
put-weighs weight none slots [] own free below = omega arith
put-weighs weight none slots (h ∷ held) own free below =
    let rest = set slots h.node.slot (Some h) in
    let apart = others-apart h held own in
    let still : All (λ o. held_at rest o.node.slot ≡ None) held = λ k d within.
    get_or-set_other slots h.node.slot (get_or held k d).node.slot (Some h) None (apart k d within) ∙ free (suc k) d (omega arith) in
    let within : All (λ o. o.node.slot < length rest) held = λ k d lt. (let b = below (suc k) d (omega arith) in omega (arith, b, length-set slots h.node.slot (Some h))) in
    let one = sum_by-set weight slots h.node.slot (Some h) None (below 0 h (omega arith)) in
    let was : weight (held_at slots h.node.slot) ≡ 0 = ap weight (free 0 h (omega arith)) ∙ none in
    omega (arith, put-weighs weight none rest held (own-tail h held own) still within, one, was, sum_by-cons (λ (h : Held). weight (Some h)) h held)

-- so an empty table weighs what they do
pub all-weigh : (weight : Option Held → ℕ) → weight None ≡ 0 → (slots : ℕ) (held : List Held) → AreInOwn held → All (λ h. h.node.slot < slots) held → sum_by weight (by_slot slots held) ≡ sum_by (λ h. weight (Some h)) held
all-weigh weight none slots held own below =
    let empty : length (replicate slots (let o : Option Held = None in o)) ≡ slots = length-replicate slots (let o : Option Held = None in o) in
    let weighed = put-weighs weight none (replicate slots None) held own (λ k d within. no_node slots (get_or held k d).node.slot) (λ k d within. (let b = below k d within in omega (arith, b, empty))) in
    omega (arith, weighed, no_weight slots)
  where
    no_node : (n k : ℕ) → held_at (replicate n None) k ≡ None
    no_node zero k = refl
    no_node (suc n) zero = refl
    no_node (suc n) (suc k) = no_node n k

    no_weight : (n : ℕ) → sum_by weight (replicate n None) ≡ 0
    no_weight zero = refl
    no_weight (suc n) = omega (arith, sum_by-cons weight None (replicate n None), none, no_weight n)

sum-same : {X : Type 0} (f g : X → ℕ) (xs : List X) → ((k : ℕ) (d : X) → k < length xs → f (get_or xs k d) ≡ g (get_or xs k d)) → sum_by f xs ≡ sum_by g xs
sum-same f g [] each = refl
sum-same f g (x ∷ xs) each = omega (arith, sum_by-cons f x xs, sum_by-cons g x xs, each 0 x (omega arith), sum-same f g xs (λ k d within. each (suc k) d (omega arith)))

-- slots of a table, each once, weigh at most what the table does
pub some-weigh : {X : Type 0} (slot_of : X → ℕ) (weight : Option Held → ℕ) → weight None ≡ 0 → (slots : List (Option Held)) (xs : List X) → ((slot : ℕ) → count_by (λ x. slot_of x == slot) xs ≤ 1) → All (λ x. slot_of x < length slots) xs → sum_by (λ x. weight (held_at slots (slot_of x))) xs ≤ sum_by weight slots
some-weigh slot_of weight none slots [] own below = omega arith
some-weigh {X} slot_of weight none slots (x ∷ xs) own below =
    let s = slot_of x in
    let rest = set slots s None in
    let mine : (slot_of x == s) ≡ true = (Decides-eqb s s).1 refl in
    let no_other : count_by (λ y. slot_of y == s) xs ≡ 0 = omega (arith, own s, count-cons (λ (y : X). slot_of y == s) x xs, if-yes (λ (y : X). slot_of y == s) x mine) in
    let tail : (slot : ℕ) → count_by (λ y. slot_of y == slot) xs ≤ 1 = λ slot. omega (arith, own slot, count-cons (λ (y : X). slot_of y == slot) x xs) in
    let within : All (λ y. slot_of y < length rest) xs = λ k d lt. (let b = below (suc k) d (omega arith) in omega (arith, b, length-set slots s None)) in
    let later = some-weigh slot_of weight none rest xs tail within in
    let one = sum_by-set weight slots s None None (below 0 x (omega arith)) in
    let same : sum_by (λ y. weight (held_at rest (slot_of y))) xs ≡ sum_by (λ y. weight (held_at slots (slot_of y))) xs =
    sum-same (λ y. weight (held_at (set slots (slot_of x) None) (slot_of y))) (λ y. weight (held_at slots (slot_of y))) xs (λ k d lt.
    ap weight (get_or-set_other slots (slot_of x) (slot_of (get_or xs k d)) None None
    (λ e. false≢true (sym (none-passes (λ y. slot_of y == slot_of x) xs k d no_other lt) ∙ (Decides-eqb (slot_of (get_or xs k d)) (slot_of x)).1 e)))) in
    omega (arith, later, same, one, none, sum_by-cons (λ (y : X). weight (held_at slots (slot_of y))) x xs)

-- a table read slot by slot weighs what it does
pub read-weighs : (weight : Option Held → ℕ) (slots : List (Option Held)) → sum_by (λ slot. weight (held_at slots slot)) (range_with_len 0 (length slots)) ≡ sum_by weight slots
read-weighs weight slots = from 0 slots slots (λ k. ap (held_at slots) (omega arith)) where
  from : (first : ℕ) (all rest : List (Option Held)) → ((k : ℕ) → held_at all (first + k) ≡ held_at rest k) → sum_by (λ slot. weight (held_at all slot)) (range_with_len first (length rest)) ≡ sum_by weight rest
  from first all [] same = refl
  from first all (o ∷ rest) same =
      let here : weight (held_at all first) ≡ weight o = ap (λ (k : ℕ). weight (held_at all k)) (omega arith) ∙ ap weight (same 0) in
      let more : (k : ℕ) → held_at all (first + 1 + k) ≡ held_at rest k = λ k. ap (held_at all) (omega arith) ∙ same (suc k) in
      omega (arith, sum_by-cons (λ (slot : ℕ). weight (held_at all slot)) first (range_with_len (first + 1) (length rest)), here, from (first + 1) all rest more, sum_by-cons weight o rest)
