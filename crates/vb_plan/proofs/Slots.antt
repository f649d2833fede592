-- What each slot holds, as a table and as a list of all nodes.
use Rattle.std.proofs.Common.{◌≡◌, ℕ, zero, suc, ◌+◌, ◌<◌, ◌≤◌, List, [], ◌∷◌, length, get_or, set, drop, map, replicate, All, ◌⊎◌, inl, inr, subst, Option, None, Some, refl, sym, ap, ◌∙◌, arith}
use Rattle.std.proofs.lemmas.List.{drop_all, drop_more, length-map, length-replicate, length-set, map-set, get_or-map}
use Rattle.std.specs.Option.{option_copied, option_map}
use denote.Bor.{Bor}
use Rattle.vb_index.specs.declared.held.Held.{Held}
use Rattle.vb_index.specs.Nodes.{held_at}
use Rattle.vb_inode.specs.declared.node.Node.{Node}
use Rattle.vb_plan.specs.Plans.{node_at, by_slot, with_held}

-- the slots stay as many
pub length-with_held : (slots : List (Option Held)) (held : List Held) → length (with_held slots held) ≡ length slots
length-with_held slots [] = refl
length-with_held slots (h ∷ held) = length-with_held (set slots h.node.slot (Some h)) held ∙ length-set slots h.node.slot (Some h)

pub length-by_slot : (slots : ℕ) (held : List Held) → length (by_slot slots held) ≡ slots
length-by_slot slots held = length-with_held (replicate slots None) held ∙ length-replicate slots None

-- one more node is in its slot
pub one_in_slot : (table : List (Option (Bor Held))) (held : List Held) (done : ℕ) (h : Bor Held) → done < length held → get_or held done h.now ≡ h.now → with_held (map option_copied (set table h.now.node.slot (Some h))) (drop (done + 1) held) ≡ with_held (map option_copied table) (drop done held)
one_in_slot table held done h within is =
    let left : drop done held ≡ h.now ∷ drop (done + 1) held = drop_more held done h.now within ∙ ap (λ (n : Held). n ∷ drop (done + 1) held) is in
    ap (λ (slots : List (Option Held)). with_held slots (drop (done + 1) held)) (map-set option_copied table h.now.node.slot (Some h))
    ∙ ap (λ (hs : List Held). with_held (map option_copied table) hs) (sym left)

map-replicate : {X Y : Type 0} (f : X → Y) (n : ℕ) (x : X) → map f (replicate n x) ≡ replicate n (f x)
map-replicate f zero x = refl
map-replicate f (suc n) x = ap (λ (ys : List _). f x ∷ ys) (map-replicate f n x)

-- none is there yet
pub none_in_slots : (table : List (Option (Bor Held))) (slots : ℕ) (held : List Held) → table ≡ replicate slots None → (length table ≡ slots) × (with_held (map option_copied table) (drop 0 held) ≡ by_slot slots held)
none_in_slots table slots held none =
    (ap length none ∙ length-replicate slots None, ap (λ (t : List (Option (Bor Held))). with_held (map option_copied t) held) none ∙ ap (λ (t : List (Option Held)). with_held t held) (map-replicate option_copied slots None))

-- once all are in their slots
pub all_in_slots : (table : List (Option (Bor Held))) (slots : ℕ) (held : List Held) (done : ℕ) → with_held (map option_copied table) (drop done held) ≡ by_slot slots held → length held ≤ done → map option_copied table ≡ by_slot slots held
all_in_slots table slots held done left past = ap (λ (hs : List Held). with_held (map option_copied table) hs) (sym (drop_all done held past)) ∙ left

-- what stands in the table at a slot
pub in_table : (table : List (Option (Bor Held))) (slots : ℕ) (held : List Held) (slot : ℕ) (d : Option (Bor Held)) → map option_copied table ≡ by_slot slots held → slot < slots → option_copied (get_or table slot d) ≡ held_at (by_slot slots held) slot
in_table table slots held slot d is within =
    let below : slot < length table = omega (arith, length-map table (option_copied {T = Held}), ap length is, length-by_slot slots held) in
    sym (get_or-map option_copied table slot d None below) ∙ ap (λ (t : List (Option Held)). get_or t slot None) is

-- after a write to a slot, a slot has what was written or what it had
pub set_cases : (slots : List (Option Held)) (slot : ℕ) (o : Option Held) (k : ℕ) → (held_at (set slots slot o) k ≡ o) ⊎ (held_at (set slots slot o) k ≡ held_at slots k)
set_cases [] slot o k = inr refl
set_cases (p ∷ slots) zero o zero = inl refl
set_cases (p ∷ slots) zero o (suc k) = inr refl
set_cases (p ∷ slots) (suc slot) o zero = inr refl
set_cases (p ∷ slots) (suc slot) o (suc k) = set_cases slots slot o k

-- what is so of all nodes is so of the one in a slot
one_holds : (P : Held → Type 0) (slots : List (Option Held)) (x : Held) (k : ℕ) (h : Held) → (held_at slots k ≡ Some h → P h) → P x → held_at (set slots x.node.slot (Some x)) k ≡ Some h → P h
one_holds P slots x k h old new is =
    elim (set_cases slots x.node.slot (Some x) k) [ inl same ↦ (let e : x ≡ h = cc in subst P e new) | inr kept ↦ old (sym kept ∙ is) ]

holds_after : (P : Held → Type 0) (slots : List (Option Held)) (held : List Held) → ((k : ℕ) (h : Held) → held_at slots k ≡ Some h → P h) → All P held → (k : ℕ) (h : Held) → held_at (with_held slots held) k ≡ Some h → P h
holds_after P slots [] old all k h is = old k h is
holds_after P slots (x ∷ held) old all k h is =
    holds_after P (set slots x.node.slot (Some x)) held (λ j g there. one_holds P slots x j g (old j g) (all 0 x (omega arith)) there) (λ j d within. all (suc j) d (omega arith)) k h is

pub holds_in_slots : (P : Held → Type 0) (slots : ℕ) (held : List Held) → All P held → (k : ℕ) (h : Held) → held_at (by_slot slots held) k ≡ Some h → P h
holds_in_slots P slots held all = holds_after P (replicate slots None) held (λ k h is. absurd (none_there slots k h is)) all
  where
    none_there : (n k : ℕ) (h : Held) → held_at (replicate n None) k ≡ Some h → ⊥
    none_there zero k h is = cc
    none_there (suc n) zero h is = cc
    none_there (suc n) (suc k) h is = none_there n k h is

-- so for its node
pub node_holds : (P : Node → Type 0) (slots : ℕ) (held : List Held) → All (λ h. P h.node) held → (k : ℕ) (node : Node) → node_at (by_slot slots held) k ≡ Some node → P node
node_holds P slots held all k node is = of_held (held_at (by_slot slots held) k) (λ h there. holds_in_slots (λ h. P h.node) slots held all k h there) is
  where
    of_held : (o : Option Held) → ((h : Held) → o ≡ Some h → P h.node) → option_map (λ (h : Held). h.node) o ≡ Some node → P node
    of_held None each is = absurd (cc)
    of_held (Some h) each is = let e : h.node ≡ node = cc in subst P e (each h refl)
