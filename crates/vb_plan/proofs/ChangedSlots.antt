-- The slots whose node changes.
use Rattle.std.proofs.Common.{◌≡◌, ℕ, zero, suc, ◌+◌, ◌<◌, ◌≤◌, Bool, true, false, not, cond, List, [], ◌∷◌, ◌++◌, length, get_or, map, All, Option, refl, sym, ap, ◌∙◌, arith, inl, inr, subst}
use Rattle.std.specs.Prelude.{Contains}
use Rattle.std.proofs.lemmas.Bool.{cases_eq}
use Rattle.std.specs.List.{filter, range_with_len}
use Rattle.vb_index.specs.declared.held.Held.{Held}
use Rattle.vb_inode.specs.Layout.{node_page}
use Rattle.vb_plan.specs.Plans.{image_of, images_in, node_at, node_in, same_in_slot}
use Rattle.vb_plan.proofs.Nexts.{all_cons}
use Rattle.vb_plan.proofs.SameNodes.{same_in_slot-Decides}

-- whether the node of a slot changes
abbrev changes : List (Option Held) → List (Option Held) → ℕ → Bool
changes old new slot = not (same_in_slot (node_at old slot) (node_at new slot))

-- one image is that of a changed slot
one_image : (slot : ℕ) (block : List ℕ) (same : Bool) (slots : List ℕ) (f : ℕ → List ℕ) → f slot ≡ block → cond same [] (block ∷ []) ++ map f slots ≡ map f (cond (not same) (slot ∷ slots) slots)
one_image slot block true slots f is = refl
one_image slot block false slots f is = ap (λ (b : List ℕ). b ∷ map f slots) (sym is)

-- the images of some slots are the blocks of those of them that change
pub images_of_changed : (old new : List (Option Held)) (slots : List ℕ) → images_in old new slots ≡ map (λ slot. node_page (node_in slot (node_at new slot))) (filter (changes old new) slots)
images_of_changed old new [] = refl
images_of_changed old new (slot ∷ slots) =
    ap (λ (images : List (List ℕ)). image_of slot (node_at old slot) (node_at new slot) ++ images) (images_of_changed old new slots)
    ∙ one_image slot (node_page (node_in slot (node_at new slot))) (same_in_slot (node_at old slot) (node_at new slot)) (filter (changes old new) slots) (λ s. node_page (node_in s (node_at new s))) refl

-- numbers rise from a first one on
pub record Rises (from end : ℕ) (xs : List ℕ) : Type 0 where
  pub above : All (λ x. from ≤ x) xs
  pub below : All (λ x. x < end) xs
  pub rising : (i j d : ℕ) → i < j → j < length xs → get_or xs i d < get_or xs j d

rising_cons : (from : ℕ) (xs : List ℕ) → All (λ x. from < x) xs → ((i j d : ℕ) → i < j → j < length xs → get_or xs i d < get_or xs j d) → (i j d : ℕ) → i < j → j < length (from ∷ xs) → get_or (from ∷ xs) i d < get_or (from ∷ xs) j d
rising_cons from xs above rising zero zero d lt within = absurd (omega arith)
rising_cons from xs above rising zero (suc j) d lt within = above j d (omega arith)
rising_cons from xs above rising (suc i) zero d lt within = absurd (omega arith)
rising_cons from xs above rising (suc i) (suc j) d lt within = rising i j d (omega arith) (omega arith)

rises_more : (from end : ℕ) (xs : List ℕ) (keep : Bool) → from < end → Rises (from + 1) end xs → Rises from end (cond keep (from ∷ xs) xs)
rises_more from end xs true within rest = record {
  above = all_cons (λ x. from ≤ x) from xs (omega arith) (λ k d lt. (let h = rest.above k d lt in omega (arith, h)));
  below = all_cons (λ x. x < end) from xs within rest.below;
  rising = rising_cons from xs (λ k d lt. (let h = rest.above k d lt in omega (arith, h))) rest.rising;
}
rises_more from end xs false within rest = record {
  above = λ k d lt. (let h = rest.above k d lt in omega (arith, h));
  below = rest.below;
  rising = rest.rising;
}

-- those of a range that pass a test rise
pub filtered_rise : (p : ℕ → Bool) (from count : ℕ) → Rises from (from + count) (filter p (range_with_len from count))
filtered_rise p from zero = record {
  above = λ k d lt. absurd (omega arith);
  below = λ k d lt. absurd (omega arith);
  rising = λ i j d lt within. absurd (omega arith);
}
filtered_rise p from (suc count) =
    let end : from + 1 + count ≡ from + suc count = omega arith in
    subst (λ (e : ℕ). Rises from e (filter p (range_with_len from (suc count)))) end (rises_more from (from + 1 + count) (filter p (range_with_len (from + 1) count)) (p from) (omega arith) (filtered_rise p (from + 1) count))

-- one of a range that passes is among them
in_cons : (x : ℕ) (xs : List ℕ) (keep : Bool) (y : ℕ) → Contains xs y → Contains (cond keep (x ∷ xs) xs) y
in_cons x xs true y (k, within, is) = (suc k, omega arith, is)
in_cons x xs false y has = has

here_cons : (x : ℕ) (xs : List ℕ) (keep : Bool) → keep ≡ true → Contains (cond keep (x ∷ xs) xs) x
here_cons x xs true e = (0, omega arith, refl)
here_cons x xs false e = absurd (cc)

pub passes_in : (p : ℕ → Bool) (from count x : ℕ) → from ≤ x → x < from + count → p x ≡ true → Contains (filter p (range_with_len from count)) x
passes_in p from zero x above below e = absurd (omega arith)
passes_in p from (suc count) x above below e =
    elim (cases_eq from x) [
      | inl same ↦ subst (λ (y : ℕ). Contains (filter p (range_with_len from (suc count))) y) same (here_cons from (filter p (range_with_len (from + 1) count)) (p from) (ap p same ∙ e))
      | inr other ↦ in_cons from (filter p (range_with_len (from + 1) count)) (p from) x (passes_in p (from + 1) count x (omega (arith, other)) (omega arith) e)
    ]

-- what isn't among them doesn't pass
by_test : (b : Bool) → (b ≡ true → ⊥) → not b ≡ true
by_test true none = absurd (none refl)
by_test false none = refl

pub fails_outside : (p : ℕ → Bool) (count x : ℕ) → x < count → (Contains (filter p (range_with_len 0 count)) x → ⊥) → not (p x) ≡ true
fails_outside p count x within none = by_test (p x) (λ e. none (passes_in p 0 count x (omega arith) (omega arith) e))

not_not : (b : Bool) → not (not b) ≡ true → b ≡ true
not_not true e = refl
not_not false e = e

-- in a slot that isn't among the changed ones the node stays
pub same_outside : (old new : List (Option Held)) (count slot : ℕ) → slot < count → (Contains (filter (changes old new) (range_with_len 0 count)) slot → ⊥) → node_at old slot ≡ node_at new slot
same_outside old new count slot within none =
    (same_in_slot-Decides (node_at old slot) (node_at new slot)).0 (not_not (same_in_slot (node_at old slot) (node_at new slot)) (fails_outside (changes old new) count slot within none))
