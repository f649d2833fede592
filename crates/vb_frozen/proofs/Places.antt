-- The first entry of a slot: where it stands, and what a change of it changes.
use Rattle.std.proofs.Common.{◌≡◌, ℕ, zero, suc, ◌+◌, ◌<◌, ◌≤◌, Bool, true, false, cond, eqb, List, [], ◌∷◌, ◌++◌, length, set, get_or, slice_get, Option, Some, None, unwrap_or, refl, sym, ap, ◌∙◌, subst, arith}
use Rattle.std.specs.Option.{option_map, option_or, option_and_then}
use Rattle.vb_block.specs.declared.digest.Ref.{Ref}
use Rattle.vb_frozen.specs.declared.entry.FrozenEntry.{FrozenEntry}
use Rattle.std.specs.Ordering.{nat_cmp}
use Rattle.std.specs.BTreeMap.{BTreeMap, get}
use Rattle.std.proofs.lemmas.List.{length-set}
use Rattle.std.proofs.lemmas.List.Elements.{All-head, All-tail, All-cons, All-push}
use Rattle.vb_frozen.specs.Orders.{place_in, entry_in, with_ref, with_reference, refs_in, AreShort, IsOrder}

slice_get-here : (es : List FrozenEntry) (i : ℕ) (d : FrozenEntry) → i < length es → slice_get es i ≡ Some (get_or es i d)
slice_get-here [] i d h = absurd (omega (arith, h))
slice_get-here (x ∷ xs) zero d h = refl
slice_get-here (x ∷ xs) (suc i) d h = slice_get-here xs i d (omega (arith, h))

-- one entry more behind the others
pub place-append : (slot : ℕ) (es : List FrozenEntry) (e : FrozenEntry) → place_in slot (es ++ e ∷ []) ≡ option_or (place_in slot es) (cond (eqb e.slot slot) (Some (length es)) None)
place-append slot [] e = refl
place-append slot (x ∷ xs) e = by (eqb x.slot slot) (place-append slot xs e) where
  step : (o : Option ℕ) (b : Bool) → option_map (λ i. i + 1) (option_or o (cond b (Some (length xs)) None)) ≡ option_or (option_map (λ i. i + 1) o) (cond b (Some (suc (length xs))) None)
  step None true = let next : length xs + 1 ≡ suc (length xs) = omega arith in ap (λ (k : ℕ). Some k) next
  step None false = refl
  step (Some i) b = refl

  by : (b : Bool) → place_in slot (xs ++ e ∷ []) ≡ option_or (place_in slot xs) (cond (eqb e.slot slot) (Some (length xs)) None) → cond b (Some 0) (option_map (λ i. i + 1) (place_in slot (xs ++ e ∷ []))) ≡ option_or (cond b (Some 0) (option_map (λ i. i + 1) (place_in slot xs))) (cond (eqb e.slot slot) (Some (suc (length xs))) None)
  by true rest = refl
  by false rest = ap (option_map (λ i. i + 1)) rest ∙ step (place_in slot xs) (eqb e.slot slot)

-- at that place stands the entry that is found
pub place-entry : (slot : ℕ) (es : List FrozenEntry) → option_and_then (λ i. slice_get es i) (place_in slot es) ≡ entry_in es slot
place-entry slot [] = refl
place-entry slot (x ∷ xs) = by (eqb x.slot slot) (place-entry slot xs) where
  step : (o : Option ℕ) → option_and_then (λ i. slice_get (x ∷ xs) i) (option_map (λ i. i + 1) o) ≡ option_and_then (λ i. slice_get xs i) o
  step None = refl
  step (Some i) = let next : i + 1 ≡ suc i = omega arith in ap (slice_get (x ∷ xs)) next

  by : (b : Bool) → option_and_then (λ i. slice_get xs i) (place_in slot xs) ≡ entry_in xs slot → option_and_then (λ i. slice_get (x ∷ xs) i) (cond b (Some 0) (option_map (λ i. i + 1) (place_in slot xs))) ≡ cond b (Some x) (entry_in xs slot)
  by true rest = refl
  by false rest = step (place_in slot xs) ∙ rest

-- another reference of a page is put into the entry at that place
pub with-reference-at : (slot page : ℕ) (reference : Ref) (es : List FrozenEntry) (i : ℕ) (d : FrozenEntry) → place_in slot es ≡ Some i → (i < length es) × (with_reference slot page reference es ≡ set es i (with_ref page reference (get_or es i d)))
with-reference-at slot page reference [] i d at = absurd (cc at)
with-reference-at slot page reference (x ∷ xs) i d at = by (eqb x.slot slot) (λ k here. with-reference-at slot page reference xs k d here) at where
  later : (o : Option ℕ) → ((k : ℕ) → place_in slot xs ≡ Some k → (k < length xs) × (with_reference slot page reference xs ≡ set xs k (with_ref page reference (get_or xs k d)))) → place_in slot xs ≡ o → option_map (λ k. k + 1) o ≡ Some i → (i < length (x ∷ xs)) × (x ∷ with_reference slot page reference xs ≡ set (x ∷ xs) i (with_ref page reference (get_or (x ∷ xs) i d)))
  later None rest here is = absurd (cc is)
  later (Some k) rest here is =
      let at_next : k + 1 ≡ i = cc is in
      let next : suc k ≡ i = omega (arith, at_next) in
      let more = rest k here in
      subst (λ n. (n < length (x ∷ xs)) × (x ∷ with_reference slot page reference xs ≡ set (x ∷ xs) n (with_ref page reference (get_or (x ∷ xs) n d)))) next
      (omega (arith, more.0), ap (λ (es : List FrozenEntry). x ∷ es) more.1)

  by : (b : Bool) → ((k : ℕ) → place_in slot xs ≡ Some k → (k < length xs) × (with_reference slot page reference xs ≡ set xs k (with_ref page reference (get_or xs k d)))) → cond b (Some 0) (option_map (λ k. k + 1) (place_in slot xs)) ≡ Some i → (i < length (x ∷ xs)) × (cond b (with_ref page reference x ∷ xs) (x ∷ with_reference slot page reference xs) ≡ set (x ∷ xs) i (with_ref page reference (get_or (x ∷ xs) i d)))
  by true rest is =
      let first : 0 ≡ i = cc is in
      subst (λ n. (n < length (x ∷ xs)) × (with_ref page reference x ∷ xs ≡ set (x ∷ xs) n (with_ref page reference (get_or (x ∷ xs) n d)))) first (omega arith, refl)
  by false rest is = later (place_in slot xs) rest refl is

-- where the slot has no entry, nothing changes
pub with-reference-none : (slot page : ℕ) (reference : Ref) (es : List FrozenEntry) → place_in slot es ≡ None → with_reference slot page reference es ≡ es
with-reference-none slot page reference [] at = refl
with-reference-none slot page reference (x ∷ xs) at = by (eqb x.slot slot) (with-reference-none slot page reference xs) at where
  later : (o : Option ℕ) → (place_in slot xs ≡ None → with_reference slot page reference xs ≡ xs) → place_in slot xs ≡ o → option_map (λ k. k + 1) o ≡ None → x ∷ with_reference slot page reference xs ≡ x ∷ xs
  later None rest here is = ap (λ (es : List FrozenEntry). x ∷ es) (rest here)
  later (Some k) rest here is = absurd (cc is)

  by : (b : Bool) → (place_in slot xs ≡ None → with_reference slot page reference xs ≡ xs) → cond b (Some 0) (option_map (λ k. k + 1) (place_in slot xs)) ≡ None → cond b (with_ref page reference x ∷ xs) (x ∷ with_reference slot page reference xs) ≡ x ∷ xs
  by true rest is = absurd (cc is)
  by false rest is = later (place_in slot xs) rest refl is

-- each entry keeps its place
pub place-with : (slot page : ℕ) (reference : Ref) (es : List FrozenEntry) (other : ℕ) → place_in other (with_reference slot page reference es) ≡ place_in other es
place-with slot page reference [] other = refl
place-with slot page reference (x ∷ xs) other = by (eqb x.slot slot) (place-with slot page reference xs other) where
  by : (b : Bool) → place_in other (with_reference slot page reference xs) ≡ place_in other xs → place_in other (cond b (with_ref page reference x ∷ xs) (x ∷ with_reference slot page reference xs)) ≡ place_in other (x ∷ xs)
  by true rest = refl
  by false rest = ap (λ o. cond (eqb x.slot other) (Some 0) (option_map (λ i. i + 1) o)) rest

abbrev Short : FrozenEntry → Type 0
Short e = length e.refs ≤ 10848

short-with : (slot page : ℕ) (reference : Ref) (es : List FrozenEntry) → AreShort es → AreShort (with_reference slot page reference es)
short-with slot page reference [] all = all
short-with slot page reference (x ∷ xs) all = by (eqb x.slot slot) (short-with slot page reference xs (All-tail Short x xs all)) where
  head : length x.refs ≤ 10848
  head = All-head Short x xs all

  by : (b : Bool) → AreShort (with_reference slot page reference xs) → AreShort (cond b (with_ref page reference x ∷ xs) (x ∷ with_reference slot page reference xs))
  by true rest = All-cons Short (with_ref page reference x) xs (omega (arith, head, length-set x.refs page reference)) (All-tail Short x xs all)
  by false rest = All-cons Short x (with_reference slot page reference xs) head rest

pub order-with : (slot page : ℕ) (reference : Ref) (es : List FrozenEntry) (places : BTreeMap ℕ ℕ) → IsOrder es places → IsOrder (with_reference slot page reference es) places
order-with slot page reference es places was = record {
  short = short-with slot page reference es was.short;
  found = λ other. was.found other ∙ sym (place-with slot page reference es other);
}

-- the references of a slot are those of the entry at its place
pub refs-here : (slot : ℕ) (es : List FrozenEntry) (i : ℕ) (d : FrozenEntry) → place_in slot es ≡ Some i → refs_in es slot ≡ (get_or es i d).refs
refs-here slot es i d at =
    let within : i < length es = (with-reference-at slot 0 (record { place = 0; digest = [] }) es i d at).0 in
    ap (λ o. unwrap_or (option_map (λ (e : FrozenEntry). e.refs) o) []) (sym (place-entry slot es) ∙ ap (option_and_then (λ k. slice_get es k)) at ∙ slice_get-here es i d within)

-- one entry more, whose place is noted
pub order-append : (es : List FrozenEntry) (e : FrozenEntry) (old new : BTreeMap ℕ ℕ) → IsOrder es old → length e.refs ≤ 10848 → ((other : ℕ) → get nat_cmp new other ≡ option_or (get nat_cmp old other) (cond (eqb e.slot other) (Some (length es)) None)) → IsOrder (es ++ e ∷ []) new
order-append es e old new was short noted = record {
  short = All-push Short es e was.short short;
  found = λ other. noted other ∙ ap (λ o. option_or o (cond (eqb e.slot other) (Some (length es)) None)) (was.found other) ∙ sym (place-append other es e);
}
