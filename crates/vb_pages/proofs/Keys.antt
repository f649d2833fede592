-- The order of keys, and what a table keeps after a change at one key.
use Rattle.std.proofs.Common.{◌≡◌, ℕ, ◌+◌, ◌≤◌, Bool, true, false, ◌&&◌, cond, refl, sym, ap, ◌∙◌, arith, List, [], ◌∷◌, length, Option, Some, None, is_some, IsSome}
use Rattle.std.specs.declared.ops.Bound.TheVariants.{Included, Unbounded}
use Rattle.std.specs.BTreeMap.{BTreeMap}
use Rattle.std.specs.BTreeMap.Range.{IsRangeOf}
use Rattle.std.specs.Prelude.{nat_le, if◌then◌else◌}
use Rattle.std.specs.Bool.{◌==◌}
use Rattle.std.specs.Cmp.{IsTotalOrder, tied_then}
use Rattle.std.specs.Option.{option_map}
use Rattle.std.specs.Ordering.{is_eq, is_gt, nat_cmp}
use Rattle.std.proofs.lemmas.Bool.Decides.{nat_tests}
use Rattle.std.proofs.lemmas.Cmp.{nat_cmp_total, on_total, then_total}
use Rattle.vb_pages.specs.declared.kept.KeptPage.{KeptPage}
use Rattle.vb_pages.specs.declared.kept.PageKey.{PageKey}
use Rattle.vb_pages.specs.Tables.{key_of, key_order, kept_at, kept_page, Forgets, Puts}

-- keys are in a total order
pub key_order-total : IsTotalOrder key_order
key_order-total = then_total (on_total (λ (k : PageKey). k.slot) nat_cmp_total) (on_total (λ (k : PageKey). k.page) nat_cmp_total)

-- numbers tie where they are equal
tied : (a b : ℕ) → is_eq (nat_cmp a b) ≡ (b == a)
tied a b = grind (arith, nat_tests)

-- a key ties with that of a slot's page where both numbers are equal
pub is_key : (slot page s k : ℕ) → is_eq (key_order (key_of slot page) (key_of s k)) ≡ (s == slot && k == page)
is_key slot page s k = sym (tied_then (nat_cmp slot s) (nat_cmp page k)) ∙ ap (λ b. b && is_eq (nat_cmp page k)) (tied slot s) ∙ ap (λ b. (s == slot) && b) (tied page k)

-- the later pages of a slot don't come before its first one
pub later_key : (slot first page : ℕ) → first ≤ page → is_gt (key_order (key_of slot first) (key_of slot page)) ≡ false
later_key slot first page later = grind (arith, nat_tests)

-- what lies between two keys of a slot is of that slot
pub between_keys : (slot first page : ℕ) (key : PageKey) → is_gt (key_order (key_of slot first) key) ≡ false → is_gt (key_order key (key_of slot page)) ≡ false → key.slot ≡ slot
between_keys slot first page key low high = grind (arith, nat_tests)

-- and not before its first one
pub from_first : (slot first : ℕ) (key : PageKey) → is_gt (key_order (key_of slot first) key) ≡ false → key.slot ≡ slot → first ≤ key.page
from_first slot first key low same = grind (arith, nat_tests)

-- a table that changed at one key alone
pub Puts-updated : (old new : List (PageKey × KeptPage)) (slot page : ℕ) (kept : KeptPage)
    → ((q : PageKey) → kept_at new q ≡ cond (is_eq (key_order (key_of slot page) q)) (Some kept) (kept_at old q)) → Puts old new slot page kept.page
Puts-updated old new slot page kept updates s k =
    ap (option_map (λ (x : KeptPage). x.page)) (updates (key_of s k) ∙ ap (λ b. cond b (Some kept) (kept_at old (key_of s k))) (is_key slot page s k)) ∙ by (s == slot && k == page)
  where
    by : (b : Bool) → option_map (λ (x : KeptPage). x.page) (cond b (Some kept) (kept_at old (key_of s k))) ≡ (if b then Some kept.page else option_map (λ (x : KeptPage). x.page) (kept_at old (key_of s k)))
    by true = refl
    by false = refl

-- a table from which one key is gone
pub Forgets-updated : (old new : List (PageKey × KeptPage)) (slot page : ℕ)
    → ((q : PageKey) → kept_at new q ≡ cond (is_eq (key_order (key_of slot page) q)) None (kept_at old q)) → Forgets old new slot page
Forgets-updated old new slot page updates s k =
    ap (option_map (λ (x : KeptPage). x.page)) (updates (key_of s k) ∙ ap (λ b. cond b None (kept_at old (key_of s k))) (is_key slot page s k)) ∙ by (s == slot && k == page)
  where
    by : (b : Bool) → option_map (λ (x : KeptPage). x.page) (cond b None (kept_at old (key_of s k))) ≡ (if b then None else option_map (λ (x : KeptPage). x.page) (kept_at old (key_of s k)))
    by true = refl
    by false = refl

-- a table from which a key that was there is gone has one entry fewer
pub fewer-removed : (old new : List (PageKey × KeptPage)) (slot page : ℕ) (removed : Option KeptPage) → IsSome (kept_page old slot page)
    → removed ≡ kept_at old (key_of slot page) → length new + cond (is_some removed) 1 0 ≡ length old → length old ≡ length new + 1
fewer-removed old new slot page removed there value len =
    let some : is_some removed ≡ true = ap is_some value ∙ by (kept_at old (key_of slot page)) there in
    sym len ∙ ap (λ b. length new + cond b 1 0) some
  where
    by : (o : Option KeptPage) → is_some (option_map (λ (x : KeptPage). x.page) o) ≡ true → is_some o ≡ true
    by None h = h
    by (Some kept) h = refl

-- what isn't there is none
none_unless : {X : Type 0} (o : Option X) → (IsSome o → ⊥) → o ≡ None
none_unless None unless = refl
none_unless (Some x) unless = absurd (unless refl)

-- a slot has no later page where the range from its first one on is empty
pub none_later-empty : (m : BTreeMap PageKey KeptPage) (slot first : ℕ) → IsRangeOf key_order (Included (key_of slot first)) Unbounded m []
    → (page : ℕ) → first ≤ page → kept_at m.entries (key_of slot page) ≡ None
none_later-empty m slot first range page later = range.5 refl (key_of slot page) (later_key slot first page later, tt)

-- nor where that range begins with a page of another slot
pub none_later-other : (m : BTreeMap PageKey KeptPage) (slot first : ℕ) (e : PageKey × KeptPage) (es : List (PageKey × KeptPage))
    → IsRangeOf key_order (Included (key_of slot first)) Unbounded m (e ∷ es) → (e.0.slot ≡ slot → ⊥)
    → (page : ℕ) → first ≤ page → kept_at m.entries (key_of slot page) ≡ None
none_later-other m slot first e es range other page later =
    none_unless (kept_at m.entries (key_of slot page)) (λ there. other (between_keys slot first page e.0 range.1.0.0 (range.2 (key_of slot page) (later_key slot first page later, tt) there)))

-- a key that is cut is none of those that stay
other_key : (slot first s k : ℕ) (key : PageKey) → key.slot ≡ slot → first ≤ key.page → (s == slot && nat_le first k) ≡ false → (s == key.slot && k == key.page) ≡ false
other_key slot first s k key here later stays = grind (arith, nat_tests)

-- what stays is as it was
pub stays-without : (old new : List (PageKey × KeptPage)) (slot first s k : ℕ) (key : PageKey)
    → ((q : PageKey) → kept_at new q ≡ cond (is_eq (key_order key q)) None (kept_at old q)) → key.slot ≡ slot → first ≤ key.page
    → (s == slot && nat_le first k) ≡ false → kept_at new (key_of s k) ≡ kept_at old (key_of s k)
stays-without old new slot first s k key updates here later stays =
    updates (key_of s k) ∙ ap (λ b. cond b None (kept_at old (key_of s k))) (is_key key.slot key.page s k ∙ other_key slot first s k key here later stays)
