-- The page that follows the one treated last.
use Rattle.std.proofs.Common.{◌≡◌, ℕ, zero, suc, ◌+◌, ◌<◌, ◌≤◌, ◌⊎◌, true, false, cond, List, [], ◌∷◌, length, get_or, Option, Some, None, refl, sym, ap, ◌∙◌, subst, inl, inr, arith}
use Rattle.std.specs.Prelude.{nat_lt}
use Rattle.std.specs.declared.cmp.Ordering.{Ordering}
use Rattle.std.specs.declared.cmp.Ordering.TheVariants.{Less}
use Rattle.std.proofs.lemmas.Bool.{cases_Bool}
use Rattle.std.proofs.lemmas.Bool.Decides.{nat_tests}
use Rattle.std.proofs.lemmas.List.{get_or_default}
use Rattle.vb_path.specs.Paths.{path_cmp}
use Rattle.vb_path.proofs.PathLaws.{path_cmp-total}
use Rattle.vb_frozen.specs.declared.entry.FrozenEntry.{FrozenEntry}
use Rattle.vb_helper.specs.declared.following_page.Treated.{Treated}
use Rattle.vb_helper.specs.Scrubs.{IsInPathOrder, due_by, due_in, next_from, next_page}

-- none is due before the path
pub none_before : (e : FrozenEntry) (t : Treated) → path_cmp e.path t.path ≡ Less → length e.refs ≤ due_in (Some t) e
none_before e t less =
    let is : due_in (Some t) e ≡ length e.refs = ap (λ (o : Ordering). due_by o t.page (length e.refs)) less in
    omega (arith, is)

skips : (i : ℕ) (treated : Option Treated) (e : FrozenEntry) (es : List FrozenEntry) → length e.refs ≤ due_in treated e → next_from i treated (e ∷ es) ≡ next_from (i + 1) treated es
skips i treated e es past =
    let test : nat_lt (due_in treated e) (length e.refs) ≡ false = grind (arith, nat_tests) in
    ap (λ b. cond b (Some (record { entry = i; page = due_in treated e })) (next_from (i + 1) treated es)) test

found_at : (i n : ℕ) (treated : Option Treated) (es : List FrozenEntry) (d : FrozenEntry)
    → ((k : ℕ) → k < n → length (get_or es k d).refs ≤ due_in treated (get_or es k d)) → n < length es → due_in treated (get_or es n d) < length (get_or es n d).refs
    → next_from i treated es ≡ Some (record { entry = i + n; page = due_in treated (get_or es n d) })
found_at i n treated [] d none within due = absurd (omega (arith, within))
found_at i zero treated (e ∷ es) d none within due =
    let test : nat_lt (due_in treated e) (length e.refs) ≡ true = grind (arith, nat_tests) in
    let place : i ≡ i + 0 = omega arith in
    ap (λ b. cond b (Some (record { entry = i; page = due_in treated e })) (next_from (i + 1) treated es)) test
    ∙ ap (λ (m : ℕ). Some (record { entry = m; page = due_in treated e })) place
found_at i (suc n) treated (e ∷ es) d none within due =
    let place : (i + 1) + n ≡ i + suc n = omega arith in
    skips i treated e es (none 0 (omega arith))
    ∙ found_at (i + 1) n treated es d (λ k less. none (suc k) (omega (arith, less))) (omega (arith, within)) due
    ∙ ap (λ (m : ℕ). Some (record { entry = m; page = due_in treated (get_or es n d) })) place

nothing_from : (i : ℕ) (treated : Option Treated) (es : List FrozenEntry) → ((k : ℕ) (d : FrozenEntry) → k < length es → length (get_or es k d).refs ≤ due_in treated (get_or es k d)) → next_from i treated es ≡ None
nothing_from i treated [] none = refl
nothing_from i treated (e ∷ es) none =
    skips i treated e es (none 0 e (omega arith)) ∙ nothing_from (i + 1) treated es (λ k d less. none (suc k) d (omega (arith, less)))

pub next_found : (n : ℕ) (treated : Option Treated) (order : List FrozenEntry) (e : FrozenEntry) → e ≡ get_or order n e
    → ((k : ℕ) (d : FrozenEntry) → k < n → length (get_or order k d).refs ≤ due_in treated (get_or order k d)) → n < length order → due_in treated e < length e.refs
    → Some (record { entry = n; page = due_in treated e }) ≡ next_page treated order
next_found n treated order e at none within due =
    let here = subst (λ (x : FrozenEntry). due_in treated x < length x.refs) at due in
    let place : 0 + n ≡ n = omega arith in
    sym (found_at 0 n treated order e (λ k less. none k e less) within here
    ∙ ap (λ (m : ℕ). Some (record { entry = m; page = due_in treated (get_or order n e) })) place
    ∙ ap (λ (x : FrozenEntry). Some (record { entry = n; page = due_in treated x })) (sym at))

pub none_found : (treated : Option Treated) (order : List FrozenEntry) → ((k : ℕ) (d : FrozenEntry) → k < length order → length (get_or order k d).refs ≤ due_in treated (get_or order k d)) → None ≡ next_page treated order
none_found treated order none = sym (nothing_from 0 treated order none)

-- ---- the search

-- the entries before an entry that comes before a path come before it too
pub all_before : (order : List FrozenEntry) (path : List (List ℕ)) (m : ℕ) (e : FrozenEntry) → IsInPathOrder order → m < length order → e ≡ get_or order m e → path_cmp e.path path ≡ Less
    → (i : ℕ) (d : FrozenEntry) → i < m + 1 → path_cmp (get_or order i d).path path ≡ Less
all_before order path m e sorted within at less i d before = by_case (cases_Bool (nat_lt i m)) where
  same : i ≡ m → get_or order i d ≡ e
  same is = ap (λ n. get_or order n d) is ∙ get_or_default order m d e within ∙ sym at

  by_case : (nat_lt i m ≡ true) ⊎ (nat_lt i m ≡ false) → path_cmp (get_or order i d).path path ≡ Less
  by_case (inl w) =
      let lower : i < m = grind (arith, nat_tests) in
      let there : (get_or order m d).path ≡ e.path = ap (λ (x : FrozenEntry). x.path) (get_or_default order m d e within ∙ sym at) in
      path_cmp-total.trans (get_or order i d).path e.path path (subst (λ p. path_cmp (get_or order i d).path p ≡ Less) there (sorted i m d lower within)) less
  by_case (inr w) =
      let is : i ≡ m = grind (arith, nat_tests) in
      ap (λ (x : FrozenEntry). path_cmp x.path path) (same is) ∙ less
