-- What a run has under a key when it grows at its end, and when its first page is taken away.
use Rattle.std.proofs.Common.{◌≡◌, ℕ, zero, suc, ◌+◌, ◌-◌, ◌≤◌, Bool, true, false, ◌&&◌, cond, refl, sym, ap, ◌∙◌, arith, List, [], ◌∷◌, ◌++◌, length, slice_get, Option, Some, None}
use Rattle.std.specs.Bool.{◌==◌}
use Rattle.std.specs.Ordering.{is_eq}
use Rattle.std.specs.Prelude.{nat_le, if◌then◌else◌}
use Rattle.std.proofs.lemmas.Bool.Decides.{nat_tests}
use Rattle.vb_pages.specs.declared.kept.PageKey.{PageKey}
use Rattle.vb_pages.specs.Tables.{key_of, key_order, run_at}

-- whether a key is that of a slot's page
abbrev pub is_tied : ℕ → ℕ → PageKey → Bool
is_tied slot page q = is_eq (key_order (key_of slot page) q)

-- then both numbers are equal
same_slot : (slot page : ℕ) (q : PageKey) → is_tied slot page q ≡ true → q.slot ≡ slot
same_slot slot page q tie = grind (arith, nat_tests)

same_page : (slot page : ℕ) (q : PageKey) → is_tied slot page q ≡ true → q.page ≡ page
same_page slot page q tie = grind (arith, nat_tests)

-- keys with both numbers equal are the same
pub same_key : (slot page : ℕ) (q : PageKey) → is_tied slot page q ≡ true → key_of slot page ≡ q
same_key slot page q tie i = record { slot = sym (same_slot slot page q tie) i; page = sym (same_page slot page q tie) i }

-- a key in a run, by its place there
not_tied : (slot first n : ℕ) (q : PageKey) → is_tied slot (first + n) q ≡ false → (q.slot == slot && nat_le first q.page) ≡ true → q.page - first ≡ n → ⊥
not_tied slot first n q apart within at = grind (arith, nat_tests)

in_run : (slot first page : ℕ) (q : PageKey) → is_tied slot page q ≡ true → first ≤ page → (q.slot == slot && nat_le first q.page) ≡ true
in_run slot first page q tie below = grind (arith, nat_tests)

off_run : (slot page : ℕ) (q : PageKey) → is_tied slot page q ≡ true → (q.slot == slot && nat_le (page + 1) q.page) ≡ false
off_run slot page q tie = grind (arith, nat_tests)

still_in_run : (slot first : ℕ) (q : PageKey) → is_tied slot first q ≡ false → (q.slot == slot && nat_le (first + 1) q.page) ≡ (q.slot == slot && nat_le first q.page)
still_in_run slot first q apart = grind (arith, nat_tests)

-- ---- places of a list

past : {X : Type 0} (xs : List X) (j : ℕ) → length xs ≤ j → slice_get xs j ≡ None
past [] j beyond = refl
past (x ∷ xs) zero beyond = absurd (omega arith)
past (x ∷ xs) (suc j) beyond = let less : length xs ≤ j = omega arith in past xs j less

at_end : {X : Type 0} (xs : List X) (x : X) (j : ℕ) → j ≡ length xs → slice_get (xs ++ x ∷ []) j ≡ Some x
at_end [] x zero e = refl
at_end [] x (suc j) e = absurd (omega arith)
at_end (y ∷ xs) x zero e = absurd (omega arith)
at_end (y ∷ xs) x (suc j) e = let less : j ≡ length xs = omega arith in at_end xs x j less

not_at_end : {X : Type 0} (xs : List X) (x : X) (j : ℕ) → (j ≡ length xs → ⊥) → slice_get (xs ++ x ∷ []) j ≡ slice_get xs j
not_at_end [] x zero apart = absurd (apart refl)
not_at_end [] x (suc j) apart = refl
not_at_end (y ∷ xs) x zero apart = refl
not_at_end (y ∷ xs) x (suc j) apart = not_at_end xs x j (λ e. apart (ap suc e))

after_first : {X : Type 0} (x : X) (xs : List X) (j k : ℕ) → j ≡ suc k → slice_get (x ∷ xs) j ≡ slice_get xs k
after_first x xs j k e = ap (slice_get (x ∷ xs)) e

-- ---- a run

-- past its end it has nothing
pub run_at-end : {X : Type 0} (slot first : ℕ) (xs : List X) (q : PageKey) → is_tied slot (first + length xs) q ≡ true → run_at slot first xs q ≡ None
run_at-end slot first xs q tie =
    let there = same_page slot (first + length xs) q tie in
    let beyond : length xs ≤ q.page - first = omega arith in
    ap (λ b. if b then slice_get xs (q.page - first) else None) (in_run slot first (first + length xs) q tie (omega arith)) ∙ past xs (q.page - first) beyond

-- nor before its first page
pub run_at-before : {X : Type 0} (slot first : ℕ) (xs : List X) (q : PageKey) → is_tied slot first q ≡ true → run_at slot (first + 1) xs q ≡ None
run_at-before slot first xs q tie = ap (λ b. if b then slice_get xs (q.page - (first + 1)) else None) (off_run slot first q tie)

-- one more at its end
pub run_at-push : {X : Type 0} (slot first : ℕ) (xs : List X) (x : X) (q : PageKey)
    → run_at slot first (xs ++ x ∷ []) q ≡ cond (is_tied slot (first + length xs) q) (Some x) (run_at slot first xs q)
run_at-push {X} slot first xs x q = by (is_tied slot (first + length xs) q) refl
  where
    j : ℕ
    j = q.page - first

    apart : is_tied slot (first + length xs) q ≡ false → (b : Bool) → (q.slot == slot && nat_le first q.page) ≡ b
        → ◌≡◌ {A = Option X} (if b then slice_get (xs ++ x ∷ []) j else None) (if b then slice_get xs j else None)
    apart e true within = not_at_end xs x j (λ at. not_tied slot first (length xs) q e within at)
    apart e false within = refl

    by : (b : Bool) → is_tied slot (first + length xs) q ≡ b → run_at slot first (xs ++ x ∷ []) q ≡ cond b (Some x) (run_at slot first xs q)
    by true e =
        let there = same_page slot (first + length xs) q e in
        let at : j ≡ length xs = omega arith in
        ap (λ b. if b then slice_get (xs ++ x ∷ []) j else None) (in_run slot first (first + length xs) q e (omega arith)) ∙ at_end xs x j at
    by false e = apart e (q.slot == slot && nat_le first q.page) refl

-- its first page, and the others
pub run_at-cons : {X : Type 0} (slot first : ℕ) (x : X) (xs : List X) (q : PageKey)
    → run_at slot first (x ∷ xs) q ≡ cond (is_tied slot first q) (Some x) (run_at slot (first + 1) xs q)
run_at-cons {X} slot first x xs q = by (is_tied slot first q) refl
  where
    apart : is_tied slot first q ≡ false → (b : Bool) → (q.slot == slot && nat_le first q.page) ≡ b
        → ◌≡◌ {A = Option X} (if b then slice_get (x ∷ xs) (q.page - first) else None) (if b then slice_get xs (q.page - (first + 1)) else None)
    apart e true within = after_first x xs (q.page - first) (q.page - (first + 1)) (grind (arith, nat_tests))
    apart e false within = refl

    by : (b : Bool) → is_tied slot first q ≡ b → run_at slot first (x ∷ xs) q ≡ cond b (Some x) (run_at slot (first + 1) xs q)
    by true e =
        let there = same_page slot first q e in
        let at : q.page - first ≡ 0 = omega arith in
        ap (λ b. if b then slice_get (x ∷ xs) (q.page - first) else None) (in_run slot first first q e (omega arith)) ∙ ap (slice_get (x ∷ xs)) at
    by false e = apart e (q.slot == slot && nat_le first q.page) refl ∙ ap (λ b. if b then slice_get xs (q.page - (first + 1)) else None) (sym (still_in_run slot first q e))
