-- One page more of a run is kept, and one is put back.
use Rattle.std.proofs.Common.{◌≡◌, ℕ, ◌+◌, Bool, true, false, cond, refl, sym, ap, subst, ◌∙◌, List, [], ◌∷◌, ◌++◌, length, Option, Some, None, IsSome}
use Rattle.std.specs.Option.{option_map, option_or, unwrap_or}
use Rattle.std.specs.Prelude.{Result, Ok, Err, OnOk}
use Rattle.std.proofs.lemmas.Bool.{false≢true}
use Rattle.vb_pages.specs.declared.kept.KeptPage.{KeptPage}
use Rattle.vb_pages.specs.declared.kept.PageKey.{PageKey}
use Rattle.vb_pages.specs.Tables.{key_of, kept_at, kept_of, run_at, PutsRun}
use Rattle.vb_pages.proofs.RunSteps.{is_tied, run_at-before, run_at-cons, run_at-end, run_at-push, same_key}

-- a table became this at one key
abbrev pub Became : List (PageKey × KeptPage) → List (PageKey × KeptPage) → ℕ → ℕ → Option KeptPage → Type 0
Became before after slot page kept = (q : PageKey) → kept_at after q ≡ cond (is_tied slot page q) kept (kept_at before q)

module _ (before after : List (PageKey × KeptPage)) (slot first : ℕ) where
  -- what was noted last is put back
  pub back-step : (r : List (Option KeptPage)) (old : Option KeptPage) → Became before after slot (first + length r) old → (q : PageKey)
      → unwrap_or (run_at slot first (r ++ old ∷ []) q) (kept_at before q) ≡ unwrap_or (run_at slot first r q) (kept_at after q)
  back-step r old became q =
      ap (λ o. unwrap_or o (kept_at before q)) (run_at-push slot first r old q) ∙ by (is_tied slot (first + length r) q) refl ∙ ap (unwrap_or (run_at slot first r q)) (sym (became q))
    where
      by : (b : Bool) → is_tied slot (first + length r) q ≡ b
          → unwrap_or (cond b (Some old) (run_at slot first r q)) (kept_at before q) ≡ unwrap_or (run_at slot first r q) (cond b old (kept_at before q))
      by true e = ap (λ o. unwrap_or o old) (sym (run_at-end slot first r q e))
      by false e = refl

  -- and the others are still there
  pub back-there : (r : List (Option KeptPage)) (old : Option KeptPage) → Became before after slot (first + length r) old
      → ((q : PageKey) → IsSome (run_at slot first (r ++ old ∷ []) q) → IsSome (kept_at before q))
      → (q : PageKey) → IsSome (run_at slot first r q) → IsSome (kept_at after q)
  back-there r old became there q some = by (is_tied slot (first + length r) q) refl
    where
      by : (b : Bool) → is_tied slot (first + length r) q ≡ b → IsSome (kept_at after q)
      by true e = absurd (false≢true (subst IsSome (run_at-end slot first r q e) some))
      by false e =
          let same = run_at-push slot first r old q ∙ ap (λ b. cond b (Some old) (run_at slot first r q)) e in
          subst IsSome (sym (became q ∙ ap (λ b. cond b old (kept_at before q)) e)) (there q (subst IsSome (sym same) some))

  -- the next page of a run is kept
  pub run-step : (x : List ℕ) (rest : List (List ℕ)) → Became before after slot first (Some (kept_of x)) → (q : PageKey)
      → option_or (option_map kept_of (run_at slot first (x ∷ rest) q)) (kept_at before q) ≡ option_or (option_map kept_of (run_at slot (first + 1) rest q)) (kept_at after q)
  run-step x rest became q =
      ap (λ o. option_or (option_map kept_of o) (kept_at before q)) (run_at-cons slot first x rest q) ∙ by (is_tied slot first q) refl
      ∙ ap (option_or (option_map kept_of (run_at slot (first + 1) rest q))) (sym (became q))
    where
      by : (b : Bool) → is_tied slot first q ≡ b
          → option_or (option_map kept_of (cond b (Some x) (run_at slot (first + 1) rest q))) (kept_at before q) ≡ option_or (option_map kept_of (run_at slot (first + 1) rest q)) (cond b (Some (kept_of x)) (kept_at before q))
      by true e = ap (λ o. option_or (option_map kept_of o) (Some (kept_of x))) (sym (run_at-before slot first rest q e))
      by false e = refl

  -- what it took the place of is noted
  pub noted-step : (r : List (Option KeptPage)) (old kept : Option KeptPage) → Became before after slot (first + length r) kept → old ≡ kept_at before (key_of slot (first + length r)) → (q : PageKey)
      → unwrap_or (run_at slot first r q) (kept_at before q) ≡ unwrap_or (run_at slot first (r ++ old ∷ []) q) (kept_at after q)
  noted-step r old kept became stood q = by (is_tied slot (first + length r) q) refl ∙ ap (λ o. unwrap_or o (kept_at after q)) (sym (run_at-push slot first r old q))
    where
      by : (b : Bool) → is_tied slot (first + length r) q ≡ b
          → unwrap_or (run_at slot first r q) (kept_at before q) ≡ unwrap_or (cond b (Some old) (run_at slot first r q)) (kept_at after q)
      by true e = ap (λ o. unwrap_or o (kept_at before q)) (run_at-end slot first r q e) ∙ sym (stood ∙ ap (kept_at before) (same_key slot (first + length r) q e))
      by false e = ap (unwrap_or (run_at slot first r q)) (sym (became q ∙ ap (λ b. cond b kept (kept_at before q)) e))

  -- and it is there
  pub noted-there : (r : List (Option KeptPage)) (old : Option KeptPage) (kept : KeptPage) → Became before after slot (first + length r) (Some kept)
      → ((q : PageKey) → IsSome (run_at slot first r q) → IsSome (kept_at before q))
      → (q : PageKey) → IsSome (run_at slot first (r ++ old ∷ []) q) → IsSome (kept_at after q)
  noted-there r old kept became there q some = by (is_tied slot (first + length r) q) refl
    where
      by : (b : Bool) → is_tied slot (first + length r) q ≡ b → IsSome (kept_at after q)
      by true e = subst IsSome (sym (became q ∙ ap (λ b. cond b (Some kept) (kept_at before q)) e)) refl
      by false e =
          let same = run_at-push slot first r old q ∙ ap (λ b. cond b (Some old) (run_at slot first r q)) e in
          subst IsSome (sym (became q ∙ ap (λ b. cond b (Some kept) (kept_at before q)) e)) (there q (subst IsSome same some))

-- so it is with the pages alone
pub PutsRun-from : (old new : List (PageKey × KeptPage)) (slot first : ℕ) (run : List (List ℕ))
    → ((q : PageKey) → kept_at new q ≡ option_or (option_map kept_of (run_at slot first run q)) (kept_at old q)) → PutsRun old new slot first run
PutsRun-from old new slot first run puts s k =
    ap (option_map (λ (x : KeptPage). x.page)) (puts (key_of s k)) ∙ by (run_at slot first run (key_of s k))
  where
    by : (o : Option (List ℕ)) → option_map (λ (x : KeptPage). x.page) (option_or (option_map kept_of o) (kept_at old (key_of s k))) ≡ option_or o (option_map (λ (x : KeptPage). x.page) (kept_at old (key_of s k)))
    by None = refl
    by (Some x) = refl

-- what follows from a fact of a success holds at that success
pub on_ok : {T E P Q : Type 0} (r : Result T E) → (P → Q) → OnOk r P → OnOk r Q
on_ok (Ok x) f p = f p
on_ok (Err e) f p = tt
