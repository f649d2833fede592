-- A call that was to fail uses its failures up.
use Rattle.std.proofs.Common.{◌≡◌, ℕ, suc, ◌<◌, ◌≤◌, Bool, true, false, cond, eqb, ltb, List, [], ◌∷◌, length, map, Option, Some, None, IsSome, ap, subst, ◌∙◌, inl, inr, arith}
use Rattle.std.specs.List.{filter}
use Rattle.std.proofs.lemmas.Bool.{cases_eq, cond-false, le-ltb, ne_eqb}
use Rattle.std.proofs.lemmas.List.{length-map}
use Rattle.vb_cause.specs.declared.failures.Failure.{Failure}
use Rattle.vb_cause.specs.Failing.{due_of, nearer, passed}

-- what is left after a call
abbrev pub later_ones : {T : Type 0} → List (Failure T) → List (Failure T)
later_ones fs = filter (λ f. ltb 1 f.nth) fs

one_or_none : {T : Type 0} (later : Bool) (f : Failure T) (rest : List (Failure T)) (n : ℕ) → length rest ≤ n → length (cond later (f ∷ rest) rest) ≤ suc n
one_or_none true f rest n short = omega (arith, short)
one_or_none false f rest n short = omega (arith, short)

later_ones-short : {T : Type 0} (fs : List (Failure T)) → length (later_ones fs) ≤ length fs
later_ones-short [] = omega arith
later_ones-short (f ∷ fs) = one_or_none (ltb 1 f.nth) f (later_ones fs) (length fs) (later_ones-short fs)

one_fewer : {T : Type 0} (later : Bool) (f : Failure T) (rest : List (Failure T)) (n : ℕ) → length rest < n → length (cond later (f ∷ rest) rest) < suc n
one_fewer true f rest n short = omega (arith, short)
one_fewer false f rest n short = omega (arith, short)

later_ones-fewer : {T : Type 0} (fs : List (Failure T)) → IsSome (due_of fs) → length (later_ones fs) < length fs
later_ones-fewer [] due = absurd (cc due)
later_ones-fewer (f ∷ fs) due = elim (cases_eq f.nth 1) [
  | inl next ↦
      let gone : ltb 1 f.nth ≡ false = le-ltb 1 f.nth (omega (arith, next)) in
      let same : later_ones (f ∷ fs) ≡ later_ones fs = cond-false (ltb 1 f.nth) (f ∷ later_ones fs) (later_ones fs) gone in
      let short = later_ones-short fs in
      let long : length (later_ones (f ∷ fs)) ≡ length (later_ones fs) = ap length same in
      omega (arith, short, long)
  | inr apart ↦
      let rest : due_of (f ∷ fs) ≡ due_of fs = cond-false (eqb f.nth 1) (Some f.how) (due_of fs) (ne_eqb f.nth 1 apart) in
      one_fewer (ltb 1 f.nth) f (later_ones fs) (length fs) (later_ones-fewer fs (subst (λ o. IsSome o) rest due))
]

pub passed-used : {T : Type 0} (fs after : List (Failure T)) → after ≡ passed fs → IsSome (due_of fs) → length after < length fs
passed-used fs after is due =
    let short = later_ones-fewer fs due in
    let long : length after ≡ length (later_ones fs) = ap length is ∙ length-map (later_ones fs) nearer in
    omega (arith, short, long)
