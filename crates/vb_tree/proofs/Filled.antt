-- A list that zeros fill up to a length.
use Rattle.std.proofs.Common.{◌≡◌, ℕ, ◌+◌, ◌-◌, ◌<◌, ◌≤◌, List, [], ◌∷◌, ◌++◌, length, take, drop, replicate, refl, sym, ap, ◌∙◌, subst, inl, inr, arith, length-append, append-nil}
use Rattle.std.proofs.lemmas.List.{length-replicate, take-append-le, take-replicate, take_all, drop_all}
use Rattle.std.proofs.Math.Seq.{take-append-add}
use Rattle.std.proofs.lemmas.Bool.{cases_lt}

-- nothing is filled up where there is enough
none_filled : (n : ℕ) (old : List ℕ) → n ≤ length old → replicate {A = ℕ} (n - length old) 0 ≡ []
none_filled n old h = let none : n - length old ≡ 0 = omega arith in ap (λ k. replicate {A = ℕ} k 0) none

-- the front of a list that zeros fill up
take-filled : (at more : ℕ) (old : List ℕ) → at ≤ length old + more → take at (old ++ replicate more 0) ≡ take at old ++ replicate (at - length old) 0
take-filled at more old h =
    elim (cases_lt (length old) at) [
      | inl past ↦ (
          let sum : length old + (at - length old) ≡ at = omega arith in
          ap (λ n. take n (old ++ replicate {A = ℕ} more 0)) (sym sum)
          ∙ take-append-add old (replicate more 0) (at - length old)
          ∙ ap (λ t. old ++ t) (take-replicate (at - length old) more 0 (omega arith))
          ∙ ap (λ t. t ++ replicate (at - length old) 0) (sym (take_all at old (omega arith))))
      | inr within ↦
          take-append-le at old (replicate more 0) within
          ∙ sym (append-nil (take at old))
          ∙ ap (λ t. take at old ++ t) (sym (none_filled at old within))
    ]

-- zeros that fill up to a length leave nothing after it
drop-filled : (end : ℕ) (old : List ℕ) → drop end (old ++ replicate (end - length old) 0) ≡ drop end old
drop-filled end old =
    elim (cases_lt (length old) end) [
      | inl past ↦
          drop_all end (old ++ replicate (end - length old) 0) (omega (arith, length-append old (replicate {A = ℕ} (end - length old) 0), length-replicate {A = ℕ}))
          ∙ sym (drop_all end old (omega arith))
      | inr within ↦ ap (λ t. drop end (old ++ t)) (none_filled end old within) ∙ ap (drop end) (append-nil old)
    ]

-- written over a list that zeros fill up, as over the list itself with a gap of zeros
pub overwritten : (at : ℕ) (bytes old : List ℕ) → take at (old ++ replicate (at + length bytes - length old) 0) ++ bytes ++ drop (at + length bytes) (old ++ replicate (at + length bytes - length old) 0) ≡ take at old ++ replicate (at - length old) 0 ++ bytes ++ drop (at + length bytes) old
overwritten at bytes old =
    ap (λ t. t ++ bytes ++ drop (at + length bytes) (old ++ replicate {A = ℕ} (at + length bytes - length old) 0)) (take-filled at (at + length bytes - length old) old (omega arith))
    ∙ ap (λ t. take at old ++ replicate (at - length old) 0 ++ bytes ++ t) (drop-filled (at + length bytes) old)

-- a list isn't changed by filling it up to less than it has
pub filled_none : (n : ℕ) (old : List ℕ) → n ≤ length old → old ≡ old ++ replicate (n - length old) 0
filled_none n old h = sym (append-nil old) ∙ ap (λ t. old ++ t) (sym (none_filled n old h))

pub ruleset fills = (take_all, filled_none)

pub ruleset overwrites = (overwritten)
