-- Which doubt outlives a cut.
use Rattle.std.proofs.Common.{◌≡◌, ℕ, ◌<◌, ◌≤◌, ◌⊎◌, inl, inr, Bool, true, ◌||◌, ◌==◌, if◌then◌else◌, IfSome, List, [], ◌∷◌, Option, Some, None, refl, ap, ◌∙◌, subst, arith}
use Rattle.std.specs.List.{fold, filter, list_any}
use Rattle.std.proofs.lemmas.Bool.Decides.{eqb_tells}
use Rattle.vb_hist.specs.declared.entry.Entry.{Entry}
use Rattle.vb_hist.specs.declared.entry.Entry.TheVariants.{Freeze, Publish, Doubt}
use Rattle.vb_hist.specs.Histories.{is_freeze_of, outlives_cut, up_to_freeze}
use Rattle.vb_hist.proofs.Order.{IsInOrder, IsSameOrNot}
use Rattle.vb_hist.proofs.Outlived.{doubt_after, kept-clears}

-- a doubt among entries that begin at an epoch is of that epoch at least, or it was cleared as what outlives a cut clears it
abbrev pub IsKeptOrLate : ℕ → Option ℕ → List Entry → Type 0
IsKeptOrLate epoch doubt xs =
    (fold doubt_after doubt xs ≡ fold doubt_after doubt (filter outlives_cut xs)) ⊎ ((late : ℕ) × (epoch ≤ late) × (fold doubt_after doubt xs ≡ Some late))

pub doubt-behind : (epoch last : ℕ) (doubt : Option ℕ) (xs : List Entry) → IsInOrder last xs → epoch ≤ last → IsKeptOrLate epoch doubt xs
doubt-behind epoch last doubt [] all from = inl refl
doubt-behind epoch last doubt (Publish q ∷ xs) all from = doubt-behind epoch last None xs all.1 from
doubt-behind epoch last doubt (Freeze by frozen ∷ xs) all from = doubt-behind epoch frozen doubt xs all.1 (omega (arith, all.0))
doubt-behind epoch last doubt (Doubt late ∷ xs) all from = at (doubt-behind epoch last (Some late) xs all.1 from) (kept-clears xs)
  where
    at : IsKeptOrLate epoch (Some late) xs
        → ((a b : Option ℕ) → fold doubt_after a (filter outlives_cut xs) ≡ fold doubt_after b (filter outlives_cut xs)) ⊎ (filter outlives_cut xs ≡ [])
        → IsKeptOrLate epoch doubt (Doubt late ∷ xs)
    at (inr is) clears = inr is
    at (inl is) (inl clears) = inl (is ∙ clears (Some late) doubt)
    at (inl is) (inr none) = inr (late, omega (arith, all.0), is ∙ ap (λ l. fold doubt_after (Some late) l) none)
doubt-behind epoch last doubt (other ∷ xs) all from = doubt-behind epoch last doubt xs all.1 from

-- a doubt up to the freeze of an epoch is below it
pub doubt-before : (epoch last : ℕ) (doubt : Option ℕ) (xs : List Entry) → IsInOrder last xs → IfSome doubt (λ d. d ≤ last) → list_any (is_freeze_of epoch) xs ≡ true
    → IfSome (fold doubt_after doubt (up_to_freeze epoch xs)) (λ d. d < epoch)
doubt-before epoch last doubt [] all from there = cc
doubt-before epoch last doubt (Publish q ∷ xs) all from there = doubt-before epoch last None xs all.1 tt there
doubt-before epoch last doubt (Doubt late ∷ xs) all from there = doubt-before epoch last (Some late) xs all.1 (omega (arith, all.0)) there
doubt-before epoch last doubt (Freeze by frozen ∷ xs) all from there =
    at (up_to_freeze epoch xs) (list_any (is_freeze_of epoch) xs) (doubt-before epoch frozen doubt xs all.1 (above doubt from)) (low doubt from) there (eqb_tells frozen epoch)
  where
    above : (x : Option ℕ) → IfSome x (λ d. d ≤ last) → IfSome x (λ d. d ≤ frozen)
    above None h = tt
    above (Some d) h = omega (arith, all.0)

    low : (x : Option ℕ) → IfSome x (λ d. d ≤ last) → IfSome x (λ d. d < frozen)
    low None h = tt
    low (Some d) h = omega (arith, all.0)

    at : (front : List Entry) (later : Bool) → (later ≡ true → IfSome (fold doubt_after doubt front) (λ d. d < epoch)) → IfSome doubt (λ d. d < frozen)
        → ((frozen == epoch) || later) ≡ true → IsSameOrNot frozen epoch
        → IfSome (fold doubt_after doubt (if frozen == epoch then Freeze by frozen ∷ [] else Freeze by frozen ∷ front)) (λ d. d < epoch)
    at front later rest low there (inl is) = rw (is.0) (subst (λ e. IfSome doubt (λ d. d < e)) is.1 low)
    at front later rest low there (inr not) = rw (not.0) (rest (subst (λ b. (b || later) ≡ true) not.0 there))
doubt-before epoch last doubt (other ∷ xs) all from there = doubt-before epoch last doubt xs all.1 from there
