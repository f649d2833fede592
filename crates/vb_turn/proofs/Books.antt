-- The small value goes on standing for its history.
use Rattle.std.proofs.Common.{◌≡◌, ◌≢◌, ◌⊎◌, ⊎_elim, inl, inr, ℕ, ◌+◌, ◌≤◌, Bool, true, false, ◌==◌, if◌then◌else◌, List, [], ◌∷◌, ◌++◌, length, take, drop, refl, ap, sym, ◌∙◌, arith, append-nil, take_all, drop_of_length-le}
use Rattle.std.proofs.lemmas.Bool.Decides.{nat_tests}
use mathlib.Core.Logic.{dite}
use native.Mathlib.Decide.{ℕ_discrete}
use mathlib.Core.List.{IsPrefix}
use Rattle.vb_hist.specs.declared.entry.Entry.{Entry}
use Rattle.vb_hist.specs.declared.entry.Entry.TheVariants.{Publish, End}
use Rattle.vb_hist.proofs.Pushed.{marks_of-push}
use Rattle.vb_turn.specs.Numbers.{Rises, AreApart, once, times}
use Rattle.vb_turn.proofs.Totals.{total_append}
use Rattle.vb_turn.specs.Books.{opening_at, epoch_after, Pages, StandsFor}

-- a beginning of a list with one more is one of the list, or all
prefix_push : {A : Type 0} (xs front : List A) (x : A) → IsPrefix front (xs ++ x ∷ []) → IsPrefix front xs ⊎ (front ≡ xs ++ x ∷ [])
prefix_push xs [] x is = inl (xs, refl)
prefix_push [] (y ∷ []) x is = inr (cc is.1)
prefix_push [] (y ∷ z ∷ zs) x is = absurd (cc is.1)
prefix_push (z ∷ zs) (y ∷ ys) x is =
    let same : y ≡ z = cc is.1 in
    ⊎_elim (λ more. inl (more.0, ap (λ l. y ∷ l) more.1 ∙ ap (λ a. a ∷ zs) same)) (λ all. inr (ap (λ l. y ∷ l) all ∙ ap (λ a. a ∷ zs ++ x ∷ []) same)) (prefix_push zs ys x (is.0, cc is.1))

rises_push : (epoch : List Entry → ℕ) (history : List Entry) (entry : Entry) → Rises epoch history → epoch history ≤ epoch (history ++ entry ∷ []) → Rises epoch (history ++ entry ∷ [])
rises_push epoch history entry rises up front is = ⊎_elim (λ before. let l = rises front before in omega arith) (λ all. let e = ap epoch all in omega arith) (prefix_push history front entry is)

pub stands_end : (given now : Pages) (writer : ℕ) → StandsFor given now → StandsFor given (record now { history = now.history ++ End writer ∷ [] })
stands_end given now writer s =
    let same : epoch_after given.before (now.history ++ End writer ∷ []) ≡ epoch_after given.before now.history = ap (λ m. m.published) (marks_of-push (opening_at given.before) now.history (End writer) refl) in record {
      begun = s.begun;
      marks = s.marks ∙ sym same;
      rises = rises_push (epoch_after given.before) now.history (End writer) s.rises (omega (arith, same));
    }

pub stands_publish : (given now : Pages) (epoch : ℕ) → epoch ≡ now.published + 1 → StandsFor given now → StandsFor given (record now { history = now.history ++ Publish epoch ∷ []; published = epoch })
stands_publish given now epoch next s =
    let same : epoch_after given.before (now.history ++ Publish epoch ∷ []) ≡ epoch = ap (λ m. m.published) (marks_of-push (opening_at given.before) now.history (Publish epoch) refl) in record {
      begun = s.begun;
      marks = sym same;
      rises = rises_push (epoch_after given.before) now.history (Publish epoch) s.rises (omega (arith, same, s.marks));
    }

pub stands_new : (epoch : ℕ) → StandsFor record { before = epoch; history = []; published = epoch } record { before = epoch; history = []; published = epoch }
stands_new epoch = record {
  begun = refl;
  marks = refl;
  rises = λ front is. let e = ap (epoch_after epoch) (none front is) in omega arith;
}
  where
    none : (front : List Entry) → IsPrefix front [] → front ≡ []
    none [] is = refl
    none (x ∷ xs) is = absurd (cc is.1)

-- the next number stands nowhere among those below it
pub apart_push : (numbers : List ℕ) (i : ℕ) → AreApart numbers → ((number : ℕ) → i ≤ number → times number numbers ≡ 0) → AreApart (numbers ++ i ∷ []) × ((number : ℕ) → i + 1 ≤ number → times number (numbers ++ i ∷ []) ≡ 0)
apart_push numbers i apart later = (
  λ number. let sum = total_append (once number) numbers (i ∷ []) in let one = once_le number i in dite (ℕ_discrete number i)
      (λ same. let none_of = later number (omega (arith, same)) in omega arith)
      (λ other. let none_of = once_other number i other in let few = apart number in omega arith),
  λ number l. let sum = total_append (once number) numbers (i ∷ []) in let none_of = once_other number i (λ e. omega (arith, l)) in let before = later number (omega (arith, l)) in omega arith,
)
  where
    once_le : (number other : ℕ) → once number other ≤ 1
    once_le number other = of (other == number)
      where
        of : (b : Bool) → (let n : ℕ = if b then 1 else 0 in n ≤ 1)
        of true = omega arith
        of false = omega arith

    once_other : (number other : ℕ) → number ≢ other → once number other ≡ 0
    once_other number other apart_from = let off : (other == number) ≡ false = grind (arith, nat_tests) in ap (λ b. let n : ℕ = if b then 1 else 0 in n) off

-- a slice of a whole row that is written back
pub written_back : {A : Type 0} (after before : List A) (n : ℕ) → length after ≡ length before → n ≡ length before → take n (after ++ drop (length after) before) ≡ after
written_back after before n long all =
    ap (λ l. take n (after ++ l)) (drop_of_length-le before (omega (arith, long))) ∙ (ap (take n) (append-nil after) ∙ take_all n after (omega (arith, long, all)))
