-- Fronts of a history: up to a freeze that is there, a history that goes on is the same.
use Rattle.std.proofs.Common.{◌≡◌, ℕ, ◌<◌, Bool, true, false, ◌||◌, ◌==◌, IsTrue, if◌then◌else◌, List, [], ◌∷◌, ◌++◌, refl, ap, sym, ◌∙◌, subst, arith}
use Rattle.std.specs.List.{list_any}
use Rattle.std.proofs.lemmas.Bool.Decides.{nat_tests}
use Rattle.std.proofs.lemmas.List.Folds.{list_any-append}
use mathlib.Core.List.{IsPrefix}
use Rattle.vb_hist.specs.declared.entry.Entry.{Entry}
use Rattle.vb_hist.specs.declared.entry.Entry.TheVariants.{Freeze}
use Rattle.vb_hist.specs.Histories.{is_freeze_of, up_to_freeze, up_to_epoch, IsFrozenAt}

-- the freeze is there: what follows the history is of no matter
pub up_to_freeze-append : (epoch : ℕ) (history later : List Entry) → list_any (is_freeze_of epoch) history ≡ true → up_to_freeze epoch (history ++ later) ≡ up_to_freeze epoch history
up_to_freeze-append epoch [] later h = cc
up_to_freeze-append epoch (entry ∷ entries) later h =
    at (is_freeze_of epoch entry) h (λ rest. up_to_freeze-append epoch entries later rest)
  where
    at : (b : Bool) → (b || list_any (is_freeze_of epoch) entries) ≡ true
        → (list_any (is_freeze_of epoch) entries ≡ true → up_to_freeze epoch (entries ++ later) ≡ up_to_freeze epoch entries)
        → (if b then entry ∷ [] else entry ∷ up_to_freeze epoch (entries ++ later)) ≡ (if b then entry ∷ [] else entry ∷ up_to_freeze epoch entries)
    at true h same = refl
    at false h same = ap (λ l. entry ∷ l) (same h)

-- the freeze isn't there: it is looked for in what follows
pub up_to_freeze-past : (epoch : ℕ) (history later : List Entry) → list_any (is_freeze_of epoch) history ≡ false → up_to_freeze epoch (history ++ later) ≡ history ++ up_to_freeze epoch later
up_to_freeze-past epoch [] later h = refl
up_to_freeze-past epoch (entry ∷ entries) later h =
    at (is_freeze_of epoch entry) h (λ rest. up_to_freeze-past epoch entries later rest)
  where
    at : (b : Bool) → (b || list_any (is_freeze_of epoch) entries) ≡ false
        → (list_any (is_freeze_of epoch) entries ≡ false → up_to_freeze epoch (entries ++ later) ≡ entries ++ up_to_freeze epoch later)
        → (if b then entry ∷ [] else entry ∷ up_to_freeze epoch (entries ++ later)) ≡ entry ∷ (entries ++ up_to_freeze epoch later)
    at true h same = cc
    at false h same = ap (λ l. entry ∷ l) (same h)

-- what stands up to a freeze is a front of the history
pub up_to_freeze-front : (epoch : ℕ) (history : List Entry) → IsPrefix (up_to_freeze epoch history) history
up_to_freeze-front epoch [] = ([], refl)
up_to_freeze-front epoch (entry ∷ entries) = at (is_freeze_of epoch entry) (up_to_freeze-front epoch entries)
  where
    at : (b : Bool) → IsPrefix (up_to_freeze epoch entries) entries → IsPrefix (if b then entry ∷ [] else entry ∷ up_to_freeze epoch entries) (entry ∷ entries)
    at true front = (entries, refl)
    at false front = (front.0, ap (λ l. entry ∷ l) front.1)

-- the epoch is the start or its freeze is there: what follows the history is of no matter
pub up_to_epoch-append : (start epoch : ℕ) (history later : List Entry) → IsFrozenAt start epoch history → up_to_epoch start epoch (history ++ later) ≡ up_to_epoch start epoch history
up_to_epoch-append start epoch history later h = at (epoch == start) h
  where
    at : (b : Bool) → IsTrue (b || list_any (is_freeze_of epoch) history)
        → (if b then [] else up_to_freeze epoch (history ++ later)) ≡ (if b then [] else up_to_freeze epoch history)
    at true h = refl
    at false h = up_to_freeze-append epoch history later h

pub up_to_epoch-front : (start epoch : ℕ) (history : List Entry) → IsPrefix (up_to_epoch start epoch history) history
up_to_epoch-front start epoch history = at (epoch == start)
  where
    at : (b : Bool) → IsPrefix (if b then [] else up_to_freeze epoch history) history
    at true = (history, refl)
    at false = up_to_freeze-front epoch history

-- a history that ends with the first freeze of an epoch goes up to it
pub up_to_epoch-freeze : (start epoch by : ℕ) (history : List Entry) → start < epoch → list_any (is_freeze_of epoch) history ≡ false → up_to_epoch start epoch (history ++ Freeze by epoch ∷ []) ≡ history ++ Freeze by epoch ∷ []
up_to_epoch-freeze start epoch by history later none =
    let past : (epoch == start) ≡ false = grind (arith, nat_tests) in
    let here : (epoch == epoch) ≡ true = grind (arith, nat_tests) in
    rw past (up_to_freeze-past epoch history (Freeze by epoch ∷ []) none ∙ ap (λ l. history ++ l) (rw here refl))

-- the epoch of a freeze at the end is frozen
pub IsFrozenAt-freeze : (start epoch by : ℕ) (history : List Entry) → IsFrozenAt start epoch (history ++ Freeze by epoch ∷ [])
IsFrozenAt-freeze start epoch by history =
    let here : (epoch == epoch) ≡ true = grind (arith, nat_tests) in
    let there : list_any (is_freeze_of epoch) (history ++ Freeze by epoch ∷ []) ≡ true =
    list_any-append (is_freeze_of epoch) history (Freeze by epoch ∷ []) ∙ rw here (or-true (list_any (is_freeze_of epoch) history)) in
    subst (λ b. IsTrue ((epoch == start) || b)) (sym there) (or-true (epoch == start))
  where
    or-true : (a : Bool) → (a || true) ≡ true
    or-true true = refl
    or-true false = refl
