-- The numbers of seats, and the entries that they made.
use Rattle.std.specs.Prelude.{◌≡◌, ℕ, ◌+◌, ◌≤◌, ◌==◌, if◌then◌else◌, List, [], ◌∷◌, ◌++◌}
use Rattle.std.specs.List.{AllByRecursion}
use mathlib.Core.List.{IsPrefix}
use Rattle.vb_hist.specs.declared.entry.Entry.{Entry}
use Rattle.vb_hist.specs.Makers.{maker_of, entries_of}

-- the sum of a number for each element
abbrev pub total : {A : Type 0} → (A → ℕ) → List A → ℕ
total f [] = 0
total f (x ∷ xs) = f x + total f xs

-- 1 for this number, and 0 for any other
abbrev pub once : ℕ → ℕ → ℕ
once number other = if other == number then 1 else 0

-- how often a number stands in a list
abbrev pub times : ℕ → List ℕ → ℕ
times number numbers = total (once number) numbers

-- no number stands twice
abbrev pub AreApart : List ℕ → Type 0
AreApart numbers = (number : ℕ) → times number numbers ≤ 1

-- a number that isn't in the list has no entry
abbrev pub AllKnown : List ℕ → List Entry → Type 0
AllKnown numbers history = (number : ℕ) → times number numbers ≡ 0 → entries_of number history ≡ []

-- numbers, each with the entries that it made
abbrev pub Makers : Type 0
Makers = List (ℕ × List Entry)

-- the sum of a number for each of the numbers
abbrev pub weigh : (ℕ → ℕ) → Makers → ℕ
weigh h makers = total (λ (m : ℕ × List Entry). h m.0) makers

-- each has just the history's entries of its number
abbrev pub Made : List Entry → Makers → Type 0
Made history makers = AllByRecursion (λ (m : ℕ × List Entry). entries_of m.0 history ≡ m.1) makers

-- the same numbers, each with its entries in this history
abbrev pub remade : List Entry → Makers → Makers
remade history [] = []
remade history (m ∷ ms) = (m.0, entries_of m.0 history) ∷ remade history ms

-- numbers that have made nothing yet
abbrev pub unused : List ℕ → Makers
unused [] = []
unused (n ∷ ns) = (n, []) ∷ unused ns

-- the epoch is that of a beginning of the history
abbrev pub WasPublished : (List Entry → ℕ) → List Entry → ℕ → Type 0
WasPublished epoch history told = (front : List Entry) × IsPrefix front history × (told ≡ epoch front)

-- no beginning of the history has a later epoch
abbrev pub Rises : (List Entry → ℕ) → List Entry → Type 0
Rises epoch history = (front : List Entry) → IsPrefix front history → epoch front ≤ epoch history

-- the history goes on from a beginning by entries of this number alone
abbrev pub GoesOn : ℕ → List Entry → List Entry → Type 0
GoesOn number front history = (more : List Entry) × (front ++ more ≡ history) × AllByRecursion (λ entry. maker_of entry ≡ number) more
