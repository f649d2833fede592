-- Sums over lists, the entries of numbers, and beginnings of histories.
use Rattle.std.proofs.Common.{◌≡◌, ◌≢◌, ℕ, zero, suc, ◌+◌, ◌<◌, ◌≤◌, Bool, true, false, ◌==◌, if◌then◌else◌, List, [], ◌∷◌, ◌++◌, length, set, Some, All, refl, ap, sym, ◌∙◌, append_assoc, append-nil, arith}
use Rattle.std.specs.List.{AllByRecursion}
use Rattle.std.proofs.lemmas.List.Elements.{filter-append}
use Rattle.std.proofs.lemmas.Bool.Decides.{nat_tests}
use mathlib.Core.Option.{some, some-injective, some-ne-none}
use mathlib.Core.List.{IsPrefix}
use lib.ListN.{get_elem?}
use Rattle.vb_hist.specs.declared.entry.Entry.{Entry}
use Rattle.vb_hist.specs.Makers.{maker_of, entries_of}
use Rattle.vb_turn.specs.Numbers.{total, once, Makers, weigh, Made, remade, unused, WasPublished}

module _ {A : Type 0} (f : A → ℕ) where
  pub total_append : (xs ys : List A) → total f (xs ++ ys) ≡ total f xs + total f ys
  total_append [] ys = omega arith
  total_append (x ∷ xs) ys = let e = total_append xs ys in omega arith

  -- one element changes
  pub total_set : (xs : List A) (j : ℕ) (v w : A) → get_elem? xs j ≡ some v → total f (set xs j w) + f v ≡ total f xs + f w
  total_set [] j v w at = absurd (some-ne-none v (sym at))
  total_set (x ∷ xs) zero v w at = let e = ap f (some-injective x v at) in omega arith
  total_set (x ∷ xs) (suc j) v w at = let e = total_set xs j v w at in omega arith

  pub total_one : (xs : List A) (j : ℕ) (v : A) → get_elem? xs j ≡ some v → f v ≤ total f xs
  total_one [] j v at = absurd (some-ne-none v (sym at))
  total_one (x ∷ xs) zero v at = let e = ap f (some-injective x v at) in omega arith
  total_one (x ∷ xs) (suc j) v at = let e = total_one xs j v at in omega arith

  pub total_two : (xs : List A) (i j : ℕ) (v w : A) → i ≢ j → get_elem? xs i ≡ some v → get_elem? xs j ≡ some w → f v + f w ≤ total f xs
  total_two [] i j v w other at there = absurd (some-ne-none v (sym at))
  total_two (x ∷ xs) zero zero v w other at there = absurd (other refl)
  total_two (x ∷ xs) zero (suc j) v w other at there = let e = ap f (some-injective x v at) in let l = total_one xs j w there in omega arith
  total_two (x ∷ xs) (suc i) zero v w other at there = let e = ap f (some-injective x w there) in let l = total_one xs i v at in omega arith
  total_two (x ∷ xs) (suc i) (suc j) v w other at there = let e = total_two xs i j v w (λ same. other (ap suc same)) at there in omega arith

pub total_below : {A : Type 0} (f g : A → ℕ) (xs : List A) → ((j : ℕ) (v : A) → get_elem? xs j ≡ some v → f v ≤ g v) → total f xs ≤ total g xs
total_below f g [] each = omega arith
total_below f g (x ∷ xs) each = let here = each 0 x refl in let more = total_below f g xs (λ j v at. each (suc j) v at) in omega arith

-- 1 for each is the length
pub total_length : {A : Type 0} (xs : List A) → total (λ _. 1) xs ≡ length xs
total_length [] = refl
total_length (x ∷ xs) = let e = total_length xs in omega arith

pub at_lt : {A : Type 0} (xs : List A) (j : ℕ) (v : A) → get_elem? xs j ≡ some v → j < length xs
at_lt [] j v at = absurd (some-ne-none v (sym at))
at_lt (x ∷ xs) zero v at = omega arith
at_lt (x ∷ xs) (suc j) v at = let e = at_lt xs j v at in omega arith

-- a number is once itself
pub once-same : (number : ℕ) → once number number ≡ 1
once-same number = let e : (number == number) ≡ true = grind (arith, nat_tests) in ap (λ b. if b then 1 else 0) e

pub weigh_remade : (h : ℕ → ℕ) (log : List Entry) (makers : Makers) → weigh h (remade log makers) ≡ weigh h makers
weigh_remade h log [] = refl
weigh_remade h log (m ∷ ms) = ap (λ n. h m.0 + n) (weigh_remade h log ms)

pub weigh_unused : (h : ℕ → ℕ) (numbers : List ℕ) → weigh h (unused numbers) ≡ total h numbers
weigh_unused h [] = refl
weigh_unused h (n ∷ ns) = ap (λ k. h n + k) (weigh_unused h ns)

pub made_remade : (log : List Entry) (makers : Makers) → Made log (remade log makers)
made_remade log [] = tt
made_remade log (m ∷ ms) = (refl, made_remade log ms)

pub some_unused : (numbers : List ℕ) → 0 < length numbers → 0 < length (unused numbers)
some_unused [] l = l
some_unused (n ∷ ns) l = omega arith

pub some_remade : (log : List Entry) (makers : Makers) → 0 < length makers → 0 < length (remade log makers)
some_remade log [] l = l
some_remade log (m ∷ ms) l = omega arith

pub made_unused : (numbers : List ℕ) → Made [] (unused numbers)
made_unused [] = tt
made_unused (n ∷ ns) = (refl, made_unused ns)

pub made_append : (log : List Entry) (these those : Makers) → Made log these → Made log those → Made log (these ++ those)
made_append log [] those here there = there
made_append log (m ∷ ms) those here there = (here.0, made_append log ms those here.1 there)

-- the entries of a number in a history that goes on by others' entries
pub entries_more : (number : ℕ) (log more : List Entry) → entries_of number (log ++ more) ≡ entries_of number log ++ entries_of number more
entries_more number log more = filter-append (λ entry. maker_of entry == number) log more

-- a history goes on by entries of numbers that these makers don't have
pub made_more : (log more : List Entry) (makers : Makers) → ((number : ℕ) → 0 < weigh (once number) makers → entries_of number more ≡ []) → Made log makers → Made (log ++ more) makers
made_more log more [] others made = tt
made_more log more (m ∷ ms) others made = (
  entries_more m.0 log more ∙ (ap (λ l. entries_of m.0 log ++ l) (others m.0 (let e = once-same m.0 in omega arith)) ∙ (append-nil (entries_of m.0 log) ∙ made.0)),
  made_more log more ms (λ number some_of. others number (omega arith)) made.1,
)

pub prefix_refl : {A : Type 0} (xs : List A) → IsPrefix xs xs
prefix_refl xs = ([], append-nil xs)

pub prefix_trans : {A : Type 0} (xs ys zs : List A) → IsPrefix xs ys → IsPrefix ys zs → IsPrefix xs zs
prefix_trans xs ys zs a b = (a.0 ++ b.0, sym (append_assoc xs a.0 b.0) ∙ (ap (λ l. l ++ b.0) a.1 ∙ b.1))

pub published_later : (epoch : List Entry → ℕ) (log later : List Entry) (told : ℕ) → IsPrefix log later → WasPublished epoch log told → WasPublished epoch later told
published_later epoch log later told grows was = (was.0, prefix_trans was.0 log later was.1 grows, was.2)

-- entries of one number are none of another's
pub others_none : (number other : ℕ) (more : List Entry) → AllByRecursion (λ entry. maker_of entry ≡ number) more → once other number ≡ 0 → entries_of other more ≡ []
others_none number other [] all apart = refl
others_none number other (entry ∷ entries) all apart =
    let off : (number == other) ≡ false = by_test (number == other) apart in
    ap (λ b. if b then entry ∷ entries_of other entries else entries_of other entries) (ap (λ n. n == other) all.0 ∙ off) ∙ others_none number other entries all.1 apart
  where
    by_test : (b : Bool) → (let n : ℕ = if b then 1 else 0 in n ≡ 0) → b ≡ false
    by_test true e = absurd (omega arith)
    by_test false e = refl

pub made_parts : (log : List Entry) (these those : Makers) → Made log (these ++ those) → Made log these × Made log those
made_parts log [] those made = (tt, made)
made_parts log (m ∷ ms) those made = let parts = made_parts log ms those made.1 in ((made.0, parts.0), parts.1)

pub all_last : {A : Type 0} (P : A → Type 0) (xs : List A) (x : A) → AllByRecursion P (xs ++ x ∷ []) → AllByRecursion P xs × P x
all_last P [] x all = (tt, all.0)
all_last P (y ∷ ys) x all = let more = all_last P ys x all.1 in ((all.0, more.0), more.1)

-- the value of an option
pub some_is : {A : Type 0} {x y : A} → Some x ≡ Some y → x ≡ y
some_is same = cc same

-- what holds at each place holds of each element
pub all_by : {A : Type 0} (P : A → Type 0) (xs : List A) → All P xs → AllByRecursion P xs
all_by P [] all = tt
all_by P (x ∷ xs) all = (all 0 x (omega arith), all_by P xs (λ k d l. all (suc k) d (omega arith)))

pub all_at : {A : Type 0} (P : A → Type 0) (xs : List A) → AllByRecursion P xs → All P xs
all_at P [] all k d l = absurd (omega arith)
all_at P (x ∷ xs) all zero d l = all.0
all_at P (x ∷ xs) all (suc k) d l = all_at P xs all.1 k d (omega arith)
