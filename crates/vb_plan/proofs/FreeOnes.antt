-- Free places are free, and each is listed once.
use Rattle.std.proofs.Common.{◌≡◌, ℕ, suc, ◌+◌, ◌-◌, ◌<◌, ◌≤◌, ◌==◌, Bool, true, false, List, [], ◌∷◌, ◌++◌, length, get_or, drop, take, All, cond, refl, ap, arith}
use Rattle.std.specs.Prelude.{count_by}
use Rattle.std.proofs.lemmas.Bool.{eqb-true}
use Rattle.std.proofs.lemmas.List.{take-append-drop}
use Rattle.std.proofs.lemmas.List.Elements.{All-take}
use Rattle.std.proofs.lemmas.List.Sums.{sum_by-append, sum_by-cons}
use Rattle.vb_space.specs.declared.users.Users.{Users}
use Rattle.vb_space.specs.declared.users.Users.TheVariants.{Neither, Committed, Next, Both}
use Rattle.vb_space.specs.Free.{free_from}
use Rattle.vb_space.specs.Spaces.{DataPlaces, IsFree, free_places}
use Rattle.vb_plan.proofs.Nexts.{all_cons}

-- a place from a first one on that has no user
record IsOpen (first : ℕ) (us : List Users) (place : ℕ) : Type 0 where
  lower : first ≤ place
  upper : place < first + length us
  unused : get_or us (place - first) Neither ≡ Neither

open_later : (first : ℕ) (u : Users) (us : List Users) (place : ℕ) → IsOpen (first + 1) us place → IsOpen first (u ∷ us) place
open_later first u us place is =
    let back : place - first ≡ suc (place - (first + 1)) = omega (arith, is.lower) in
    record { lower = omega (arith, is.lower); upper = omega (arith, is.upper); unused = rw back is.unused }

open_here : (first : ℕ) (us : List Users) → IsOpen first (Neither ∷ us) first
open_here first us =
    let none : first - first ≡ 0 = omega arith in
    record { lower = omega arith; upper = omega arith; unused = rw none refl }

all_later : (first : ℕ) (u : Users) (us : List Users) (places : List ℕ) → All (IsOpen (first + 1) us) places → All (IsOpen first (u ∷ us)) places
all_later first u us places all k d within = open_later first u us (get_or places k d) (all k d within)

all_open : (first : ℕ) (us : List Users) → All (IsOpen first us) (free_from first us)
all_open first [] = λ k d within. absurd (omega arith)
all_open first (Neither ∷ us) =
    all_cons (IsOpen first (Neither ∷ us)) first (free_from (first + 1) us) (open_here first us) (all_later first Neither us (free_from (first + 1) us) (all_open (first + 1) us))
all_open first (Committed ∷ us) = all_later first Committed us (free_from (first + 1) us) (all_open (first + 1) us)
all_open first (Next ∷ us) = all_later first Next us (free_from (first + 1) us) (all_open (first + 1) us)
all_open first (Both ∷ us) = all_later first Both us (free_from (first + 1) us) (all_open (first + 1) us)

-- each of the first free places is free
pub first_are_free : (s : DataPlaces) (count : ℕ) → All (IsFree s) (take count (free_places s))
first_are_free s count =
    let all : All (IsFree s) (free_places s) = λ k d within. (let is = all_open s.first s.users k d within in record { within = (is.lower, is.upper); unused = is.unused }) in
    All-take (IsFree s) count (free_places s) all

-- how often a place is among some
abbrev pub times : ℕ → List ℕ → ℕ
times place places = count_by (λ p. p == place) places

-- 1 where a place is this one
abbrev pub one_if : ℕ → ℕ → ℕ
one_if place q = cond (q == place) 1 0

pub times-cons : (place q : ℕ) (places : List ℕ) → times place (q ∷ places) ≡ one_if place q + times place places
times-cons place q places = sum_by-cons (one_if place) q places

pub times-append : (place : ℕ) (a b : List ℕ) → times place (a ++ b) ≡ times place a + times place b
times-append place a b = sum_by-append (one_if place) a b

one_if-test : (place q : ℕ) (b : Bool) → (q == place) ≡ b → one_if place q ≡ cond b 1 0
one_if-test place q b e = ap (λ (t : Bool). cond t 1 0) e

one_if-other : (place q : ℕ) (b : Bool) → (q == place) ≡ b → place < q → one_if place q ≡ 0
one_if-other place q true e below = absurd (omega (arith, eqb-true q place e))
one_if-other place q false e below = one_if-test place q false e

-- a place below the first is not among them
none_below : (place first : ℕ) (us : List Users) → place < first → times place (free_from first us) ≡ 0
none_below place first [] below = refl
none_below place first (Neither ∷ us) below =
    omega (arith, times-cons place first (free_from (first + 1) us), one_if-other place first (first == place) refl below, none_below place (first + 1) us (omega arith))
none_below place first (Committed ∷ us) below = none_below place (first + 1) us (omega arith)
none_below place first (Next ∷ us) below = none_below place (first + 1) us (omega arith)
none_below place first (Both ∷ us) below = none_below place (first + 1) us (omega arith)

-- the first of them is not among the others
first_once : (place first : ℕ) (places : List ℕ) (b : Bool) → (first == place) ≡ b → (place < first + 1 → times place places ≡ 0) → times place places ≤ 1 → times place (first ∷ places) ≤ 1
first_once place first places true e none once =
    omega (arith, times-cons place first places, one_if-test place first true e, none (omega (arith, eqb-true first place e)))
first_once place first places false e none once = omega (arith, times-cons place first places, one_if-test place first false e, once)

listed_once : (place first : ℕ) (us : List Users) → times place (free_from first us) ≤ 1
listed_once place first [] = omega arith
listed_once place first (Neither ∷ us) =
    first_once place first (free_from (first + 1) us) (first == place) refl (none_below place (first + 1) us) (listed_once place (first + 1) us)
listed_once place first (Committed ∷ us) = listed_once place (first + 1) us
listed_once place first (Next ∷ us) = listed_once place (first + 1) us
listed_once place first (Both ∷ us) = listed_once place (first + 1) us

-- the first free places name each place once
pub first_name_once : (s : DataPlaces) (count place : ℕ) → count_by (λ p. p == place) (take count (free_places s)) ≤ 1
first_name_once s count place =
    omega (arith, times-append place (take count (free_places s)) (drop count (free_places s)), ap (times place) (take-append-drop count (free_places s)), listed_once place s.first s.users)
