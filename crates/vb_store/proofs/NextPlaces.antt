-- The data places that a next view uses, and how many they are.
use Rattle.std.proofs.Common.{◌≡◌, ℕ, zero, suc, ◌+◌, ◌-◌, ◌<◌, ◌≤◌, Bool, true, false, cond, ltb, List, [], ◌∷◌, length, get_or, refl, ap, subst, arith}
use Rattle.std.specs.Prelude.{count_by, Contains}
use Rattle.std.specs.List.{sum_by}
use Rattle.std.proofs.lemmas.Bool.{ltb-false, ltb-true}
use Rattle.std.proofs.lemmas.List.Sums.{get_or-le-sum_by, sum_by-cons}
use Rattle.vb_space.specs.declared.users.Users.{Users}
use Rattle.vb_space.specs.declared.users.Users.TheVariants.{Neither}
use Rattle.vb_space.specs.Free.{has_next}
use Rattle.vb_space.specs.Spaces.{DataPlaces, IsNext, next_count}

-- 1 for a place that the next view uses
abbrev one_next : Users → ℕ
one_next u = cond (has_next u) 1 0

-- where the next view uses none, it uses no place
pub none_next : (s : DataPlaces) (place : ℕ) → next_count s ≡ 0 → IsNext s place → ⊥
none_next s place none is =
    let within : place - s.first < length s.users = omega (arith, is.within.0, is.within.1) in
    let one : one_next (get_or s.users (place - s.first) Neither) ≡ 1 = ap {B = ℕ} (λ (b : Bool). cond b 1 0) is.used in
    omega (arith, none, one, get_or-le-sum_by one_next s.users (place - s.first) Neither within)

-- ---- no more places than stand in a list

-- 1 for a place that isn't below the first
abbrev from : ℕ → ℕ → ℕ
from first p = cond (ltb p first) 0 1

from_by : (first p : ℕ) (b c : Bool) → ltb p first ≡ b → ltb p (first + 1) ≡ c → cond c 0 1 ≤ cond b 0 1
from_by first p b true below after = omega arith
from_by first p false false below after = omega arith
from_by first p true false below after = absurd (omega (arith, ltb-true p first below, ltb-false p (first + 1) after))

from_later : (first p : ℕ) → from (first + 1) p ≤ from first p
from_later first p = from_by first p (ltb p first) (ltb p (first + 1)) refl refl

here_by : (first p : ℕ) (b c : Bool) → ltb p first ≡ b → ltb p (first + 1) ≡ c → p ≡ first → cond c 0 1 + 1 ≤ cond b 0 1
here_by first p true c below after is = absurd (omega (arith, ltb-true p first below))
here_by first p false true below after is = omega arith
here_by first p false false below after is = absurd (omega (arith, ltb-false p (first + 1) after))

all_later : (first : ℕ) (ps : List ℕ) → sum_by (from (first + 1)) ps ≤ sum_by (from first) ps
all_later first [] = omega arith
all_later first (p ∷ ps) =
    omega (arith, all_later first ps, sum_by-cons (from (first + 1)) p ps, sum_by-cons (from first) p ps, from_later first p)

-- fewer from the next place on, where the first stands among them
fewer : (first : ℕ) (ps : List ℕ) (i : ℕ) → i < length ps → get_or ps i first ≡ first → sum_by (from (first + 1)) ps + 1 ≤ sum_by (from first) ps
fewer first [] i within is = absurd (omega arith)
fewer first (p ∷ ps) zero within is =
    omega (arith, all_later first ps, sum_by-cons (from (first + 1)) p ps, sum_by-cons (from first) p ps, here_by first p (ltb p first) (ltb p (first + 1)) refl refl is)
fewer first (p ∷ ps) (suc i) within is =
    omega (arith, fewer first ps i (omega arith) is, sum_by-cons (from (first + 1)) p ps, sum_by-cons (from first) p ps, from_later first p)

all_few : (first : ℕ) (ps : List ℕ) → sum_by (from first) ps ≤ length ps
all_few first [] = omega arith
all_few first (p ∷ ps) = omega (arith, all_few first ps, sum_by-cons (from first) p ps, at_most (ltb p first))
  where
    at_most : (b : Bool) → cond b 0 1 ≤ 1
    at_most true = omega arith
    at_most false = omega arith

count_first : (first : ℕ) (u : Users) (us : List Users) (ps : List ℕ) (b : Bool) → has_next u ≡ b → (b ≡ true → Contains ps first) → count_by has_next us ≤ sum_by (from (first + 1)) ps → count_by has_next (u ∷ us) ≤ sum_by (from first) ps
count_first first u us ps true used here rest =
    let one : one_next u ≡ 1 = ap {B = ℕ} (λ (b : Bool). cond b 1 0) used in
    let at = here refl in
    omega (arith, rest, one, sum_by-cons one_next u us, fewer first ps at.0 at.1 at.2)
count_first first u us ps false used here rest =
    let none : one_next u ≡ 0 = ap {B = ℕ} (λ (b : Bool). cond b 1 0) used in
    omega (arith, rest, none, sum_by-cons one_next u us, all_later first ps)

count_from : (first : ℕ) (us : List Users) (ps : List ℕ) → ((k : ℕ) → k < length us → has_next (get_or us k Neither) ≡ true → Contains ps (first + k)) → count_by has_next us ≤ sum_by (from first) ps
count_from first [] ps each = omega arith
count_from first (u ∷ us) ps each =
    let at : first + 0 ≡ first = omega arith in
    let later : (k : ℕ) → k < length us → has_next (get_or us k Neither) ≡ true → Contains ps (first + 1 + k) =
    λ k within used. (let same : first + suc k ≡ first + 1 + k = omega arith in subst (Contains ps) same (each (suc k) (omega arith) used)) in
    count_first first u us ps (has_next u) refl (λ used. subst (Contains ps) at (each 0 (omega arith) used)) (count_from (first + 1) us ps later)

-- a next view whose places all stand in a list uses no more than the list has
pub next_few : (s : DataPlaces) (ps : List ℕ) → ((place : ℕ) → IsNext s place → Contains ps place) → next_count s ≤ length ps
next_few s ps each =
    let at : (k : ℕ) → k < length s.users → has_next (get_or s.users k Neither) ≡ true → Contains ps (s.first + k) =
    λ k within used. (
    let back : k ≡ s.first + k - s.first = omega arith in
    each (s.first + k) (record {
      within = (omega arith, omega (arith, within));
      used = subst (λ (n : ℕ). has_next (get_or s.users n Neither) ≡ true) back used;
    })) in
    omega (arith, all_few s.first ps, count_from s.first s.users ps at)
