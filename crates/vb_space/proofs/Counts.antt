-- How many places each view uses.
use Rattle.std.proofs.Common.{◌≡◌, ℕ, suc, Bool, true, ◌+◌, ◌<◌, ◌≤◌, List, [], ◌∷◌, length, get_or, set, map, refl, ap, arith, cond}
use Rattle.std.specs.Prelude.{count_by}
use Rattle.std.proofs.lemmas.List.Sums.{sum_by-cons, sum_by-set}
use Rattle.vb_space.specs.declared.users.Users.{Users}
use Rattle.vb_space.specs.declared.users.Users.TheVariants.{Neither, Committed, Next, Both}
use Rattle.vb_space.specs.Free.{is_neither, has_committed, has_next, settled}

-- 1 where a test passes
abbrev one : (Users → Bool) → Users → ℕ
one p u = cond (p u) 1 0

count-cons : (p : Users → Bool) (u : Users) (us : List Users) → count_by p (u ∷ us) ≡ one p u + count_by p us
count-cons p u us = sum_by-cons (one p) u us

count-set : (p : Users → Bool) (us : List Users) (k : ℕ) (u : Users) → k < length us → count_by p (set us k u) + one p (get_or us k Neither) ≡ count_by p us + one p u
count-set p us k u within = sum_by-set (one p) us k u Neither within

-- each place is free or used by a view
pub length-le-counts : (us : List Users) → length us ≤ count_by is_neither us + (count_by has_committed us + count_by has_next us)
length-le-counts [] = omega arith
length-le-counts (u ∷ us) =
    omega (arith, length-le-counts us, count-cons is_neither u us, count-cons has_committed u us, count-cons has_next u us, some_use u)
  where
    some_use : (u : Users) → 1 ≤ one is_neither u + (one has_committed u + one has_next u)
    some_use Neither = omega arith
    some_use Committed = omega arith
    some_use Next = omega arith
    some_use Both = omega arith

-- a free place that the next view takes
pub next-taken : (us : List Users) (k : ℕ) → k < length us → get_or us k Neither ≡ Neither → count_by has_next (set us k Next) ≡ count_by has_next us + 1
next-taken us k within unused =
    let was : one has_next (get_or us k Neither) ≡ 0 = ap (one has_next) unused in
    omega (arith, count-set has_next us k Next within)

pub committed-taken : (us : List Users) (k : ℕ) → k < length us → get_or us k Neither ≡ Neither → count_by has_committed (set us k Next) ≡ count_by has_committed us
committed-taken us k within unused =
    let was : one has_committed (get_or us k Neither) ≡ 0 = ap (one has_committed) unused in
    omega (arith, count-set has_committed us k Next within)

-- one place more for the next view
pub next-marked : (us : List Users) (k : ℕ) → k < length us → count_by has_next (set us k Next) ≤ count_by has_next us + 1
next-marked us k within = omega (arith, count-set has_next us k Next within)

-- no place has a user
pub next-none : (us : List Users) → ((k : ℕ) → get_or us k Neither ≡ Neither) → count_by has_next us ≡ 0
next-none [] none = refl
next-none (u ∷ us) none =
    let first : one has_next u ≡ 0 = ap (one has_next) (none 0) in
    omega (arith, next-none us (λ k. none (suc k)), count-cons has_next u us)

-- a place of the committed view that the next one keeps
pub next-kept : (us : List Users) (k : ℕ) → k < length us → count_by has_next (set us k Both) ≤ count_by has_next us + 1
next-kept us k within = omega (arith, count-set has_next us k Both within)

pub committed-kept : (us : List Users) (k : ℕ) → k < length us → has_committed (get_or us k Neither) ≡ true → count_by has_committed (set us k Both) ≡ count_by has_committed us
committed-kept us k within used =
    let was : one has_committed (get_or us k Neither) ≡ 1 = ap (λ (b : Bool). cond b 1 0) used in
    omega (arith, count-set has_committed us k Both within)

-- the next view becomes the committed one
pub committed-settled : (us : List Users) → count_by has_committed (map settled us) ≡ count_by has_next us
committed-settled [] = refl
committed-settled (u ∷ us) =
    omega (arith, committed-settled us, count-cons has_committed (settled u) (map settled us), count-cons has_next u us, same u)
  where
    same : (u : Users) → one has_committed (settled u) ≡ one has_next u
    same Neither = refl
    same Committed = refl
    same Next = refl
    same Both = refl

pub next-settled : (us : List Users) → count_by has_next (map settled us) ≡ 0
next-settled [] = refl
next-settled (u ∷ us) =
    omega (arith, next-settled us, count-cons has_next (settled u) (map settled us), none u)
  where
    none : (u : Users) → one has_next (settled u) ≡ 0
    none Neither = refl
    none Committed = refl
    none Next = refl
    none Both = refl
