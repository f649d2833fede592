-- The list of free places, and what becomes of it.
use Rattle.std.proofs.Common.{◌≡◌, ℕ, zero, suc, true, false, ◌+◌, ◌-◌, ◌<◌, ◌≤◌, List, [], ◌∷◌, ◌++◌, length, get_or, set, take, drop, refl, ap, sym, ◌∙◌, arith, subst, cond}
use Rattle.std.specs.Prelude.{count_by}
use Rattle.std.proofs.lemmas.List.Sums.{sum_by-cons}
use Rattle.vb_space.specs.declared.users.Users.{Users}
use Rattle.vb_space.specs.declared.users.Users.TheVariants.{Neither, Committed, Next, Both}
use Rattle.std.proofs.lemmas.List.{append-nil, take_more_set, length-take-le, drop_more, get_or-take, get_or-drop, get_or_default}
use Rattle.std.proofs.Common.{length-drop}
use Rattle.vb_space.specs.declared.space.Space.TheInside.{Inside}
use Rattle.vb_space.specs.Free.{is_neither, has_committed, free_from}
use Rattle.vb_space.specs.Shown.{IsListed}

-- the free ones of two runs of places, one after the other
pub free_from-append : (first : ℕ) (us vs : List Users) → free_from first (us ++ vs) ≡ free_from first us ++ free_from (first + length us) vs
free_from-append first [] vs = let e : first + 0 ≡ first = omega arith in rw e refl
free_from-append first (Neither ∷ us) vs =
    let e : first + (length us + 1) ≡ first + 1 + length us = omega arith in
    ap (λ (r : List ℕ). first ∷ r) (free_from-append (first + 1) us vs) ∙ ap (λ (n : ℕ). first ∷ (free_from (first + 1) us ++ free_from n vs)) (omega arith)
free_from-append first (Committed ∷ us) vs =
    free_from-append (first + 1) us vs ∙ ap (λ (n : ℕ). free_from (first + 1) us ++ free_from n vs) (omega arith)
free_from-append first (Next ∷ us) vs =
    free_from-append (first + 1) us vs ∙ ap (λ (n : ℕ). free_from (first + 1) us ++ free_from n vs) (omega arith)
free_from-append first (Both ∷ us) vs =
    free_from-append (first + 1) us vs ∙ ap (λ (n : ℕ). free_from (first + 1) us ++ free_from n vs) (omega arith)

-- there are as many as have no user
pub length-free_from : (first : ℕ) (us : List Users) → length (free_from first us) ≡ count_by is_neither us
length-free_from first [] = refl
length-free_from first (Neither ∷ us) =
    omega (arith, length-free_from (first + 1) us, sum_by-cons (λ u. cond (is_neither u) 1 0) Neither us)
length-free_from first (Committed ∷ us) =
    omega (arith, length-free_from (first + 1) us, sum_by-cons (λ u. cond (is_neither u) 1 0) Committed us)
length-free_from first (Next ∷ us) =
    omega (arith, length-free_from (first + 1) us, sum_by-cons (λ u. cond (is_neither u) 1 0) Next us)
length-free_from first (Both ∷ us) =
    omega (arith, length-free_from (first + 1) us, sum_by-cons (λ u. cond (is_neither u) 1 0) Both us)

-- what the head of the list is
pub record IsHead (first : ℕ) (us : List Users) (place : ℕ) (rest : List ℕ) : Type 0 where
  pub lower : first ≤ place
  pub upper : place < first + length us
  pub unused : get_or us (place - first) Neither ≡ Neither
  pub least : (k : ℕ) → k < length us → get_or us k Neither ≡ Neither → place ≤ first + k
  pub without : free_from first (set us (place - first) Next) ≡ rest

not_neither : (u : Users) → is_neither u ≡ false → u ≡ Neither → ⊥
not_neither u used is = let e : is_neither u ≡ true = ap is_neither is in cc

least_past : (first : ℕ) (u : Users) (us : List Users) (place : ℕ) → is_neither u ≡ false → ((k : ℕ) → k < length us → get_or us k Neither ≡ Neither → place ≤ first + 1 + k) → (k : ℕ) → k < length (u ∷ us) → get_or (u ∷ us) k Neither ≡ Neither → place ≤ first + k
least_past first u us place used least zero within is = absurd (not_neither u used is)
least_past first u us place used least (suc k) within is =
    let here : place ≤ first + 1 + k = least k (omega arith) is in omega arith

without_past : (first : ℕ) (u : Users) (us : List Users) (k : ℕ) (rest : List ℕ) → is_neither u ≡ false → free_from (first + 1) (set us k Next) ≡ rest → free_from first (u ∷ set us k Next) ≡ rest
without_past first Neither us k rest used without = absurd (cc)
without_past first Committed us k rest used without = without
without_past first Next us k rest used without = without
without_past first Both us k rest used without = without

-- one place further on, where the first has a user
past_used : (first : ℕ) (u : Users) (us : List Users) (place : ℕ) (rest : List ℕ) → is_neither u ≡ false → IsHead (first + 1) us place rest → IsHead first (u ∷ us) place rest
past_used first u us place rest used head =
    let back : place - first ≡ suc (place - (first + 1)) = omega (arith, head.lower) in
    record {
      lower = omega (arith, head.lower);
      upper = omega (arith, head.upper);
      unused = rw back head.unused;
      least = least_past first u us place used head.least;
      without = rw back (without_past first u us (place - (first + 1)) rest used head.without);
    }

here : (first : ℕ) (us : List Users) (rest : List ℕ) → free_from (first + 1) us ≡ rest → IsHead first (Neither ∷ us) first rest
here first us rest after =
    let none : first - first ≡ 0 = omega arith in
    record {
      lower = omega arith;
      upper = omega arith;
      unused = rw none refl;
      least = λ k within is. omega arith;
      without = rw none after;
    }

pub head_of : (first : ℕ) (us : List Users) (place : ℕ) (rest : List ℕ) → free_from first us ≡ place ∷ rest → IsHead first us place rest
head_of first [] place rest listed = absurd (cc)
head_of first (Neither ∷ us) place rest listed =
    let at : first ≡ place = cc in
    let after : free_from (first + 1) us ≡ rest = cc in
    subst (λ (p : ℕ). IsHead first (Neither ∷ us) p rest) at (here first us rest after)
head_of first (Committed ∷ us) place rest listed =
    past_used first Committed us place rest refl (head_of (first + 1) us place rest listed)
head_of first (Next ∷ us) place rest listed =
    past_used first Next us place rest refl (head_of (first + 1) us place rest listed)
head_of first (Both ∷ us) place rest listed =
    past_used first Both us place rest refl (head_of (first + 1) us place rest listed)

-- a place of the committed view is in no list of free ones, and stays so
pub free_from-kept : (first : ℕ) (us : List Users) (k : ℕ) → has_committed (get_or us k Neither) ≡ true → free_from first (set us k Both) ≡ free_from first us
free_from-kept first [] k used = refl
free_from-kept first (Neither ∷ us) zero used = absurd (cc)
free_from-kept first (Committed ∷ us) zero used = refl
free_from-kept first (Next ∷ us) zero used = absurd (cc)
free_from-kept first (Both ∷ us) zero used = refl
free_from-kept first (Neither ∷ us) (suc k) used = ap (λ (r : List ℕ). first ∷ r) (free_from-kept (first + 1) us k used)
free_from-kept first (Committed ∷ us) (suc k) used = free_from-kept (first + 1) us k used
free_from-kept first (Next ∷ us) (suc k) used = free_from-kept (first + 1) us k used
free_from-kept first (Both ∷ us) (suc k) used = free_from-kept (first + 1) us k used

-- one more place at a step of the pass: a free one is listed
one_free : (first : ℕ) (u : Users) → is_neither u ≡ true → free_from first (u ∷ []) ≡ first ∷ []
one_free first Neither free = refl
one_free first Committed free = absurd (cc)
one_free first Next free = absurd (cc)
one_free first Both free = absurd (cc)

one_used : (first : ℕ) (u : Users) → is_neither u ≡ false → free_from first (u ∷ []) ≡ []
one_used first Neither used = absurd (cc)
one_used first Committed used = refl
one_used first Next used = refl
one_used first Both used = refl

more : (first : ℕ) (us : List Users) (i : ℕ) (u : Users) → i < length us → free_from first (take (i + 1) (set us i u)) ≡ free_from first (take i us) ++ free_from (first + i) (u ∷ [])
more first us i u within =
    let short : length (take i us) ≡ i = length-take-le i us (omega arith) in
    ap (free_from first) (take_more_set us i u within) ∙ free_from-append first (take i us) (u ∷ []) ∙ ap (λ (n : ℕ). free_from first (take i us) ++ free_from (first + n) (u ∷ [])) short

pub more_free : (first : ℕ) (us : List Users) (free : List ℕ) (i count : ℕ) (u : Users) → i < length us → count < length free → take count free ≡ free_from first (take i us) → is_neither u ≡ true → take (count + 1) (set free count (first + i)) ≡ free_from first (take (i + 1) (set us i u))
more_free first us free i count u within room listed is =
    take_more_set free count (first + i) room ∙ ap (λ (r : List ℕ). r ++ (first + i) ∷ []) listed ∙ ap (λ (r : List ℕ). free_from first (take i us) ++ r) (sym (one_free (first + i) u is)) ∙ sym (more first us i u within)

pub more_used : (first : ℕ) (us : List Users) (free : List ℕ) (i count : ℕ) (u : Users) → i < length us → take count free ≡ free_from first (take i us) → is_neither u ≡ false → take count free ≡ free_from first (take (i + 1) (set us i u))
more_used first us free i count u within listed is =
    listed ∙ sym (append-nil (free_from first (take i us))) ∙ ap (λ (r : List ℕ). free_from first (take i us) ++ r) (sym (one_used (first + i) u is)) ∙ sym (more first us i u within)

-- how many are listed
pub listed_count : (a : Inside) → IsListed a → a.to - a.from ≡ count_by is_neither a.users.items
listed_count a kept =
    let cut : length (take a.to a.free.items) ≡ a.to = length-take-le a.to a.free.items kept.to in
    let rest : length (drop a.from (take a.to a.free.items)) ≡ a.to - a.from = length-drop a.from (take a.to a.free.items) ∙ ap (λ (n : ℕ). n - a.from) cut in
    sym rest ∙ ap length kept.listed ∙ length-free_from a.first a.users.items

-- the next of the listed places stands before the others
pub listed_front : (a : Inside) (place : ℕ) → IsListed a → a.from < a.to → place ≡ get_or a.free.items a.from place → free_from a.first a.users.items ≡ place ∷ drop (a.from + 1) (take a.to a.free.items)
listed_front a place kept left is =
    let cut : length (take a.to a.free.items) ≡ a.to = length-take-le a.to a.free.items kept.to in
    let within : a.from < length (take a.to a.free.items) = omega arith in
    let front : drop a.from (take a.to a.free.items) ≡ get_or (take a.to a.free.items) a.from place ∷ drop (a.from + 1) (take a.to a.free.items) = drop_more (take a.to a.free.items) a.from place within in
    let same : get_or (take a.to a.free.items) a.from place ≡ place = get_or-take a.to a.free.items a.from place left ∙ sym is in
    sym kept.listed ∙ front ∙ ap (λ (p : ℕ). p ∷ drop (a.from + 1) (take a.to a.free.items)) same

-- it is their head
pub listed_head : (a : Inside) (place : ℕ) → IsListed a → a.from < a.to → place ≡ get_or a.free.items a.from place → IsHead a.first a.users.items place (drop (a.from + 1) (take a.to a.free.items))
listed_head a place kept left is =
    head_of a.first a.users.items place (drop (a.from + 1) (take a.to a.free.items)) (listed_front a place kept left is)

-- a listed place is the one at its position among the free ones
pub listed_at : (a : Inside) (ahead place : ℕ) → IsListed a → ahead < count_by is_neither a.users.items → place ≡ get_or a.free.items (a.from + ahead) place → place ≡ get_or (free_from a.first a.users.items) ahead 0
listed_at a ahead place kept within is =
    let left : a.from + ahead < a.to = omega (arith, listed_count a kept, kept.from) in
    let cut : length (take a.to a.free.items) ≡ a.to = length-take-le a.to a.free.items kept.to in
    is ∙ get_or_default a.free.items (a.from + ahead) place 0 (omega (arith, left, kept.to)) ∙ sym (get_or-take a.to a.free.items (a.from + ahead) 0 left) ∙ sym (get_or-drop a.from (take a.to a.free.items) ahead 0) ∙ ap (λ (r : List ℕ). get_or r ahead 0) kept.listed
