-- Which places a next view uses, as they are taken and kept one by one.
use Rattle.std.proofs.Common.{◌≡◌, ◌≢◌, ℕ, zero, suc, ◌+◌, ◌-◌, ◌<◌, ◌≤◌, true, List, [], ◌∷◌, ◌++◌, length, get_or, take, drop, refl, sym, ap, subst, ◌∙◌, ◌⊎◌, inl, inr, arith, length-drop}
use Rattle.std.specs.Prelude.{Contains}
use Rattle.std.proofs.lemmas.Bool.{cases_eq}
use Rattle.std.proofs.lemmas.List.{drop_more, get_or-set_other, get_or-set_same, length-set, take_more}
use Rattle.std.proofs.lemmas.List.Elements.{Contains-append_cases, Contains-append_left, Contains-append_right}
use Rattle.vb_space.specs.declared.users.Users.{Users}
use Rattle.vb_space.specs.declared.users.Users.TheVariants.{Neither, Committed, Next, Both}
use Rattle.vb_space.specs.Free.{has_committed, has_next, joined}
use Rattle.vb_space.specs.Spaces.{DataPlaces, IsCommitted, IsFree, IsNext, IsWithin, committed_count, free_count, free_places, users_of, with_next}
use Rattle.vb_space.proofs.FreePlaces.{length-free_from}
use Rattle.vb_store.specs.NextViews.{AreTakenOrKept, UsesToo}

-- ---- one place

committed_joined : (u : Users) → has_committed (joined u) ≡ has_committed u
committed_joined Neither = refl
committed_joined Committed = refl
committed_joined Next = refl
committed_joined Both = refl

next_joined : (u : Users) → has_next (joined u) ≡ true
next_joined Neither = refl
next_joined Committed = refl
next_joined Next = refl
next_joined Both = refl

users_here : (s : DataPlaces) (place : ℕ) → IsWithin s place → users_of (with_next s place) place ≡ joined (users_of s place)
users_here s place within =
    get_or-set_same s.users (place - s.first) (joined (users_of s place)) Neither (omega (arith, within.0, within.1))

users_there : (s : DataPlaces) (place other : ℕ) → IsWithin s place → IsWithin s other → other ≢ place → users_of (with_next s place) other ≡ users_of s other
users_there s place other within at apart =
    get_or-set_other s.users (place - s.first) (other - s.first) (joined (users_of s place)) Neither (λ same. apart (omega (arith, within.0, at.0, same)))

within_still : (s : DataPlaces) (place other : ℕ) → IsWithin s other → IsWithin (with_next s place) other
within_still s place other at = (at.0, omega (arith, at.1, length-set s.users (place - s.first) (joined (users_of s place))))

within_before : (s : DataPlaces) (place other : ℕ) → IsWithin (with_next s place) other → IsWithin s other
within_before s place other at = (at.0, omega (arith, at.1, length-set s.users (place - s.first) (joined (users_of s place))))

committed_before : (s : DataPlaces) (place other : ℕ) → IsWithin s place → IsCommitted (with_next s place) other → IsCommitted s other
committed_before s place other within is =
    let at = within_before s place other is.within in
    elim (cases_eq other place) [
      | inl same ↦
          let here : has_committed (users_of (with_next s place) place) ≡ true = subst (λ (p : ℕ). has_committed (users_of (with_next s place) p) ≡ true) same is.used in
          let used : has_committed (users_of s place) ≡ true = sym (committed_joined (users_of s place)) ∙ sym (ap has_committed (users_here s place within)) ∙ here in
          subst (λ (p : ℕ). IsCommitted s p) (sym same) (record { within = within; used = used })
      | inr apart ↦ record { within = at; used = sym (ap has_committed (users_there s place other within at apart)) ∙ is.used }
    ]

committed_still : (s : DataPlaces) (place other : ℕ) → IsWithin s place → IsCommitted s other → IsCommitted (with_next s place) other
committed_still s place other within is = elim (cases_eq other place) [
  | inl same ↦
      let was : has_committed (users_of s place) ≡ true = subst (λ (p : ℕ). has_committed (users_of s p) ≡ true) same is.used in
      let used : has_committed (users_of (with_next s place) place) ≡ true = ap has_committed (users_here s place within) ∙ committed_joined (users_of s place) ∙ was in
      subst (λ (p : ℕ). IsCommitted (with_next s place) p) (sym same) (record { within = within_still s place place within; used = used })
  | inr apart ↦ record {
    within = within_still s place other is.within;
    used = ap has_committed (users_there s place other within is.within apart) ∙ is.used;
  }
]

next_before : (s : DataPlaces) (place other : ℕ) → IsWithin s place → IsNext (with_next s place) other → IsNext s other ⊎ (other ≡ place)
next_before s place other within is = elim (cases_eq other place) [
  | inl same ↦ inr same
  | inr apart ↦
      let at = within_before s place other is.within in
      inl (record { within = at; used = sym (ap has_next (users_there s place other within at apart)) ∙ is.used })
]

next_here : (s : DataPlaces) (place : ℕ) → IsWithin s place → IsNext (with_next s place) place
next_here s place within = record {
  within = within_still s place place within;
  used = ap has_next (users_here s place within) ∙ next_joined (users_of s place);
}

next_still : (s : DataPlaces) (place other : ℕ) → IsWithin s place → IsNext s other → IsNext (with_next s place) other
next_still s place other within is = elim (cases_eq other place) [
  | inl same ↦ subst (λ (p : ℕ). IsNext (with_next s place) p) (sym same) (next_here s place within)
  | inr apart ↦ record {
    within = within_still s place other is.within;
    used = ap has_next (users_there s place other within is.within apart) ∙ is.used;
  }
]

next_with : (s : DataPlaces) (place other : ℕ) → IsWithin s place → IsNext s other ⊎ (other ≡ place) → IsNext (with_next s place) other
next_with s place other within (inl is) = next_still s place other within is
next_with s place other within (inr same) = subst (λ (p : ℕ). IsNext (with_next s place) p) (sym same) (next_here s place within)

-- the next view uses one place more
pub uses_one : (s : DataPlaces) (place : ℕ) → IsWithin s place → committed_count (with_next s place) ≡ committed_count s → UsesToo s (with_next s place) (λ other. other ≡ place)
uses_one s place within counted = record {
  first = refl;
  as_many = length-set s.users (place - s.first) (joined (users_of s place));
  counted = counted;
  committed = λ other. (committed_before s place other within, committed_still s place other within);
  next = λ other. (next_before s place other within, next_with s place other within);
}

-- ---- several of them

left_of : {A B : Type 0} → (B → ⊥) → A ⊎ B → A
left_of none (inl a) = a
left_of none (inr b) = absurd (none b)

-- it uses no more
pub uses_none : (s : DataPlaces) (P : ℕ → Type 0) → ((place : ℕ) → P place → ⊥) → UsesToo s s P
uses_none s P none = record {
  first = refl;
  as_many = refl;
  counted = refl;
  committed = λ place. (λ is. is, λ is. is);
  next = λ place. (λ is. inl is, left_of (none place));
}

or_map : {A B C D : Type 0} → (A → C) → (B → D) → A ⊎ B → C ⊎ D
or_map f g (inl a) = inl (f a)
or_map f g (inr b) = inr (g b)

first_then : {A B P Q R : Type 0} → (A → B ⊎ P) → (P ⊎ Q → R) → A ⊎ Q → B ⊎ R
first_then f g (inl a) = or_map (λ b. b) (λ p. g (inl p)) (f a)
first_then f g (inr q) = inr (g (inr q))

then_first : {A B P Q R : Type 0} → (B ⊎ P → A) → (R → P ⊎ Q) → B ⊎ R → A ⊎ Q
then_first f g (inl b) = inl (f (inl b))
then_first f g (inr r) = or_map (λ p. f (inr p)) (λ q. q) (g r)

-- some places, and then others
pub uses_both : (a b c : DataPlaces) (P Q R : ℕ → Type 0) → UsesToo a b P → UsesToo b c Q → ((place : ℕ) → R place → P place ⊎ Q place) → ((place : ℕ) → P place ⊎ Q place → R place) → UsesToo a c R
uses_both a b c P Q R first after to from = record {
  first = after.first ∙ first.first;
  as_many = after.as_many ∙ first.as_many;
  counted = after.counted ∙ first.counted;
  committed = λ place. (λ is. (first.committed place).0 ((after.committed place).0 is), λ is. (after.committed place).1 ((first.committed place).1 is));
  next = λ place. (λ is. first_then (first.next place).0 (from place) ((after.next place).0 is), λ is. (after.next place).1 (then_first (first.next place).1 (to place) is));
}

-- the same places in other words
pub uses_same : (a b : DataPlaces) (P Q : ℕ → Type 0) → UsesToo a b P → ((place : ℕ) → P place → Q place) → ((place : ℕ) → Q place → P place) → UsesToo a b Q
uses_same a b P Q is to from = record {
  first = is.first;
  as_many = is.as_many;
  counted = is.counted;
  committed = is.committed;
  next = λ place. (λ used. or_map (λ u. u) (to place) ((is.next place).0 used), λ used. (is.next place).1 (or_map (λ u. u) (from place) used));
}

-- ---- one more of a list

one_only : (x place : ℕ) → Contains (x ∷ []) place → place ≡ x
one_only x place is = only is.0 is.1 is.2
  where
    only : (i : ℕ) → i < length (x ∷ []) → get_or (x ∷ []) i place ≡ place → place ≡ x
    only zero within same = sym same
    only (suc i) within same = absurd (omega arith)

pub more_cases : (xs : List ℕ) (i x place : ℕ) → take (i + 1) xs ≡ take i xs ++ x ∷ [] → Contains (take (i + 1) xs) place → Contains (take i xs) place ⊎ (place ≡ x)
more_cases xs i x place more is =
    or_map (λ c. c) (one_only x place) (Contains-append_cases (take i xs) (x ∷ []) place (subst (λ (l : List ℕ). Contains l place) more is))

pub cases_more : (xs : List ℕ) (i x place : ℕ) → take (i + 1) xs ≡ take i xs ++ x ∷ [] → Contains (take i xs) place ⊎ (place ≡ x) → Contains (take (i + 1) xs) place
cases_more xs i x place more (inl is) = subst (λ (l : List ℕ). Contains l place) (sym more) (Contains-append_left (take i xs) (x ∷ []) place is)
cases_more xs i x place more (inr same) =
    subst (λ (l : List ℕ). Contains l place) (sym more) (Contains-append_right (take i xs) (x ∷ []) place (0, omega arith, sym same))

-- ---- places that are taken

-- so many of the free places were taken
pub record IsTakenTo (a b : DataPlaces) (i : ℕ) : Type 0 where
  pub uses : UsesToo a b (Contains (take i (free_places a)))
  pub left : free_places b ≡ drop i (free_places a)

none_within : (place : ℕ) → Contains [] place → ⊥
none_within place is = omega (arith, is.1)

pub taken_none : (s : DataPlaces) → IsTakenTo s s 0
taken_none s = record { uses = uses_none s (Contains []) none_within; left = refl }

pub some_left : (a b : DataPlaces) (i count : ℕ) → IsTakenTo a b i → i < count → count ≤ free_count a → 1 ≤ free_count b
some_left a b i count taken below room =
    omega (arith, ap length taken.left, length-drop i (free_places a), length-free_from a.first a.users, length-free_from b.first b.users)

pub one_taken : (a b c : DataPlaces) (i place : ℕ) → IsTakenTo a b i → IsFree b place → free_places b ≡ place ∷ free_places c → c ≡ with_next b place → committed_count c ≡ committed_count b → IsTakenTo a c (i + 1)
one_taken a b c i place taken free first is counted =
    let ps = free_places a in
    let here : drop i ps ≡ place ∷ free_places c = sym taken.left ∙ first in
    let below : i < length ps = omega (arith, ap length here, length-drop i ps) in
    let both : get_or ps i place ∷ drop (i + 1) ps ≡ place ∷ free_places c = sym (drop_more ps i place below) ∙ here in
    let at : get_or ps i place ≡ place = cc both in
    let rest : drop (i + 1) ps ≡ free_places c = cc both in
    let more : take (i + 1) ps ≡ take i ps ++ place ∷ [] = take_more ps i place below ∙ ap (λ (x : ℕ). take i ps ++ x ∷ []) at in
    let same : committed_count (with_next b place) ≡ committed_count b = sym (ap committed_count is) ∙ counted in
    let one : UsesToo b c (λ other. other ≡ place) = subst (λ (d : DataPlaces). UsesToo b d (λ other. other ≡ place)) (sym is) (uses_one b place free.within same) in
    record {
      uses = uses_both a b c (Contains (take i ps)) (λ other. other ≡ place) (Contains (take (i + 1) ps)) taken.uses one (λ p. more_cases ps i place p more) (λ p. cases_more ps i place p more);
      left = sym rest;
    }

-- ---- places that are kept

-- a place is one of these, and the committed view uses it
abbrev pub IsKeptIn : DataPlaces → List ℕ → ℕ → Type 0
IsKeptIn s used place = Contains used place × IsCommitted s place

-- it is this one, and the committed view uses it
abbrev pub IsKeptAt : DataPlaces → ℕ → ℕ → Type 0
IsKeptAt s place other = (other ≡ place) × IsCommitted s other

pub kept_none : (s : DataPlaces) → UsesToo s s (IsKeptIn s [])
kept_none s = uses_none s (IsKeptIn s []) (λ place is. none_within place is.0)

pub kept_yes : (old new : DataPlaces) (place : ℕ) → IsCommitted old place → new ≡ with_next old place → committed_count new ≡ committed_count old → UsesToo old new (IsKeptAt old place)
kept_yes old new place is with counted =
    let same : committed_count (with_next old place) ≡ committed_count old = sym (ap committed_count with) ∙ counted in
    let one : UsesToo old new (λ other. other ≡ place) = subst (λ (d : DataPlaces). UsesToo old d (λ other. other ≡ place)) (sym with) (uses_one old place is.within same) in
    uses_same old new (λ other. other ≡ place) (IsKeptAt old place) one (λ other at. (at, subst (IsCommitted old) (sym at) is)) (λ other both. both.0)

pub kept_no : (s : DataPlaces) (place : ℕ) → (IsCommitted s place → ⊥) → UsesToo s s (IsKeptAt s place)
kept_no s place away = uses_none s (IsKeptAt s place) (λ other both. away (subst (IsCommitted s) both.0 both.1))

kept_cases : (a b : DataPlaces) (used : List ℕ) (i place other : ℕ) → (IsCommitted a other → IsCommitted b other) → Contains (take i used) other ⊎ (other ≡ place) → IsCommitted a other → IsKeptIn a (take i used) other ⊎ IsKeptAt b place other
kept_cases a b used i place other goes (inl is) committed = inl (is, committed)
kept_cases a b used i place other goes (inr same) committed = inr (same, goes committed)

cases_kept : (a b : DataPlaces) (used : List ℕ) (i place other : ℕ) → take (i + 1) used ≡ take i used ++ place ∷ [] → (IsCommitted b other → IsCommitted a other) → IsKeptIn a (take i used) other ⊎ IsKeptAt b place other → IsKeptIn a (take (i + 1) used) other
cases_kept a b used i place other more goes (inl is) = (cases_more used i place other more (inl is.0), is.1)
cases_kept a b used i place other more goes (inr at) = (cases_more used i place other more (inr at.0), goes at.1)

pub one_kept : (a b c : DataPlaces) (used : List ℕ) (i place : ℕ) → UsesToo a b (IsKeptIn a (take i used)) → UsesToo b c (IsKeptAt b place) → take (i + 1) used ≡ take i used ++ place ∷ [] → UsesToo a c (IsKeptIn a (take (i + 1) used))
one_kept a b c used i place before one more =
    uses_both a b c (IsKeptIn a (take i used)) (IsKeptAt b place) (IsKeptIn a (take (i + 1) used)) before one
    (λ other is. kept_cases a b used i place other (before.committed other).1 (more_cases used i place other more is.0) is.1)
    (λ other is. cases_kept a b used i place other more (before.committed other).0 is)

-- ---- all of them

place_used : (s : DataPlaces) (b : DataPlaces) (count : ℕ) (used : List ℕ) (place : ℕ) → AreTakenOrKept s count used → Contains (take count (free_places s)) place ⊎ IsKeptIn b used place → Contains used place
place_used s b count used place all (inl is) = all.all_taken place is
place_used s b count used place all (inr is) = is.0

used_by : (s b : DataPlaces) (count : ℕ) (used : List ℕ) (place : ℕ) → (IsCommitted s place → IsCommitted b place) → Contains used place → Contains (take count (free_places s)) place ⊎ IsCommitted s place → Contains (take count (free_places s)) place ⊎ IsKeptIn b used place
used_by s b count used place goes is (inl taken) = inl taken
used_by s b count used place goes is (inr committed) = inr (is, goes committed)

pub all_used : (a b c : DataPlaces) (count : ℕ) (used : List ℕ) → AreTakenOrKept a count used → UsesToo a b (Contains (take count (free_places a))) → UsesToo b c (IsKeptIn b used) → UsesToo a c (Contains used)
all_used a b c count used all first after =
    uses_both a b c (Contains (take count (free_places a))) (IsKeptIn b used) (Contains used) first after
    (λ place is. used_by a b count used place (first.committed place).1 is (all.others_kept place is))
    (λ place is. place_used a b count used place all is)
