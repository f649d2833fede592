-- Which places the next view uses once a list of them is marked.
use Rattle.std.proofs.Common.{◌≡◌, ℕ, Bool, true, false, ◌+◌, ◌-◌, ◌<◌, ◌≤◌, List, length, get_or, set, map, take, refl, ap, sym, ◌∙◌, arith, subst, cond, nat_eq, inl, inr, length-set, get_or-set_same, get_or-set_other}
use Rattle.std.specs.Prelude.{All, Contains, ◌||◌}
use Rattle.std.specs.List.{list_any}
use Rattle.std.proofs.lemmas.Bool.{cases_eq, or_right, eq-eqb, ne_eqb, eqb-true}
use Rattle.std.proofs.lemmas.List.{get_or-map, length-map}
use Rattle.std.proofs.lemmas.List.Folds.{list_any_more, list_any_at, Any-from_list_any}
use Rattle.vb_space.specs.declared.users.Users.{Users}
use Rattle.vb_space.specs.declared.users.Users.TheVariants.{Neither, Committed, Next, Both}
use Rattle.vb_space.specs.Free.{has_committed, has_next, settled}
use Rattle.vb_space.specs.Spaces.{IsCommitted}
use Rattle.vb_space.proofs.Seen.{places_of}

-- who uses the place that is `k` places past the first, once these are marked
abbrev pub marked_at : ℕ → List ℕ → ℕ → Users
marked_at first used k = cond (list_any (λ place. nat_eq place (first + k)) used) Next Neither

or-false : (b : Bool) → (b || false) ≡ b
or-false b = elim b as (λ (v : Bool). (v || false) ≡ v) [ true ↦ refl | false ↦ refl ]

abbrev next_if : Bool → Users
next_if b = cond b Next Neither

-- one more place is marked
pub mark_more : (first : ℕ) (users : List Users) (used : List ℕ) (i : ℕ) → i < length used → first ≤ get_or used i 0 → get_or used i 0 < first + length users → ((k : ℕ) → k < length users → get_or users k Neither ≡ marked_at first (take i used) k) → (k : ℕ) → k < length (set users (get_or used i 0 - first) Next) → get_or (set users (get_or used i 0 - first) Next) k Neither ≡ marked_at first (take (i + 1) used) k
mark_more first users used i inside above below marked k within =
    let place : ℕ = get_or used i 0 in
    let test = λ (p : ℕ). nat_eq p (first + k) in
    let tests : list_any test (take (i + 1) used) ≡ (list_any test (take i used) || nat_eq (get_or used i 0) (first + k)) = list_any_more test used i 0 inside in
    let short : k < length users = omega (arith, length-set users (get_or used i 0 - first) Next) in
    elim (cases_eq k (get_or used i 0 - first)) [
      | inl same ↦
          let is : nat_eq (get_or used i 0) (first + k) ≡ true = eq-eqb (get_or used i 0) (first + k) (omega arith) in
          let all : list_any test (take (i + 1) used) ≡ true = tests ∙ or_right (list_any test (take i used)) (nat_eq (get_or used i 0) (first + k)) is in
          ap (λ (n : ℕ). get_or (set users (get_or used i 0 - first) Next) n Neither) same ∙ get_or-set_same users (get_or used i 0 - first) Next Neither (omega arith) ∙ sym (ap next_if all)
      | inr other ↦
          let is : nat_eq (get_or used i 0) (first + k) ≡ false = ne_eqb (get_or used i 0) (first + k) (λ e. other (omega arith)) in
          let all : list_any test (take (i + 1) used) ≡ list_any test (take i used) = tests ∙ ap (λ (b : Bool). list_any test (take i used) || b) is ∙ or-false (list_any test (take i used)) in
          get_or-set_other users (get_or used i 0 - first) k Next Neither other ∙ marked k short ∙ sym (ap next_if all)
    ]

next-next_if : (b : Bool) → has_next (next_if b) ≡ b
next-next_if b = elim b as (λ (v : Bool). has_next (next_if v) ≡ v) [ true ↦ refl | false ↦ refl ]

committed-settled_at : (u : Users) → has_committed (settled u) ≡ has_next u
committed-settled_at Neither = refl
committed-settled_at Committed = refl
committed-settled_at Next = refl
committed-settled_at Both = refl

-- whether the committed view uses a place, once the marked places are its own
committed_is : (first : ℕ) (marked : List Users) (used : List ℕ) (place : ℕ) → ((k : ℕ) → k < length marked → get_or marked k Neither ≡ marked_at first used k) → first ≤ place → place < first + length marked → has_committed (get_or (map settled marked) (place - first) Neither) ≡ list_any (λ p. nat_eq p (first + (place - first))) used
committed_is first marked used place is above below =
    ap has_committed (get_or-map settled marked (place - first) Neither Neither (omega arith)) ∙ committed-settled_at (get_or marked (place - first) Neither) ∙ ap has_next (is (place - first) (omega arith)) ∙ next-next_if (list_any (λ p. nat_eq p (first + (place - first))) used)

pub used_by_committed : (first : ℕ) (marked : List Users) (used : List ℕ) → ((k : ℕ) → k < length marked → get_or marked k Neither ≡ marked_at first used k) → (place : ℕ) → IsCommitted (places_of first (map settled marked)) place → Contains used place
used_by_committed first marked used is place uses =
    let below : place < first + length marked = omega (arith, uses.within.1, length-map marked settled) in
    let found = Any-from_list_any (λ p. nat_eq p (first + (place - first))) used (sym (committed_is first marked used place is uses.within.0 below) ∙ uses.used) in
    let same : found.1 ≡ place = omega (arith, eqb-true found.1 (first + (place - first)) found.4, uses.within.0) in
    (found.0, found.2, subst (λ (p : ℕ). get_or used found.0 p ≡ p) same found.3)

pub committed_uses : (first : ℕ) (marked : List Users) (used : List ℕ) → ((k : ℕ) → k < length marked → get_or marked k Neither ≡ marked_at first used k) → All (λ place. first ≤ place) used → All (λ place. place < first + length marked) used → (place : ℕ) → Contains used place → IsCommitted (places_of first (map settled marked)) place
committed_uses first marked used is within below place here =
    let above : first ≤ place = subst (λ (p : ℕ). first ≤ p) here.2 (within here.0 place here.1) in
    let under : place < first + length marked = subst (λ (p : ℕ). p < first + length marked) here.2 (below here.0 place here.1) in
    let at : nat_eq (get_or used here.0 place) (first + (place - first)) ≡ true = eq-eqb (get_or used here.0 place) (first + (place - first)) (omega (arith, here.2)) in
    record {
      within = (above, omega (arith, length-map marked settled));
      used = committed_is first marked used place is above under ∙ list_any_at (λ p. nat_eq p (first + (place - first))) used here.0 place here.1 at;
    }
