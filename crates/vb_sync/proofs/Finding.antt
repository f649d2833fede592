-- Look-ups in lists that got one more item at their end.
use Rattle.std.proofs.Common.{◌≡◌, ℕ, ◌+◌, ◌<◌, ◌≤◌, ◌⊎◌, Bool, true, false, cond, List, [], ◌∷◌, ◌++◌, length, Option, Some, None, is_some, refl, sym, ap, ◌∙◌, inl, inr, true≢false, arith}
use Rattle.std.specs.Prelude.{Result, Ok, Err, OnOk, IsErrOf, is_ok}
use Rattle.std.specs.Option.{option_map, option_or}
use Rattle.std.specs.List.{position_from}
use Rattle.std.specs.Map.{lookup}
use Rattle.std.proofs.lemmas.Bool.{cases_Bool}

-- ---- options

pub or_none : {X : Type 0} (o : Option X) → option_or o None ≡ o
or_none None = refl
or_none (Some x) = refl

pub or_or : {X : Type 0} (a b c : Option X) → option_or a (option_or b c) ≡ option_or (option_or a b) c
or_or None b c = refl
or_or (Some x) b c = refl

pub map_or : {X Y : Type 0} (f : X → Y) (a b : Option X) → option_map f (option_or a b) ≡ option_or (option_map f a) (option_map f b)
map_or f None b = refl
map_or f (Some x) b = refl

pub map_cond : {X Y : Type 0} (f : X → Y) (b : Bool) (x : X) → option_map f (cond b (Some x) None) ≡ cond b (Some (f x)) None
map_cond f true x = refl
map_cond f false x = refl

-- where there is one already, another changes nothing
pub or_there : {X : Type 0} (o : Option X) (b : Bool) (v : X) → (b ≡ true → is_some o ≡ true) → o ≡ option_or o (cond b (Some v) None)
or_there (Some x) b v there = refl
or_there None true v there = absurd (true≢false (sym (there refl)))
or_there None false v there = refl

pub none_of : {X : Type 0} (o : Option X) → is_some o ≡ false → o ≡ None
none_of None h = refl
none_of (Some x) h = absurd (true≢false h)

pub no_some : {X : Type 0} (x : X) → None ≡ Some x → ⊥
no_some {X} x h = true≢false (sym (ap (λ (o : Option X). is_some o) h))

pub of_some : {X : Type 0} (x y : X) → Some x ≡ Some y → x ≡ y
of_some x y h = cc

pub ok_no_err : {T E : Type 0} (x : T) (e : E) → IsErrOf {T = T} (Ok x) e → ⊥
ok_no_err {T} {E} x e h = true≢false (ap (λ (r : Result T E). is_ok r) h)

pub of_err : {T E : Type 0} (a b : E) → IsErrOf {T = T} (Err a) b → a ≡ b
of_err a b h = cc

-- what follows at Ok
pub ok_goes : {T E : Type 0} {P Q : Type 0} (r : Result T E) → (P → Q) → OnOk r P → OnOk r Q
ok_goes (Ok x) goes was = goes was
ok_goes (Err e) goes was = tt

-- ---- maps

pub lookup-snoc : {K X : Type 0} (test : K → Bool) (es : List (K × X)) (k : K) (v : X) → lookup test (es ++ (k, v) ∷ []) ≡ option_or (lookup test es) (cond (test k) (Some v) None)
lookup-snoc test [] k v = refl
lookup-snoc {K} {X} test (e ∷ es) k v =
    elim (test e.0) as (λ b. cond b (Some e.1) (lookup test (es ++ (k, v) ∷ [])) ≡ option_or (cond b (Some e.1) (lookup test es)) (cond (test k) (Some v) None)) [
      | true ↦ refl
      | false ↦ lookup-snoc test es k v
    ]

-- ---- places

pub position-snoc : {X : Type 0} (test : X → Bool) (i : ℕ) (xs : List X) (x : X) → position_from test i (xs ++ x ∷ []) ≡ option_or (position_from test i xs) (cond (test x) (Some (i + length xs)) None)
position-snoc test i [] x = ap (λ n. cond (test x) (Some n) None) (omega arith)
position-snoc {X} test i (y ∷ xs) x =
    let rest : position_from test (i + 1) (xs ++ x ∷ []) ≡ option_or (position_from test (i + 1) xs) (cond (test x) (Some (i + length (y ∷ xs))) None)
    = position-snoc test (i + 1) xs x ∙ ap (λ n. option_or (position_from test (i + 1) xs) (cond (test x) (Some n) None)) (omega arith) in
    elim (test y) as (λ b. cond b (Some i) (position_from test (i + 1) (xs ++ x ∷ [])) ≡ option_or (cond b (Some i) (position_from test (i + 1) xs)) (cond (test x) (Some (i + length (y ∷ xs))) None)) [
      | true ↦ refl
      | false ↦ rest
    ]

pub position-push : {X : Type 0} (test : X → Bool) (xs : List X) (x : X) → position_from test 0 (xs ++ x ∷ []) ≡ option_or (position_from test 0 xs) (cond (test x) (Some (length xs)) None)
position-push test xs x = position-snoc test 0 xs x ∙ ap (λ n. option_or (position_from test 0 xs) (cond (test x) (Some n) None)) (omega arith)

-- where no item passes, none passes a narrower test
pub position-narrow : {X : Type 0} (wide narrow : X → Bool) → ((x : X) → wide x ≡ false → narrow x ≡ false) → (i : ℕ) (xs : List X) → position_from wide i xs ≡ None → position_from narrow i xs ≡ None
position-narrow wide narrow fails i [] none = refl
position-narrow {X} wide narrow fails i (x ∷ xs) none = by_case (position-narrow wide narrow fails (i + 1) xs) (cases_Bool (wide x)) where
  by_case : (position_from wide (i + 1) xs ≡ None → position_from narrow (i + 1) xs ≡ None) → (wide x ≡ true) ⊎ (wide x ≡ false) → position_from narrow i (x ∷ xs) ≡ None
  by_case rest (inl w) = absurd (no_some i (sym none ∙ ap (λ b. cond b (Some i) (position_from wide (i + 1) xs)) w))
  by_case rest (inr w) =
      let left : position_from wide (i + 1) xs ≡ None = sym (ap (λ b. cond b (Some i) (position_from wide (i + 1) xs)) w) ∙ none in
      ap (λ b. cond b (Some i) (position_from narrow (i + 1) xs)) (fails x w) ∙ rest left

-- a place lies within the list
pub record IsWithin (i n j : ℕ) : Type 0 where
  pub from : i ≤ j
  pub to : j < i + n

pub position-within : {X : Type 0} (test : X → Bool) (i : ℕ) (xs : List X) (j : ℕ) → position_from test i xs ≡ Some j → IsWithin i (length xs) j
position-within test i [] j h = absurd (no_some j h)
position-within {X} test i (x ∷ xs) j h = by_case (position-within test (i + 1) xs j) (cases_Bool (test x)) where
  by_case : (position_from test (i + 1) xs ≡ Some j → IsWithin (i + 1) (length xs) j) → (test x ≡ true) ⊎ (test x ≡ false) → IsWithin i (length (x ∷ xs)) j
  by_case later (inl w) =
      let is : i ≡ j = of_some i j (sym (ap (λ b. cond b (Some i) (position_from test (i + 1) xs)) w) ∙ h) in
      record { from = omega (arith, is); to = omega (arith, is) }
  by_case later (inr w) =
      let rest = later (sym (ap (λ b. cond b (Some i) (position_from test (i + 1) xs)) w) ∙ h) in
      let low = rest.from in
      let high = rest.to in
      record { from = omega (arith, low); to = omega (arith, high) }

-- the item at a place where two tests pass first
pub position-both : {X : Type 0} (t u : X → Bool) (i : ℕ) (xs : List X) (j : ℕ) → position_from t i xs ≡ Some j → position_from u i xs ≡ Some j → (x : X) × (t x ≡ true) × (u x ≡ true)
position-both t u i [] j h k = absurd (no_some j h)
position-both {X} t u i (x ∷ xs) j h k = by_case (position-both t u (i + 1) xs j) (cases_Bool (t x)) (cases_Bool (u x)) where
  by_case : (position_from t (i + 1) xs ≡ Some j → position_from u (i + 1) xs ≡ Some j → (x : X) × (t x ≡ true) × (u x ≡ true)) → (t x ≡ true) ⊎ (t x ≡ false) → (u x ≡ true) ⊎ (u x ≡ false) → (x : X) × (t x ≡ true) × (u x ≡ true)
  by_case rest (inl w) (inl z) = (x, w, z)
  by_case rest (inl w) (inr z) =
      let is : i ≡ j = of_some i j (sym (ap (λ b. cond b (Some i) (position_from t (i + 1) xs)) w) ∙ h) in
      let low = (position-within u (i + 1) xs j (sym (ap (λ b. cond b (Some i) (position_from u (i + 1) xs)) z) ∙ k)).from in
      absurd (omega (arith, is, low))
  by_case rest (inr w) (inl z) =
      let is : i ≡ j = of_some i j (sym (ap (λ b. cond b (Some i) (position_from u (i + 1) xs)) z) ∙ k) in
      let low = (position-within t (i + 1) xs j (sym (ap (λ b. cond b (Some i) (position_from t (i + 1) xs)) w) ∙ h)).from in
      absurd (omega (arith, is, low))
  by_case rest (inr w) (inr z) =
      rest
      (sym (ap (λ b. cond b (Some i) (position_from t (i + 1) xs)) w) ∙ h)
      (sym (ap (λ b. cond b (Some i) (position_from u (i + 1) xs)) z) ∙ k)
