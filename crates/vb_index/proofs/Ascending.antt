-- Strictly ascending lists: two of them with the same items are one.
use Rattle.std.proofs.Common.{◌≡◌, ℕ, zero, suc, ◌<◌, Bool, true, false, cond, List, [], ◌∷◌, ◌++◌, length, map, get_or, ◌⊎◌, inl, inr, refl, sym, ap, ◌∙◌, subst, arith}
use Rattle.std.specs.List.{filter, Contains}
use Rattle.std.proofs.lemmas.Bool.{cases_Bool}

-- an item is in a list
abbrev pub In : {A : Type 0} → A → List A → Type 0
In x [] = ⊥
In x (y ∷ ys) = (x ≡ y) ⊎ In x ys

-- an order in which nothing is below itself
pub record IsStrict {A : Type 0} (lt : A → A → Type 0) : Type 0 where
  pub apart : (a : A) → lt a a → ⊥
  pub trans : (a b c : A) → lt a b → lt b c → lt a c

-- an item is below each of a list
abbrev pub AllBelow : {A : Type 0} → (A → A → Type 0) → A → List A → Type 0
AllBelow lt x [] = Unit {0}
AllBelow lt x (y ∷ ys) = lt x y × AllBelow lt x ys

-- each item is below those after it
abbrev pub Ascends : {A : Type 0} → (A → A → Type 0) → List A → Type 0
Ascends lt [] = Unit {0}
Ascends lt (x ∷ xs) = AllBelow lt x xs × Ascends lt xs

pub below-in : {A : Type 0} (lt : A → A → Type 0) (x y : A) (ys : List A) → AllBelow lt x ys → In y ys → lt x y
below-in lt x y [] all is = absurd is
below-in lt x y (z ∷ zs) all (inl e) = subst (lt x) (sym e) all.0
below-in lt x y (z ∷ zs) all (inr is) = below-in lt x y zs all.1 is

pub below-all : {A : Type 0} (lt : A → A → Type 0) (x : A) (ys : List A) → ((y : A) → In y ys → lt x y) → AllBelow lt x ys
below-all lt x [] h = tt
below-all lt x (y ∷ ys) h = (h y (inl refl), below-all lt x ys (λ z is. h z (inr is)))

first-same : {A : Type 0} (lt : A → A → Type 0) (x y : A) (xs ys : List A) → IsStrict lt → Ascends lt (x ∷ xs) → Ascends lt (y ∷ ys) → In x (y ∷ ys) → In y (x ∷ xs) → x ≡ y
first-same lt x y xs ys strict up up' (inl e) back = e
first-same lt x y xs ys strict up up' (inr is) (inl e) = sym e
first-same lt x y xs ys strict up up' (inr is) (inr is') = absurd (strict.apart x (strict.trans x y x (below-in lt x y xs up.0 is') (below-in lt y x ys up'.0 is)))

rest_in : {A : Type 0} (lt : A → A → Type 0) (x z : A) (xs ys : List A) → IsStrict lt → Ascends lt (x ∷ xs) → In z xs → In z (x ∷ ys) → In z ys
rest_in lt x z xs ys strict up is (inl e) = absurd (strict.apart x (subst (lt x) e (below-in lt x z xs up.0 is)))
rest_in lt x z xs ys strict up is (inr is') = is'

pub ascending-same : {A : Type 0} (lt : A → A → Type 0) (xs ys : List A) → IsStrict lt → Ascends lt xs → Ascends lt ys → ((x : A) → In x xs → In x ys) → ((x : A) → In x ys → In x xs) → xs ≡ ys
ascending-same lt [] [] strict up up' forth back = refl
ascending-same lt [] (y ∷ ys) strict up up' forth back = absurd (back y (inl refl))
ascending-same lt (x ∷ xs) [] strict up up' forth back = absurd (forth x (inl refl))
ascending-same {A} lt (x ∷ xs) (y ∷ ys) strict up up' forth back = ap (λ z. z ∷ xs) same ∙ ap (λ zs. y ∷ zs) (ascending-same lt xs ys strict up.1 up'.1 forth' back') where
  same : x ≡ y
  same = first-same lt x y xs ys strict up up' (forth x (inl refl)) (back y (inl refl))

  forth' : (z : A) → In z xs → In z ys
  forth' z is = let P : A → Type 0 = λ h. In z (h ∷ ys) in rest_in lt x z xs ys strict up is (subst P (sym same) (forth z (inr is)))

  back' : (z : A) → In z ys → In z xs
  back' z is = let P : A → Type 0 = λ h. In z (h ∷ xs) in rest_in lt y z ys xs strict up' is (subst P same (back z (inr is)))

-- ---- parts

pub in-map : {A B : Type 0} (f : A → B) (x : A) (xs : List A) → In x xs → In (f x) (map f xs)
in-map f x [] is = absurd is
in-map f x (y ∷ ys) (inl e) = inl (ap f e)
in-map f x (y ∷ ys) (inr is) = inr (in-map f x ys is)

pub of-map : {A B : Type 0} (f : A → B) (y : B) (xs : List A) → In y (map f xs) → (x : A) × (In x xs) × (y ≡ f x)
of-map f y [] is = absurd is
of-map f y (x ∷ xs) (inl e) = (x, inl refl, e)
of-map f y (x ∷ xs) (inr is) = let below = of-map f y xs is in (below.0, inr below.1, below.2)

pub in-append : {A : Type 0} (x : A) (xs ys : List A) → In x xs ⊎ In x ys → In x (xs ++ ys)
in-append x [] ys (inl is) = absurd is
in-append x [] ys (inr is) = is
in-append x (z ∷ zs) ys (inl (inl e)) = inl e
in-append x (z ∷ zs) ys (inl (inr is)) = inr (in-append x zs ys (inl is))
in-append x (z ∷ zs) ys (inr is) = inr (in-append x zs ys (inr is))

pub of-append : {A : Type 0} (x : A) (xs ys : List A) → In x (xs ++ ys) → In x xs ⊎ In x ys
of-append x [] ys is = inr is
of-append x (z ∷ zs) ys (inl e) = inl (inl e)
of-append x (z ∷ zs) ys (inr is) = elim (of-append x zs ys is) [ inl h ↦ inl (inr h) | inr h ↦ inr h ]

pub of-filter : {A : Type 0} (f : A → Bool) (x : A) (xs : List A) → In x (filter f xs) → (In x xs) × (f x ≡ true)
of-filter f x [] is = absurd is
of-filter {A} f x (y ∷ ys) is = elim (cases_Bool (f y)) [
  | inl h ↦ (let P : Bool → Type 0 = λ v. In x (cond v (y ∷ filter f ys) (filter f ys)) in here h (of-filter f x ys) (subst P h is))
  | inr h ↦ (let P : Bool → Type 0 = λ v. In x (cond v (y ∷ filter f ys) (filter f ys)) in
      let below = of-filter f x ys (subst P h is) in (inr below.0, below.1))
] where
  here : f y ≡ true → (In x (filter f ys) → (In x ys) × (f x ≡ true)) → In x (y ∷ filter f ys) → (In x (y ∷ ys)) × (f x ≡ true)
  here h more (inl e) = (inl e, ap f e ∙ h)
  here h more (inr is') = let below = more is' in (inr below.0, below.1)

pub in-filter : {A : Type 0} (f : A → Bool) (x : A) (xs : List A) → In x xs → f x ≡ true → In x (filter f xs)
in-filter f x [] is h = absurd is
in-filter f x (y ∷ ys) (inl e) h = let P : Bool → Type 0 = λ v. In x (cond v (y ∷ filter f ys) (filter f ys)) in subst P (sym (ap f (sym e) ∙ h)) (inl e)
in-filter f x (y ∷ ys) (inr is) h = let P : Bool → Type 0 = λ v. In x (cond v (y ∷ filter f ys) (filter f ys)) in
    let below = in-filter f x ys is h in
    elim (f y) as P [ true ↦ inr below | false ↦ below ]

below-filter : {A : Type 0} (lt : A → A → Type 0) (f : A → Bool) (x : A) (ys : List A) → AllBelow lt x ys → AllBelow lt x (filter f ys)
below-filter lt f x ys all = below-all lt x (filter f ys) (λ y is. below-in lt x y ys all (of-filter f y ys is).0)

pub ascends-filter : {A : Type 0} (lt : A → A → Type 0) (f : A → Bool) (xs : List A) → Ascends lt xs → Ascends lt (filter f xs)
ascends-filter lt f [] up = tt
ascends-filter lt f (x ∷ xs) up =
    elim (f x) as (λ v. Ascends lt (cond v (x ∷ filter f xs) (filter f xs))) [
      | true ↦ (below-filter lt f x xs up.0, ascends-filter lt f xs up.1)
      | false ↦ ascends-filter lt f xs up.1
    ]

pub ascends-append : {A : Type 0} (lt : A → A → Type 0) (xs ys : List A) → Ascends lt xs → Ascends lt ys → ((x y : A) → In x xs → In y ys → lt x y) → Ascends lt (xs ++ ys)
ascends-append lt [] ys up up' h = up'
ascends-append {A} lt (x ∷ xs) ys up up' h = (below-all lt x (xs ++ ys) (λ y is. by y (of-append y xs ys is)), ascends-append lt xs ys up.1 up' (λ a b is is'. h a b (inr is) is')) where
  by : (y : A) → In y xs ⊎ In y ys → lt x y
  by y (inl is) = below-in lt x y xs up.0 is
  by y (inr is) = h x y (inl refl) is

-- ---- places

pub contains-in : {A : Type 0} (xs : List A) (x : A) → Contains xs x → In x xs
contains-in xs x c = by xs c.0 c.1 c.2 where
  by : (ys : List _) (k : ℕ) → k < length ys → get_or ys k x ≡ x → In x ys
  by [] k l e = absurd (omega arith)
  by (y ∷ ys) zero l e = inl (sym e)
  by (y ∷ ys) (suc k) l e = inr (by ys k (omega arith) e)

pub in-contains : {A : Type 0} (xs : List A) (x : A) → In x xs → Contains xs x
in-contains [] x is = absurd is
in-contains (y ∷ ys) x (inl e) = (0, omega arith, sym e)
in-contains (y ∷ ys) x (inr is) = let below = in-contains ys x is in (suc below.0, omega (arith, below.1), below.2)

pub map-same : {A B : Type 0} (f g : A → B) (xs : List A) → ((x : A) → In x xs → f x ≡ g x) → map f xs ≡ map g xs
map-same f g [] h = refl
map-same f g (x ∷ xs) h = ap (λ y. y ∷ map f xs) (h x (inl refl)) ∙ ap (λ ys. g x ∷ ys) (map-same f g xs (λ z is. h z (inr is)))
