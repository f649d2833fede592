-- Where paths lead, by the slots of children: no two paths lead to one slot, and a change of one child changes one path.
use Rattle.std.proofs.Common.{◌≡◌, ℕ, ◌==◌, List, [], ◌∷◌, ◌++◌, length, Option, Some, None, ◌⊎◌, inl, inr, refl, sym, ap, ◌∙◌, subst, append_assoc, arith, length-append}
use Rattle.std.specs.Option.{option_and_then}
use Rattle.std.proofs.lemmas.Bool.{cases_Bool, false≢true}
use Rattle.std.proofs.lemmas.Bool.Decides.{Decides-eqb}
use Rattle.std.proofs.lemmas.List.{append-nil}
use Rattle.vb_index.specs.Nodes.{slot_below, same_name}
use Rattle.vb_index.proofs.ChildLaws.{same_name-Decides}

-- a list is made at its end
pub snoc-ind : {A : Type 0} (P : List A → Type 0) → P [] → ((xs : List A) (x : A) → P xs → P (xs ++ x ∷ [])) → (xs : List A) → P xs
snoc-ind {A} P none more xs = go [] none xs where
  go : (ys : List A) → P ys → (zs : List A) → P (ys ++ zs)
  go ys h [] = subst P (sym (append-nil ys)) h
  go ys h (z ∷ zs) = subst P (append_assoc ys (z ∷ []) zs) (go (ys ++ z ∷ []) (more ys z h) zs)

pub snoc-inj : {A : Type 0} (q p : List A) (y x : A) → q ++ y ∷ [] ≡ p ++ x ∷ [] → (q ≡ p) × (y ≡ x)
snoc-inj [] [] y x e = (refl, cc)
snoc-inj [] (a ∷ p) y x e = absurd (omega (arith, ap length e, length-append p (x ∷ [])))
snoc-inj (b ∷ q) [] y x e = absurd (omega (arith, ap length e, length-append q (y ∷ [])))
snoc-inj (b ∷ q) (a ∷ p) y x e = let below = snoc-inj q p y x cc in (cc, below.1)

snoc-longer : {A : Type 0} (p : List A) (x : A) → p ≡ p ++ x ∷ [] → ⊥
snoc-longer p x e = omega (arith, ap length e, length-append p (x ∷ []))

pub and_then-parts : {A B : Type 0} (f : A → Option B) (o : Option A) (k : B) → option_and_then f o ≡ Some k → (t : A) × (o ≡ Some t) × (f t ≡ Some k)
and_then-parts f None k h = absurd cc
and_then-parts f (Some t) k h = (t, refl, h)

and_then-whole : {A : Type 0} (o : Option A) → option_and_then (λ t. Some t) o ≡ o
and_then-whole None = refl
and_then-whole (Some t) = refl

-- the last part comes last
pub walk-snoc : (child : ℕ → List ℕ → Option ℕ) (from : ℕ) (path : List (List ℕ)) (name : List ℕ) → slot_below child from (path ++ name ∷ []) ≡ option_and_then (λ t. child t name) (slot_below child from path)
walk-snoc child from [] name = and_then-whole (child from name)
walk-snoc child from (part ∷ parts) name =
    elim (child from part) as (λ o. option_and_then (λ t. slot_below child t (parts ++ name ∷ [])) o ≡ option_and_then (λ t. child t name) (option_and_then (λ t. slot_below child t parts) o)) [
      | None ↦ refl
      | Some t ↦ walk-snoc child t parts name
    ]

-- each slot is the child of one name in one folder at most, and the root of none
pub record IsForest (child : ℕ → List ℕ → Option ℕ) : Type 0 where
  pub one_parent : (a b : ℕ) (y z : List ℕ) (slot : ℕ) → child a y ≡ Some slot → child b z ≡ Some slot → (a ≡ b) × (y ≡ z)
  pub root_apart : (a : ℕ) (y : List ℕ) → child a y ≡ Some 0 → ⊥

-- the last step of a way that ends at a slot
pub last_step : (child : ℕ → List ℕ → Option ℕ) (path : List (List ℕ)) (name : List ℕ) (slot : ℕ) → slot_below child 0 (path ++ name ∷ []) ≡ Some slot → (t : ℕ) × (slot_below child 0 path ≡ Some t) × (child t name ≡ Some slot)
last_step child path name slot h = and_then-parts (λ t. child t name) (slot_below child 0 path) slot (sym (walk-snoc child 0 path name) ∙ h)

Alone : (child : ℕ → List ℕ → Option ℕ) → List (List ℕ) → Type 0
Alone child path = (other : List (List ℕ)) (slot : ℕ) → slot_below child 0 path ≡ Some slot → slot_below child 0 other ≡ Some slot → path ≡ other

-- no two paths lead to one slot
pub walk-alone : (child : ℕ → List ℕ → Option ℕ) → IsForest child → (path other : List (List ℕ)) (slot : ℕ) → slot_below child 0 path ≡ Some slot → slot_below child 0 other ≡ Some slot → path ≡ other
unfolding Alone
walk-alone child forest = snoc-ind (Alone child) root more where
  root : Alone child []
  root other slot h = snoc-ind (λ r. slot_below child 0 r ≡ Some slot → [] ≡ r) (λ e. refl) (λ r z below e.
      let last = last_step child r z slot e in
      let zero : 0 ≡ slot = cc in
      absurd (forest.root_apart last.0 z (last.2 ∙ ap (λ k. Some k) (sym zero)))) other

  more : (q : List (List ℕ)) (y : List ℕ) → Alone child q → Alone child (q ++ y ∷ [])
  more q y ih other slot h = let mine = last_step child q y slot h in
      snoc-ind (λ r. slot_below child 0 r ≡ Some slot → q ++ y ∷ [] ≡ r)
      (λ e. let zero : 0 ≡ slot = cc in absurd (forest.root_apart mine.0 y (mine.2 ∙ ap (λ k. Some k) (sym zero))))
      (λ r z below e.
      let last = last_step child r z slot e in
      let same = forest.one_parent mine.0 last.0 y z slot mine.2 last.2 in
      let paths : q ≡ r = ih r last.0 (mine.1 ∙ ap (λ k. Some k) same.0) last.1 in
      ap (λ p. p ++ y ∷ []) paths ∙ ap (λ n. r ++ n ∷ []) same.1)
      other

-- two tables of children that differ in one child, below which nothing is in either
pub record DifferInLeaf (before after : ℕ → List ℕ → Option ℕ) (folder : ℕ) (name : List ℕ) : Type 0 where
  pub forest : IsForest before
  pub others : (t : ℕ) (y : List ℕ) → ((t ≡ folder) × (y ≡ name) → ⊥) → after t y ≡ before t y
  pub none_before : (y : List ℕ) → option_and_then (λ s. before s y) (before folder name) ≡ None
  pub none_after : (y : List ℕ) → option_and_then (λ s. after s y) (after folder name) ≡ None

abbrev Changed : (before after : ℕ → List ℕ → Option ℕ) → ℕ → List ℕ → List (List ℕ) → List (List ℕ) → Type 0
Changed before after folder name at path =
    ((path ≡ at ++ name ∷ []) × (slot_below after 0 path ≡ after folder name))
    ⊎ ((path ≡ at ++ name ∷ [] → ⊥) × (slot_below after 0 path ≡ slot_below before 0 path))

-- where paths lead after a change of one child
pub walk-changed : (before after : ℕ → List ℕ → Option ℕ) (folder : ℕ) (name : List ℕ) (at : List (List ℕ)) → DifferInLeaf before after folder name → slot_below before 0 at ≡ Some folder → (path : List (List ℕ)) → Changed before after folder name at path
walk-changed before after folder name at d there = snoc-ind (Changed before after folder name at) root more where
  root : Changed before after folder name at []
  root = inr ((λ e. omega (arith, ap length e, length-append at (name ∷ []))), refl)

  more : (q : List (List ℕ)) (y : List ℕ) → Changed before after folder name at q → Changed before after folder name at (q ++ y ∷ [])
  more q y (inl h) =
      let here : slot_below before 0 q ≡ before folder name = ap (λ p. slot_below before 0 p) h.0 ∙ walk-snoc before 0 at name ∙ ap (option_and_then (λ t. before t name)) there in
      let gone : slot_below before 0 (q ++ y ∷ []) ≡ None = walk-snoc before 0 q y ∙ ap (option_and_then (λ t. before t y)) here ∙ d.none_before y in
      let gone' : slot_below after 0 (q ++ y ∷ []) ≡ None = walk-snoc after 0 q y ∙ ap (option_and_then (λ t. after t y)) h.1 ∙ d.none_after y in
      inr ((λ e. snoc-longer at name (sym (snoc-inj q at y name e).0 ∙ h.0)), gone' ∙ sym gone)
  more q y (inr h) = by (slot_below before 0 q) refl where
    step : (t : Option ℕ) → slot_below before 0 q ≡ t → slot_below after 0 (q ++ y ∷ []) ≡ option_and_then (λ s. after s y) t
    step t e = walk-snoc after 0 q y ∙ ap (option_and_then (λ s. after s y)) (h.1 ∙ e)

    old : (t : Option ℕ) → slot_below before 0 q ≡ t → slot_below before 0 (q ++ y ∷ []) ≡ option_and_then (λ s. before s y) t
    old t e = walk-snoc before 0 q y ∙ ap (option_and_then (λ s. before s y)) e

    other : (t : ℕ) → slot_below before 0 q ≡ Some t → ((t ≡ folder) × (y ≡ name) → ⊥) → Changed before after folder name at (q ++ y ∷ [])
    other t e apart = inr (
      (λ eq. let both = snoc-inj q at y name eq in
          let same : Some t ≡ Some folder = sym e ∙ ap (λ p. slot_below before 0 p) both.0 ∙ there in
          apart (cc, both.1)),
      step (Some t) e ∙ d.others t y apart ∙ sym (old (Some t) e),
    )

    same : (t : ℕ) → slot_below before 0 q ≡ Some t → t ≡ folder → y ≡ name → Changed before after folder name at (q ++ y ∷ [])
    same t e is n =
        let paths : q ≡ at = walk-alone before d.forest q at folder (e ∙ ap (λ k. Some k) is) there in
        inl (ap (λ p. p ++ y ∷ []) paths ∙ ap (λ m. at ++ m ∷ []) n, step (Some t) e ∙ ap (λ k. after k y) is ∙ ap (after folder) n)

    by : (t : Option ℕ) → slot_below before 0 q ≡ t → Changed before after folder name at (q ++ y ∷ [])
    by None e = inr ((λ eq. let nothing : None ≡ Some folder = sym e ∙ ap (λ p. slot_below before 0 p) (snoc-inj q at y name eq).0 ∙ there in cc), step None e ∙ sym (old None e))
    by (Some t) e = elim (cases_Bool (t == folder)) [
      | inr f ↦ other t e (λ both. false≢true (sym f ∙ (Decides-eqb t folder).1 both.0))
      | inl f ↦ elim (cases_Bool (same_name y name)) [
        | inr g ↦ other t e (λ both. false≢true (sym g ∙ (same_name-Decides y name).1 both.1))
        | inl g ↦ same t e ((Decides-eqb t folder).0 f) ((same_name-Decides y name).0 g)
      ]
    ]

-- where no child changes, no path does
pub walk-same : (before after : ℕ → List ℕ → Option ℕ) → ((t : ℕ) (y : List ℕ) → after t y ≡ before t y) → (path : List (List ℕ)) (from : ℕ) → slot_below after from path ≡ slot_below before from path
walk-same before after same [] from = refl
walk-same before after same (part ∷ parts) from =
    ap (option_and_then (λ t. slot_below after t parts)) (same from part) ∙ (
    elim (before from part) as (λ o. option_and_then (λ t. slot_below after t parts) o ≡ option_and_then (λ t. slot_below before t parts) o) [
      | None ↦ refl
      | Some t ↦ walk-same before after same parts t
    ])
