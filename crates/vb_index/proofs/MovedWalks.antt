-- Where paths lead after a child got another place: to what stood at the path before.
use Rattle.std.proofs.Common.{◌≡◌, ℕ, true, false, List, [], ◌∷◌, ◌++◌, length, drop, Option, Some, None, inl, inr, refl, sym, ap, ◌∙◌, subst, append_assoc, append-nil, arith, length-append}
use Rattle.std.specs.Option.{option_and_then}
use Rattle.std.proofs.lemmas.Bool.{cases_Bool, false≢true}
use Rattle.vb_tree.specs.Renames.{is_within, moved_path}
use Rattle.vb_tree.proofs.Within.{within-parts, within-append}
use Rattle.vb_index.specs.Nodes.{slot_below}
use Rattle.vb_index.proofs.Walks.{snoc-ind, snoc-inj, walk-snoc, walk-alone, IsForest}
use Rattle.vb_index.proofs.MovedTrees.{path_before, before-in, before-gone, before-out, moved-rest}

-- two tables of children: in the second, one child has another place, outside of what is below it
pub record DifferInPlace (before after : ℕ → List ℕ → Option ℕ) (old : ℕ) (old_name : List ℕ) (new : ℕ) (new_name : List ℕ) (slot : ℕ) (old_at new_at : List (List ℕ)) : Type 0 where
  pub forest : IsForest before
  pub was : before old old_name ≡ Some slot
  pub gone : after old old_name ≡ None
  pub is : after new new_name ≡ Some slot
  pub others : (t : ℕ) (y : List ℕ) → ((t ≡ old) × (y ≡ old_name) → ⊥) → ((t ≡ new) × (y ≡ new_name) → ⊥) → after t y ≡ before t y
  pub old_there : slot_below before 0 old_at ≡ Some old
  pub new_there : slot_below before 0 new_at ≡ Some new
  pub outside : is_within (old_at ++ old_name ∷ []) new_at ≡ false

snoc_below : (at : List (List ℕ)) (name : List ℕ) → is_within (at ++ name ∷ []) [] ≡ false
snoc_below [] name = refl
snoc_below (x ∷ xs) name = refl

-- a path within another whose folder isn't is that other
snoc-within : (at : List (List ℕ)) (name : List ℕ) (q : List (List ℕ)) (y : List ℕ) → is_within (at ++ name ∷ []) q ≡ false → is_within (at ++ name ∷ []) (q ++ y ∷ []) ≡ true → (q ≡ at) × (y ≡ name)
snoc-within at name q y out h = snoc-ind (λ r. q ++ y ∷ [] ≡ (at ++ name ∷ []) ++ r → (q ≡ at) × (y ≡ name)) same longer (drop (length (at ++ name ∷ [])) (q ++ y ∷ [])) (within-parts (at ++ name ∷ []) (q ++ y ∷ []) h) where
  same : q ++ y ∷ [] ≡ (at ++ name ∷ []) ++ [] → (q ≡ at) × (y ≡ name)
  same e = snoc-inj q at y name (e ∙ append-nil (at ++ name ∷ []))

  longer : (r : List (List ℕ)) (z : List ℕ) → (q ++ y ∷ [] ≡ (at ++ name ∷ []) ++ r → (q ≡ at) × (y ≡ name)) → q ++ y ∷ [] ≡ (at ++ name ∷ []) ++ (r ++ z ∷ []) → (q ≡ at) × (y ≡ name)
  longer r z ih e = absurd (
      let up = snoc-inj q ((at ++ name ∷ []) ++ r) y z (e ∙ sym (append_assoc (at ++ name ∷ []) r (z ∷ []))) in
      false≢true (sym out ∙ subst (λ p. is_within (at ++ name ∷ []) p ≡ true) (sym up.0) (within-append (at ++ name ∷ []) r)))

-- a path with one part more is within what its folder is within
more-within : (top q : List (List ℕ)) (y : List ℕ) → is_within top q ≡ true → is_within top (q ++ y ∷ []) ≡ true
more-within top q y h =
    let rest = drop (length top) q in
    subst (λ p. is_within top p ≡ true) (sym (ap (λ p. p ++ y ∷ []) (within-parts top q h) ∙ append_assoc top rest (y ∷ []))) (within-append top (rest ++ y ∷ []))

-- a step is the same where each slot at which it may start says so
same_step : (before after : ℕ → List ℕ → Option ℕ) (y : List ℕ) (o : Option ℕ) → ((t : ℕ) → o ≡ Some t → after t y ≡ before t y) → option_and_then (λ t. after t y) o ≡ option_and_then (λ t. before t y) o
same_step before after y None all = refl
same_step before after y (Some t) all = all t refl

abbrev Leads : (before after : ℕ → List ℕ → Option ℕ) → List (List ℕ) → List (List ℕ) → List (List ℕ) → Type 0
Leads before after source target q = slot_below after 0 q ≡ option_and_then (slot_below before 0) (path_before source target q)

-- where a path leads
pub walk-moved : (before after : ℕ → List ℕ → Option ℕ) (old : ℕ) (old_name : List ℕ) (new : ℕ) (new_name : List ℕ) (slot : ℕ) (old_at new_at : List (List ℕ)) → DifferInPlace before after old old_name new new_name slot old_at new_at → (q : List (List ℕ)) → slot_below after 0 q ≡ option_and_then (slot_below before 0) (path_before (old_at ++ old_name ∷ []) (new_at ++ new_name ∷ []) q)
walk-moved before after old old_name new new_name slot old_at new_at d = snoc-ind (Leads before after (old_at ++ old_name ∷ []) (new_at ++ new_name ∷ [])) root more where
  source : List (List ℕ)
  source = old_at ++ old_name ∷ []

  target : List (List ℕ)
  target = new_at ++ new_name ∷ []

  root : Leads before after (old_at ++ old_name ∷ []) (new_at ++ new_name ∷ []) []
  root = sym (ap (option_and_then (slot_below before 0)) (before-out (old_at ++ old_name ∷ []) (new_at ++ new_name ∷ []) [] (snoc_below new_at new_name) (snoc_below old_at old_name)))

  -- a slot at a path that is neither place's folder has the children that it had
  steps : (p : List (List ℕ)) (y : List ℕ) → (p ≡ old_at → y ≡ old_name → ⊥) → (p ≡ new_at → y ≡ new_name → ⊥) → option_and_then (λ t. after t y) (slot_below before 0 p) ≡ slot_below before 0 (p ++ y ∷ [])
  steps p y not_old not_new =
      same_step before after y (slot_below before 0 p) (λ t e. d.others t y
      (λ both. not_old (walk-alone before d.forest p old_at old (e ∙ ap (λ k. Some k) both.0) d.old_there) both.1)
      (λ both. not_new (walk-alone before d.forest p new_at new (e ∙ ap (λ k. Some k) both.0) d.new_there) both.1))
      ∙ sym (walk-snoc before 0 p y)

  -- within the target
  inside : (q : List (List ℕ)) (y : List ℕ) → is_within (new_at ++ new_name ∷ []) q ≡ true → Leads before after (old_at ++ old_name ∷ []) (new_at ++ new_name ∷ []) q → Leads before after (old_at ++ old_name ∷ []) (new_at ++ new_name ∷ []) (q ++ y ∷ [])
  inside q y h ih =
      let rest = drop (length (new_at ++ new_name ∷ [])) q in
      let p : List (List ℕ) = (old_at ++ old_name ∷ []) ++ rest in
      let here : slot_below after 0 q ≡ slot_below before 0 p = ih ∙ ap (option_and_then (slot_below before 0)) (before-in (old_at ++ old_name ∷ []) (new_at ++ new_name ∷ []) q h) in
      let is : q ++ y ∷ [] ≡ (new_at ++ new_name ∷ []) ++ (rest ++ y ∷ []) = ap (λ x. x ++ y ∷ []) (within-parts (new_at ++ new_name ∷ []) q h) ∙ append_assoc (new_at ++ new_name ∷ []) rest (y ∷ []) in
      let stood : path_before (old_at ++ old_name ∷ []) (new_at ++ new_name ∷ []) (q ++ y ∷ []) ≡ Some (p ++ y ∷ []) =
      before-in (old_at ++ old_name ∷ []) (new_at ++ new_name ∷ []) (q ++ y ∷ []) (more-within (new_at ++ new_name ∷ []) q y h)
      ∙ ap (λ x. Some x) (ap (moved_path (new_at ++ new_name ∷ []) (old_at ++ old_name ∷ [])) is ∙ moved-rest (new_at ++ new_name ∷ []) (old_at ++ old_name ∷ []) (rest ++ y ∷ []) ∙ sym (append_assoc (old_at ++ old_name ∷ []) rest (y ∷ []))) in
      walk-snoc after 0 q y ∙ ap (option_and_then (λ t. after t y)) here
      ∙ steps p y
      (λ e n. omega (arith, ap length e, length-append (old_at ++ old_name ∷ []) rest, length-append old_at (old_name ∷ [])))
      (λ e n. false≢true (sym d.outside ∙ subst (λ x. is_within (old_at ++ old_name ∷ []) x ≡ true) e (within-append (old_at ++ old_name ∷ []) rest)))
      ∙ sym (ap (option_and_then (slot_below before 0)) stood)

  -- within the source
  emptied : (q : List (List ℕ)) (y : List ℕ) → is_within (new_at ++ new_name ∷ []) q ≡ false → is_within (old_at ++ old_name ∷ []) q ≡ true → Leads before after (old_at ++ old_name ∷ []) (new_at ++ new_name ∷ []) q → Leads before after (old_at ++ old_name ∷ []) (new_at ++ new_name ∷ []) (q ++ y ∷ [])
  emptied q y h g ih =
      let here : slot_below after 0 q ≡ None = ih ∙ ap (option_and_then (slot_below before 0)) (before-gone (old_at ++ old_name ∷ []) (new_at ++ new_name ∷ []) q h g) in
      let out : is_within (new_at ++ new_name ∷ []) (q ++ y ∷ []) ≡ false = (elim (cases_Bool (is_within (new_at ++ new_name ∷ []) (q ++ y ∷ []))) [
        | inr f ↦ f
        | inl f ↦ absurd (let both = snoc-within new_at new_name q y h f in false≢true (sym d.outside ∙ ap (is_within (old_at ++ old_name ∷ [])) (sym both.0) ∙ g))
      ]) in
      walk-snoc after 0 q y ∙ ap (option_and_then (λ t. after t y)) here
      ∙ sym (ap (option_and_then (slot_below before 0)) (before-gone (old_at ++ old_name ∷ []) (new_at ++ new_name ∷ []) (q ++ y ∷ []) out (more-within (old_at ++ old_name ∷ []) q y g)))

  -- elsewhere
  outer : (q : List (List ℕ)) (y : List ℕ) → is_within (new_at ++ new_name ∷ []) q ≡ false → is_within (old_at ++ old_name ∷ []) q ≡ false → Leads before after (old_at ++ old_name ∷ []) (new_at ++ new_name ∷ []) q → Leads before after (old_at ++ old_name ∷ []) (new_at ++ new_name ∷ []) (q ++ y ∷ [])
  outer q y h g ih = elim (cases_Bool (is_within (new_at ++ new_name ∷ []) (q ++ y ∷ []))) [
    | inl f ↦ (let both = snoc-within new_at new_name q y h f in
        let is : q ++ y ∷ [] ≡ (new_at ++ new_name ∷ []) ++ [] = ap (λ x. x ++ y ∷ []) both.0 ∙ ap (λ n. new_at ++ n ∷ []) both.1 ∙ sym (append-nil (new_at ++ new_name ∷ [])) in
        let stood : path_before (old_at ++ old_name ∷ []) (new_at ++ new_name ∷ []) (q ++ y ∷ []) ≡ Some (old_at ++ old_name ∷ []) =
        before-in (old_at ++ old_name ∷ []) (new_at ++ new_name ∷ []) (q ++ y ∷ []) f
        ∙ ap (λ x. Some x) (ap (moved_path (new_at ++ new_name ∷ []) (old_at ++ old_name ∷ [])) is ∙ moved-rest (new_at ++ new_name ∷ []) (old_at ++ old_name ∷ []) [] ∙ append-nil (old_at ++ old_name ∷ [])) in
        walk-snoc after 0 q y ∙ ap (option_and_then (λ t. after t y)) (here ∙ ap (slot_below before 0) both.0 ∙ d.new_there)
        ∙ ap (after new) both.1 ∙ d.is
        ∙ sym (ap (option_and_then (slot_below before 0)) stood ∙ walk-snoc before 0 old_at old_name ∙ ap (option_and_then (λ t. before t old_name)) d.old_there ∙ d.was))
    | inr f ↦ elim (cases_Bool (is_within (old_at ++ old_name ∷ []) (q ++ y ∷ []))) [
      | inl e ↦ (let both = snoc-within old_at old_name q y g e in
          walk-snoc after 0 q y ∙ ap (option_and_then (λ t. after t y)) (here ∙ ap (slot_below before 0) both.0 ∙ d.old_there)
          ∙ ap (after old) both.1 ∙ d.gone
          ∙ sym (ap (option_and_then (slot_below before 0)) (before-gone (old_at ++ old_name ∷ []) (new_at ++ new_name ∷ []) (q ++ y ∷ []) f e)))
      | inr e ↦ walk-snoc after 0 q y ∙ ap (option_and_then (λ t. after t y)) here
          ∙ steps q y
          (λ p n. false≢true (sym e ∙ self old_at old_name q y p n))
          (λ p n. false≢true (sym f ∙ self new_at new_name q y p n))
          ∙ sym (ap (option_and_then (slot_below before 0)) (before-out (old_at ++ old_name ∷ []) (new_at ++ new_name ∷ []) (q ++ y ∷ []) f e))
    ]
  ] where
    here : slot_below after 0 q ≡ slot_below before 0 q
    here = ih ∙ ap (option_and_then (slot_below before 0)) (before-out (old_at ++ old_name ∷ []) (new_at ++ new_name ∷ []) q h g)

    self : (at : List (List ℕ)) (name : List ℕ) (q : List (List ℕ)) (y : List ℕ) → q ≡ at → y ≡ name → is_within (at ++ name ∷ []) (q ++ y ∷ []) ≡ true
    self at name q y p n = subst (λ x. is_within (at ++ name ∷ []) x ≡ true) (append-nil (at ++ name ∷ []) ∙ sym (ap (λ x. x ++ y ∷ []) p ∙ ap (λ m. at ++ m ∷ []) n)) (within-append (at ++ name ∷ []) [])

  more : (q : List (List ℕ)) (y : List ℕ) → Leads before after (old_at ++ old_name ∷ []) (new_at ++ new_name ∷ []) q → Leads before after (old_at ++ old_name ∷ []) (new_at ++ new_name ∷ []) (q ++ y ∷ [])
  more q y ih = elim (cases_Bool (is_within (new_at ++ new_name ∷ []) q)) [
    | inl h ↦ inside q y h ih
    | inr h ↦ elim (cases_Bool (is_within (old_at ++ old_name ∷ []) q)) [
      | inl g ↦ emptied q y h g ih
      | inr g ↦ outer q y h g ih
    ]
  ]
