-- Images put over homes.
use Rattle.std.proofs.Common.{◌≡◌, ◌≢◌, ℕ, zero, suc, ◌+◌, ◌<◌, cond, eqb, List, [], ◌∷◌, length, refl, sym, ap, ◌∙◌, ◌⊎◌, inl, inr, arith}
use Rattle.std.proofs.lemmas.Bool.{cases_eq, cond-true, cond-false, eq-eqb, ne_eqb}
use Rattle.vb_journal.specs.Images.{image_at, slot_of}
use Rattle.vb_journal.specs.Progress.{IsUnnamed}
use Rattle.vb_journal.specs.Shown.{image_over, pages_from}

-- an image that is for a slot
pub record IsNamed (images : List (List ℕ)) (slot : ℕ) : Type 0 where
  pub at : ℕ
  pub within : at < length images
  pub is : slot_of (image_at images at) ≡ slot

unnamed_from : (image : List ℕ) (images : List (List ℕ)) (slot : ℕ) → slot_of image ≢ slot → IsUnnamed images slot → IsUnnamed (image ∷ images) slot
unnamed_from image images slot apart unnamed zero within = apart
unnamed_from image images slot apart unnamed (suc i) within = unnamed i (omega arith)

pub named_or_not : (images : List (List ℕ)) (slot : ℕ) → IsNamed images slot ⊎ IsUnnamed images slot
named_or_not [] slot = inr (λ i within. absurd (omega arith))
named_or_not (image ∷ images) slot = elim (cases_eq (slot_of image) slot) [
  | inl same ↦ inl (record { at = 0; within = omega arith; is = same })
  | inr apart ↦ elim (named_or_not images slot) [
    | inl named ↦ inl (record { at = suc named.at; within = omega (arith, named.within); is = named.is })
    | inr unnamed ↦ inr (unnamed_from image images slot apart unnamed)
  ]
]

-- images for other slots leave a home
pub image_over-unnamed : (images : List (List ℕ)) (slot : ℕ) (home : List ℕ) → IsUnnamed images slot → image_over images slot home ≡ home
image_over-unnamed [] slot home unnamed = refl
image_over-unnamed (image ∷ images) slot home unnamed =
    ap (image_over images slot) (cond-false (eqb (slot_of image) slot) image home (ne_eqb (slot_of image) slot (unnamed 0 (omega arith))))
    ∙ image_over-unnamed images slot home (λ i within. unnamed (suc i) (omega arith))

-- one image alone is for its slot
abbrev pub AreDistinct : List (List ℕ) → Type 0
AreDistinct images = (i j : ℕ) → i < j → j < length images → slot_of (image_at images i) ≢ slot_of (image_at images j)

-- an image that is for a slot stands there, whatever did before
pub image_over-named : (images : List (List ℕ)) (slot i : ℕ) (home : List ℕ) → AreDistinct images → i < length images → slot_of (image_at images i) ≡ slot → image_over images slot home ≡ image_at images i
image_over-named [] slot i home apart within is = absurd (omega arith)
image_over-named (image ∷ images) slot zero home apart within is =
    ap (image_over images slot) (cond-true (eqb (slot_of image) slot) image home (eq-eqb (slot_of image) slot is))
    ∙ image_over-unnamed images slot image (λ j below same. apart 0 (suc j) (omega arith) (omega arith) (is ∙ sym same))
image_over-named (image ∷ images) slot (suc i) home apart within is =
    image_over-named images slot i (cond (eqb (slot_of image) slot) image home) (λ a b before below. apart (suc a) (suc b) (omega arith) (omega arith)) (omega arith) is

-- what reads give at places that hold the images
pub pages_from-images : (reads : ℕ → List ℕ) (place : ℕ) (images : List (List ℕ)) → ((i : ℕ) → i < length images → reads (place + i) ≡ image_at images i) → pages_from reads place (length images) ≡ images
pages_from-images reads place [] hold = refl
pages_from-images reads place (image ∷ images) hold =
    let here : reads place ≡ image = (let same : place ≡ place + 0 = omega arith in ap reads same ∙ hold 0 (omega arith)) in
    let rest = pages_from-images reads (place + 1) images (λ i within. let same : place + 1 + i ≡ place + suc i = omega arith in ap reads same ∙ hold (suc i) (omega arith)) in
    ap (λ (p : List ℕ). p ∷ pages_from reads (place + 1) (length images)) here ∙ ap (λ (l : List (List ℕ)). image ∷ l) rest
