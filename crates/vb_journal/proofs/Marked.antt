-- The marks of the slots that some images name.
use Rattle.std.proofs.Common.{◌≡◌, ◌≢◌, ℕ, zero, suc, ◌-◌, ◌<◌, ◌≤◌, Bool, true, false, not, ◌||◌, cond, eqb, ltb, List, [], ◌∷◌, ◌++◌, length, get_or, replicate, take, set, Option, Some, None, Result, Ok, Err, refl, sym, ap, subst, ◌∙◌, ◌⊎◌, inl, inr, arith}
use Rattle.std.specs.Prelude.{OnOk, OnErr}
use Rattle.std.specs.Result.{is_err}
use Rattle.std.proofs.lemmas.Bool.{cases_eq, eq-eqb, ne_eqb, ltb-true}
use Rattle.std.proofs.lemmas.List.{get_or_append_left, get_or-set_other, get_or-set_same, length-append, take_all}
use Rattle.std.proofs.lemmas.List.Folds.{list_any-append}
use Rattle.std.proofs.lemmas.Slice.Eq.{bytes_eq-Decides}
use Rattle.std.proofs.Math.Seq.{get_or-append_seam}
use Rattle.sha2.specs.Sha256.{sha256}
use Rattle.vb_block.specs.declared.why.Why.TheVariants.{Slot}
use Rattle.vb_block.specs.Pages.{IsSealed, seal_of, sealed_part}
use Rattle.vb_disk.specs.Misses.{is_sealed}
use Rattle.vb_journal.specs.declared.recover_error.RecoverError.{RecoverError}
use Rattle.vb_journal.specs.declared.recover_error.RecoverError.TheVariants.{Damaged, Unfit}
use Rattle.vb_journal.specs.Images.{AreImages, image_at, slot_of}
use Rattle.vb_journal.specs.Marks.{AreMarked}
use Rattle.vb_journal.specs.Recoveries.{image_refusal, is_named}

-- ---- room

get_or-filled : (marks : List Bool) (n slot : ℕ) → get_or (marks ++ replicate n false) slot false ≡ get_or marks slot false
get_or-filled [] zero slot = refl
get_or-filled [] (suc n) zero = refl
get_or-filled [] (suc n) (suc slot) = get_or-filled [] n slot
get_or-filled (x ∷ xs) n zero = refl
get_or-filled (x ∷ xs) n (suc slot) = get_or-filled xs n slot

pub get_or-room : (marks new : List Bool) (nodes slot : ℕ) (b : Bool) → length marks ≤ nodes → new ≡ cond b (take nodes marks ++ replicate (nodes - length marks) false) marks → get_or new slot false ≡ get_or marks slot false
get_or-room marks new nodes slot false few is = ap (λ (l : List Bool). get_or l slot false) is
get_or-room marks new nodes slot true few is =
    ap (λ (l : List Bool). get_or l slot false) (is ∙ ap (λ (l : List Bool). l ++ replicate (nodes - length marks) false) (take_all nodes marks few))
    ∙ get_or-filled marks (nodes - length marks) slot

-- ---- one image more

-- what an image that isn't refused is
pub record IsNext (nodes : ℕ) (images : List (List ℕ)) (image : List ℕ) : Type 0 where
  pub sealed : is_sealed image ≡ true
  pub slot : ltb (slot_of image) nodes ≡ true
  pub fresh : is_named images (slot_of image) ≡ false

abbrev some_of : RecoverError → Option RecoverError
some_of e = Some e

next_by : (s l n : Bool) (a b : RecoverError) → cond (not s) (some_of a) (cond (not l || n) (some_of b) None) ≡ None → (s ≡ true) × (l ≡ true) × (n ≡ false)
next_by false l n a b is = absurd (cc is)
next_by true false n a b is = absurd (cc is)
next_by true true true a b is = absurd (cc is)
next_by true true false a b is = (refl, refl, refl)

pub IsNext-from : (nodes place : ℕ) (images : List (List ℕ)) (image : List ℕ) → image_refusal nodes place images image ≡ None → IsNext nodes images image
IsNext-from nodes place images image is =
    let parts = next_by (is_sealed image) (ltb (slot_of image) nodes) (is_named images (slot_of image)) (Damaged place (seal_of image) (sha256 (sealed_part image))) (Unfit place Slot) is in
    record { sealed = parts.0; slot = parts.1; fresh = parts.2 }

named_more : (images : List (List ℕ)) (image : List ℕ) (slot : ℕ) → is_named (images ++ image ∷ []) slot ≡ (is_named images slot || (eqb (slot_of image) slot || false))
named_more images image slot = list_any-append (λ (i : List ℕ). eqb (slot_of i) slot) images (image ∷ [])

or_true : (b : Bool) → (b || (true || false)) ≡ true
or_true true = refl
or_true false = refl

or_false : (b : Bool) → (b || (false || false)) ≡ b
or_false true = refl
or_false false = refl

-- its slot is marked
pub AreMarked-more : (marks : List Bool) (images : List (List ℕ)) (image : List ℕ) → AreMarked marks images → slot_of image < length marks → AreMarked (set marks (slot_of image) true) (images ++ image ∷ [])
AreMarked-more marks images image are within slot = elim (cases_eq slot (slot_of image)) [
  | inl same ↦
      let Q : ℕ → Type 0 = λ s. get_or (set marks (slot_of image) true) s false ≡ is_named (images ++ image ∷ []) s in
      subst Q (sym same) (
      get_or-set_same marks (slot_of image) true false within
      ∙ sym (or_true (is_named images (slot_of image)))
      ∙ sym (ap (λ (t : Bool). is_named images (slot_of image) || (t || false)) (eq-eqb (slot_of image) (slot_of image) refl))
      ∙ sym (named_more images image (slot_of image)))
  | inr apart ↦
      get_or-set_other marks (slot_of image) slot true false apart
      ∙ are slot
      ∙ sym (or_false (is_named images slot))
      ∙ sym (ap (λ (t : Bool). is_named images slot || (t || false)) (ne_eqb (slot_of image) slot (λ same. apart (sym same))))
      ∙ sym (named_more images image slot)
]

-- none of these images is for the slot
unnamed_at : (images : List (List ℕ)) (slot i : ℕ) → is_named images slot ≡ false → i < length images → slot_of (image_at images i) ≢ slot
unnamed_at [] slot i fresh within same = omega arith
unnamed_at (image ∷ images) slot zero fresh within same = absurd (cc (ap (λ (t : Bool). t || is_named images slot) (eq-eqb (slot_of image) slot same), fresh))
unnamed_at (image ∷ images) slot (suc i) fresh within same = unnamed_at images slot i (or_right (eqb (slot_of image) slot) (is_named images slot) fresh) (omega arith) same
  where
    or_right : (a b : Bool) → (a || b) ≡ false → b ≡ false
    or_right true b is = absurd (cc is)
    or_right false b is = is

-- where an image stands behind others
at_more : (images : List (List ℕ)) (image : List ℕ) (i : ℕ) → i < length (images ++ image ∷ []) → ((i < length images) × (image_at (images ++ image ∷ []) i ≡ image_at images i)) ⊎ ((i ≡ length images) × (image_at (images ++ image ∷ []) i ≡ image))
at_more images image i within = elim (cases_eq i (length images)) [
  | inl last ↦ inr (last, ap (image_at (images ++ image ∷ [])) last ∙ get_or-append_seam images image [] [])
  | inr other ↦
      let before : i < length images = omega (arith, length-append images (image ∷ [])) in
      inl (before, get_or_append_left images (image ∷ []) [] i before)
]

pub AreImages-more : (nodes : ℕ) (images : List (List ℕ)) (image : List ℕ) → AreImages nodes images → IsNext nodes images image → AreImages nodes (images ++ image ∷ [])
AreImages-more nodes images image are next =
    let sealed_image : IsSealed image = (bytes_eq-Decides (seal_of image) (sha256 (sealed_part image))).0 next.sealed in
    let low : slot_of image < nodes = ltb-true (slot_of image) nodes next.slot in
    record {
      sealed = λ i within. elim (at_more images image i within) [
        | inl old ↦ subst IsSealed (sym old.1) (are.sealed i old.0)
        | inr new ↦ subst IsSealed (sym new.1) sealed_image
      ];
      slots = λ i within. let P : List ℕ → Type 0 = λ p. slot_of p < nodes in elim (at_more images image i within) [
        | inl old ↦ subst P (sym old.1) (are.slots i old.0)
        | inr new ↦ subst P (sym new.1) low
      ];
      distinct = λ i j before within same. elim (at_more images image j within) [
        | inl old ↦
            let first : image_at (images ++ image ∷ []) i ≡ image_at images i = get_or_append_left images (image ∷ []) [] i (omega (arith, old.0)) in
            are.distinct i j before old.0 (ap slot_of (sym first) ∙ same ∙ ap slot_of old.1)
        | inr new ↦
            let within_old : i < length images = omega (arith, new.0) in
            let first : image_at (images ++ image ∷ []) i ≡ image_at images i = get_or_append_left images (image ∷ []) [] i within_old in
            unnamed_at images (slot_of image) i next.fresh within_old (ap slot_of (sym first) ∙ same ∙ ap slot_of new.1)
      ];
    }

-- ---- results that were tested

pub at-err : {T E : Type 0} (P : Type 0) (r : Result T E) → is_err r ≡ true → OnErr r P → P
at-err P (Ok x) is on = absurd (cc is)
at-err P (Err e) is on = on

pub at-ok : {T E : Type 0} (P : Type 0) (r : Result T E) → is_err r ≡ false → OnOk r P → P
at-ok P (Ok x) is on = on
at-ok P (Err e) is on = absurd (cc is)
