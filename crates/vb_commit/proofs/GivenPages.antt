-- The page that is given, against the next one of the plan.
use Rattle.std.proofs.Common.{◌≡◌, ◌∙◌, ℕ, Bool, true, false, List, [], ◌∷◌, None, Some, refl, sym, ap}
use Rattle.std.proofs.lemmas.Slice.Eq.{bytes_eq-Decides}
use Rattle.std.specs.Str.{bytes_eq}
use Rattle.sha2.specs.Sha256.{sha256}
use Rattle.vb_block.specs.declared.digest.Ref.{Ref}
use Rattle.vb_plan.specs.declared.plan_page.PlanPage.{PlanPage}
use Rattle.vb_plan.specs.declared.plan_page.PlanPage.TheVariants.{Data, Map}
use Rattle.vb_commit.specs.Ways.{IsGiven, due_in, first_of}

-- it is given where its digest is that of the page of data that is due
pub given-due : (pages : List PlanPage) (slot number : ℕ) (r : Ref) (bytes found : List ℕ) (same : Bool) → first_of pages ≡ Some (Data slot number r) → found ≡ sha256 bytes → same ≡ bytes_eq found r.digest → same ≡ true → IsGiven pages (Some bytes)
given-due [] slot number r bytes found same first digest equal true_is = absurd (cc first)
given-due (Data s n q ∷ pages) slot number r bytes found same first digest equal true_is =
    let one : r ≡ q = cc first in
    sym digest ∙ (bytes_eq-Decides found r.digest).0 (sym equal ∙ true_is) ∙ ap (λ (x : Ref). x.digest) one
given-due (Map place image ∷ pages) slot number r bytes found same first digest equal true_is = absurd (cc first)

-- and nowhere else
pub missed-due : (pages : List PlanPage) (slot number : ℕ) (r : Ref) (bytes found : List ℕ) (same : Bool) → first_of pages ≡ Some (Data slot number r) → found ≡ sha256 bytes → same ≡ bytes_eq found r.digest → same ≡ false → IsGiven pages (Some bytes) → ⊥
missed-due [] slot number r bytes found same first digest equal false_is given = absurd (cc first)
missed-due (Data s n q ∷ pages) slot number r bytes found same first digest equal false_is given =
    let one : q ≡ r = cc first in
    let hit : bytes_eq found r.digest ≡ true = (bytes_eq-Decides found r.digest).1 (digest ∙ given ∙ ap (λ (x : Ref). x.digest) one) in
    absurd (cc (sym false_is ∙ equal ∙ hit))
missed-due (Map place image ∷ pages) slot number r bytes found same first digest equal false_is given = absurd (cc first)

-- where a map page is due, or none, none is to be given
pub map-given : (pages : List PlanPage) (place : ℕ) (image bytes : List ℕ) → first_of pages ≡ Some (Map place image) → IsGiven pages (Some bytes) → ⊥
map-given [] place image bytes first given = absurd (cc first)
map-given (Data slot number r ∷ pages) place image bytes first given = absurd (cc first)
map-given (Map at other ∷ pages) place image bytes first given = absurd (cc given)

pub none-given : (pages : List PlanPage) (bytes : List ℕ) → first_of pages ≡ None → IsGiven pages (Some bytes) → ⊥
none-given [] bytes first given = absurd (cc given)
none-given (p ∷ pages) bytes first given = absurd (cc first)

pub none-due : (pages : List PlanPage) → due_in pages ≡ None → IsGiven pages None
none-due [] none = refl
none-due (Data slot number r ∷ pages) none = absurd (cc none)
none-due (Map place image ∷ pages) none = refl
