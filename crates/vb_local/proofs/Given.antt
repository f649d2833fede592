-- The pages of a commit: the frozen view has each that is due, and they are on the disk where every planned one is.
use Rattle.std.proofs.Common.{◌≡◌, ℕ, suc, List, [], ◌∷◌, unwrap_or, All, Option, None, Some, refl, sym, ap, subst, ◌∙◌, arith}
use Rattle.std.specs.Prelude.{Contains}
use Rattle.std.specs.Option.{option_map}
use Rattle.std.proofs.lemmas.List.Elements.{All-contains}
use Rattle.sha2.specs.Sha256.{sha256}
use Rattle.vb_block.specs.declared.digest.Ref.{Ref}
use Rattle.vb_disk.specs.Cells.{candidates}
use Rattle.vb_disk.specs.States.{DiskState}
use Rattle.vb_index.specs.declared.held.Held.{Held}
use Rattle.vb_pages.specs.Disks.{HoldsOnly}
use Rattle.vb_pages.specs.Tables.{kept_page}
use Rattle.vb_active.specs.Views.{ref_at}
use Rattle.vb_plan.specs.declared.plan_page.PlanPage.{PlanPage}
use Rattle.vb_plan.specs.declared.plan_page.PlanPage.TheVariants.{Data, Map}
use Rattle.vb_plan.specs.Plans.{data_page}
use Rattle.vb_commit.specs.Known.{IsEvery}
use Rattle.vb_commit.specs.declared.due_page.DuePage.{DuePage}
use Rattle.vb_commit.specs.Ways.{after_first, due_in, IsGiven, IsGivenFrom}
use Rattle.vb_local.specs.Ties.{given_of, source_in, FrozenState, HaveDigests, IsKeptIn}

-- ---- a page that is due

due-given : (frozen : FrozenState) (slot page : ℕ) (r : Ref) (left : List PlanPage) (o : Option (List ℕ)) → option_map sha256 o ≡ Some r.digest → IsGiven (Data slot page r ∷ left) o
due-given frozen slot page r left None e = absurd (cc e)
due-given frozen slot page r left (Some bytes) e = let same : sha256 bytes ≡ r.digest = cc e in same

pub page-given : (frozen : FrozenState) (left : List PlanPage) → All (IsKeptIn frozen.pages) left → IsGiven left (given_of left frozen)
page-given frozen [] kept = refl
page-given frozen (Data slot page r ∷ left) kept = due-given frozen slot page r left (kept_page frozen.pages slot page) (kept 0 (Data slot page r) (omega arith))
page-given frozen (Map place image ∷ left) kept = refl

due-source : (o : Option (List ℕ)) (digest : List ℕ) → option_map sha256 o ≡ Some digest → o ≡ Some (unwrap_or o [])
due-source None digest e = absurd (cc e)
due-source (Some bytes) digest e = refl

pub page-source : (frozen : FrozenState) (left : List PlanPage) → All (IsKeptIn frozen.pages) left → IsGivenFrom (source_in frozen) left (given_of left frozen)
page-source frozen [] kept = tt
page-source frozen (Data slot page r ∷ left) kept = due-source (kept_page frozen.pages slot page) r.digest (kept 0 (Data slot page r) (omega arith))
page-source frozen (Map place image ∷ left) kept = tt

pub pages-left : (frozen : FrozenState) (left : List PlanPage) → All (IsKeptIn frozen.pages) left → All (IsKeptIn frozen.pages) (after_first left)
pages-left frozen [] kept = kept
pages-left frozen (p ∷ left) kept = λ k d within. kept (suc k) d (omega (arith, within))

-- ---- the pages on the disk

every-kept : (d : DiskState) (frozen : FrozenState) (plan : List PlanPage) (slot page : ℕ) (bytes : List ℕ) (reference : Ref) → All (IsEvery (source_in frozen) d) plan → kept_page frozen.pages slot page ≡ Some bytes → Contains plan (data_page slot page reference) → All (λ c. c ≡ bytes) (candidates (d.cells reference.place))
every-kept d frozen plan slot page bytes reference every kept has = λ k e within.
    All-contains (IsEvery (source_in frozen) d) plan (data_page slot page reference) every has k e within
    ∙ ap (λ (o : Option (List ℕ)). unwrap_or o []) kept

pub first-kept : (d : DiskState) (frozen : FrozenState) (plan : List PlanPage) (slot page : ℕ) (bytes : List ℕ) (reference : Ref) → All (IsEvery (source_in frozen) d) plan → kept_page frozen.pages slot page ≡ Some bytes → Contains plan (data_page slot page reference) → (d.cells reference.place).first ≡ bytes
first-kept d frozen plan slot page bytes reference every kept has = every-kept d frozen plan slot page bytes reference every kept has 0 [] (omega arith)

pub holds-kept : (d : DiskState) (frozen : FrozenState) (next : List (Option Held)) (plan : List PlanPage) (slot page : ℕ) (bytes : List ℕ) (reference : Ref) → All (IsEvery (source_in frozen) d) plan → HaveDigests next frozen → kept_page frozen.pages slot page ≡ Some bytes → ref_at next slot page ≡ Some reference → Contains plan (data_page slot page reference) → HoldsOnly (d.cells reference.place) reference.digest
holds-kept d frozen next plan slot page bytes reference every digests kept at has =
    let first = first-kept d frozen plan slot page bytes reference every kept has in
    let due : Some reference.digest ≡ Some (sha256 bytes) = sym (ap (option_map (λ (r : Ref). r.digest)) at) ∙ digests slot page bytes kept in
    let digest : reference.digest ≡ sha256 bytes = cc due in
    record {
      same = λ k e within. every-kept d frozen plan slot page bytes reference every kept has k e within ∙ sym first;
      due = ap sha256 first ∙ sym digest;
    }

-- where a page of data is due, the page that the frozen view keeps there is given
due-gives : (frozen : FrozenState) (pages : List PlanPage) (due : DuePage) → All (IsKeptIn frozen.pages) pages → due_in pages ≡ Some due → (given : Option (List ℕ)) → given ≡ kept_page frozen.pages due.slot due.page → given ≡ given_of pages frozen
due-gives frozen [] due kept is given at = absurd (cc is)
due-gives frozen (Data slot page r ∷ left) due kept is given at =
    let same : record { slot = slot; page = page } ≡ due = cc is in
    at ∙ sym (ap (λ (x : DuePage). kept_page frozen.pages x.slot x.page) same)
due-gives frozen (Map place image ∷ left) due kept is given at = absurd (cc is)

pub page-gives : (frozen : FrozenState) (pages : List PlanPage) (due : DuePage) → All (IsKeptIn frozen.pages) pages → due_in pages ≡ Some due → (given : Option (List ℕ)) → given ≡ kept_page frozen.pages due.slot due.page → IsGiven pages given
page-gives frozen pages due kept is given at = subst (IsGiven pages) (sym (due-gives frozen pages due kept is given at)) (page-given frozen pages kept)
