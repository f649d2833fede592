-- The references that pages have next.
use Rattle.std.proofs.Common.{◌≡◌, ℕ, zero, suc, ◌+◌, List, [], ◌∷◌, get_or, map, Some, refl, ap, ◌∙◌, arith, subst}
use Rattle.std.specs.Prelude.{Contains}
use Rattle.std.specs.List.{slice_get}
use Rattle.std.proofs.lemmas.List.Elements.{Contains-append_right}
use Rattle.vb_block.specs.declared.digest.Ref.{Ref}
use Rattle.vb_inode.specs.declared.next_view.PageSource.{PageSource}
use Rattle.vb_inode.specs.declared.next_view.PageSource.TheVariants.{Kept, Fresh}
use Rattle.vb_plan.specs.declared.plan_page.PlanPage.{PlanPage}
use Rattle.vb_plan.specs.Laws.{digest_of}
use Rattle.vb_plan.specs.Sources.{page_written, pages_written, ref_from, refs_from, taken_after}

digest_kept : (free : List ℕ) (taken : ℕ) (s : PageSource) → (ref_from free taken s).digest ≡ digest_of s
digest_kept free taken (Kept r) = refl
digest_kept free taken (Fresh digest) = refl

-- each page has the digest of its source
pub digests_kept : (free : List ℕ) (taken : ℕ) (sources : List PageSource) → map (λ r. r.digest) (refs_from free taken sources) ≡ map digest_of sources
digests_kept free taken [] = refl
digests_kept free taken (s ∷ sources) =
    ap (λ (d : List ℕ). d ∷ map (λ (r : Ref). r.digest) (refs_from free (taken_after taken s) sources)) (digest_kept free taken s)
    ∙ ap (λ (ds : List (List ℕ)). digest_of s ∷ ds) (digests_kept free (taken_after taken s) sources)

-- a kept page keeps its reference
pub ref_kept : (free : List ℕ) (taken : ℕ) (sources : List PageSource) (k : ℕ) (r : Ref) → slice_get sources k ≡ Some (Kept r) → slice_get (refs_from free taken sources) k ≡ Some r
ref_kept free taken [] k r is = absurd (cc)
ref_kept free taken (s ∷ sources) zero r is =
    let e : s ≡ Kept r = cc in ap (λ (x : PageSource). Some (ref_from free taken x)) e
ref_kept free taken (s ∷ sources) (suc k) r is = ref_kept free (taken_after taken s) sources k r is

-- a page to write has a reference of its digest, and is written there
pub record IsWritten (page : ℕ → Ref → PlanPage) (free : List ℕ) (taken number : ℕ) (sources : List PageSource) (k : ℕ) (digest : List ℕ) : Type 0 where
  pub r : Ref
  pub there : slice_get (refs_from free taken sources) k ≡ Some r
  pub is_digest : r.digest ≡ digest
  pub written : Contains (pages_written page free taken number sources) (page (number + k) r)

written_first : (page : ℕ → Ref → PlanPage) (free : List ℕ) (taken number : ℕ) (sources : List PageSource) (digest : List ℕ) → IsWritten page free taken number (Fresh digest ∷ sources) zero digest
written_first page free taken number sources digest =
    let r : Ref = record { place = get_or free taken 0; digest = digest } in
    let at : number ≡ number + 0 = omega arith in
    let rest = pages_written page free (taken + 1) (number + 1) sources in
    record {
      r = r;
      there = refl;
      is_digest = refl;
      written = subst (λ (n : ℕ). Contains (page number r ∷ rest) (page n r)) at (0, omega arith, refl);
    }

written_later : (page : ℕ → Ref → PlanPage) (free : List ℕ) (taken number : ℕ) (s : PageSource) (sources : List PageSource) (k : ℕ) (digest : List ℕ) → IsWritten page free (taken_after taken s) (number + 1) sources k digest → IsWritten page free taken number (s ∷ sources) (suc k) digest
written_later page free taken number s sources k digest is =
    let at : number + 1 + k ≡ number + suc k = omega arith in
    let rest = pages_written page free (taken_after taken s) (number + 1) sources in
    record {
      r = is.r;
      there = is.there;
      is_digest = is.is_digest;
      written = Contains-append_right (page_written (page number) free taken s) rest (page (number + suc k) is.r) (subst (λ (n : ℕ). Contains rest (page n is.r)) at is.written);
    }

pub page_is_written : (page : ℕ → Ref → PlanPage) (free : List ℕ) (taken number : ℕ) (sources : List PageSource) (k : ℕ) (digest : List ℕ) → slice_get sources k ≡ Some (Fresh digest) → IsWritten page free taken number sources k digest
page_is_written page free taken number [] k digest is = absurd (cc)
page_is_written page free taken number (s ∷ sources) zero digest is =
    let e : Fresh digest ≡ s = cc in
    subst (λ (x : PageSource). IsWritten page free taken number (x ∷ sources) zero digest) e (written_first page free taken number sources digest)
page_is_written page free taken number (s ∷ sources) (suc k) digest is =
    written_later page free taken number s sources k digest (page_is_written page free (taken_after taken s) (number + 1) sources k digest is)
