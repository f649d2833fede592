-- The page that is fetched where the table is that of the told cloud.
use Rattle.std.proofs.Common.{◌≡◌, ℕ, ◌<◌, ◌⊎◌, List, Option, Some, None, refl, sym, ap, ◌∙◌, subst, inl, inr}
use Rattle.sha2.specs.Sha256.{sha256}
use Rattle.vb_cloud.specs.Machine.{CloudState}
use Rattle.vb_link.specs.Views.{LinkView, view_of, digest_in, page_in}
use Rattle.std.specs.Prelude.{IsSome, Err}
use Rattle.vb_cause.specs.Causes.{UsesFailures, left_of}
use Rattle.vb_link.specs.Links.{IsAnother, KeepsFailures}
use Rattle.vb_helper.specs.declared.repairing.Refetched.{Refetched}
use Rattle.vb_helper.specs.declared.refetch_error.RefetchError.TheVariants.{LinkFault}
use Rattle.vb_link.proofs.Places.{page_told, no_page_told}
use Rattle.vb_sync.specs.declared.published_page.PublishedPage.{PublishedPage}
use Rattle.vb_sync.specs.Published.{first_page, IsPublished}
use Rattle.vb_sync.proofs.Finding.{no_some, of_some}
use Rattle.vb_sync.proofs.Indexing.{page-there}

-- the page that stands where the table has the first of a digest
record IsDue (k : CloudState) (at : PublishedPage) (digest : List ℕ) : Type 0 where
  page : List ℕ
  there : page_in at.entry at.page k ≡ Some page
  due : sha256 page ≡ digest

due_page : (k : CloudState) (v : LinkView) (digest : List ℕ) (at : PublishedPage) → v ≡ view_of k → first_page digest v.entries ≡ Some at → IsDue k at digest
due_page k v digest at is first = by_page (page_in at.entry at.page k) refl where
  told : digest_in at.entry at.page (view_of k) ≡ Some digest
  told = page-there digest (view_of k).entries at (ap (λ (w : LinkView). first_page digest w.entries) (sym is) ∙ first)

  by_page : (o : Option (List ℕ)) → page_in at.entry at.page k ≡ o → IsDue k at digest
  by_page None none = absurd (no_some digest (sym (no_page_told k at.entry at.page none) ∙ told))
  by_page (Some page) there = record {
    page = page;
    there = there;
    due = of_some (sha256 page) digest (sym (page_told k at.entry at.page page (sha256 page) there refl) ∙ told);
  }

-- so it isn't another one
other_page : (k : CloudState) (v : LinkView) (digest : List ℕ) (at : PublishedPage) → v ≡ view_of k → first_page digest v.entries ≡ Some at → IsAnother digest (page_in at.entry at.page k) → ⊥
other_page k v digest at is first another =
    let d = due_page k v digest at is first in
    subst (λ (o : Option (List ℕ)). IsAnother digest o) d.there another d.due

-- and it is there
pub not_refused : (k : CloudState) (v : LinkView) (digest : List ℕ) (at : PublishedPage) → v ≡ view_of k → first_page digest v.entries ≡ Some at → page_in at.entry at.page k ≡ None → ⊥
not_refused k v digest at is first none =
    let d = due_page k v digest at is first in
    no_some d.page (sym none ∙ d.there)

-- a published digest
pub published_at : (v : LinkView) (digest : List ℕ) (at : PublishedPage) → first_page digest v.entries ≡ Some at → IsPublished digest v.entries
published_at v digest at first = (at.entry, at.page, page-there digest v.entries at first)

-- a fault of the link uses up a failure, where it isn't that the page is another one
pub fault_left : (k : CloudState) (v : LinkView) (digest : List ℕ) (at : PublishedPage) (before after : Option ℕ) → v ≡ view_of k → first_page digest v.entries ≡ Some at
    → KeepsFailures before after → (IsSome before → (left_of after < left_of before) ⊎ IsAnother digest (page_in at.entry at.page k))
    → UsesFailures {T = Refetched} LinkFault before after (Err LinkFault)
fault_left k v digest at before after is first kept used = record {
  told = kept.told;
  kept = kept.kept;
  used = λ some fault. elim (used some) [ inl fewer ↦ fewer | inr another ↦ absurd (other_page k v digest at is first another) ];
}
