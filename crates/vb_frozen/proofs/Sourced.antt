-- The sources of some pages, and one more.
use Rattle.std.proofs.Common.{◌≡◌, ℕ, suc, ◌+◌, List, [], ◌∷◌, ◌++◌, length, ap, ◌∙◌, arith}
use Rattle.vb_block.specs.declared.digest.Ref.{Ref}
use Rattle.vb_inode.specs.declared.next_view.PageSource.{PageSource}
use Rattle.vb_pages.specs.declared.kept.KeptPage.{KeptPage}
use Rattle.vb_pages.specs.declared.kept.PageKey.{PageKey}
use Rattle.vb_pages.specs.Tables.{kept_page}
use Rattle.vb_frozen.specs.Sources.{source_of, sources_from}

sources-append : (pages : List (PageKey × KeptPage)) (slot k : ℕ) (refs : List Ref) (reference : Ref) → sources_from pages slot k (refs ++ reference ∷ []) ≡ sources_from pages slot k refs ++ source_of (kept_page pages slot (k + length refs)) reference ∷ []
sources-append pages slot k [] reference = ap (λ n. source_of (kept_page pages slot n) reference ∷ []) (let e : k ≡ k + 0 = omega arith in e)
sources-append pages slot k (r ∷ rs) reference =
    let next : k + 1 + length rs ≡ k + suc (length rs) = omega arith in
    ap (λ (t : List PageSource). source_of (kept_page pages slot k) r ∷ t) (sources-append pages slot (k + 1) rs reference ∙ ap (λ n. sources_from pages slot (k + 1) rs ++ source_of (kept_page pages slot n) reference ∷ []) next)

pub sources-more : (pages : List (PageKey × KeptPage)) (slot page : ℕ) (refs first : List Ref) (reference : Ref) → first ≡ refs ++ reference ∷ [] → length refs ≡ page → sources_from pages slot 0 first ≡ sources_from pages slot 0 refs ++ source_of (kept_page pages slot page) reference ∷ []
sources-more pages slot page refs first reference is long =
    ap (sources_from pages slot 0) is ∙ sources-append pages slot 0 refs reference ∙ ap (λ n. sources_from pages slot 0 refs ++ source_of (kept_page pages slot n) reference ∷ []) (let e : 0 + length refs ≡ page = omega (arith, long) in e)
