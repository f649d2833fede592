-- Pages of one file by their sources: the references that they have next, and which of them are to be written.
use Rattle.std.specs.Prelude.{ℕ, ◌+◌, Bool, true, false, List, [], ◌∷◌, ◌++◌, get_or, count_by}
use Rattle.vb_block.specs.declared.digest.Ref.{Ref}
use Rattle.vb_inode.specs.declared.next_view.PageSource.{PageSource}
use Rattle.vb_inode.specs.declared.next_view.PageSource.TheVariants.{Kept, Fresh}
use Rattle.vb_plan.specs.declared.plan_page.PlanPage.{PlanPage}

-- whether a page is yet to be written
abbrev pub is_fresh : PageSource → Bool
is_fresh (Kept r) = false
is_fresh (Fresh digest) = true

-- how many pages are yet to be written
abbrev pub fresh_count : List PageSource → ℕ
fresh_count sources = count_by is_fresh sources

-- the reference that a page has next: the one that it has, or else the first free place after so many that are taken
abbrev pub ref_from : List ℕ → ℕ → PageSource → Ref
ref_from free taken (Kept r) = r
ref_from free taken (Fresh digest) = record { place = get_or free taken 0; digest = digest }

-- how many free places are taken once this page has its own
abbrev pub taken_after : ℕ → PageSource → ℕ
taken_after taken (Kept r) = taken
taken_after taken (Fresh digest) = taken + 1

-- the references that pages have next, in order, each at the next least free place after so many that are taken
abbrev pub refs_from : List ℕ → ℕ → List PageSource → List Ref
refs_from free taken [] = []
refs_from free taken (s ∷ sources) = ref_from free taken s ∷ refs_from free (taken_after taken s) sources

-- what is written of a page, which stays as it is unless it is yet to be written
abbrev pub page_written : (Ref → PlanPage) → List ℕ → ℕ → PageSource → List PlanPage
page_written page free taken (Kept r) = []
page_written page free taken (Fresh digest) = page (record { place = get_or free taken 0; digest = digest }) ∷ []

-- what is written of pages, upwards, the first of which has this number in its file
abbrev pub pages_written : (ℕ → Ref → PlanPage) → List ℕ → ℕ → ℕ → List PageSource → List PlanPage
pages_written page free taken number [] = []
pages_written page free taken number (s ∷ sources) =
    page_written (page number) free taken s ++ pages_written page free (taken_after taken s) (number + 1) sources
