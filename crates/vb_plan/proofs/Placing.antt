-- Pages that get their references one after the other.
use Rattle.std.proofs.Common.{◌≡◌, ℕ, ◌+◌, ◌<◌, ◌≤◌, List, [], ◌∷◌, ◌++◌, length, get_or, drop, refl, sym, ap, ◌∙◌, arith, append_assoc, length-append}
use Rattle.std.proofs.lemmas.List.{append-nil, drop_all, drop_more}
use Rattle.std.proofs.lemmas.List.Sums.{sum_by-cons}
use Rattle.std.specs.Prelude.{cond}
use Rattle.vb_block.specs.declared.digest.Ref.{Ref}
use Rattle.vb_inode.specs.declared.next_view.PageSource.{PageSource}
use Rattle.vb_inode.specs.declared.next_view.PageSource.TheVariants.{Kept, Fresh}
use Rattle.vb_plan.specs.declared.plan_page.PlanPage.{PlanPage}
use Rattle.vb_plan.specs.Sources.{fresh_count, is_fresh, page_written, pages_written, ref_from, refs_from, taken_after}

-- one more page
pub fresh-cons : (taken : ℕ) (s : PageSource) (sources : List PageSource) → taken_after taken s + fresh_count sources ≡ taken + fresh_count (s ∷ sources)
fresh-cons taken (Kept r) sources = omega (arith, sum_by-cons (λ (x : PageSource). cond (is_fresh x) 1 0) (Kept r) sources)
fresh-cons taken (Fresh digest) sources = omega (arith, sum_by-cons (λ (x : PageSource). cond (is_fresh x) 1 0) (Fresh digest) sources)

-- a page takes a place where it is written
pub length-page_written : (page : Ref → PlanPage) (free : List ℕ) (taken : ℕ) (s : PageSource) → taken + length (page_written page free taken s) ≡ taken_after taken s
length-page_written page free taken (Kept r) = omega arith
length-page_written page free taken (Fresh digest) = omega arith

-- as many places are taken as pages are written
pub length-pages_written : (page : ℕ → Ref → PlanPage) (free : List ℕ) (taken number : ℕ) (sources : List PageSource) → length (pages_written page free taken number sources) ≡ fresh_count sources
length-pages_written page free taken number [] = refl
length-pages_written page free taken number (s ∷ sources) =
    omega (arith, length-append (page_written (page number) free taken s) (pages_written page free (taken_after taken s) (number + 1) sources), length-page_written (page number) free taken s, fresh-cons taken s sources, length-pages_written page free (taken_after taken s) (number + 1) sources)

-- so many of these pages have their references, and what is to be written of them was added to the pages to write
pub record HasPlaced (page : ℕ → Ref → PlanPage) (free : List ℕ) (begun : List PlanPage) (sources : List PageSource) (done : ℕ) (refs : List Ref) (pages : List PlanPage) : Type 0 where
  pub refs_left : refs ++ refs_from free (length pages) (drop done sources) ≡ refs_from free (length begun) sources
  pub pages_left : pages ++ pages_written page free (length pages) done (drop done sources) ≡ begun ++ pages_written page free (length begun) 0 sources
  pub taken : length pages + fresh_count (drop done sources) ≡ length begun + fresh_count sources

-- none yet
pub none_placed : (page : ℕ → Ref → PlanPage) (free : List ℕ) (begun : List PlanPage) (sources : List PageSource) → HasPlaced page free begun sources 0 [] begun
none_placed page free begun sources = record { refs_left = refl; pages_left = refl; taken = refl }

-- the next one has a place
pub room_for_next : {page : ℕ → Ref → PlanPage} {free : List ℕ} {begun : List PlanPage} {sources : List PageSource} {done : ℕ} {refs : List Ref} {pages : List PlanPage} → HasPlaced page free begun sources done refs pages → (s : PageSource) → done < length sources → get_or sources done s ≡ s → taken_after (length pages) s ≤ length begun + fresh_count sources
room_for_next {sources} {done} {pages} placed s within is =
    let left : drop done sources ≡ s ∷ drop (done + 1) sources = drop_more sources done s within ∙ ap (λ (x : PageSource). x ∷ drop (done + 1) sources) is in
    omega (arith, placed.taken, ap fresh_count left, fresh-cons (length pages) s (drop (done + 1) sources))

-- one more
pub one_placed : {page : ℕ → Ref → PlanPage} {free : List ℕ} {begun : List PlanPage} {sources : List PageSource} {done : ℕ} {refs : List Ref} {pages : List PlanPage} → HasPlaced page free begun sources done refs pages → (s : PageSource) → done < length sources → get_or sources done s ≡ s → (refs2 : List Ref) (pages2 : List PlanPage) → refs2 ≡ refs ++ ref_from free (length pages) s ∷ [] → pages2 ≡ pages ++ page_written (page done) free (length pages) s → HasPlaced page free begun sources (done + 1) refs2 pages2
one_placed {page} {free} {begun} {sources} {done} {refs} {pages} placed s within is refs2 pages2 more_refs more_pages =
    let left : drop done sources ≡ s ∷ drop (done + 1) sources = drop_more sources done s within ∙ ap (λ (x : PageSource). x ∷ drop (done + 1) sources) is in
    let after : length pages2 ≡ taken_after (length pages) s = ap length more_pages ∙ length-append pages (page_written (page done) free (length pages) s) ∙ length-page_written (page done) free (length pages) s in
    record {
      refs_left =
          ap (λ (n : ℕ). refs2 ++ refs_from free n (drop (done + 1) sources)) after
          ∙ ap (λ (rs : List Ref). rs ++ refs_from free (taken_after (length pages) s) (drop (done + 1) sources)) more_refs
          ∙ append_assoc refs (ref_from free (length pages) s ∷ []) (refs_from free (taken_after (length pages) s) (drop (done + 1) sources))
          ∙ ap (λ (ss : List PageSource). refs ++ refs_from free (length pages) ss) (sym left)
          ∙ placed.refs_left;
      pages_left =
          ap (λ (n : ℕ). pages2 ++ pages_written page free n (done + 1) (drop (done + 1) sources)) after
          ∙ ap (λ (ps : List PlanPage). ps ++ pages_written page free (taken_after (length pages) s) (done + 1) (drop (done + 1) sources)) more_pages
          ∙ append_assoc pages (page_written (page done) free (length pages) s) (pages_written page free (taken_after (length pages) s) (done + 1) (drop (done + 1) sources))
          ∙ ap (λ (ss : List PageSource). pages ++ pages_written page free (length pages) done ss) (sym left)
          ∙ placed.pages_left;
      taken = omega (arith, placed.taken, ap fresh_count left, fresh-cons (length pages) s (drop (done + 1) sources), after);
    }

-- what is so once all have theirs
pub record AllPlaced (page : ℕ → Ref → PlanPage) (free : List ℕ) (begun : List PlanPage) (sources : List PageSource) (refs : List Ref) (pages : List PlanPage) : Type 0 where
  pub refs_are : refs ≡ refs_from free (length begun) sources
  pub pages_are : pages ≡ begun ++ pages_written page free (length begun) 0 sources
  pub taken : length pages ≡ length begun + fresh_count sources

pub all_placed : {page : ℕ → Ref → PlanPage} {free : List ℕ} {begun : List PlanPage} {sources : List PageSource} {done : ℕ} {refs : List Ref} {pages : List PlanPage} → HasPlaced page free begun sources done refs pages → length sources ≤ done → AllPlaced page free begun sources refs pages
all_placed {page} {free} {begun} {sources} {done} {refs} {pages} placed past =
    let none : drop done sources ≡ [] = drop_all done sources past in
    record {
      refs_are = sym (append-nil refs) ∙ ap (λ (ss : List PageSource). refs ++ refs_from free (length pages) ss) (sym none) ∙ placed.refs_left;
      pages_are = sym (append-nil pages) ∙ ap (λ (ss : List PageSource). pages ++ pages_written page free (length pages) done ss) (sym none) ∙ placed.pages_left;
      taken = omega (arith, placed.taken, ap fresh_count none);
    }

-- each page has its reference
pub length-refs_from : (free : List ℕ) (taken : ℕ) (sources : List PageSource) → length (refs_from free taken sources) ≡ length sources
length-refs_from free taken [] = refl
length-refs_from free taken (s ∷ sources) = omega (arith, length-refs_from free (taken_after taken s) sources)
