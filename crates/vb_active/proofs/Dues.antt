-- Pages of a view: which they are, and what a read of one gives where the disk backs the view.
use Rattle.std.proofs.Common.{◌≡◌, ℕ, ◌<◌, List, [], ◌∷◌, length, Option, Some, None, IsSome, is_some, true, Result, Ok, Err, refl, sym, ap, subst, ◌∙◌, arith}
use Rattle.std.specs.Prelude.{IfErr, IfOk, slice_get, unwrap_or}
use Rattle.std.proofs.lemmas.List.Elements.{All-contains, Contains-get_or}
use Rattle.std.proofs.lemmas.Option.{slice_get-get_or, slice_get_within}
use Rattle.sha2.specs.Sha256.{sha256}
use Rattle.vb_block.specs.declared.digest.Ref.{Ref}
use Rattle.vb_disk.specs.declared.cell.Cell.{Cell}
use Rattle.vb_disk.specs.Cells.{candidates, candidate_at, read_of}
use Rattle.vb_disk.specs.States.{DiskState, IsDiskState, read_at}
use Rattle.vb_pages.specs.declared.page_error.PageError.{PageError}
use Rattle.vb_pages.specs.declared.page_error.PageError.TheVariants.{Damaged, DiskFault, Memory}
use Rattle.vb_pages.specs.Reads.{AnswersRead, GivesWhatWasRead}
use Rattle.vb_pages.specs.Tables.{kept_page}
use Rattle.vb_active.specs.Needs.{IsErrorAt}
use Rattle.vb_pages.specs.Disks.{HoldsOnly, first_at}
use Rattle.vb_active.specs.Views.{ActiveState, Backs, IsOut, due_page, ref_at}

-- a page of the table
pub due-kept : (view : ActiveState) (d : DiskState) (slot page : ℕ) (bytes : List ℕ) → kept_page view.pages slot page ≡ Some bytes → due_page view d slot page ≡ bytes
unfolding due_page
due-kept view d slot page bytes e = ap (λ o. unwrap_or o (first_at d (ref_at view.index.nodes slot page))) e

-- a page that isn't in the table
pub due-out : (view : ActiveState) (d : DiskState) (slot page : ℕ) (reference : Ref) → IsOut view slot page reference → due_page view d slot page ≡ (d.cells reference.place).first
unfolding due_page
due-out view d slot page reference out =
    ap (λ o. unwrap_or o (first_at d (ref_at view.index.nodes slot page))) out.apart ∙ ap (first_at d) out.at

-- where the table and the reference are the same, so is the page
pub due-same : (old new : ActiveState) (d : DiskState) (slot page : ℕ) → kept_page new.pages slot page ≡ kept_page old.pages slot page → ref_at new.index.nodes slot page ≡ ref_at old.index.nodes slot page → due_page new d slot page ≡ due_page old d slot page
unfolding due_page
due-same old new d slot page kept refs =
    ap (λ o. unwrap_or o (first_at d (ref_at new.index.nodes slot page))) kept ∙ ap (λ r. unwrap_or (kept_page old.pages slot page) (first_at d r)) refs

-- a place that isn't hurt and has one page alone reads as that one
newest : (cell : Cell) (digest : List ℕ) → HoldsOnly cell digest → cell.hurt ≡ None → read_of cell ≡ cell.first
newest cell digest only whole =
    ap (λ o. unwrap_or o (candidate_at cell (length cell.later))) whole
    ∙ All-contains (λ page. page ≡ cell.first) (candidates cell) (candidate_at cell (length cell.later)) only.same
    (Contains-get_or (candidates cell) (length cell.later) cell.first (omega arith))

-- a page of the due digest that was read is the one page of the place
pub read-first : (d : DiskState) (reference : Ref) (page : List ℕ) → IsDiskState d → HoldsOnly (d.cells reference.place) reference.digest → sha256 page ≡ reference.digest → page ≡ read_at d reference.place → page ≡ (d.cells reference.place).first
read-first d reference page is only digest gave = by cell.hurt refl where
  cell : Cell
  cell = d.cells reference.place

  by : (o : Option (List ℕ)) → cell.hurt ≡ o → page ≡ cell.first
  by None e = gave ∙ newest cell reference.digest only e
  by (Some bytes) e = absurd (
      let same : page ≡ bytes = gave ∙ ap (λ o. unwrap_or o (candidate_at cell (length cell.later))) e in
      All-contains (λ candidate. sha256 candidate ≡ sha256 bytes → ⊥) (candidates cell) cell.first (is.hurt_are_misses reference.place bytes e).unlike
      (Contains-get_or (candidates cell) 0 cell.first (omega arith))
      (only.due ∙ sym digest ∙ ap sha256 same))

-- damage at a place that has one page alone is hurt there
hurt-found : (d : DiskState) (reference : Ref) (kept found : List ℕ) (o : Option (List ℕ)) → HoldsOnly (d.cells reference.place) reference.digest → (kept ≡ found → ⊥) → kept ≡ reference.digest → found ≡ sha256 (read_at d reference.place) → (d.cells reference.place).hurt ≡ o → IsSome o
hurt-found d reference kept found (Some bytes) only differ due gave e = refl
hurt-found d reference kept found None only differ due gave e = absurd (differ (due ∙ sym only.due ∙ sym (gave ∙ ap sha256 (newest (d.cells reference.place) reference.digest only e))))

-- what a read of a page that isn't in the table answers is an error at that page
pub read-error : (told : Option DiskState) (view : ActiveState) (slot page : ℕ) (reference : Ref) (result : Result (List ℕ) PageError) → IsOut view slot page reference → AnswersRead reference result → ((d : DiskState) → told ≡ Some d → GivesWhatWasRead (read_at d reference.place) result) → IfErr result (IsErrorAt told view slot page)
read-error told view slot page reference (Ok bytes) out answers gives = tt
read-error told view slot page reference (Err (Damaged place kept found)) out answers gives =
    record {
      reference = reference;
      out = out;
      named = answers;
      hurt = λ d is backs. subst (λ p. IsSome (d.cells p).hurt) (sym answers.here) (hurt-found d reference kept found (d.cells reference.place).hurt (backs slot page reference out) answers.differ answers.due (gives d is) refl);
    }
read-error told view slot page reference (Err DiskFault) out answers gives = tt
read-error told view slot page reference (Err Memory) out answers gives = tt

-- and where it answers a page, that is the due one
pub read-due : (told : Option DiskState) (view : ActiveState) (slot page : ℕ) (reference : Ref) (result : Result (List ℕ) PageError) → IsOut view slot page reference → AnswersRead reference result → ((d : DiskState) → told ≡ Some d → GivesWhatWasRead (read_at d reference.place) result) → ((d : DiskState) → told ≡ Some d → IsDiskState d)
    → (d : DiskState) → told ≡ Some d → Backs d view → IfOk result (λ bytes. bytes ≡ due_page view d slot page)
read-due told view slot page reference (Ok bytes) out answers gives valid d is backs =
    read-first d reference bytes (valid d is) (backs slot page reference out) answers (gives d is) ∙ sym (due-out view d slot page reference out)
read-due told view slot page reference (Err e) out answers gives valid d is backs = tt

-- a file has the page of each reference
pub ref_at-some : (refs : List Ref) (page : ℕ) → page < length refs → IsSome (slice_get refs page)
ref_at-some (r ∷ refs) page below = ap is_some (slice_get-get_or (r ∷ refs) page r below)
ref_at-some [] page below = absurd (omega (arith, below))

pub ref_at-below : (refs : List Ref) (page : ℕ) → IsSome (slice_get refs page) → page < length refs
ref_at-below refs page some = by (slice_get refs page) refl where
  by : (o : Option Ref) → slice_get refs page ≡ o → page < length refs
  by (Some r) e = slice_get_within refs page r e
  by None e = absurd (let no : is_some {T = Ref} None ≡ true = sym (ap is_some e) ∙ some in cc)
