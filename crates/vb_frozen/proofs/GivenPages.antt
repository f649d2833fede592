-- What a read of a page gives is the page of the tree, where the disk backs it.
use Rattle.std.proofs.Common.{◌≡◌, ℕ, zero, suc, ◌<◌, List, [], ◌∷◌, length, slice_get, Option, Some, None, unwrap_or, Result, Ok, Err, IfOk, refl, sym, ap, subst, ◌∙◌, arith}
use Rattle.std.specs.Option.{option_and_then, IsSome}
use Rattle.sha2.specs.Sha256.{sha256}
use Rattle.vb_block.specs.declared.digest.Ref.{Ref}
use Rattle.vb_disk.specs.declared.cell.Cell.{Cell}
use Rattle.vb_disk.specs.Cells.{candidate_at, read_of}
use Rattle.vb_disk.specs.Misses.{IsMiss}
use Rattle.vb_disk.specs.States.{DiskState, IsDiskState, read_at}
use Rattle.vb_tree.specs.declared.tree.TreeEntry.{TreeEntry}
use Rattle.vb_tree.specs.Contents.{page_of}
use Rattle.vb_tree.specs.Trees.{data_pages_of}
use Rattle.vb_pages.specs.declared.kept.KeptPage.{KeptPage}
use Rattle.vb_pages.specs.declared.kept.PageKey.{PageKey}
use Rattle.vb_pages.specs.declared.page_error.PageError.{PageError}
use Rattle.vb_pages.specs.Disks.{first_at, HoldsOnly}
use Rattle.vb_pages.specs.Reads.{AnswersRead, GivesWhatWasRead}
use Rattle.vb_pages.specs.Tables.{kept_page}
use Rattle.vb_frozen.specs.declared.entry.FrozenEntry.{FrozenEntry}
use Rattle.vb_frozen.specs.Views.{frozen_page, page_kept, page_ref, AreEntriesOf, GivesKept, HasFrozenTree, IsBacked, IsEntryOf, IsOnDisk}

-- what has the digest of the one page that a place holds is that page
first-read : (cell : Cell) (digest bytes : List ℕ) → ((hurt : List ℕ) → cell.hurt ≡ Some hurt → IsMiss cell hurt) → HoldsOnly cell digest → bytes ≡ read_of cell → sha256 bytes ≡ digest → bytes ≡ cell.first
first-read cell digest bytes miss holds read due = by cell.hurt refl where
  by : (o : Option (List ℕ)) → cell.hurt ≡ o → bytes ≡ cell.first
  by None is = read ∙ ap (λ o. unwrap_or o (candidate_at cell (length cell.later))) is ∙ holds.same (length cell.later) cell.first (omega arith)
  by (Some hurt) is =
      let seen : bytes ≡ hurt = read ∙ ap (λ o. unwrap_or o (candidate_at cell (length cell.later))) is in
      absurd ((miss hurt is).unlike 0 cell.first (omega arith) (holds.due ∙ sym due ∙ ap sha256 seen))

-- the entry at a place of an order is the tree's
entry-there : (pages : List (PageKey × KeptPage)) (d : DiskState) (order : List FrozenEntry) (tree : List TreeEntry) (i : ℕ) (f : FrozenEntry) (e : TreeEntry) → AreEntriesOf pages d order tree → slice_get order i ≡ Some f → slice_get tree i ≡ Some e → IsEntryOf pages d f e
entry-there pages d [] [] i f e all here there = absurd (cc here)
entry-there pages d [] (x ∷ xs) i f e all here there = absurd all
entry-there pages d (y ∷ ys) [] i f e all here there = absurd all
entry-there pages d (y ∷ ys) (x ∷ xs) zero f e all here there =
    let same_f : y ≡ f = cc here in
    let same_e : x ≡ e = cc there in
    subst (λ g. IsEntryOf pages d g e) same_f (subst (λ g. IsEntryOf pages d y g) same_e all.0)
entry-there pages d (y ∷ ys) (x ∷ xs) (suc i) f e all here there = entry-there pages d ys xs i f e all.1 here there

-- the page that is given is that of an entry
given-page : (pages : List (PageKey × KeptPage)) (d : DiskState) (order : List FrozenEntry) (i k : ℕ) (f : FrozenEntry) (result : Result (List ℕ) PageError) → IsDiskState d → slice_get order i ≡ Some f → (reference : Ref) → slice_get f.refs k ≡ Some reference → IsBacked order pages d i k → ((bytes : List ℕ) → kept_page pages f.slot k ≡ Some bytes → GivesKept bytes result) → ((r : Ref) → kept_page pages f.slot k ≡ None → slice_get f.refs k ≡ Some r → AnswersRead r result) → ((r : Ref) → kept_page pages f.slot k ≡ None → slice_get f.refs k ≡ Some r → GivesWhatWasRead (read_at d r.place) result) → IfOk result (λ given. given ≡ frozen_page pages d f k)
given-page pages d order i k f (Err error) is here reference at backed kept answers reads = tt
given-page pages d order i k f (Ok given) is here reference at backed kept answers reads = by (kept_page pages f.slot k) refl where
  seen : page_kept order pages i k ≡ kept_page pages f.slot k
  seen = ap (option_and_then (λ (x : FrozenEntry). kept_page pages x.slot k)) here

  by : (o : Option (List ℕ)) → kept_page pages f.slot k ≡ o → given ≡ frozen_page pages d f k
  by (Some bytes) there = kept bytes there ∙ sym (ap (λ o. unwrap_or o (first_at d (slice_get f.refs k))) there)
  by None there =
      let out : IsOnDisk order pages i k reference = record { at = ap (option_and_then (λ (x : FrozenEntry). slice_get x.refs k)) here ∙ at; apart = seen ∙ there } in
      first-read (d.cells reference.place) reference.digest given (is.hurt_are_misses reference.place) (backed reference out) (reads reference there at) (answers reference there at)
      ∙ sym (ap (λ o. unwrap_or o (first_at d (slice_get f.refs k))) there ∙ ap (first_at d) at)

if-ok : {T E : Type 0} (r : Result T E) (P Q : T → Type 0) → ((x : T) → P x → Q x) → IfOk r P → IfOk r Q
if-ok (Ok x) P Q goes holds = goes x holds
if-ok (Err e) P Q goes holds = tt

pub some-in : {A B : Type 0} (f : A → Option B) (o : Option A) (x : A) (y : B) → o ≡ Some x → option_and_then f o ≡ Some y → f x ≡ Some y
some-in f o x y is h = sym (ap (option_and_then f) is) ∙ h

-- it is that of the tree
pub page-given : (pages : List (PageKey × KeptPage)) (d : DiskState) (order : List FrozenEntry) (tree : List TreeEntry) (i k : ℕ) (f : FrozenEntry) (e : TreeEntry) (result : Result (List ℕ) PageError) → IsDiskState d → HasFrozenTree order pages d tree → slice_get order i ≡ Some f → slice_get tree i ≡ Some e → k < data_pages_of (length e.bytes) → (reference : Ref) → page_ref order i k ≡ Some reference → IsBacked order pages d i k → ((bytes : List ℕ) → kept_page pages f.slot k ≡ Some bytes → GivesKept bytes result) → ((r : Ref) → kept_page pages f.slot k ≡ None → slice_get f.refs k ≡ Some r → AnswersRead r result) → ((r : Ref) → kept_page pages f.slot k ≡ None → slice_get f.refs k ≡ Some r → GivesWhatWasRead (read_at d r.place) result) → IfOk result (λ given. given ≡ page_of e.bytes k)
page-given pages d order tree i k f e result is has here there within reference at backed kept answers reads =
    if-ok result (λ given. given ≡ frozen_page pages d f k) (λ given. given ≡ page_of e.bytes k)
    (λ given same. same ∙ (entry-there pages d order tree i f e has.entries here there).contents k within)
    (given-page pages d order i k f result is here reference (some-in (λ (x : FrozenEntry). slice_get x.refs k) (slice_get order i) f reference here at) backed kept answers reads)

pub some-of : (o : Option Ref) → IsSome o → (reference : Ref) × (o ≡ Some reference)
some-of None there = absurd (cc there)
some-of (Some reference) there = (reference, refl)
