-- Disks some of whose places are taken as whole.
use Rattle.std.proofs.Common.{◌≡◌, ℕ, zero, suc, ◌+◌, Bool, true, false, cond, not, ◌||◌, nat_lt, List, [], ◌∷◌, ◌++◌, length, Option, Some, None, unwrap_or, refl, sym, ap, ◌∙◌, inl, arith}
use Rattle.std.specs.List.{All}
use Rattle.std.proofs.lemmas.List.{get_or_default}
use Rattle.std.proofs.lemmas.Slice.Eq.{bytes_eq-Decides}
use Rattle.sha2.specs.Sha256.{sha256}
use Rattle.vb_block.specs.Pages.{IsPage, IsSealed, seal_of, sealed_part}
use Rattle.vb_block.specs.declared.why.Why.TheVariants.{Slot}
use Rattle.vb_disk.specs.declared.cell.Cell.{Cell}
use Rattle.vb_disk.specs.Cells.{blank_cell, candidate_at, candidates, read_of, synced_cell}
use Rattle.vb_disk.specs.Crashes.{CellMayCrashTo}
use Rattle.vb_disk.specs.Misses.{IsMiss, is_sealed}
use Rattle.vb_disk.specs.States.{DiskState, IsDiskState, read_at}
use Rattle.vb_journal.specs.declared.recover_error.RecoverError.{RecoverError}
use Rattle.vb_journal.specs.declared.recover_error.RecoverError.TheVariants.{Damaged, Unfit}
use Rattle.vb_journal.specs.Images.{slot_of}
use Rattle.vb_journal.specs.Outcomes.{reads_of}
use Rattle.vb_journal.specs.Recoveries.{image_refusal, images_refusal, is_named}
use Rattle.vb_journal.specs.Recovering.{newest_of}
use Rattle.vb_journal.specs.Shown.{pages_from}
use Rattle.vb_store.specs.Clear.{IsClear, RecoversTree, taken_as, taken_cell}
use Rattle.vb_store.proofs.SameJournals.{or_refusal-none}

-- ---- one place

pub synced-taken : (whole : Bool) (cell : Cell) → taken_cell whole (synced_cell cell) ≡ synced_cell (taken_cell whole cell)
synced-taken true cell = refl
synced-taken false cell = refl

pub newest-taken : (whole : Bool) (cell : Cell) → newest_of (taken_cell whole cell) ≡ newest_of cell
newest-taken true cell = refl
newest-taken false cell = refl

pub hurt-taken : (whole : Bool) (cell : Cell) → cell.hurt ≡ None → (taken_cell whole cell).hurt ≡ None
hurt-taken true cell none = refl
hurt-taken false cell none = none

-- a place that isn't hurt is whole, however it is taken
pub whole-taken : (whole : Bool) (cell : Cell) (first : List ℕ) (later : List (List ℕ)) → (let c : Cell = record { first = first; later = later; hurt = None } in cell ≡ c) → (let c : Cell = record { first = first; later = later; hurt = None } in taken_cell whole cell ≡ c)
whole-taken true cell first later is = ap (taken_cell true) is
whole-taken false cell first later is = is

blank_taken : (whole : Bool) (cell : Cell) → cell ≡ blank_cell → taken_cell whole cell ≡ blank_cell
blank_taken true cell is = ap (taken_cell true) is
blank_taken false cell is = is

miss_taken : (whole : Bool) (cell : Cell) (bytes : List ℕ) → (cell.hurt ≡ Some bytes → IsMiss cell bytes) → (taken_cell whole cell).hurt ≡ Some bytes → IsMiss (taken_cell whole cell) bytes
miss_taken true cell bytes miss hurt = absurd (cc hurt)
miss_taken false cell bytes miss hurt = miss hurt

pages_taken : (whole : Bool) (cell : Cell) → All IsPage (candidates cell) → All IsPage (candidates (taken_cell whole cell))
pages_taken true cell pages = pages
pages_taken false cell pages = pages

page_taken : (whole : Bool) (cell : Cell) (bytes : List ℕ) → (cell.hurt ≡ Some bytes → IsPage bytes) → (taken_cell whole cell).hurt ≡ Some bytes → IsPage bytes
page_taken true cell bytes page hurt = absurd (cc hurt)
page_taken false cell bytes page hurt = page hurt

alone_taken : (whole : Bool) (cell : Cell) → cell.later ≡ [] → (taken_cell whole cell).later ≡ []
alone_taken true cell alone = alone
alone_taken false cell alone = alone

-- a hurt place doesn't read as sealed bytes, so that one which does reads the same when it is taken as whole
sealed_taken : (whole : Bool) (cell : Cell) → ((bytes : List ℕ) → cell.hurt ≡ Some bytes → IsMiss cell bytes) → is_sealed (read_of cell) ≡ true → read_of (taken_cell whole cell) ≡ read_of cell
sealed_taken false cell misses sealed = refl
sealed_taken true cell misses sealed = by_hurt cell.hurt refl
  where
    by_hurt : (hurt : Option (List ℕ)) → cell.hurt ≡ hurt → read_of (taken_cell true cell) ≡ read_of cell
    by_hurt None none = sym (ap (λ (o : Option (List ℕ)). unwrap_or o (newest_of cell)) none)
    by_hurt (Some bytes) hurt =
        let read : read_of cell ≡ bytes = ap (λ (o : Option (List ℕ)). unwrap_or o (newest_of cell)) hurt in
        let is : IsSealed bytes = (bytes_eq-Decides (seal_of bytes) (sha256 (sealed_part bytes))).0 (ap is_sealed (sym read) ∙ sealed) in
        absurd ((misses bytes hurt).unsealed is)

-- ---- all places

pub IsDiskState-taken : (whole : ℕ → Bool) (d : DiskState) → IsDiskState d → IsDiskState (taken_as whole d)
IsDiskState-taken whole d is = record {
  blank_past_size = λ place past. blank_taken (whole place) (d.cells place) (is.blank_past_size place past);
  hurt_are_misses = λ place bytes. miss_taken (whole place) (d.cells place) bytes (is.hurt_are_misses place bytes);
  candidates_are_pages = λ place. pages_taken (whole place) (d.cells place) (is.candidates_are_pages place);
  hurt_are_pages = λ place bytes. page_taken (whole place) (d.cells place) bytes (is.hurt_are_pages place bytes);
  counted = record {
    covers = is.counted.covers;
    settled = λ all place. alone_taken (whole place) (d.cells place) (is.counted.settled all place);
  };
}

-- a crash may leave the last candidate of a place
pub last_picked : (cell : Cell) → CellMayCrashTo cell (synced_cell cell)
last_picked cell = record {
  picked = (length cell.later, omega arith, get_or_default (candidates cell) (length cell.later) (candidate_at cell (length cell.later)) cell.first (omega arith));
  alone = refl;
  hurt = inl refl;
}

-- whichever places of a clear disk are taken as whole, a tree is recovered from it
pub clear-recovers : (whole : ℕ → Bool) (d : DiskState) → IsClear d → RecoversTree (taken_as whole d)
clear-recovers whole d clear =
    let taken : DiskState = taken_as whole d in
    let last : DiskState = record taken { cells = λ place. synced_cell (taken.cells place) } in
    let has : RecoversTree last = clear whole last (record { size = refl; writes = refl; resizes = refl; synced_at = refl; each = λ place. last_picked (taken.cells place) }) in
    record { epoch = has.epoch; tree = has.tree; recovers = has.recovers }

-- ---- journals

sealed_by : (sealed off : Bool) (a b : RecoverError) → cond (not sealed) (Some a) (cond off (Some b) None) ≡ None → sealed ≡ true
sealed_by true off a b none = refl
sealed_by false off a b none = absurd (cc none)

image_sealed : (nodes place : ℕ) (before : List (List ℕ)) (image : List ℕ) → image_refusal nodes place before image ≡ None → is_sealed image ≡ true
image_sealed nodes place before image none =
    sealed_by (is_sealed image) (not (nat_lt (slot_of image) nodes) || is_named before (slot_of image)) (Damaged place (seal_of image) (sha256 (sealed_part image))) (Unfit place Slot) none

-- images that aren't refused read the same, whichever places are taken as whole
pub pages_from-taken : (whole : ℕ → Bool) (d : DiskState) (nodes place n at : ℕ) (before : List (List ℕ)) → IsDiskState d → images_refusal nodes at before (pages_from (reads_of d) place n) ≡ None → pages_from (reads_of (taken_as whole d)) place n ≡ pages_from (reads_of d) place n
pages_from-taken whole d nodes place zero at before is none = refl
pages_from-taken whole d nodes place (suc n) at before is none =
    let image : List ℕ = read_at d place in
    let rest : List (List ℕ) = pages_from (reads_of d) (place + 1) n in
    let both = or_refusal-none (image_refusal nodes at before image) (images_refusal nodes (at + 1) (before ++ image ∷ []) rest) none in
    let here : read_at (taken_as whole d) place ≡ read_at d place = sealed_taken (whole place) (d.cells place) (is.hurt_are_misses place) (image_sealed nodes at before image both.0) in
    ap (λ (p : List ℕ). p ∷ pages_from (reads_of (taken_as whole d)) (place + 1) n) here
    ∙ ap (λ (l : List (List ℕ)). image ∷ l) (pages_from-taken whole d nodes (place + 1) n (at + 1) (before ++ image ∷ []) is both.1)
