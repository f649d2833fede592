-- A crash leaves a state that a disk can have.
use Rattle.std.proofs.Common.{◌≡◌, ◌≢◌, ℕ, ◌≤◌, List, [], ◌∷◌, Some, None, refl, sym, subst, ◌∙◌, ◌⊎◌, inl, inr, arith}
use Rattle.std.specs.List.{All, Contains}
use Rattle.std.proofs.lemmas.List.Elements.{All-contains, All-cons, All-nil}
use Rattle.sha2.specs.Sha256.{sha256}
use Rattle.vb_block.specs.Pages.{IsPage, zero_page}
use Rattle.vb_disk.specs.declared.cell.Cell.{Cell}
use Rattle.vb_disk.specs.Cells.{blank_cell, candidates}
use Rattle.vb_disk.specs.Crashes.{CellMayCrashTo, IsTorn, MayCrashTo}
use Rattle.vb_disk.specs.Misses.{IsMiss}
use Rattle.vb_disk.specs.States.{DiskState, IsDiskState}

-- the candidates that are left are one of those that there were
IsMiss-left : (old new : Cell) (bytes : List ℕ) → CellMayCrashTo old new → IsMiss old bytes → IsMiss new bytes
IsMiss-left old new bytes crash miss =
    let Q : List ℕ → Type 0 = λ candidate. sha256 candidate ≢ sha256 bytes in
    let here : Q new.first = All-contains Q (candidates old) new.first miss.unlike crash.picked in
    record {
      unsealed = miss.unsealed;
      unlike = subst (λ (later : List (List ℕ)). All Q (new.first ∷ later)) (sym crash.alone) (All-cons Q new.first [] here (All-nil Q));
    }

-- what a hurt place read as before, or what it was torn to, was a miss
was_miss : (old new : Cell) (bytes : List ℕ) → ((b : List ℕ) → old.hurt ≡ Some b → IsMiss old b) → (new.hurt ≡ old.hurt) ⊎ IsTorn old new → new.hurt ≡ Some bytes → IsMiss old bytes
was_miss old new bytes misses (inl same) hurt = misses bytes (sym same ∙ hurt)
was_miss old new bytes misses (inr torn) hurt =
    let read : torn.bytes ≡ bytes = cc (torn.reads, hurt) in
    subst (IsMiss old) read torn.miss

-- a blank place has one candidate, and can't be torn
unhurt : (new : Cell) → (new.hurt ≡ None) ⊎ IsTorn blank_cell new → new.hurt ≡ None
unhurt new (inl same) = same
unhurt new (inr torn) = absurd (omega (arith, torn.several))

only_zeros : (page : List ℕ) → Contains (zero_page ∷ []) page → page ≡ zero_page
only_zeros page found = sym (All-contains (λ (p : List ℕ). zero_page ≡ p) (zero_page ∷ []) page (All-cons (λ (p : List ℕ). zero_page ≡ p) zero_page [] refl (All-nil (λ (p : List ℕ). zero_page ≡ p))) found)

same_cell : (a b : Cell) → a.first ≡ b.first → a.later ≡ b.later → a.hurt ≡ b.hurt → a ≡ b
same_cell a b first later hurt = λ i. record { first = first i; later = later i; hurt = hurt i }

blank_left : (new : Cell) → CellMayCrashTo blank_cell new → new ≡ blank_cell
blank_left new crash = same_cell new blank_cell (only_zeros new.first crash.picked) crash.alone (unhurt new crash.hurt)

-- what a hurt place reads as is a page, as before or torn
was_page : (old new : Cell) (bytes : List ℕ) → ((b : List ℕ) → old.hurt ≡ Some b → IsPage b) → (new.hurt ≡ old.hurt) ⊎ IsTorn old new → new.hurt ≡ Some bytes → IsPage bytes
was_page old new bytes pages (inl same) hurt = pages bytes (sym same ∙ hurt)
was_page old new bytes pages (inr torn) hurt =
    let read : torn.bytes ≡ bytes = cc (torn.reads, hurt) in
    subst IsPage read torn.page

-- the candidate that is left is a page
pages_left : (old new : Cell) → CellMayCrashTo old new → All IsPage (candidates old) → All IsPage (candidates new)
pages_left old new crash pages =
    subst (λ (later : List (List ℕ)). All IsPage (new.first ∷ later)) (sym crash.alone) (All-cons IsPage new.first [] (All-contains IsPage (candidates old) new.first pages crash.picked) (All-nil IsPage))

pub IsDiskState-crashed : (old new : DiskState) → IsDiskState old → MayCrashTo old new → IsDiskState new
IsDiskState-crashed old new disk crash = record {
  blank_past_size = λ place past.
      let old_past : old.size ≤ place = omega (arith, past, crash.size) in
      let blank = disk.blank_past_size place old_past in
      blank_left (new.cells place) (subst (λ (c : Cell). CellMayCrashTo c (new.cells place)) blank (crash.each place));
  hurt_are_misses = λ place bytes hurt.
      IsMiss-left (old.cells place) (new.cells place) bytes (crash.each place)
      (was_miss (old.cells place) (new.cells place) bytes (disk.hurt_are_misses place) (crash.each place).hurt hurt);
  candidates_are_pages = λ place. pages_left (old.cells place) (new.cells place) (crash.each place) (disk.candidates_are_pages place);
  hurt_are_pages = λ place bytes hurt. was_page (old.cells place) (new.cells place) bytes (disk.hurt_are_pages place) (crash.each place).hurt hurt;
  counted = record {
    covers = omega (arith, disk.counted.covers, crash.writes, crash.synced_at);
    settled = λ all place. (crash.each place).alone;
  };
}
