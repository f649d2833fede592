-- The choices of a disk, after a call, a crash or damage.
use Rattle.std.proofs.Common.{◌≡◌, ℕ, ◌<◌, Bool, true, false, cond, eqb, List, [], ◌∷◌, length, Some, refl, sym, subst, ◌∙◌, arith}
use Rattle.std.specs.List.{All, Contains}
use Rattle.std.proofs.lemmas.Bool.{eqb-true}
use Rattle.std.proofs.lemmas.List.{get_or_default}
use Rattle.std.proofs.lemmas.List.Elements.{Contains-append_left}
use Rattle.vb_block.specs.Pages.{IsPage}
use Rattle.vb_disk.specs.declared.cell.Cell.{Cell}
use Rattle.vb_disk.specs.Cells.{blank_cell, candidate_at, candidates, hurt_cell, synced_cell, written_cell}
use Rattle.vb_disk.specs.Crashes.{MayCrashTo, damaged}
use Rattle.vb_disk.specs.Misses.{IsMiss}
use Rattle.vb_disk.specs.States.{DiskState, IsDiskState, synced, written}
use Rattle.vb_disk.proofs.CrashedDisks.{IsDiskState-crashed}
use Rattle.vb_journal.specs.Choices.{HasNoMoreChoices, IsCellOf, IsChoiceOf}
use Rattle.vb_journal.proofs.TriedCells.{alone_of}

-- ---- one place

-- a choice among fewer candidates is one among more
IsCellOf-more : (new less more : Cell) → ((page : List ℕ) → Contains (candidates less) page → Contains (candidates more) page) → IsCellOf new less → IsCellOf new more
IsCellOf-more new less more has is = record { picked = has new.first is.picked; alone = is.alone }

pub hurt-candidates : (here : Bool) (cell : Cell) (page : List ℕ) → candidates (cond here (hurt_cell cell page) cell) ≡ candidates cell
hurt-candidates true cell page = refl
hurt-candidates false cell page = refl

written-candidates : (here : Bool) (cell : Cell) (page other : List ℕ) → Contains (candidates cell) other → Contains (candidates (cond here (written_cell cell page) cell)) other
written-candidates true cell page other has = Contains-append_left (candidates cell) (page ∷ []) other has
written-candidates false cell page other has = has

-- where one candidate is left, each choice is that one
pub one_left : (old new : Cell) → Contains (candidates old) new.first → new.later ≡ [] → (page : List ℕ) → Contains (candidates new) page → Contains (candidates old) page
one_left old new picked alone page has =
    let only : Contains (new.first ∷ []) page = subst (λ (l : List (List ℕ)). Contains (new.first ∷ l) page) alone has in
    subst (Contains (candidates old)) (sym (alone_of new.first page only)) picked

-- the newest candidate is one
pub newest_picked : (cell : Cell) → Contains (candidates cell) (candidate_at cell (length cell.later))
newest_picked cell = (length cell.later, omega arith, get_or_default (candidates cell) (length cell.later) (candidate_at cell (length cell.later)) cell.first (omega arith))

-- ---- all places

HasNoMoreChoices-each : (less more : DiskState) → more.size ≡ less.size → ((place : ℕ) (page : List ℕ) → Contains (candidates (less.cells place)) page → Contains (candidates (more.cells place)) page) → HasNoMoreChoices less more
HasNoMoreChoices-each less more size has new is = record {
  disk = is.disk;
  size = is.size ∙ sym size;
  each = λ place. IsCellOf-more (new.cells place) (less.cells place) (more.cells place) (has place) (is.each place);
}

pub choices-damaged : (d : DiskState) (place : ℕ) (page : List ℕ) → HasNoMoreChoices (damaged d place page) d
choices-damaged d place page =
    HasNoMoreChoices-each (damaged d place page) d refl (λ q other has. subst (λ (l : List (List ℕ)). Contains l other) (hurt-candidates (eqb q place) (d.cells q) page) has)

pub choices-undamaged : (d : DiskState) (place : ℕ) (page : List ℕ) → HasNoMoreChoices d (damaged d place page)
choices-undamaged d place page =
    HasNoMoreChoices-each d (damaged d place page) refl (λ q other has. subst (λ (l : List (List ℕ)). Contains l other) (sym (hurt-candidates (eqb q place) (d.cells q) page)) has)

pub choices-crashed : (old new : DiskState) → MayCrashTo old new → HasNoMoreChoices new old
choices-crashed old new crash =
    HasNoMoreChoices-each new old (sym crash.size) (λ place. one_left (old.cells place) (new.cells place) (crash.each place).picked (crash.each place).alone)

pub choices-synced : (d : DiskState) → HasNoMoreChoices (synced d) d
choices-synced d =
    HasNoMoreChoices-each (synced d) d refl (λ place. one_left (d.cells place) (synced_cell (d.cells place)) (newest_picked (d.cells place)) refl)

pub choices-written : (d : DiskState) (place : ℕ) (page : List ℕ) → HasNoMoreChoices d (written d place page)
choices-written d place page =
    HasNoMoreChoices-each d (written d place page) refl (λ q other has. written-candidates (eqb q place) (d.cells q) page other has)

pub IsChoiceOf-crash : (old new : DiskState) → IsDiskState old → MayCrashTo old new → IsChoiceOf new old
IsChoiceOf-crash old new disk crash = record {
  disk = IsDiskState-crashed old new disk crash;
  size = crash.size;
  each = λ place. record { picked = (crash.each place).picked; alone = (crash.each place).alone };
}

pub IsChoiceOf-again : (a b c : DiskState) → IsChoiceOf a b → IsChoiceOf b c → IsChoiceOf a c
IsChoiceOf-again a b c first second = record {
  disk = first.disk;
  size = first.size ∙ second.size;
  each = λ place. IsCellOf-more (a.cells place) (b.cells place) (c.cells place) (one_left (c.cells place) (b.cells place) (second.each place).picked (second.each place).alone) (first.each place);
}

-- ---- a choice of which a place was damaged

hurt_blank : (here : Bool) (cell : Cell) (page : List ℕ) → (here ≡ true → ⊥) → cell ≡ blank_cell → cond here (hurt_cell cell page) cell ≡ blank_cell
hurt_blank true cell page elsewhere is = absurd (elsewhere refl)
hurt_blank false cell page elsewhere is = is

hurt_miss : (here : Bool) (cell : Cell) (page bytes : List ℕ) → (here ≡ true → IsMiss cell page) → (cell.hurt ≡ Some bytes → IsMiss cell bytes) → (cond here (hurt_cell cell page) cell).hurt ≡ Some bytes → IsMiss (cond here (hurt_cell cell page) cell) bytes
hurt_miss true cell page bytes miss was hurt =
    let same : page ≡ bytes = cc hurt in
    let is : IsMiss cell bytes = subst (IsMiss cell) same (miss refl) in
    record { unsealed = is.unsealed; unlike = is.unlike }
hurt_miss false cell page bytes miss was hurt = was hurt

hurt_page : (here : Bool) (cell : Cell) (page bytes : List ℕ) → IsPage page → (cell.hurt ≡ Some bytes → IsPage bytes) → (cond here (hurt_cell cell page) cell).hurt ≡ Some bytes → IsPage bytes
hurt_page true cell page bytes is was hurt = let same : page ≡ bytes = cc hurt in subst IsPage same is
hurt_page false cell page bytes is was hurt = was hurt

hurt_cell-of : (here : Bool) (new old : Cell) (page : List ℕ) → IsCellOf new old → IsCellOf (cond here (hurt_cell new page) new) old
hurt_cell-of true new old page is = record { picked = is.picked; alone = is.alone }
hurt_cell-of false new old page is = is

IsDiskState-hurt : (d : DiskState) (place : ℕ) (page : List ℕ) → IsDiskState d → place < d.size → IsPage page → IsMiss (d.cells place) page → ((q : ℕ) → (d.cells q).later ≡ []) → IsDiskState (damaged d place page)
IsDiskState-hurt d place page disk within is miss alone = record {
  blank_past_size = λ q past. hurt_blank (eqb q place) (d.cells q) page (λ here. let same : q ≡ place = eqb-true q place here in omega (arith, same, past, within)) (disk.blank_past_size q past);
  hurt_are_misses = λ q bytes. hurt_miss (eqb q place) (d.cells q) page bytes
      (λ here. subst (λ (at : ℕ). IsMiss (d.cells at) page) (sym (eqb-true q place here)) miss) (disk.hurt_are_misses q bytes);
  candidates_are_pages = λ q. subst (All IsPage) (sym (hurt-candidates (eqb q place) (d.cells q) page)) (disk.candidates_are_pages q);
  hurt_are_pages = λ q bytes. hurt_page (eqb q place) (d.cells q) page bytes is (disk.hurt_are_pages q bytes);
  counted = record {
    covers = disk.counted.covers;
    settled = λ all q. (hurt_cell-of (eqb q place) (d.cells q) (d.cells q) page (record { picked = (0, omega arith, refl); alone = alone q })).alone;
  };
}

pub IsChoiceOf-hurt : (new d : DiskState) (place : ℕ) (page : List ℕ) → IsChoiceOf new d → place < new.size → IsPage page → IsMiss (new.cells place) page → IsChoiceOf (damaged new place page) d
IsChoiceOf-hurt new d place page is within long miss = record {
  disk = IsDiskState-hurt new place page is.disk within long miss (λ q. (is.each q).alone);
  size = is.size;
  each = λ q. hurt_cell-of (eqb q place) (new.cells q) (d.cells q) page (is.each q);
}
