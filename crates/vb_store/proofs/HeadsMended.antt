-- The head that counts, written over the other one, leaves the same views to be recovered.
use Rattle.std.proofs.Common.{◌≡◌, ◌≢◌, ℕ, zero, suc, ◌-◌, ◌≤◌, ◌<◌, Bool, true, false, cond, eqb, List, [], ◌∷◌, None, Ok, refl, sym, ap, subst, ◌∙◌, inl, inr, arith}
use Rattle.std.specs.List.{All, Contains}
use Rattle.std.proofs.lemmas.Bool.{cond-true, cond-false, eq-eqb, eqb-true, ltb-false, ne_eqb}
use Rattle.std.proofs.lemmas.List.Elements.{All-cons, All-nil, All-weaker}
use Rattle.vb_block.specs.Pages.{IsPage}
use Rattle.vb_disk.specs.declared.cell.Cell.{Cell}
use Rattle.vb_disk.specs.Cells.{blank_cell, candidates, hurt_cell, read_of, written_cell}
use Rattle.vb_disk.specs.Crashes.{MayCrashTo, damaged}
use Rattle.vb_disk.specs.Misses.{IsMiss}
use Rattle.vb_disk.specs.States.{DiskState, IsDiskState, read_at, written}
use Rattle.vb_head.specs.declared.head.Head.{Head}
use Rattle.vb_head.specs.Heads.{IsHead, head_page, head_read}
use Rattle.vb_journal.specs.Choices.{IsCellOf, IsChoiceOf}
use Rattle.vb_journal.specs.Outcomes.{reads_of}
use Rattle.vb_journal.specs.Progress.{Fixed, Has, Trying}
use Rattle.vb_journal.specs.Recoveries.{choice_of}
use Rattle.vb_journal.proofs.Choices.{IsChosen-from, chosen-again}
use Rattle.vb_journal.proofs.ChoicesOf.{IsChoiceOf-hurt}
use Rattle.vb_journal.proofs.Found.{IsRefused-gone}
use Rattle.vb_journal.proofs.Heads.{OneCounts-both, StandsOrHurt-Fixed}
use Rattle.vb_journal.proofs.SameRecoveries.{choice_of-same, recovery_of-same}
use Rattle.vb_journal.proofs.TriedCells.{Has-here, alone_of, picked_of, written-elsewhere}
use Rattle.vb_store.specs.declared.map_page.MapPage.{MapPage}
use Rattle.vb_store.specs.Beside.{IsChosenBeside, MayFailBelow, MayReadAs, head_reads}
use Rattle.vb_store.specs.Clear.{first_candidates, taken_cell}
use Rattle.vb_store.specs.EmptyStores.{whole_cell}
use Rattle.vb_store.specs.Metadata.{Metadata, maps_in, metadata_of}
use Rattle.vb_store.specs.OneOf.{RecoversOneOf, ShowsOneOf, ShowsOrRefuses, TreeView}
use Rattle.vb_store.specs.Recovered.{entries_read, placed_in}
use Rattle.vb_store.specs.RecoveredStores.{metadata_on}
use Rattle.vb_store.specs.Sameness.{HasSamePages, IsSameStore}
use Rattle.vb_store.specs.Views.{data_start}
use Rattle.vb_store.proofs.CrashesOfClear.{candidates-taken}
use Rattle.vb_store.proofs.CrashesOfMounts.{has_metadata, maps-in_data}
use Rattle.vb_store.proofs.OneOfThem.{IsChoiceOf-taken}
use Rattle.vb_store.proofs.ReferencesInside.{NamesFrom, references-inside}
use Rattle.vb_store.proofs.RefusedBelow.{metadata-below}
use Rattle.vb_store.proofs.SameStores.{metadata-same}
use Rattle.vb_store.proofs.SameTrees.{entries_of_held}
use Rattle.vb_store.proofs.ShownByChoices.{below_heads, below_is, read_whole, shows-below, shows-refused, whole_below}
use Rattle.vb_store.proofs.TreesKept.{pages_kept}

-- what holds of the place of a head and of the other one holds of both
pub both_heads : (place : ℕ) (Q : ℕ → Type 0) → place ≤ 1 → Q place → Q (1 - place) → Q 0 × Q 1
both_heads zero Q low a b = (a, b)
both_heads (suc zero) Q low a b = (b, a)
both_heads (suc (suc n)) Q low a b = absurd (omega arith)

-- ---- one disk shows what another shows

-- a choice shows the view that another disk shows, of which the same head counts and all else reads as the choice's
-- candidates
pub shows-alike : (views : List TreeView) (made : Bool) (d new f : DiskState) (head : Head) → IsChoiceOf new d → f.size ≡ d.size
    → choice_of d.size (reads_of f) ≡ Ok head → choice_of d.size (reads_of (whole_below new)) ≡ Ok head
    → ((place : ℕ) → 2 ≤ place → read_at f place ≡ (new.cells place).first)
    → ((place : ℕ) → 2 ≤ place → first_candidates f place ≡ first_candidates new place)
    → ShowsOneOf views f → ShowsOrRefuses views made new
shows-alike views made d new f head is size counts again reads firsts shows =
    let w : DiskState = whole_below new in
    let m : Metadata = shows.view.metadata in
    let own : metadata_of d.size (reads_of f) ≡ Ok m = ap (λ (n : ℕ). metadata_of n (reads_of f)) (sym size) ∙ shows.metadata in
    let has = has_metadata d.size (reads_of f) m own in
    let same : (place : ℕ) → 2 ≤ place → read_at w place ≡ read_at f place = λ place past.
    read_whole (below_heads place) (new.cells place) (below_is place past) (is.each place).alone ∙ sym (reads place past) in
    let store : IsSameStore d.size m (reads_of f) (reads_of w) = record {
      recovery = recovery_of-same d.size (reads_of w) (reads_of f) (again ∙ sym counts) same;
      maps = All-weaker (λ (map : MapPage). data_start has.head ≤ map.reference.place) (λ (map : MapPage). reads_of w map.reference.place ≡ reads_of f map.reference.place)
          (λ map inside. same map.reference.place (omega (arith, inside))) (maps_in m.held) (maps-in_data d.size (reads_of f) m has);
    } in
    let start : ℕ = data_start has.head in
    let pages : entries_read (first_candidates new) (placed_in m.held) ≡ entries_read (first_candidates f) (placed_in m.held) =
    entries_of_held (first_candidates f) (first_candidates new) m.held
    (All-weaker (NamesFrom start) (HasSamePages (first_candidates f) (first_candidates new))
    (pages_kept start (first_candidates f) (first_candidates new) (λ place past. sym (firsts place (omega (arith, past))))) m.held (references-inside d.size (reads_of f) m has)) in
    shows-below views made d new shows.view shows.listed is (metadata-same d.size m (reads_of f) (reads_of w) own store) (pages ∙ shows.pages)

-- ---- the choice with what stood there before

-- a choice all of whose places are whole, and this one has this candidate
before_cell : Bool → List ℕ → Cell → Cell
before_cell here was cell = cond here (whole_cell was) (taken_cell true cell)

before_in : DiskState → ℕ → List ℕ → DiskState
before_in new place was = record new { cells = λ q. before_cell (eqb q place) was (new.cells q) }

before_unhurt : (here : Bool) (was : List ℕ) (cell : Cell) → (before_cell here was cell).hurt ≡ None
unfolding before_cell
before_unhurt true was cell = refl
before_unhurt false was cell = refl

before_alone : (here : Bool) (was : List ℕ) (cell : Cell) → cell.later ≡ [] → (before_cell here was cell).later ≡ []
unfolding before_cell
before_alone true was cell alone = refl
before_alone false was cell alone = alone

before_blank : (here : Bool) (was : List ℕ) (cell : Cell) → (here ≡ true → ⊥) → cell ≡ blank_cell → before_cell here was cell ≡ blank_cell
unfolding before_cell
before_blank true was cell elsewhere is = absurd (elsewhere refl)
before_blank false was cell elsewhere is = ap (taken_cell true) is

before_pages : (here : Bool) (was : List ℕ) (cell : Cell) → IsPage was → All IsPage (candidates cell) → All IsPage (candidates (before_cell here was cell))
unfolding before_cell
before_pages true was cell page is = All-cons IsPage was [] page (All-nil IsPage)
before_pages false was cell page is = is

before_first : (here : Bool) (was : List ℕ) (cell : Cell) → here ≡ false → (before_cell here was cell).first ≡ cell.first
unfolding before_cell
before_first true was cell is = absurd (cc is)
before_first false was cell is = refl

before_here : (here : Bool) (was : List ℕ) (cell : Cell) → here ≡ true → before_cell here was cell ≡ whole_cell was
unfolding before_cell
before_here true was cell is = refl
before_here false was cell is = absurd (cc is)

IsDiskState-before : (new : DiskState) (place : ℕ) (was : List ℕ) → IsDiskState new → place < new.size → IsPage was → ((q : ℕ) → (new.cells q).later ≡ []) → IsDiskState (before_in new place was)
unfolding before_in
IsDiskState-before new place was disk within page alone = record {
  blank_past_size = λ q past. before_blank (eqb q place) was (new.cells q) (λ here. let same : q ≡ place = eqb-true q place here in omega (arith, same, past, within)) (disk.blank_past_size q past);
  hurt_are_misses = λ q bytes hurt. absurd (let none = before_unhurt (eqb q place) was (new.cells q) in cc (none, hurt));
  candidates_are_pages = λ q. before_pages (eqb q place) was (new.cells q) page (disk.candidates_are_pages q);
  hurt_are_pages = λ q bytes hurt. absurd (let none = before_unhurt (eqb q place) was (new.cells q) in cc (none, hurt));
  counted = record { covers = disk.counted.covers; settled = λ all q. before_alone (eqb q place) was (new.cells q) (alone q) };
}

before_else : (here : Bool) (was : List ℕ) (cell : Cell) → here ≡ false → before_cell here was cell ≡ taken_cell true cell
unfolding before_cell
before_else true was cell is = absurd (cc is)
before_else false was cell is = refl

before_of : (here : Bool) (was page : List ℕ) (new old : Cell) → (here ≡ true → Contains (candidates old) was) → IsCellOf new (cond here (written_cell old page) old) → IsCellOf (before_cell here was new) old
unfolding before_cell
before_of true was page new old has is = record { picked = has refl; alone = refl }
before_of false was page new old has is = record { picked = is.picked; alone = is.alone }

-- a choice of the disk before the head was written, in which its place reads as it did, and all else is whole
record IsBefore (d new : DiskState) (place : ℕ) (head : Head) (page : List ℕ) : Type 0 where
  f : DiskState
  is : IsChoiceOf f d
  here : read_at f place ≡ page
  other : read_at f (1 - place) ≡ head_page head
  reads : (q : ℕ) → 2 ≤ q → read_at f q ≡ (new.cells q).first
  firsts : (q : ℕ) → 2 ≤ q → (f.cells q).first ≡ (new.cells q).first
  whole : (q : ℕ) → 2 ≤ q → (f.cells q).hurt ≡ None

damaged-here : (d : DiskState) (place : ℕ) (page : List ℕ) → (damaged d place page).cells place ≡ hurt_cell (d.cells place) page
damaged-here d place page = cond-true (eqb place place) (hurt_cell (d.cells place) page) (d.cells place) (eq-eqb place place refl)

damaged-else : (d : DiskState) (place q : ℕ) (page : List ℕ) → q ≢ place → (damaged d place page).cells q ≡ d.cells q
damaged-else d place q page apart = cond-false (eqb q place) (hurt_cell (d.cells q) page) (d.cells q) (ne_eqb q place apart)

before : (d new : DiskState) (place : ℕ) (was : List ℕ) (head : Head) (page : List ℕ) → place ≤ 1 → 38 ≤ d.size → IsPage was → MayReadAs was page
    → Has (Fixed (head_page head)) (d.cells (1 - place)) → Has (Trying was (head_page head)) (d.cells place)
    → IsChoiceOf new (written d place (head_page head)) → IsBefore d new place head page
unfolding before_in
before d new place was head page low large long read fixed trying is =
    let g : DiskState = before_in new place was in
    let within : place < new.size = (let size = is.size in omega (arith, low, large, size)) in
    let chosen : IsChoiceOf g d = record {
      disk = IsDiskState-before new place was is.disk within long (λ q. (is.each q).alone);
      size = is.size;
      each = λ q. before_of (eqb q place) was (head_page head) (new.cells q) (d.cells q)
          (λ here. subst (λ (at : ℕ). Contains (candidates (d.cells at)) was) (sym (eqb-true q place here))
          (subst (λ (l : List (List ℕ)). Contains l was) (sym trying.1) (0, omega arith, refl))) (is.each q);
    } in
    let at_place : g.cells place ≡ whole_cell was = before_here (eqb place place) was (new.cells place) (eq-eqb place place refl) in
    let elsewhere : (q : ℕ) → q ≢ place → g.cells q ≡ taken_cell true (new.cells q) = λ q apart. before_else (eqb q place) was (new.cells q) (ne_eqb q place apart) in
    let apart : (q : ℕ) → 2 ≤ q → q ≢ place = λ q past same. absurd (omega (arith, past, low, same)) in
    let other_apart : 1 - place ≢ place = λ same. absurd (omega (arith, low, same)) in
    let read_else : (q : ℕ) → q ≢ place → read_of (g.cells q) ≡ (new.cells q).first = λ q out. ap read_of (elsewhere q out) ∙ read_whole true (new.cells q) refl (is.each q).alone in
    let head_there : (new.cells (1 - place)).first ≡ head_page head =
    alone_of (head_page head) (new.cells (1 - place)).first
    (subst (λ (l : List (List ℕ)). Contains l (new.cells (1 - place)).first) fixed
    (subst (λ (c : Cell). Contains (candidates c) (new.cells (1 - place)).first) (written-elsewhere d place (1 - place) (head_page head) other_apart) (is.each (1 - place)).picked)) in
    let first_else : (q : ℕ) → q ≢ place → (g.cells q).first ≡ (new.cells q).first = λ q out. ap (λ (c : Cell). c.first) (elsewhere q out) in
    let whole_else : (q : ℕ) → q ≢ place → (g.cells q).hurt ≡ None = λ q out. ap (λ (c : Cell). c.hurt) (elsewhere q out) in
    elim read [
      | inl same ↦ record {
        f = g;
        is = chosen;
        here = ap read_of at_place ∙ sym same;
        other = read_else (1 - place) other_apart ∙ head_there;
        reads = λ q past. read_else q (apart q past);
        firsts = λ q past. first_else q (apart q past);
        whole = λ q past. whole_else q (apart q past);
      }
      | inr miss ↦ record {
        f = damaged g place page;
        is = IsChoiceOf-hurt g d place page chosen within miss.0 (subst (λ (c : Cell). IsMiss c page) (sym at_place) miss.1);
        here = ap read_of (damaged-here g place page);
        other = ap read_of (damaged-else g place (1 - place) page other_apart) ∙ read_else (1 - place) other_apart ∙ head_there;
        reads = λ q past. ap read_of (damaged-else g place q page (apart q past)) ∙ read_else q (apart q past);
        firsts = λ q past. ap (λ (c : Cell). c.first) (damaged-else g place q page (apart q past)) ∙ first_else q (apart q past);
        whole = λ q past. ap (λ (c : Cell). c.hurt) (damaged-else g place q page (apart q past)) ∙ whole_else q (apart q past);
      }
    ]

-- ---- a head that counts, and nothing hurt below

-- where a head counts and nothing is hurt below the heads, a view is shown
pub shows-counting : (views : List TreeView) (made : Bool) (f : DiskState) (head : Head) → choice_of f.size (reads_of f) ≡ Ok head → ((q : ℕ) → 2 ≤ q → (f.cells q).hurt ≡ None) → ShowsOrRefuses views made f → ShowsOneOf views f
shows-counting views made f head counts whole (inl shows) = shows
shows-counting views made f head counts whole (inr (inl damaged)) =
    let past : MayFailBelow (metadata_on f) = metadata-below f.size (reads_of f) head counts in
    let low : 2 ≤ damaged.place = subst MayFailBelow damaged.is past in
    let none = whole damaged.place low in
    let some = damaged.hurt.1 in
    absurd (cc (none, some))
shows-counting views made f head counts whole (inr (inr (inl blank))) =
    let past : MayFailBelow (metadata_on f) = metadata-below f.size (reads_of f) head counts in
    absurd (subst MayFailBelow blank.is past)
shows-counting views made f head counts whole (inr (inr (inr anew))) =
    let past : MayFailBelow (metadata_on f) = metadata-below f.size (reads_of f) head counts in
    absurd (subst MayFailBelow anew.is past)

-- ---- the mend

cell_before : (here : Bool) (page : List ℕ) (new old : Cell) → (here ≡ true → Contains (candidates old) new.first) → IsCellOf new (cond here (written_cell old page) old) → IsCellOf new old
cell_before true page new old has is = record { picked = has refl; alone = is.alone }
cell_before false page new old has is = is

-- a choice with what stood there is one from before the write
choice_before : (d new : DiskState) (place : ℕ) (was page : List ℕ) → Has (Trying was page) (d.cells place) → IsChoiceOf new (written d place page) → (new.cells place).first ≡ was → IsChoiceOf new d
choice_before d new place was page trying is same = record {
  disk = is.disk;
  size = is.size;
  each = λ q. cell_before (eqb q place) page (new.cells q) (d.cells q)
      (λ here. subst (λ (at : ℕ). Contains (candidates (d.cells at)) (new.cells at).first) (sym (eqb-true q place here))
      (subst (Contains (candidates (d.cells place))) (sym same) (subst (λ (l : List (List ℕ)). Contains l was) (sym trying.1) (0, omega arith, refl)))) (is.each q);
}

crash_itself : (new : DiskState) → ((q : ℕ) → (new.cells q).later ≡ []) → MayCrashTo new new
crash_itself new alone = record {
  size = refl;
  writes = refl;
  resizes = refl;
  synced_at = refl;
  each = λ place. record { picked = (0, omega arith, refl); alone = alone place; hurt = inl refl };
}

head_taken : (page : List ℕ) (whole : Bool) (cell : Cell) → cell.later ≡ [] → cell.first ≡ page → Has (Fixed page) (taken_cell whole cell)
head_taken page whole cell alone is =
    candidates-taken whole cell ∙ ap (λ (p : List ℕ). p ∷ cell.later) is ∙ ap (λ (l : List (List ℕ)). page ∷ l) alone

-- a choice both of whose heads are the one that counted
pub shows-both_heads : (views : List TreeView) (made : Bool) (d new f : DiskState) (head : Head) → IsHead head → 38 ≤ d.size → IsChoiceOf new d → f.size ≡ d.size
    → choice_of d.size (reads_of f) ≡ Ok head
    → (new.cells 0).first ≡ head_page head → (new.cells 1).first ≡ head_page head
    → ((place : ℕ) → 2 ≤ place → read_at f place ≡ (new.cells place).first)
    → ((place : ℕ) → 2 ≤ place → first_candidates f place ≡ first_candidates new place)
    → ShowsOneOf views f → ShowsOrRefuses views made new
shows-both_heads views made d new f head head_is large is size counts first second reads firsts shows =
    let w : DiskState = whole_below new in
    let taken : IsChoiceOf w d = IsChoiceOf-taken below_heads new d is in
    let crash : MayCrashTo w w = crash_itself w (λ q. (taken.each q).alone) in
    elim (OneCounts-both head w w
    (StandsOrHurt-Fixed head w w 0 head_is taken.disk crash (head_taken (head_page head) (below_heads 0) (new.cells 0) (is.each 0).alone first))
    (StandsOrHurt-Fixed head w w 1 head_is taken.disk crash (head_taken (head_page head) (below_heads 1) (new.cells 1) (is.each 1).alone second))) [
      | inl again ↦ shows-alike views made d new f head is size counts
          (chosen-again d.size (head_read (read_at f 0)) (head_read (read_at f 1)) (head_read (read_at w 0)) (head_read (read_at w 1)) head counts again) reads firsts shows
      | inr gone ↦ shows-refused views made new head.nodes 0 (IsRefused-gone head.nodes 0 w w (let same = taken.size in omega (arith, large, same)) gone)
    ]

pub RecoversOneOf-mended : (views : List TreeView) (made : Bool) (head : Head) (place : ℕ) (was : List ℕ) (d : DiskState) → IsChosenBeside head place was d → RecoversOneOf views made d → RecoversOneOf views made (written d place (head_page head))
RecoversOneOf-mended views made head place was d chosen has new is =
    let then : DiskState = written d place (head_page head) in
    let tried = Has-here was (head_page head) d place chosen.there in
    let large : 38 ≤ d.size = ltb-false d.size 38 (IsChosen-from d.size (head_read (head_reads place chosen.page (head_page head) 0)) (head_read (head_reads place chosen.page (head_page head) 1)) head chosen.counts).enough in
    elim (picked_of was (head_page head) (suc tried.0) (new.cells place).first (subst (λ (l : List (List ℕ)). Contains l (new.cells place).first) tried.1 (is.each place).picked)) [
      | inl old ↦ has new (choice_before d new place was (head_page head) chosen.there is old)
      | inr mended ↦
          let b = before d new place was head chosen.page chosen.low large chosen.whole chosen.read chosen.here chosen.there is in
          let reads : ℕ → List ℕ = head_reads place chosen.page (head_page head) in
          let both = both_heads place (λ q. read_at b.f q ≡ reads q) chosen.low
          (b.here ∙ sym (cond-true (eqb place place) chosen.page (head_page head) (eq-eqb place place refl)))
          (b.other ∙ sym (cond-false (eqb (1 - place) place) chosen.page (head_page head) (ne_eqb (1 - place) place (λ same. let low = chosen.low in omega (arith, low, same))))) in
          let counts : choice_of d.size (reads_of b.f) ≡ Ok head = choice_of-same d.size (reads_of b.f) reads both.0 both.1 ∙ chosen.counts in
          let other : (new.cells (1 - place)).first ≡ head_page head =
          alone_of (head_page head) (new.cells (1 - place)).first
          (subst (λ (l : List (List ℕ)). Contains l (new.cells (1 - place)).first) chosen.here
          (subst (λ (c : Cell). Contains (candidates c) (new.cells (1 - place)).first) (written-elsewhere d place (1 - place) (head_page head) (λ same. let low = chosen.low in omega (arith, low, same))) (is.each (1 - place)).picked)) in
          let firsts = both_heads place (λ q. (new.cells q).first ≡ head_page head) chosen.low mended other in
          shows-both_heads views made then new b.f head chosen.is large is b.is.size counts firsts.0 firsts.1 b.reads b.firsts
          (shows-counting views made b.f head (ap (λ (n : ℕ). choice_of n (reads_of b.f)) b.is.size ∙ counts) b.whole (has b.f b.is))
    ]
