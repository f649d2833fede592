-- What leaves a view at rest.
use Rattle.std.proofs.Common.{◌≡◌, ℕ, ◌+◌, ◌*◌, ◌≤◌, Bool, true, false, cond, eqb, List, [], ◌∷◌, length, Some, refl, sym, ap, subst, ◌∙◌, arith}
use Rattle.std.proofs.lemmas.Bool.{eqb-true, ne_eqb}
use Rattle.std.proofs.lemmas.List.{get_or_default}
use Rattle.std.proofs.lemmas.List.Elements.{All-cons, All-contains, All-contains_itself, All-head, All-nil, All-push, All-tail, All-weaker}
use Rattle.std.specs.List.{All, Contains}
use Rattle.sha2.specs.Sha256.{sha256}
use Rattle.vb_block.specs.declared.digest.Ref.{Ref}
use Rattle.vb_disk.specs.declared.cell.Cell.{Cell}
use Rattle.vb_disk.specs.Cells.{candidates, hurt_cell, synced_cell, written_cell}
use Rattle.vb_disk.specs.Crashes.{damaged}
use Rattle.vb_disk.specs.States.{DiskState, synced, written}
use Rattle.vb_head.specs.declared.head.Head.{Head}
use Rattle.vb_head.specs.Heads.{head_page}
use Rattle.vb_index.specs.declared.held.Held.{Held}
use Rattle.vb_index.specs.Indexes.{IndexState}
use Rattle.vb_index.specs.Nodes.{held_at}
use Rattle.vb_journal.specs.Choices.{IsCellOf, IsChoiceOf}
use Rattle.vb_journal.specs.Progress.{Fixed, Has, IsAtRest}
use Rattle.vb_journal.proofs.Keeping.{HasSameCandidates-damaged, HasSameCandidates-written, IsAtRest-same, IsAtRest-synced}
use Rattle.vb_pages.specs.Disks.{HoldsOnly}
use Rattle.vb_store.specs.Views.{data_start, places_in}
use Rattle.vb_store.proofs.KnownViews.{only_one}
use Rattle.vb_views.specs.AtRest.{HoldsPagesOf, HoldsRef, IsAtRestFor, IsMapOf, IsViewOf}
use Rattle.vb_views.proofs.RestingViews.{fixed-pick, of-refs}
use Rattle.vb_views.proofs.TreesGiven.{at_slice}

-- the candidates of a place are among those of another
abbrev pub HasNoMore : Cell → Cell → Type 0
HasNoMore new old = (page : List ℕ) → Contains (candidates new) page → Contains (candidates old) page

first_one : (cell : Cell) → Contains (candidates cell) cell.first
first_one cell = (0, omega arith, refl)

-- where each was one page, each is that page
pub only-first : (old new : Cell) → HasNoMore new old → All (λ page. page ≡ old.first) (candidates old) → new.first ≡ old.first
only-first old new fewer same = All-contains (λ page. page ≡ old.first) (candidates old) new.first same (fewer new.first (first_one new))

holds_fewer : (old new : Cell) (digest : List ℕ) → HasNoMore new old → HoldsOnly old digest → HoldsOnly new digest
holds_fewer old new digest fewer holds =
    let first : new.first ≡ old.first = only-first old new fewer holds.same in
    record {
      same = All-weaker (Contains (candidates new)) (λ page. page ≡ new.first) (λ page among. All-contains (λ x. x ≡ old.first) (candidates old) page holds.same (fewer page among) ∙ sym first) (candidates new) (All-contains_itself (candidates new));
      due = ap sha256 first ∙ holds.due;
    }

-- a disk has no candidate more at the places that a view names
abbrev pub KeepsPlaces : IndexState → DiskState → DiskState → Type 0
KeepsPlaces index old new = (place : ℕ) → Contains (places_in index.nodes) place → HasNoMore (new.cells place) (old.cells place)

holds_kept : (old new : DiskState) (refs : List Ref) → All (λ r. HasNoMore (new.cells r.place) (old.cells r.place)) refs → All (HoldsRef old) refs → All (HoldsRef new) refs
holds_kept old new [] fewer holds = All-nil (HoldsRef new)
holds_kept old new (r ∷ rs) fewer holds =
    let Fewer : Ref → Type 0 = λ x. HasNoMore (new.cells x.place) (old.cells x.place) in
    All-cons (HoldsRef new) r rs (holds_fewer (old.cells r.place) (new.cells r.place) r.digest (All-head Fewer r rs fewer) (All-head (HoldsRef old) r rs holds))
    (holds_kept old new rs (All-tail Fewer r rs fewer) (All-tail (HoldsRef old) r rs holds))

pub held-kept : (head : Head) (index : IndexState) (old new : DiskState) (slot : ℕ) (held : Held) → IsViewOf head index → held_at index.nodes slot ≡ Some held → KeepsPlaces index old new → HoldsPagesOf held old → HoldsPagesOf held new
held-kept head index old new slot held is there keeps holds =
    let Fewer : Ref → Type 0 = λ r. HasNoMore (new.cells r.place) (old.cells r.place) in
    let named = of-refs (λ p. HasNoMore (new.cells p) (old.cells p)) head index slot held is there
    (All-weaker (Contains (places_in index.nodes)) (λ p. HasNoMore (new.cells p) (old.cells p)) keeps (places_in index.nodes) (All-contains_itself (places_in index.nodes))) in
    record {
      pages = holds_kept old new held.refs named.pages holds.pages;
      maps = holds_kept old new held.node.maps named.maps holds.maps;
      spelled = λ k r at. subst (IsMapOf held k) (sym (only-first (old.cells r.place) (new.cells r.place) (at_slice Fewer held.node.maps k r named.maps at) (at_slice (HoldsRef old) held.node.maps k r holds.maps at).same)) (holds.spelled k r at);
    }

-- a store at rest whose places of data got no candidate more is at rest for the same view
pub rests-fewer : (head : Head) (index : IndexState) (old new : DiskState) (rests : IsAtRestFor head index old) → IsViewOf head index → IsAtRest head rests.homes rests.journal new → KeepsPlaces index old new → IsAtRestFor head index new
rests-fewer head index old new rests is journal keeps = record {
  homes = rests.homes;
  journal = rests.journal;
  rests = journal;
  blocks = rests.blocks;
  holds = λ slot held there. held-kept head index old new slot held is there keeps (rests.holds slot held there);
}

-- ---- damage and syncs

damaged_cell : (cell : Cell) (bytes : List ℕ) (b : Bool) → HasNoMore (cond b (hurt_cell cell bytes) cell) cell
damaged_cell cell bytes true page among = among
damaged_cell cell bytes false page among = among

pub rests-damaged : (head : Head) (index : IndexState) (d : DiskState) (place : ℕ) (page : List ℕ) → IsViewOf head index → IsAtRestFor head index d → IsAtRestFor head index (damaged d place page)
rests-damaged head index d place page is rests =
    rests-fewer head index d (damaged d place page) rests is
    (IsAtRest-same head rests.homes rests.journal d (damaged d place page) (HasSameCandidates-damaged (2 + 2 * head.nodes) d place page) rests.rests)
    (λ p named. damaged_cell (d.cells p) page (eqb p place))

-- the newest candidate is one of the candidates
newest : (cell : Cell) → Contains (candidates cell) (synced_cell cell).first
newest cell = (length cell.later, omega arith, get_or_default (candidates cell) (length cell.later) (synced_cell cell).first cell.first (omega arith))

synced_fewer : (cell : Cell) → HasNoMore (synced_cell cell) cell
synced_fewer cell page among =
    All-contains (Contains (candidates cell)) (candidates (synced_cell cell)) page
    (All-cons (Contains (candidates cell)) (synced_cell cell).first [] (newest cell) (All-nil (Contains (candidates cell)))) among

pub rests-synced : (head : Head) (index : IndexState) (d : DiskState) → IsViewOf head index → IsAtRestFor head index d → IsAtRestFor head index (synced d)
rests-synced head index d is rests =
    rests-fewer head index d (synced d) rests is (IsAtRest-synced head rests.homes rests.journal d rests.rests) (λ p named. synced_fewer (d.cells p))

-- ---- writes

-- a write to a place that the view doesn't name
pub rests-written : (head : Head) (index : IndexState) (d : DiskState) (place : ℕ) (page : List ℕ) → IsViewOf head index → data_start head ≤ place → (Contains (places_in index.nodes) place → ⊥) → IsAtRestFor head index d → IsAtRestFor head index (written d place page)
rests-written head index d place page is past unnamed rests =
    rests-fewer head index d (written d place page) rests is
    (IsAtRest-same head rests.homes rests.journal d (written d place page) (HasSameCandidates-written (2 + 2 * head.nodes) d place page past) rests.rests)
    (λ p named found among.
    let apart : eqb p place ≡ false = ne_eqb p place (λ same. unnamed (subst (Contains (places_in index.nodes)) same named)) in
    subst (λ (b : Bool). Contains (candidates (cond b (written_cell (d.cells p) page) (d.cells p))) found → Contains (candidates (d.cells p)) found) (sym apart) (λ has. has) among)

written_again : (cell : Cell) → HasNoMore (written_cell cell cell.first) cell
written_again cell page among =
    All-contains (Contains (candidates cell)) (candidates (written_cell cell cell.first)) page
    (All-push (Contains (candidates cell)) (candidates cell) cell.first (All-contains_itself (candidates cell)) (first_one cell)) among

again_at : (cell : Cell) (page : List ℕ) (b : Bool) → page ≡ cell.first → HasNoMore (cond b (written_cell cell page) cell) cell
again_at cell page true same found among = written_again cell found (subst (λ (p : List ℕ). Contains (candidates (written_cell cell p)) found) same among)
again_at cell page false same found among = among

pub at_place : (d : DiskState) (p place : ℕ) (page : List ℕ) → page ≡ (d.cells place).first → HasNoMore ((written d place page).cells p) (d.cells p)
at_place d p place page same = by (eqb p place) refl where
  by : (b : Bool) → eqb p place ≡ b → HasNoMore (cond b (written_cell (d.cells p) page) (d.cells p)) (d.cells p)
  by true here found among = again_at (d.cells p) page true (same ∙ ap (λ (q : ℕ). (d.cells q).first) (sym (eqb-true p place here))) found among
  by false other found among = among

-- a page that is written to its own place again
pub rests-rewritten : (head : Head) (index : IndexState) (d : DiskState) (place : ℕ) (page : List ℕ) → IsViewOf head index → data_start head ≤ place → page ≡ (d.cells place).first → IsAtRestFor head index d → IsAtRestFor head index (written d place page)
rests-rewritten head index d place page is past same rests =
    rests-fewer head index d (written d place page) rests is
    (IsAtRest-same head rests.homes rests.journal d (written d place page) (HasSameCandidates-written (2 + 2 * head.nodes) d place page past) rests.rests)
    (λ p named. at_place d p place page same)

-- ---- choices, and so crashes

chosen_fixed : (page : List ℕ) (old new : Cell) → IsCellOf new old → Has (Fixed page) old → Has (Fixed page) new
chosen_fixed page old new chosen has =
    ap (λ (l : List (List ℕ)). new.first ∷ l) chosen.alone ∙ ap (λ (p : List ℕ). p ∷ []) (fixed-pick page new.first old has chosen.picked)

chosen_fewer : (old new : Cell) → IsCellOf new old → HasNoMore new old
chosen_fewer old new chosen page among = subst (Contains (candidates old)) (sym (only_one new page chosen.alone among)) chosen.picked

pub rests-chosen : (head : Head) (index : IndexState) (d new : DiskState) → IsViewOf head index → IsChoiceOf new d → IsAtRestFor head index d → IsAtRestFor head index new
rests-chosen head index d new is choice rests =
    let r = rests.rests in
    rests-fewer head index d new rests is
    (record {
      id = r.id;
      size = choice.size ∙ r.size;
      first = chosen_fixed (head_page head) (d.cells 0) (new.cells 0) (choice.each 0) r.first;
      second = chosen_fixed (head_page head) (d.cells 1) (new.cells 1) (choice.each 1) r.second;
      each_home = λ slot within. chosen_fixed (rests.homes slot) (d.cells (2 + slot)) (new.cells (2 + slot)) (choice.each (2 + slot)) (r.each_home slot within);
      each_image = λ i within. chosen_fixed (rests.journal i) (d.cells (2 + head.nodes + i)) (new.cells (2 + head.nodes + i)) (choice.each (2 + head.nodes + i)) (r.each_image i within);
    })
    (λ p named. chosen_fewer (d.cells p) (new.cells p) (choice.each p))
