-- When two told states are one, and what the changes of a table make of the told state.
use Rattle.std.proofs.Common.{◌≡◌, ℕ, ◌+◌, Bool, true, false, cond, eqb, ltb, List, [], Option, Some, None, unwrap_or, Result, Ok, Err, OnErr, OnOk, refl, sym, ap, subst, ◌∙◌}
use Rattle.std.specs.Ordering.{nat_cmp}
use Rattle.std.specs.BTreeMap.{BTreeMap, get}
use Rattle.vb_block.specs.Pages.{filled_page}
use Rattle.vb_disk.specs.declared.cell.Cell.{Cell}
use Rattle.vb_disk.specs.declared.crash.Pick.{Pick}
use Rattle.vb_disk.specs.declared.crash.Side.{Side}
use Rattle.vb_disk.specs.declared.crash.Side.TheVariants.{Last}
use Rattle.vb_disk.specs.declared.crash.Tear.{Tear}
use Rattle.vb_disk.specs.Cells.{blank_cell, read_of, written_cell, settled_cell, hurt_cell}
use Rattle.vb_disk.specs.Crashes.{crashed, damaged, pick_at, tear_at, with_pick, with_tear}
use Rattle.vb_disk.specs.States.{DiskState, IsCounted, Sync, Resize, written, synced, resized}
use Rattle.vb_disk.specs.Sparse.{cell_in, state_from, ChangesOne, KeepsAll}
use Rattle.vb_disk.proofs.Places.{cell_from_get, cell_in-changed}
use Rattle.vb_disk.proofs.Ways.{IsCounted-call}

-- states are one where all places and counts are
pub same_state : (a b : DiskState) → a.size ≡ b.size → ((place : ℕ) → a.cells place ≡ b.cells place) → a.writes ≡ b.writes → a.resizes ≡ b.resizes → a.synced_at ≡ b.synced_at → a ≡ b
same_state a b size cells writes resizes synced_at = λ i. record { size = size i; cells = λ place. cells place i; writes = writes i; resizes = resizes i; synced_at = synced_at i }

-- what holds holds at an error
pub OnErr-from : {T E P : Type 0} (r : Result T E) → P → OnErr r P
OnErr-from (Ok x) holds = tt
OnErr-from (Err e) holds = holds

pub OnOk-from : {T E P : Type 0} (r : Result T E) → P → OnOk r P
OnOk-from (Ok x) holds = holds
OnOk-from (Err e) holds = tt

pub state_from-kept : (size size' writes resizes synced_at : ℕ) (old new : BTreeMap ℕ Cell) → size' ≡ size → KeepsAll old new → state_from size' new writes resizes synced_at ≡ state_from size old writes resizes synced_at
state_from-kept size size' writes resizes synced_at old new same keeps =
    same_state (state_from size' new writes resizes synced_at) (state_from size old writes resizes synced_at) same (λ place. cell_from_get old new place (keeps place)) refl refl refl

pub state_from-written : (size size' writes writes' resizes synced_at place : ℕ) (page copied : List ℕ) (old new : BTreeMap ℕ Cell) → size' ≡ size → writes' ≡ writes + 1 → copied ≡ page → ChangesOne old new place (written_cell (cell_in old place) copied) → state_from size' new writes' resizes synced_at ≡ written (state_from size old writes resizes synced_at) place page
state_from-written size size' writes writes' resizes synced_at place page copied old new same more equal change =
    same_state (state_from size' new writes' resizes synced_at) (written (state_from size old writes resizes synced_at) place copied) same (cell_in-changed (λ cell. written_cell cell copied) old new place change) more refl refl
    ∙ ap (λ (bytes : List ℕ). written (state_from size old writes resizes synced_at) place bytes) equal

pub state_from-settled : (size size' writes resizes synced_at : ℕ) (old new : BTreeMap ℕ Cell) → size' ≡ size → ((place : ℕ) → cell_in new place ≡ settled_cell Last (cell_in old place)) → state_from size' new writes resizes writes ≡ synced (state_from size old writes resizes synced_at)
state_from-settled size size' writes resizes synced_at old new same settled =
    same_state (state_from size' new writes resizes writes) (synced (state_from size old writes resizes synced_at)) same settled refl refl refl

pub state_from-resized : (size blocks size' writes resizes resizes' synced_at : ℕ) (old new : BTreeMap ℕ Cell) → size' ≡ blocks → resizes' ≡ resizes + 1 → ((place : ℕ) → cell_in new place ≡ cond (ltb place blocks) (cell_in old place) blank_cell) → state_from size' new writes resizes' synced_at ≡ resized (state_from size old writes resizes synced_at) blocks
state_from-resized size blocks size' writes resizes resizes' synced_at old new same more cut =
    same_state (state_from size' new writes resizes' synced_at) (resized (state_from size old writes resizes synced_at) blocks) same cut refl more refl

-- what a read of a place gives, by what the map has there
pub read_of-known : (cells : BTreeMap ℕ Cell) (place : ℕ) (cell : Cell) → Some cell ≡ get nat_cmp cells place → read_of cell ≡ read_of (cell_in cells place)
read_of-known cells place cell is = ap (λ (o : Option Cell). read_of (unwrap_or o blank_cell)) is

pub read_of-unknown : (cells : BTreeMap ℕ Cell) (place : ℕ) → None ≡ get nat_cmp cells place → filled_page 0 ≡ read_of (cell_in cells place)
read_of-unknown cells place is = ap (λ (o : Option Cell). read_of (unwrap_or o blank_cell)) is

pub state_from-damaged : (size size' writes resizes synced_at place : ℕ) (page : List ℕ) (old new : BTreeMap ℕ Cell) → size' ≡ size → ChangesOne old new place (hurt_cell (cell_in old place) page) → state_from size' new writes resizes synced_at ≡ damaged (state_from size old writes resizes synced_at) place page
state_from-damaged size size' writes resizes synced_at place page old new same change =
    same_state (state_from size' new writes resizes synced_at) (damaged (state_from size old writes resizes synced_at) place page) same (cell_in-changed (λ cell. hurt_cell cell page) old new place change) refl refl refl

-- a crash, step by step
pub state_from-crashed : (size size' writes resizes synced_at : ℕ) (rest : Side) (picks : List Pick) (torn : List Tear) (old torn_cells picked_cells new : BTreeMap ℕ Cell) → size' ≡ size → ((place : ℕ) → cell_in torn_cells place ≡ with_tear (tear_at place torn) (cell_in old place)) → ((place : ℕ) → cell_in picked_cells place ≡ with_pick (pick_at place picks) (cell_in torn_cells place)) → ((place : ℕ) → cell_in new place ≡ settled_cell rest (cell_in picked_cells place)) → state_from size' new writes resizes synced_at ≡ crashed rest picks torn (state_from size old writes resizes synced_at)
state_from-crashed size size' writes resizes synced_at rest picks torn old torn_cells picked_cells new same tears picked settled =
    same_state (state_from size' new writes resizes synced_at) (crashed rest picks torn (state_from size old writes resizes synced_at)) same
    (λ place. settled place ∙ ap (λ (cell : Cell). settled_cell rest cell) (picked place ∙ ap (λ (cell : Cell). with_pick (pick_at place picks) cell) (tears place))) refl refl refl

-- ---- the counts agree with the places

pub IsCounted-kept : (size size' writes resizes synced_at : ℕ) (old new : BTreeMap ℕ Cell) → IsCounted (state_from size old writes resizes synced_at) → size' ≡ size → KeepsAll old new → IsCounted (state_from size' new writes resizes synced_at)
IsCounted-kept size size' writes resizes synced_at old new was same keeps =
    subst IsCounted (sym (state_from-kept size size' writes resizes synced_at old new same keeps)) was

pub IsCounted-settled : (size size' writes resizes synced_at : ℕ) (old new : BTreeMap ℕ Cell) → IsCounted (state_from size old writes resizes synced_at) → size' ≡ size → ((place : ℕ) → cell_in new place ≡ settled_cell Last (cell_in old place)) → IsCounted (state_from size' new writes resizes writes)
IsCounted-settled size size' writes resizes synced_at old new was same settled =
    subst IsCounted (sym (state_from-settled size size' writes resizes synced_at old new same settled)) (IsCounted-call (state_from size old writes resizes synced_at) Sync was)

pub IsCounted-cut : (size blocks size' writes resizes synced_at : ℕ) (old new : BTreeMap ℕ Cell) → IsCounted (state_from size old writes resizes synced_at) → size' ≡ blocks → ((place : ℕ) → cell_in new place ≡ cond (ltb place blocks) (cell_in old place) blank_cell) → IsCounted (state_from size' new writes (resizes + 1) synced_at)
IsCounted-cut size blocks size' writes resizes synced_at old new was same cut =
    subst IsCounted (sym (state_from-resized size blocks size' writes resizes (resizes + 1) synced_at old new same refl cut)) (IsCounted-call (state_from size old writes resizes synced_at) (Resize blocks) was)

later_hurt : (here : Bool) (cell : Cell) (page : List ℕ) → cell.later ≡ [] → (cond here (hurt_cell cell page) cell).later ≡ []
later_hurt true cell page none = none
later_hurt false cell page none = none

IsCounted-hurt : (d : DiskState) (place : ℕ) (page : List ℕ) → IsCounted d → IsCounted (damaged d place page)
IsCounted-hurt d place page was = record {
  covers = was.covers;
  settled = λ all q. later_hurt (eqb q place) (d.cells q) page (was.settled all q);
}

-- after damage that may have found no memory
pub IsCounted-damaged : {E : Type 0} (r : Result (Unit {0}) E) (size size' writes resizes synced_at place : ℕ) (page : List ℕ) (old new : BTreeMap ℕ Cell) → IsCounted (state_from size old writes resizes synced_at) → size' ≡ size → OnOk r (ChangesOne old new place (hurt_cell (cell_in old place) page)) → OnErr r (KeepsAll old new) → IsCounted (state_from size' new writes resizes synced_at)
IsCounted-damaged (Ok done) size size' writes resizes synced_at place page old new was same change keeps =
    subst IsCounted (sym (state_from-damaged size size' writes resizes synced_at place page old new same change)) (IsCounted-hurt (state_from size old writes resizes synced_at) place page was)
IsCounted-damaged (Err reason) size size' writes resizes synced_at place page old new was same change keeps =
    IsCounted-kept size size' writes resizes synced_at old new was same keeps
