-- What a crash leaves while a store's heads are read and mended, where some places are taken as whole.
use Rattle.std.proofs.Common.{◌≡◌, ℕ, zero, suc, ◌-◌, ◌≤◌, Bool, true, false, cond, eqb, List, [], replicate, None, refl, sym, ap, ◌∙◌, inl, inr, arith}
use Rattle.std.proofs.lemmas.Bool.{cond-false, ne_eqb}
use Rattle.vb_disk.specs.declared.cell.Cell.{Cell}
use Rattle.vb_disk.specs.Cells.{read_of, synced_cell}
use Rattle.vb_disk.specs.Crashes.{MayCrashTo}
use Rattle.vb_disk.specs.States.{DiskState, read_at}
use Rattle.vb_head.specs.declared.head.Head.{Head}
use Rattle.vb_head.specs.Heads.{IsHead, head_page}
use Rattle.vb_journal.specs.Outcomes.{reads_of}
use Rattle.vb_journal.specs.Recovering.{HasBothHeads, IsMended, IsMending, MayBeMended, StandsFrom, newest_of, reads_whole}
use Rattle.vb_journal.proofs.AfterRecoveries.{settled_recovers}
use Rattle.vb_journal.proofs.Mended.{crashed-both, crashed-mending, whole-from_read}
use Rattle.vb_journal.proofs.SameRecoveries.{choice_of-same, recovery_of-same}
use Rattle.vb_journal.proofs.Settled.{crashed-stands}
use Rattle.vb_store.specs.Clear.{taken_as, taken_cell}
use Rattle.vb_store.proofs.TakenDisks.{IsDiskState-taken, newest-taken, synced-taken, whole-taken}
use Rattle.vb_store.proofs.TreesKept.{HasSameData}

-- a crash left what recovers as the disk did when the recovery began, with these places taken as whole
pub record IsKept (begun new : DiskState) : Type 0 where
  pub whole : ℕ → Bool
  pub same : HasSameData (taken_as whole begun) new

-- ---- places that stand

-- both heads are taken as they are
abbrev pub but_heads : (ℕ → Bool) → ℕ → Bool
but_heads whole zero = false
but_heads whole (suc zero) = false
but_heads whole (suc (suc n)) = whole (suc (suc n))

pub but_heads-behind : (whole : ℕ → Bool) (place : ℕ) → 2 ≤ place → but_heads whole place ≡ whole place
but_heads-behind whole zero past = absurd (omega arith)
but_heads-behind whole (suc zero) past = absurd (omega arith)
but_heads-behind whole (suc (suc n)) past = refl

but_heads_low : (whole : ℕ → Bool) (place : ℕ) → place ≤ 1 → but_heads whole place ≡ false
but_heads_low whole zero low = refl
but_heads_low whole (suc zero) low = refl
but_heads_low whole (suc (suc n)) low = absurd (omega arith)

-- a place that stands but for a sync does so where both disks take it the same
pub stands-taken : (whole then : ℕ → Bool) (begun d : DiskState) (place : ℕ) → then place ≡ whole place → d.cells place ≡ synced_cell (begun.cells place) → (taken_as whole d).cells place ≡ synced_cell ((taken_as then begun).cells place)
stands-taken whole then begun d place same is =
    ap (λ (b : Bool). taken_cell b (d.cells place)) (sym same) ∙ ap (taken_cell (then place)) is ∙ synced-taken (then place) (begun.cells place)

pub StandsFrom-taken : (from : ℕ) (whole then : ℕ → Bool) (begun d : DiskState) → ((place : ℕ) → from ≤ place → then place ≡ whole place) → StandsFrom from begun d → StandsFrom from (taken_as then begun) (taken_as whole d)
StandsFrom-taken from whole then begun d same stands = record {
  is = IsDiskState-taken then begun stands.is;
  size = stands.size;
  each = λ place past. stands-taken whole then begun d place (same place past) (stands.each place past);
}

-- where each place stands
pub kept-standing : (whole : ℕ → Bool) (begun d new : DiskState) → StandsFrom 0 begun d → MayCrashTo (taken_as whole d) new → IsKept begun new
kept-standing whole begun d new is crash =
    let stands = StandsFrom-taken 0 whole whole begun d (λ place past. refl) is in
    record {
      whole = whole;
      same = record {
        size = crash.size ∙ is.size;
        recovery = settled_recovers (taken_as whole begun) (taken_as whole d) new stands crash;
        data_places = λ head counts place above. crashed-stands 0 place (taken_as whole begun) (taken_as whole d) new stands (omega arith) crash;
      };
    }

-- ---- both heads are whole

pub HasBothHeads-taken : (whole : ℕ → Bool) (begun d : DiskState) (head : Head) → HasBothHeads begun head d → HasBothHeads (taken_as (but_heads whole) begun) head (taken_as whole d)
HasBothHeads-taken whole begun d head has = record {
  stands = StandsFrom-taken 2 whole (but_heads whole) begun d (but_heads-behind whole) has.stands;
  is = has.is;
  counts = has.counts;
  first = whole-taken (whole 0) (d.cells 0) (head_page head) [] has.first;
  second = whole-taken (whole 1) (d.cells 1) (head_page head) [] has.second;
}

pub kept-both : (whole : ℕ → Bool) (begun d new : DiskState) (head : Head) → HasBothHeads begun head d → MayCrashTo (taken_as whole d) new → IsKept begun new
kept-both whole begun d new head is crash =
    let begun_as : DiskState = taken_as (but_heads whole) begun in
    let has = HasBothHeads-taken whole begun d head is in
    record {
      whole = but_heads whole;
      same = record {
        size = crash.size ∙ is.stands.size;
        recovery = crashed-both begun_as head (taken_as whole d) new has crash;
        data_places = λ other counts place above. crashed-stands 2 place begun_as (taken_as whole d) new has.stands (omega (arith, above)) crash;
      };
    }

-- ---- the other head is mended

-- what holds of the place, of the other head's and of all behind them holds of each
each_place : (Q : ℕ → Type 0) (place : ℕ) → place ≤ 1 → Q place → Q (1 - place) → ((p : ℕ) → 2 ≤ p → Q p) → (p : ℕ) → Q p
each_place Q zero low here other behind zero = here
each_place Q zero low here other behind (suc zero) = other
each_place Q zero low here other behind (suc (suc n)) = behind (suc (suc n)) (omega arith)
each_place Q (suc zero) low here other behind zero = other
each_place Q (suc zero) low here other behind (suc zero) = here
each_place Q (suc zero) low here other behind (suc (suc n)) = behind (suc (suc n)) (omega arith)
each_place Q (suc (suc m)) low here other behind p = absurd (omega arith)

-- where it wasn't written, each place stands
mending_stands : (begun d : DiskState) (head : Head) (place : ℕ) → place ≤ 1 → IsHead head → IsMending begun head place MayBeMended d → d.cells place ≡ synced_cell (begun.cells place) → StandsFrom 0 begun d
mending_stands begun d head place low head_is is here =
    let other : d.cells (1 - place) ≡ synced_cell (begun.cells (1 - place)) = is.here ∙ sym (whole-from_read begun (1 - place) head is.stands.is head_is is.was) in
    let each : (p : ℕ) → d.cells p ≡ synced_cell (begun.cells p) = each_place (λ p. d.cells p ≡ synced_cell (begun.cells p)) place low here other is.stands.each in
    record { is = is.stands.is; size = is.stands.size; each = λ p past. each p }

-- the head that counts was written there
mended_taken : (whole : ℕ → Bool) (begun d : DiskState) (head : Head) (place : ℕ) → place ≤ 1 → IsMending begun head place MayBeMended d → IsMended begun head place (d.cells place) → IsMending (taken_as (but_heads whole) begun) head place MayBeMended (taken_as whole d)
mended_taken whole begun d head place low is mended = record {
  stands = StandsFrom-taken 2 whole (but_heads whole) begun d (but_heads-behind whole) is.stands;
  counts = is.counts;
  was = ap (λ (b : Bool). read_of (taken_cell b (begun.cells (1 - place)))) (but_heads_low whole (1 - place) (omega arith)) ∙ is.was;
  here = whole-taken (whole (1 - place)) (d.cells (1 - place)) (head_page head) [] is.here;
  other = inr (
    mended.0,
    whole-taken (whole place) (d.cells place) (newest_of (begun.cells place)) (replicate (suc mended.0) (head_page head)) mended.1
        ∙ ap (λ (p : List ℕ). let c : Cell = record { first = p; later = replicate (suc mended.0) (head_page head); hurt = None } in c) (sym (newest-taken (but_heads whole place) (begun.cells place))),
  );
}

-- one place more is taken as whole
abbrev with_whole : ℕ → (ℕ → Bool) → ℕ → Bool
with_whole place whole other = cond (eqb other place) true (whole other)

read_whole : (here whole : Bool) (cell : Cell) → cond here (newest_of (taken_cell whole cell)) (read_of (taken_cell whole cell)) ≡ read_of (taken_cell (cond here true whole) cell)
read_whole true true cell = refl
read_whole true false cell = refl
read_whole false whole cell = refl

with_whole_behind : (place : ℕ) (whole : ℕ → Bool) (other : ℕ) → place ≤ 1 → 2 ≤ other → with_whole place (but_heads whole) other ≡ whole other
with_whole_behind place whole other low past =
    cond-false (eqb other place) true (but_heads whole other) (ne_eqb other place (λ same. omega (arith, low, past, same))) ∙ but_heads-behind whole other past

kept_mended : (whole : ℕ → Bool) (begun d new : DiskState) (head : Head) (place : ℕ) → place ≤ 1 → IsHead head → IsMending begun head place MayBeMended d → IsMended begun head place (d.cells place) → MayCrashTo (taken_as whole d) new → IsKept begun new
kept_mended whole begun d new head place low head_is is mended crash =
    let begun_as : DiskState = taken_as (but_heads whole) begun in
    let begun_whole : DiskState = taken_as (with_whole place (but_heads whole)) begun in
    let mending = mended_taken whole begun d head place low is mended in
    let size : new.size ≡ begun.size = crash.size ∙ is.stands.size in
    elim (crashed-mending begun_as head place (taken_as whole d) new low head_is mending crash) [
      | inl same ↦ record {
        whole = but_heads whole;
        same = record {
          size = size;
          recovery = same;
          data_places = λ other counts p above. crashed-stands 2 p begun_as (taken_as whole d) new mending.stands (omega (arith, above)) crash;
        };
      }
      | inr other ↦
          let each : (p : ℕ) → reads_whole begun_as place p ≡ read_at begun_whole p = λ p. read_whole (eqb p place) (but_heads whole p) (begun.cells p) in
          let stands : StandsFrom 2 begun_whole (taken_as whole d) = StandsFrom-taken 2 whole (with_whole place (but_heads whole)) begun d (λ p past. with_whole_behind place whole p low past) is.stands in
          record {
            whole = with_whole place (but_heads whole);
            same = record {
              size = size;
              recovery = other.recovers ∙ recovery_of-same begun.size (reads_whole begun_as place) (reads_of begun_whole) (choice_of-same begun.size (reads_whole begun_as place) (reads_of begun_whole) (each 0) (each 1)) (λ p past. each p);
              data_places = λ h counts p above. crashed-stands 2 p begun_whole (taken_as whole d) new stands (omega (arith, above)) crash;
            };
          }
    ]

pub kept-mending : (whole : ℕ → Bool) (begun d new : DiskState) (head : Head) (place : ℕ) → place ≤ 1 → IsHead head → IsMending begun head place MayBeMended d → MayCrashTo (taken_as whole d) new → IsKept begun new
kept-mending whole begun d new head place low head_is is crash = elim is.other [
  | inl stands ↦ kept-standing whole begun d new (mending_stands begun d head place low head_is is stands) crash
  | inr mended ↦ kept_mended whole begun d new head place low head_is is mended crash
]
