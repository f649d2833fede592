-- The head that counts, written over the other one.
use Rattle.std.proofs.Common.{◌≡◌, ℕ, zero, suc, ◌-◌, ◌≤◌, eqb, List, [], ◌∷◌, ◌++◌, replicate, Option, Some, None, Ok, unwrap_or, refl, sym, ap, subst, ◌∙◌, ◌⊎◌, inl, inr, arith}
use Rattle.std.proofs.lemmas.Bool.{cond-true, cond-false, eq-eqb, ne_eqb}
use Rattle.vb_disk.specs.declared.cell.Cell.{Cell}
use Rattle.vb_disk.specs.Cells.{read_of, synced_cell, written_cell}
use Rattle.vb_disk.specs.Crashes.{CellMayCrashTo, MayCrashTo}
use Rattle.vb_disk.specs.States.{DiskState, IsDiskState, read_at, synced, written}
use Rattle.vb_head.specs.declared.head.Head.{Head}
use Rattle.vb_head.specs.Heads.{IsHead, head_page, head_read}
use Rattle.vb_journal.specs.Progress.{Has, Tried}
use Rattle.vb_journal.specs.Recoveries.{choice_of, recovery_of}
use Rattle.vb_journal.specs.Outcomes.{reads_of, recovery_on}
use Rattle.vb_journal.specs.Recovering.{HasBothHeads, IsMended, IsMending, MayBeMended, RecoversWhole, StandsFrom, newest_of, reads_whole, whole_cell}
use Rattle.vb_journal.specs.Shown.{good_of, greater}
use Rattle.vb_journal.proofs.Choices.{chosen-again}
use Rattle.vb_journal.proofs.Heads.{good_of-head_page, good_of-unsealed, greater-same}
use Rattle.vb_journal.proofs.SameRecoveries.{choice_of-same, recovery_of-same, recovery_on-same}
use Rattle.vb_journal.proofs.Settled.{crashed-stands, crashed-synced, read_of-crashed}
use Rattle.vb_journal.proofs.TriedCells.{MayRead, MayRead-Trying, Fixed-synced, written-elsewhere, written-here}

-- ---- whole heads

-- the place of a head that was read is whole, since a hurt place reads as bytes that aren't sealed
pub whole-from_read : (begun : DiskState) (place : ℕ) (h : Head) → IsDiskState begun → IsHead h → read_at begun place ≡ head_page h → synced_cell (begun.cells place) ≡ whole_cell (head_page h)
whole-from_read begun place h is head reads = by_hurt (begun.cells place).hurt refl
  where
    by_hurt : (hurt : Option (List ℕ)) → (begun.cells place).hurt ≡ hurt → synced_cell (begun.cells place) ≡ whole_cell (head_page h)
    by_hurt None whole =
        let newest : newest_of (begun.cells place) ≡ head_page h = sym (ap (λ (o : Option (List ℕ)). unwrap_or o (newest_of (begun.cells place))) whole) ∙ reads in
        ap (λ (o : Option (List ℕ)). let c : Cell = record { first = newest_of (begun.cells place); later = []; hurt = o } in c) whole ∙ ap whole_cell newest
    by_hurt (Some bytes) hurt =
        let read : bytes ≡ head_page h = sym (ap (λ (o : Option (List ℕ)). unwrap_or o (newest_of (begun.cells place))) hurt) ∙ reads in
        let none : good_of (head_read bytes) ≡ None = good_of-unsealed bytes (is.hurt_are_misses place bytes hurt).unsealed in
        let some : good_of (head_read bytes) ≡ Some h = good_of-head_page h bytes head read in
        absurd (cc (none, some))

-- a whole place with one candidate reads as it after a crash
pub crashed-whole : (d new : DiskState) (place : ℕ) (page : List ℕ) → d.cells place ≡ whole_cell page → MayCrashTo d new → read_at new place ≡ page
crashed-whole d new place page is crash =
    read_of-crashed (d.cells place) (new.cells place) (ap (λ (c : Cell). c.later) is) (crash.each place) ∙ ap read_of is

-- the same head counts on a disk of the same size, and behind the heads the same stands
pub counts-again : (begun new : DiskState) (head : Head) → choice_of begun.size (reads_of begun) ≡ Ok head → new.size ≡ begun.size → greater (good_of (head_read (read_at new 0))) (good_of (head_read (read_at new 1))) ≡ Some head → ((p : ℕ) → 2 ≤ p → read_at new p ≡ read_at begun p) → recovery_on new ≡ recovery_on begun
counts-again begun new head counts size greatest same =
    recovery_on-same begun new size (chosen-again begun.size (head_read (read_at begun 0)) (head_read (read_at begun 1)) (head_read (read_at new 0)) (head_read (read_at new 1)) head counts greatest ∙ sym counts) same

pub crashed-both : (begun : DiskState) (head : Head) (d new : DiskState) → HasBothHeads begun head d → MayCrashTo d new → recovery_on new ≡ recovery_on begun
crashed-both begun head d new has crash =
    counts-again begun new head has.counts (crash.size ∙ has.stands.size)
    (greater-same head (good_of (head_read (read_at new 0))) (good_of (head_read (read_at new 1)))
    (good_of-head_page head (read_at new 0) has.is (crashed-whole d new 0 (head_page head) has.first crash))
    (good_of-head_page head (read_at new 1) has.is (crashed-whole d new 1 (head_page head) has.second crash)))
    (λ p past. crashed-stands 2 p begun d new has.stands past crash)

-- ---- the other head

-- one of two copies counts where the other is the same head, or none
one_counts : (head : Head) (a b : Option Head) → a ≡ Some head → (b ≡ Some head) ⊎ (b ≡ None) → (greater a b ≡ Some head) × (greater b a ≡ Some head)
one_counts head a b is (inl same) = (greater-same head a b is same, greater-same head b a same is)
one_counts head a b is (inr none) = (ap (λ (o : Option Head). greater o b) is ∙ ap (greater (Some head)) none, ap (λ (o : Option Head). greater o a) none ∙ ap (greater None) is)

greatest_by : (place : ℕ) (head : Head) (g : ℕ → Option Head) → place ≤ 1 → g (1 - place) ≡ Some head → (g place ≡ Some head) ⊎ (g place ≡ None) → greater (g 0) (g 1) ≡ Some head
greatest_by zero head g low here other = (one_counts head (g 1) (g 0) here other).1
greatest_by (suc zero) head g low here other = (one_counts head (g 0) (g 1) here other).0
greatest_by (suc (suc n)) head g low here other = absurd (omega arith)

-- what holds of the place and of the other one holds of both
both_places : (place : ℕ) (Q : ℕ → Type 0) → place ≤ 1 → Q place → Q (1 - place) → Q 0 × Q 1
both_places zero Q low a b = (a, b)
both_places (suc zero) Q low a b = (b, a)
both_places (suc (suc n)) Q low a b = absurd (omega arith)

-- what a mended place may read as after a crash
mended_read : (begun : DiskState) (head : Head) (place : ℕ) (before after : Cell) → IsMended begun head place before → CellMayCrashTo before after → MayRead (newest_of (begun.cells place)) (head_page head) (read_of after)
mended_read begun head place before after mended crash =
    MayRead-Trying (newest_of (begun.cells place)) (head_page head) before after (ap (λ (c : Cell). c.hurt) mended.1) (suc mended.0, ap (λ (c : Cell). c.first ∷ c.later) mended.1) crash

-- what stood there before counts, by whether it was hurt
old_counts : (begun new : DiskState) (head : Head) (place : ℕ) → place ≤ 1 → new.size ≡ begun.size → read_at begun (1 - place) ≡ head_page head → read_at new (1 - place) ≡ head_page head → read_at new place ≡ newest_of (begun.cells place) → ((p : ℕ) → 2 ≤ p → read_at new p ≡ read_at begun p) → (recovery_on new ≡ recovery_on begun) ⊎ RecoversWhole begun place new
old_counts begun new head place low size was here old behind = by_hurt (begun.cells place).hurt refl
  where
    by_hurt : (hurt : Option (List ℕ)) → (begun.cells place).hurt ≡ hurt → (recovery_on new ≡ recovery_on begun) ⊎ RecoversWhole begun place new
    by_hurt None whole =
        let there : read_at new place ≡ read_at begun place = old ∙ sym (ap (λ (o : Option (List ℕ)). unwrap_or o (newest_of (begun.cells place))) whole) in
        let both = both_places place (λ p. read_at new p ≡ read_at begun p) low there (here ∙ sym was) in
        inl (recovery_on-same begun new size (choice_of-same begun.size (reads_of new) (reads_of begun) both.0 both.1) behind)
    by_hurt (Some bytes) hurt =
        let Q : ℕ → Type 0 = λ p. read_at new p ≡ reads_whole begun place p in
        let there : Q place = old ∙ sym (cond-true (eqb place place) (newest_of (begun.cells place)) (read_at begun place) (eq-eqb place place refl)) in
        let elsewhere : Q (1 - place) = here ∙ sym was ∙ sym (cond-false (eqb (1 - place) place) (newest_of (begun.cells (1 - place))) (read_at begun (1 - place)) (ne_eqb (1 - place) place (λ same. omega arith))) in
        let both = both_places place Q low there elsewhere in
        inr (record {
          hurt = (bytes, hurt);
          recovers = ap (λ (n : ℕ). recovery_of n (reads_of new)) size ∙ recovery_of-same begun.size (reads_of new) (reads_whole begun place) (choice_of-same begun.size (reads_of new) (reads_whole begun place) both.0 both.1)
              (λ p past. behind p past ∙ sym (cond-false (eqb p place) (newest_of (begun.cells p)) (read_at begun p) (ne_eqb p place (λ same. omega arith))));
        })

pub crashed-mending : (begun : DiskState) (head : Head) (place : ℕ) (d new : DiskState) → place ≤ 1 → IsHead head → IsMending begun head place MayBeMended d → MayCrashTo d new → (recovery_on new ≡ recovery_on begun) ⊎ RecoversWhole begun place new
crashed-mending begun head place d new low head_is is crash =
    let size : new.size ≡ begun.size = crash.size ∙ is.stands.size in
    let here : read_at new (1 - place) ≡ head_page head = crashed-whole d new (1 - place) (head_page head) is.here crash in
    let behind : (p : ℕ) → 2 ≤ p → read_at new p ≡ read_at begun p = λ p past. crashed-stands 2 p begun d new is.stands past crash in
    let counts : (good_of (head_read (read_at new place)) ≡ Some head) ⊎ (good_of (head_read (read_at new place)) ≡ None) → recovery_on new ≡ recovery_on begun = λ other.
    counts-again begun new head is.counts size (greatest_by place head (λ p. good_of (head_read (read_at new p))) low (good_of-head_page head (read_at new (1 - place)) head_is here) other) behind in
    elim is.other [
      | inl stands ↦
          let both = both_places place (λ p. read_at new p ≡ read_at begun p) low (crashed-synced place begun d new stands crash) (here ∙ sym is.was) in
          inl (recovery_on-same begun new size (choice_of-same begun.size (reads_of new) (reads_of begun) both.0 both.1) behind)
      | inr mended ↦ elim (mended_read begun head place (d.cells place) (new.cells place) mended (crash.each place)) [
        | inl old ↦ old_counts begun new head place low size is.was here old behind
        | inr other ↦ elim other [
          | inl same ↦ inl (counts (inl (good_of-head_page head (read_at new place) head_is same)))
          | inr unsealed ↦ inl (counts (inr (good_of-unsealed (read_at new place) unsealed)))
        ]
      ]
    ]

-- ---- its calls

again : (n : ℕ) (x : List ℕ) → replicate n x ++ x ∷ [] ≡ replicate (suc n) x
again zero x = refl
again (suc n) x = ap (λ (l : List (List ℕ)). x ∷ l) (again n x)

mends : (begun : DiskState) (head : Head) (place : ℕ) (cell : Cell) → MayBeMended begun head place cell → IsMended begun head place (written_cell cell (head_page head))
mends begun head place cell (inl stands) = (0, ap (λ (c : Cell). written_cell c (head_page head)) stands)
mends begun head place cell (inr mended) = (
  suc mended.0,
  ap (λ (c : Cell). written_cell c (head_page head)) mended.1
      ∙ ap (λ (l : List (List ℕ)). let c : Cell = record { first = newest_of (begun.cells place); later = l; hurt = None } in c) (again (suc mended.0) (head_page head)),
)

pub mending-written : (begun : DiskState) (head : Head) (place : ℕ) (d : DiskState) → place ≤ 1 → IsMending begun head place MayBeMended d → IsMending begun head place IsMended (written d place (head_page head))
mending-written begun head place d low is = record {
  stands = record {
    is = is.stands.is;
    size = is.stands.size;
    each = λ other past. written-elsewhere d place other (head_page head) (λ same. omega arith) ∙ is.stands.each other past;
  };
  counts = is.counts;
  was = is.was;
  here = written-elsewhere d place (1 - place) (head_page head) (λ same. omega arith) ∙ is.here;
  other = subst (IsMended begun head place) (sym (written-here d place (head_page head))) (mends begun head place (d.cells place) is.other);
}

-- what was mended may be mended again
pub mending-again : (begun : DiskState) (head : Head) (place : ℕ) (d : DiskState) → IsMending begun head place IsMended d → IsMending begun head place MayBeMended d
mending-again begun head place d is = record { stands = is.stands; counts = is.counts; was = is.was; here = is.here; other = inr is.other }

-- a sync leaves it whole
mended_synced : (begun : DiskState) (head : Head) (place : ℕ) (cell : Cell) → IsMended begun head place cell → synced_cell cell ≡ whole_cell (head_page head)
mended_synced begun head place cell mended =
    let has : Has (Tried (newest_of (begun.cells place)) (head_page head)) cell = (mended.0, ap (λ (c : Cell). c.first ∷ c.later) mended.1) in
    let fixed = Fixed-synced (newest_of (begun.cells place)) (head_page head) cell has in
    let first : newest_of cell ≡ head_page head = cc fixed in
    let whole : cell.hurt ≡ None = ap (λ (c : Cell). c.hurt) mended.1 in
    ap (λ (o : Option (List ℕ)). let c : Cell = record { first = newest_of cell; later = []; hurt = o } in c) whole ∙ ap whole_cell first

pub stands-synced : (from : ℕ) (begun d : DiskState) → StandsFrom from begun d → StandsFrom from begun (synced d)
stands-synced from begun d is = record { is = is.is; size = is.size; each = λ other past. ap synced_cell (is.each other past) }

pub mending-synced : (begun : DiskState) (head : Head) (place : ℕ) (d : DiskState) → place ≤ 1 → IsHead head → IsMending begun head place IsMended d → HasBothHeads begun head (synced d)
mending-synced begun head place d low head_is is =
    let both = both_places place (λ p. (synced d).cells p ≡ whole_cell (head_page head)) low (mended_synced begun head place (d.cells place) is.other) (ap synced_cell is.here) in
    record { stands = stands-synced 2 begun d is.stands; is = head_is; counts = is.counts; first = both.0; second = both.1 }
