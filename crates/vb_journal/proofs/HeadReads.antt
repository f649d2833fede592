-- What a head reads as, and the first steps of a recovery.
use Rattle.std.proofs.Common.{◌≡◌, ◌≢◌, ℕ, ◌-◌, ◌<◌, Bool, true, false, cond, not, List, Option, Some, None, Err, refl, sym, ap, subst, ◌∙◌, inl, inr, arith}
use Rattle.std.specs.Str.{bytes_eq}
use Rattle.std.proofs.lemmas.Bool.{lt-ltb}
use Rattle.std.proofs.lemmas.Slice.Eq.{bytes_eq-Decides}
use Rattle.sha2.specs.Sha256.{sha256}
use Rattle.vb_block.specs.declared.why.Why.{Why}
use Rattle.vb_block.specs.Pages.{seal_of, sealed_part}
use Rattle.vb_disk.specs.Cells.{synced_cell}
use Rattle.vb_disk.specs.States.{DiskState, IsDiskState, read_at, synced}
use Rattle.vb_head.specs.declared.head.Head.{Head}
use Rattle.vb_head.specs.declared.head.HeadRead.{HeadRead}
use Rattle.vb_head.specs.declared.head.HeadRead.TheVariants.{Good, Alien, Unsealed, Blank}
use Rattle.vb_head.specs.Layout.{are_zeros, fields_of}
use Rattle.vb_head.specs.Heads.{IsHead, fault_of, head_from, head_page, head_read, is_marked, judged}
use Rattle.vb_journal.specs.declared.mending.FirstRead.{FirstRead}
use Rattle.vb_journal.specs.declared.recover_error.RecoverError.{RecoverError}
use Rattle.vb_journal.specs.declared.recover_error.RecoverError.TheVariants.{NotAStore}
use Rattle.vb_journal.specs.Recoveries.{choice_of, greater_place, head_among, head_choice, recovery_of}
use Rattle.vb_journal.specs.Outcomes.{reads_of, recovery_on}
use Rattle.vb_journal.specs.Recovering.{HasBothHeads, HasReadFirst, IsHopeless, IsMending, MayBeMended, StandsFrom, whole_cell}
use Rattle.vb_journal.specs.Shown.{good_of, greater}
use Rattle.vb_journal.proofs.Choices.{IsChosen-from, chosen, good-from_good_of, greater-stands, refused}
use Rattle.vb_journal.proofs.Mended.{whole-from_read}
use Rattle.vb_journal.proofs.SameRecoveries.{recovery_of-chosen}

-- a head that isn't sealed has two digests that differ
unsealed_answer : (z s m : Bool) (k f : List ℕ) (why : Option Why) (h : Head) (kept found : List ℕ) → cond z Blank (cond (not s) (Unsealed k f) (cond m (judged why h) Alien)) ≡ Unsealed kept found → (s ≡ false) × (k ≡ kept) × (f ≡ found)
unsealed_answer true s m k f why h kept found is = absurd (cc is)
unsealed_answer false false m k f why h kept found is = (refl, cc is, cc is)
unsealed_answer false true true k f None h kept found is = absurd (cc is)
unsealed_answer false true true k f (Some why) h kept found is = absurd (cc is)
unsealed_answer false true false k f why h kept found is = absurd (cc is)

pub unsealed-differs : (page kept found : List ℕ) → head_read page ≡ Unsealed kept found → kept ≢ found
unsealed-differs page kept found is same =
    let parts = unsealed_answer (are_zeros page) (bytes_eq (seal_of page) (sha256 (sealed_part page))) (is_marked (fields_of page)) (seal_of page) (sha256 (sealed_part page)) (fault_of (fields_of page)) (head_from (fields_of page)) kept found is in
    let equal : bytes_eq (seal_of page) (sha256 (sealed_part page)) ≡ true = (bytes_eq-Decides (seal_of page) (sha256 (sealed_part page))).1 (parts.1 ∙ same ∙ sym parts.2) in
    absurd (cc (equal, parts.0))

-- a disk that is too small holds no store, after a crash neither
small_choice : (size : ℕ) (reads : ℕ → List ℕ) → size < 38 → recovery_of size reads ≡ Err (NotAStore 0)
small_choice size reads small =
    recovery_of-chosen size reads (refused (NotAStore 0)) (ap (λ (t : Bool). cond t (refused (NotAStore 0)) (head_among size (head_read (reads 0)) (head_read (reads 1)) (greater (good_of (head_read (reads 0))) (good_of (head_read (reads 1)))))) (lt-ltb size 38 small))

pub hopeless-small : (begun d : DiskState) → d ≡ begun → d.size < 38 → IsHopeless begun (NotAStore 0) d
hopeless-small begun d is small =
    let begun_small : begun.size < 38 = subst (λ (e : DiskState). e.size < 38) is small in
    let none = small_choice begun.size (reads_of begun) begun_small in
    record {
      recovery = none;
      crashes = λ new crash. small_choice new.size (reads_of new) (omega (arith, crash.size)) ∙ sym none;
    }

-- after the first sync
pub stands-begun : (begun d : DiskState) → IsDiskState begun → d ≡ begun → StandsFrom 0 begun (synced d)
stands-begun begun d is same = record {
  is = is;
  size = ap (λ (e : DiskState). e.size) same;
  each = λ other past. ap (λ (e : DiskState). synced_cell (e.cells other)) same;
}

pub stands-behind : (begun d : DiskState) → StandsFrom 0 begun d → StandsFrom 2 begun d
stands-behind begun d stands = record { is = stands.is; size = stands.size; each = λ other past. stands.each other (omega arith) }

-- ---- the choice

-- what is known once both heads were read
pub record HasReadBoth (begun : DiskState) (first : FirstRead) (second : HeadRead) (d : DiskState) : Type 0 where
  pub first_is : HasReadFirst begun first d
  pub second_is : second ≡ head_read (read_at begun 1)
  pub spelled : (h : Head) → second ≡ Good h → read_at begun 1 ≡ head_page h
  pub good : (h : Head) → second ≡ Good h → IsHead h

pub chosen-is : (size : ℕ) (first second : HeadRead) (head : Head) → ((h : Head) → first ≡ Good h → IsHead h) → ((h : Head) → second ≡ Good h → IsHead h) → head_choice size first second ≡ chosen head → IsHead head
chosen-is size first second head first_good second_good is =
    elim (greater-stands (good_of first) (good_of second) head (IsChosen-from size first second head is).greatest) [
      | inl at ↦ first_good head (good-from_good_of first head at.1)
      | inr at ↦ second_good head (good-from_good_of second head at.1)
    ]

pub choice-read : (begun d : DiskState) (first : FirstRead) (second : HeadRead) → HasReadFirst begun first d → second ≡ head_read (read_at begun 1) → choice_of begun.size (reads_of begun) ≡ head_choice first.size.places first.read second
choice-read begun d first second has second_is =
    ap (λ (n : ℕ). head_choice n (head_read (read_at begun 0)) (head_read (read_at begun 1))) (sym has.size)
    ∙ ap (λ (r : HeadRead). head_choice first.size.places r (head_read (read_at begun 1))) (sym has.read)
    ∙ ap (head_choice first.size.places first.read) (sym second_is)

choice_read : (begun : DiskState) (first : FirstRead) (second : HeadRead) (d : DiskState) → HasReadBoth begun first second d → choice_of begun.size (reads_of begun) ≡ head_choice first.size.places first.read second
choice_read begun first second d has = choice-read begun d first second has.first_is has.second_is

whole_at : (begun d : DiskState) (place : ℕ) (head : Head) → StandsFrom 0 begun d → IsHead head → read_at begun place ≡ head_page head → d.cells place ≡ whole_cell (head_page head)
whole_at begun d place head stands is read = stands.each place (omega arith) ∙ whole-from_read begun place head stands.is is read

-- both heads are good and equal
pub both-chosen : (begun : DiskState) (first : FirstRead) (second : HeadRead) (head : Head) (d : DiskState) → HasReadBoth begun first second d → head_choice first.size.places first.read second ≡ chosen head → first.read ≡ second → HasBothHeads begun head d
both-chosen begun first second head d has is same =
    let stands = has.first_is.stands in
    let head_is = chosen-is first.size.places first.read second head first.good has.good is in
    let goods : (first.read ≡ Good head) × (second ≡ Good head) = elim (greater-stands (good_of first.read) (good_of second) head (IsChosen-from first.size.places first.read second head is).greatest) [
      | inl at ↦ (good-from_good_of first.read head at.1, sym same ∙ good-from_good_of first.read head at.1)
      | inr at ↦ (same ∙ good-from_good_of second head at.1, good-from_good_of second head at.1)
    ] in
    record {
      stands = stands-behind begun d stands;
      is = head_is;
      counts = choice_read begun first second d has ∙ is;
      first = whole_at begun d 0 head stands head_is (has.first_is.spelled head goods.0);
      second = whole_at begun d 1 head stands head_is (has.spelled head goods.1);
    }

-- the other head is to be mended
pub mending-chosen : (begun : DiskState) (first : FirstRead) (second : HeadRead) (head : Head) (place : ℕ) (d : DiskState) → HasReadBoth begun first second d → head_choice first.size.places first.read second ≡ chosen head → place ≡ 1 - greater_place (good_of first.read) (good_of second) → IsMending begun head place MayBeMended d
mending-chosen begun first second head place d has is at =
    let stands = has.first_is.stands in
    let head_is = chosen-is first.size.places first.read second head first.good has.good is in
    let was : read_at begun (1 - place) ≡ head_page head = elim (greater-stands (good_of first.read) (good_of second) head (IsChosen-from first.size.places first.read second head is).greatest) [
      | inl stood ↦ let here : 1 - place ≡ 0 = omega (arith, stood.0) in ap (read_at begun) here ∙ has.first_is.spelled head (good-from_good_of first.read head stood.1)
      | inr stood ↦ let here : 1 - place ≡ 1 = omega (arith, stood.0) in ap (read_at begun) here ∙ has.spelled head (good-from_good_of second head stood.1)
    ] in
    record {
      stands = stands-behind begun d stands;
      counts = choice_read begun first second d has ∙ is;
      was = was;
      here = whole_at begun d (1 - place) head stands head_is was;
      other = inl (stands.each place (omega arith));
    }

-- no head counts
pub hopeless-heads : (begun : DiskState) (first : FirstRead) (second : HeadRead) (e : RecoverError) (d : DiskState) → HasReadBoth begun first second d → head_choice first.size.places first.read second ≡ refused e → recovery_on begun ≡ Err e
hopeless-heads begun first second e d has is = recovery_of-chosen begun.size (reads_of begun) (refused e) (choice_read begun first second d has ∙ is)

pub read-first : (begun d : DiskState) (first : FirstRead) → StandsFrom 0 begun d → first.size.places ≡ begun.size → first.read ≡ head_read (read_at begun 0) → ((h : Head) → first.read ≡ Good h → read_at begun 0 ≡ head_page h) → HasReadFirst begun first d
read-first begun d first stands size read spelled = record { stands = stands; size = size; read = read; spelled = spelled }
