-- The heads of a commit, and which of two counts.
use Rattle.std.proofs.Common.{◌≡◌, ℕ, ◌<◌, Bool, true, false, cond, ltb, not, List, Option, Some, None, refl, sym, ap, subst, ◌∙◌, ◌⊎◌, inl, inr, arith}
use Rattle.std.specs.Str.{bytes_eq}
use Rattle.std.proofs.lemmas.Bool.{false_from_ne_true, le-ltb}
use Rattle.std.proofs.lemmas.Slice.Eq.{bytes_eq-Decides}
use Rattle.sha2.specs.Sha256.{sha256}
use Rattle.vb_block.specs.Pages.{IsSealed, seal_of, sealed_part}
use Rattle.vb_disk.specs.declared.cell.Cell.{Cell}
use Rattle.vb_disk.specs.Cells.{read_of}
use Rattle.vb_disk.specs.Crashes.{MayCrashTo}
use Rattle.vb_disk.specs.States.{DiskState, IsDiskState, read_at}
use Rattle.vb_head.specs.declared.head.Head.{Head}
use Rattle.vb_head.specs.declared.head.HeadRead.{HeadRead}
use Rattle.vb_head.specs.declared.head.HeadRead.TheVariants.{Alien, Unsealed, Blank}
use Rattle.vb_head.specs.Layout.{are_zeros, fields_of}
use Rattle.vb_head.specs.Heads.{IsHead, IsInRange, fault_of, head_from, head_page, head_read, is_marked, judged}
use Rattle.vb_head.proofs.HeadsRead.{head_read-head_page}
use Rattle.vb_journal.specs.declared.commit_stage.Stage.{Stage}
use Rattle.vb_journal.specs.Outcomes.{IsHurt}
use Rattle.vb_journal.specs.Plans.{CanCommit, CanGoOn, closed_head, opened_head}
use Rattle.vb_journal.specs.Progress.{Fixed, Has, Trying}
use Rattle.vb_journal.specs.Shown.{good_of, greater}
use Rattle.vb_journal.proofs.TriedCells.{EndsHurt, ReadsUnsealed-disk, StaysHurt, MayRead, fixed_or_hurt, trying_or_hurt}

-- both heads of a commit are in their ranges
opened_in_range : (head : Head) (epoch : ℕ) (images : List (List ℕ)) → CanCommit head epoch images → IsInRange (opened_head head epoch images)
opened_in_range head epoch images can =
    let r = can.range in
    record {
      blocks = r.blocks;
      nodes_low = r.nodes_low;
      nodes_high = r.nodes_high;
      space = r.space;
      id = r.id;
      sequence_low = omega arith;
      sequence_high = omega (arith, can.sequence);
      epoch = can.new_epoch;
      count = can.count;
    }

closed_in_range : (head : Head) (epoch : ℕ) (images : List (List ℕ)) → CanCommit head epoch images → IsInRange (closed_head head epoch)
closed_in_range head epoch images can =
    let r = can.range in
    record {
      blocks = r.blocks;
      nodes_low = r.nodes_low;
      nodes_high = r.nodes_high;
      space = r.space;
      id = r.id;
      sequence_low = omega arith;
      sequence_high = omega (arith, can.sequence);
      epoch = can.new_epoch;
      count = omega arith;
    }

-- what may be committed can be finished, and goes on from its first stage
pub CanGoOn-start : (head : Head) (epoch : ℕ) (images : List (List ℕ)) (stage : Stage) → CanCommit head epoch images → CanGoOn head epoch images stage
CanGoOn-start head epoch images stage can = record {
  finish = record { opened = opened_in_range head epoch images can; closed = closed_in_range head epoch images can; images_are = can.images_are };
  early = λ is. can;
}

-- a page that isn't sealed is no head
unsealed_answer : (z s : Bool) (kept found : List ℕ) (rest : HeadRead) → s ≡ false → good_of (cond z Blank (cond (not s) (Unsealed kept found) rest)) ≡ None
unsealed_answer true s kept found rest is = refl
unsealed_answer false true kept found rest is = absurd (cc is)
unsealed_answer false false kept found rest is = refl

pub good_of-unsealed : (page : List ℕ) → ¬ IsSealed page → good_of (head_read page) ≡ None
good_of-unsealed page unsealed =
    let unlike : bytes_eq (seal_of page) (sha256 (sealed_part page)) ≡ false = false_from_ne_true (bytes_eq (seal_of page) (sha256 (sealed_part page))) (λ is. unsealed ((bytes_eq-Decides (seal_of page) (sha256 (sealed_part page))).0 is)) in
    unsealed_answer (are_zeros page) (bytes_eq (seal_of page) (sha256 (sealed_part page))) (seal_of page) (sha256 (sealed_part page)) (cond (is_marked (fields_of page)) (judged (fault_of (fields_of page)) (head_from (fields_of page))) Alien) unlike

-- a head is read from its page
pub good_of-head_page : (h : Head) (page : List ℕ) → IsHead h → page ≡ head_page h → good_of (head_read page) ≡ Some h
good_of-head_page h page is page_is = ap (λ (p : List ℕ). good_of (head_read p)) page_is ∙ ap good_of (head_read-head_page h is)

-- ---- which head counts after a crash

-- what a page reads as that isn't sealed
abbrev pub IsNoHead : HeadRead → Type 0
IsNoHead read = (read ≡ Blank) ⊎ ((kept : List ℕ) × ((found : List ℕ) × (read ≡ Unsealed kept found)))

no_head_if : (z s : Bool) (kept found : List ℕ) (rest : HeadRead) → s ≡ false → IsNoHead (cond z Blank (cond (not s) (Unsealed kept found) rest))
no_head_if true s kept found rest is = inl refl
no_head_if false true kept found rest is = absurd (cc is)
no_head_if false false kept found rest is = inr (kept, (found, refl))

pub IsNoHead-unsealed : (page : List ℕ) → ¬ IsSealed page → IsNoHead (head_read page)
IsNoHead-unsealed page unsealed =
    let unlike : bytes_eq (seal_of page) (sha256 (sealed_part page)) ≡ false = false_from_ne_true (bytes_eq (seal_of page) (sha256 (sealed_part page))) (λ is. unsealed ((bytes_eq-Decides (seal_of page) (sha256 (sealed_part page))).0 is)) in
    no_head_if (are_zeros page) (bytes_eq (seal_of page) (sha256 (sealed_part page))) (seal_of page) (sha256 (sealed_part page)) (cond (is_marked (fields_of page)) (judged (fault_of (fields_of page)) (head_from (fields_of page))) Alien) unlike

-- a copy is hurt after a crash, and reads as no head
pub record IsGone (cell : Cell) : Type 0 where
  pub hurt : EndsHurt cell
  pub no_head : IsNoHead (head_read (read_of cell))

IsGone-hurt : (cell : Cell) → EndsHurt cell → IsGone cell
IsGone-hurt cell hurt = record {
  hurt = hurt;
  no_head = subst (λ (p : List ℕ). IsNoHead (head_read p)) (sym hurt.reads) (IsNoHead-unsealed hurt.bytes hurt.unsealed);
}

pub none_good : (read : HeadRead) → IsNoHead read → good_of read ≡ None
none_good read (inl blank) = ap good_of blank
none_good read (inr is) = ap good_of is.1.1

pub IsGone-none : (cell : Cell) → IsGone cell → good_of (head_read (read_of cell)) ≡ None
IsGone-none cell gone = none_good (head_read (read_of cell)) gone.no_head

-- what a copy may read as after a crash: the old head, the new one, or none
abbrev pub MayReadHead : Head → Head → Cell → Type 0
MayReadHead old new cell = (good_of (head_read (read_of cell)) ≡ Some old) ⊎ ((good_of (head_read (read_of cell)) ≡ Some new) ⊎ IsGone cell)

-- a copy that changes
pub MayReadHead-Trying : (old new : Head) (d crashed : DiskState) (place : ℕ) → IsHead old → IsHead new → IsDiskState d → MayCrashTo d crashed → Has (Trying (head_page old) (head_page new)) (d.cells place) → MayReadHead old new (crashed.cells place)
MayReadHead-Trying old new d crashed place old_is new_is disk crash has = elim (trying_or_hurt (head_page old) (head_page new) (d.cells place) (crashed.cells place) (ReadsUnsealed-disk d place disk) has (crash.each place)) [
  | inl is ↦ inl (good_of-head_page old (read_of (crashed.cells place)) old_is is)
  | inr other ↦ elim other [
    | inl is ↦ inr (inl (good_of-head_page new (read_of (crashed.cells place)) new_is is))
    | inr hurt ↦ inr (inr (IsGone-hurt (crashed.cells place) hurt))
  ]
]

-- a copy that stands reads as its head, or it was hurt
abbrev pub StandsOrHurt : Head → Cell → Cell → Type 0
StandsOrHurt h old new = (good_of (head_read (read_of new)) ≡ Some h) ⊎ StaysHurt old new

pub StandsOrHurt-Fixed : (h : Head) (d crashed : DiskState) (place : ℕ) → IsHead h → IsDiskState d → MayCrashTo d crashed → Has (Fixed (head_page h)) (d.cells place) → StandsOrHurt h (d.cells place) (crashed.cells place)
StandsOrHurt-Fixed h d crashed place is disk crash has = elim (fixed_or_hurt (head_page h) (d.cells place) (crashed.cells place) (ReadsUnsealed-disk d place disk) has (crash.each place)) [
  | inl same ↦ inl (good_of-head_page h (read_of (crashed.cells place)) is same)
  | inr hurt ↦ inr hurt
]

-- neither copy is a head, and one of them was hurt before
pub record AreGone (old new : DiskState) : Type 0 where
  pub first : IsGone (new.cells 0)
  pub second : IsGone (new.cells 1)
  pub place : ℕ
  pub low : place < 2
  pub was_hurt : IsHurt old place

-- the head that counts
abbrev pub counting : DiskState → Option Head
counting d = greater (good_of (head_read (read_at d 0))) (good_of (head_read (read_at d 1)))

-- one of two heads counts, or none
abbrev pub OneCounts : Head → Head → DiskState → DiskState → Type 0
OneCounts a b old new = (counting new ≡ Some a) ⊎ ((counting new ≡ Some b) ⊎ AreGone old new)

either_of : (test : Bool) (x y : Head) → (Some (cond test y x) ≡ Some x) ⊎ (Some (cond test y x) ≡ Some y)
either_of true x y = inr refl
either_of false x y = inl refl

-- of two copies that read as heads, the one or the other counts
greater_of : (a b : Option Head) (x y : Head) → a ≡ Some x → b ≡ Some y → (greater a b ≡ Some x) ⊎ (greater a b ≡ Some y)
greater_of a b x y first second =
    let is : greater a b ≡ Some (cond (ltb x.sequence y.sequence) y x) = ap (λ (o : Option Head). greater o b) first ∙ ap (greater (Some x)) second in
    elim (either_of (ltb x.sequence y.sequence) x y) [ inl same ↦ inl (is ∙ same) | inr same ↦ inr (is ∙ same) ]

greater_left : (a b : Option Head) (x : Head) → a ≡ Some x → b ≡ None → greater a b ≡ Some x
greater_left a b x first second = ap (λ (o : Option Head). greater o b) first ∙ ap (greater (Some x)) second

greater_right : (a b : Option Head) (y : Head) → a ≡ None → b ≡ Some y → greater a b ≡ Some y
greater_right a b y first second = ap (λ (o : Option Head). greater o b) first ∙ ap (greater None) second

-- while the first copy changes
pub OneCounts-first : (a b : Head) (old new : DiskState) → MayReadHead a b (new.cells 0) → StandsOrHurt a (old.cells 1) (new.cells 1) → OneCounts a b old new
OneCounts-first a b old new (inl x) (inl y) = elim (greater_of (good_of (head_read (read_at new 0))) (good_of (head_read (read_at new 1))) a a x y) [ inl is ↦ inl is | inr is ↦ inl is ]
OneCounts-first a b old new (inl x) (inr hurt) = inl (greater_left (good_of (head_read (read_at new 0))) (good_of (head_read (read_at new 1))) a x (IsGone-none (new.cells 1) (IsGone-hurt (new.cells 1) hurt.ends)))
OneCounts-first a b old new (inr (inl x)) (inl y) = elim (greater_of (good_of (head_read (read_at new 0))) (good_of (head_read (read_at new 1))) b a x y) [ inl is ↦ inr (inl is) | inr is ↦ inl is ]
OneCounts-first a b old new (inr (inl x)) (inr hurt) = inr (inl (greater_left (good_of (head_read (read_at new 0))) (good_of (head_read (read_at new 1))) b x (IsGone-none (new.cells 1) (IsGone-hurt (new.cells 1) hurt.ends))))
OneCounts-first a b old new (inr (inr gone)) (inl y) = inl (greater_right (good_of (head_read (read_at new 0))) (good_of (head_read (read_at new 1))) a (IsGone-none (new.cells 0) gone) y)
OneCounts-first a b old new (inr (inr gone)) (inr hurt) = inr (inr (record { first = gone; second = IsGone-hurt (new.cells 1) hurt.ends; place = 1; low = omega arith; was_hurt = (hurt.ends.bytes, hurt.was) }))

-- while the second copy changes
pub OneCounts-second : (a b : Head) (old new : DiskState) → StandsOrHurt b (old.cells 0) (new.cells 0) → MayReadHead a b (new.cells 1) → OneCounts a b old new
OneCounts-second a b old new (inl x) (inl y) = elim (greater_of (good_of (head_read (read_at new 0))) (good_of (head_read (read_at new 1))) b a x y) [ inl is ↦ inr (inl is) | inr is ↦ inl is ]
OneCounts-second a b old new (inl x) (inr (inl y)) = elim (greater_of (good_of (head_read (read_at new 0))) (good_of (head_read (read_at new 1))) b b x y) [ inl is ↦ inr (inl is) | inr is ↦ inr (inl is) ]
OneCounts-second a b old new (inl x) (inr (inr gone)) = inr (inl (greater_left (good_of (head_read (read_at new 0))) (good_of (head_read (read_at new 1))) b x (IsGone-none (new.cells 1) gone)))
OneCounts-second a b old new (inr hurt) (inl y) = inl (greater_right (good_of (head_read (read_at new 0))) (good_of (head_read (read_at new 1))) a (IsGone-none (new.cells 0) (IsGone-hurt (new.cells 0) hurt.ends)) y)
OneCounts-second a b old new (inr hurt) (inr (inl y)) = inr (inl (greater_right (good_of (head_read (read_at new 0))) (good_of (head_read (read_at new 1))) b (IsGone-none (new.cells 0) (IsGone-hurt (new.cells 0) hurt.ends)) y))
OneCounts-second a b old new (inr hurt) (inr (inr gone)) = inr (inr (record { first = IsGone-hurt (new.cells 0) hurt.ends; second = gone; place = 0; low = omega arith; was_hurt = (hurt.ends.bytes, hurt.was) }))

-- where both stand
pub OneCounts-both : (h : Head) (old new : DiskState) → StandsOrHurt h (old.cells 0) (new.cells 0) → StandsOrHurt h (old.cells 1) (new.cells 1) → (counting new ≡ Some h) ⊎ AreGone old new
OneCounts-both h old new (inl x) second = elim (OneCounts-first h h old new (inl x) second) [ inl is ↦ inl is | inr other ↦ other ]
OneCounts-both h old new (inr hurt) second = elim (OneCounts-first h h old new (inr (inr (IsGone-hurt (new.cells 0) hurt.ends))) second) [ inl is ↦ inl is | inr other ↦ other ]

-- ---- which head counts where both places were whole

-- what a copy may read as while it changes
abbrev pub CanBe : Head → Head → Option Head → Type 0
CanBe old new o = (o ≡ Some old) ⊎ ((o ≡ Some new) ⊎ (o ≡ None))

pub CanBe-read : (old new : Head) (page : List ℕ) → IsHead old → IsHead new → MayRead (head_page old) (head_page new) page → CanBe old new (good_of (head_read page))
CanBe-read old new page old_is new_is may = elim may [
  | inl is ↦ inl (good_of-head_page old page old_is is)
  | inr other ↦ elim other [
    | inl is ↦ inr (inl (good_of-head_page new page new_is is))
    | inr unsealed ↦ inr (inr (good_of-unsealed page unsealed))
  ]
]

-- of two equal ones it doesn't matter which
pub greater-same : (h : Head) (a b : Option Head) → a ≡ Some h → b ≡ Some h → greater a b ≡ Some h
greater-same h a b first second =
    ap (λ (o : Option Head). greater o b) first ∙ ap (greater (Some h)) second ∙ ap (λ (t : Bool). Some (cond t h h)) (le-ltb h.sequence h.sequence (omega arith))

-- while the first copy changes, the one or the other counts
pub greater-first : (old new : Head) (a b : Option Head) → old.sequence < new.sequence → CanBe old new a → b ≡ Some old → (greater a b ≡ Some old) ⊎ (greater a b ≡ Some new)
greater-first old new a b rises can second = elim can [
  | inl is ↦ inl (greater-same old a b is second)
  | inr other ↦ elim other [
    | inl is ↦ inr (ap (λ (o : Option Head). greater o b) is ∙ ap (greater (Some new)) second ∙ ap (λ (t : Bool). Some (cond t old new)) (le-ltb new.sequence old.sequence (omega arith)))
    | inr none ↦ inl (ap (λ (o : Option Head). greater o b) none ∙ ap (greater None) second)
  ]
]

-- while the second copy changes, the new one counts
pub greater-second : (old new : Head) (a b : Option Head) → old.sequence < new.sequence → a ≡ Some new → CanBe old new b → greater a b ≡ Some new
greater-second old new a b rises first can = elim can [
  | inl is ↦ ap (λ (o : Option Head). greater o b) first ∙ ap (greater (Some new)) is ∙ ap (λ (t : Bool). Some (cond t old new)) (le-ltb new.sequence old.sequence (omega arith))
  | inr other ↦ elim other [
    | inl is ↦ greater-same new a b first is
    | inr none ↦ ap (λ (o : Option Head). greater o b) first ∙ ap (greater (Some new)) none
  ]
]

-- while the first copy changes and the second stands, the one or the other counts
pub OneCounts-standing : (a b : Head) (new : DiskState) → MayReadHead a b (new.cells 0) → good_of (head_read (read_at new 1)) ≡ Some a → (counting new ≡ Some a) ⊎ (counting new ≡ Some b)
OneCounts-standing a b new (inl x) y = elim (greater_of (good_of (head_read (read_at new 0))) (good_of (head_read (read_at new 1))) a a x y) [ inl is ↦ inl is | inr is ↦ inl is ]
OneCounts-standing a b new (inr (inl x)) y = elim (greater_of (good_of (head_read (read_at new 0))) (good_of (head_read (read_at new 1))) b a x y) [ inl is ↦ inr is | inr is ↦ inl is ]
OneCounts-standing a b new (inr (inr gone)) y = inl (greater_right (good_of (head_read (read_at new 0))) (good_of (head_read (read_at new 1))) a (IsGone-none (new.cells 0) gone) y)

-- once the first copy was changed, the new head counts, or that copy was hurt
pub OneCounts-changed : (a b : Head) (old new : DiskState) → a.sequence < b.sequence → StandsOrHurt b (old.cells 0) (new.cells 0) → MayReadHead a b (new.cells 1) → (counting new ≡ Some b) ⊎ StaysHurt (old.cells 0) (new.cells 0)
OneCounts-changed a b old new rises (inr hurt) may = inr hurt
OneCounts-changed a b old new rises (inl first) may =
    let can : CanBe a b (good_of (head_read (read_at new 1))) = elim may [
      | inl is ↦ inl is
      | inr other ↦ elim other [ inl is ↦ inr (inl is) | inr gone ↦ inr (inr (IsGone-none (new.cells 1) gone)) ]
    ] in
    inl (greater-second a b (good_of (head_read (read_at new 0))) (good_of (head_read (read_at new 1))) rises first can)
