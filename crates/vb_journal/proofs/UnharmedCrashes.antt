-- Where each place that counts is whole, each crash recovers wholly, at each stage of a commit and at rest.
use Rattle.std.proofs.Common.{◌≡◌, ℕ, ◌+◌, ◌<◌, ◌≤◌, List, [], length, Some, None, refl, sym, subst, ◌∙◌, ◌⊎◌, inl, inr, arith}
use Rattle.vb_disk.specs.Crashes.{MayCrashTo}
use Rattle.vb_disk.specs.States.{DiskState, IsDiskState, read_at}
use Rattle.vb_head.specs.declared.head.Head.{Head}
use Rattle.vb_head.specs.declared.head.State.TheVariants.{Closed}
use Rattle.vb_head.specs.Heads.{IsHead, IsInRange, head_page, head_read}
use Rattle.vb_journal.specs.declared.commit_stage.Stage.{Stage}
use Rattle.vb_journal.specs.declared.commit_stage.Stage.TheVariants.{Journal, Opening, Homes, Closing, Rested}
use Rattle.vb_journal.specs.declared.commit_stage.Turn.TheVariants.{First, FirstSync, Second, SecondSync}
use Rattle.vb_journal.specs.Images.{image_at, slot_of}
use Rattle.vb_journal.specs.Outcomes.{RecoversWholly}
use Rattle.vb_journal.specs.Plans.{CanCommit, CanGoOn, closed_head, opened_head}
use Rattle.vb_journal.specs.Progress.{EachCrashRecoversWholly, Fixed, Has, IsAtRest, IsCommitting, IsUnharmed, IsUnnamed, IsWholeAt, Trying, new_images}
use Rattle.vb_journal.specs.Shown.{good_of}
use Rattle.vb_journal.proofs.AfterCrashes.{Crash, after_counts, before_counts, closed_counts, crash_at, fits_head, home_is, journal_counts, large, reads_or_hurt}
use Rattle.vb_journal.proofs.Found.{Counts, journal_read}
use Rattle.vb_journal.proofs.Heads.{MayReadHead-Trying, OneCounts-changed, OneCounts-standing, StandsOrHurt-Fixed, counting}
use Rattle.vb_journal.proofs.Overlays.{named_or_not}
use Rattle.vb_journal.proofs.TriedCells.{Trying-from_Fixed, Trying-from_Tried}
use Rattle.vb_journal.proofs.Unharmed.{whole_found}

-- the homes of the images, and the others, are all of them
all_homes : (head : Head) (images : List (List ℕ)) (d : DiskState) → ((i : ℕ) → i < length images → IsWholeAt d (2 + slot_of (image_at images i))) → ((slot : ℕ) → slot < head.nodes → IsUnnamed images slot → IsWholeAt d (2 + slot)) → (slot : ℕ) → slot < head.nodes → IsWholeAt d (2 + slot)
all_homes head images d named others slot within = elim (named_or_not images slot) [
  | inl is ↦ subst (λ (s : ℕ). IsWholeAt d (2 + s)) is.is (named is.at is.within)
  | inr unnamed ↦ others slot within unnamed
]

-- ---- the heads

-- a whole copy that stands reads as its head
stands : (h : Head) (d new : DiskState) (place : ℕ) → IsHead h → IsDiskState d → MayCrashTo d new → IsWholeAt d place → Has (Fixed (head_page h)) (d.cells place) → good_of (head_read (read_at new place)) ≡ Some h
stands h d new place is disk crash whole has = elim (StandsOrHurt-Fixed h d new place is disk crash has) [
  | inl reads ↦ reads
  | inr hurt ↦ absurd (let was = hurt.was in cc)
]

-- while the first copy changes
either_counts : (a b : Head) (d new : DiskState) → IsHead a → IsHead b → IsDiskState d → MayCrashTo d new → IsWholeAt d 1 → Has (Trying (head_page a) (head_page b)) (d.cells 0) → Has (Fixed (head_page a)) (d.cells 1) → (counting new ≡ Some a) ⊎ (counting new ≡ Some b)
either_counts a b d new is_a is_b disk crash whole first second =
    OneCounts-standing a b new (MayReadHead-Trying a b d new 0 is_a is_b disk crash first) (stands a d new 1 is_a disk crash whole second)

-- where both copies are of one head
same_counts : (h : Head) (d new : DiskState) → IsHead h → IsDiskState d → MayCrashTo d new → IsWholeAt d 1 → Has (Fixed (head_page h)) (d.cells 0) → Has (Fixed (head_page h)) (d.cells 1) → counting new ≡ Some h
same_counts h d new is disk crash whole first second = elim (either_counts h h d new is is disk crash whole (Trying-from_Fixed (head_page h) (head_page h) (d.cells 0) first) second) [ inl counts ↦ counts | inr counts ↦ counts ]

-- while the second copy changes, and the first is whole
changed_counts : (a b : Head) (d new : DiskState) → IsHead a → IsHead b → a.sequence < b.sequence → IsDiskState d → MayCrashTo d new → IsWholeAt d 0 → Has (Fixed (head_page b)) (d.cells 0) → Has (Trying (head_page a) (head_page b)) (d.cells 1) → counting new ≡ Some b
changed_counts a b d new is_a is_b rises disk crash whole first second =
    elim (OneCounts-changed a b d new rises (StandsOrHurt-Fixed b d new 0 is_b disk crash first) (MayReadHead-Trying a b d new 1 is_a is_b disk crash second)) [
      | inl counts ↦ counts
      | inr hurt ↦ absurd (let was = hurt.was in cc)
    ]

-- ---- a store at rest

pub RecoversWholly-rest : (head : Head) (homes journal : ℕ → List ℕ) (d new : DiskState) → IsInRange head → head.state ≡ Closed → IsDiskState d → IsAtRest head homes journal d → IsUnharmed head [] Rested d → MayCrashTo d new → RecoversWholly new head homes
RecoversWholly-rest head homes journal d new range closed disk is u crash =
    let is_head : IsHead head = record { range = range; id_length = is.id } in
    let big : 38 ≤ new.size = (let space = range.space in let low = range.nodes_low in let same = is.size in let stays = crash.size in omega arith) in
    let counts = same_counts head d new is_head disk crash (u.heads 0 0 (omega arith)) is.first is.second in
    whole_found d new head homes (λ slot within. u.others slot within (λ i none. absurd (omega arith)))
    (closed_counts head d new homes big counts closed (sym is.size ∙ sym crash.size) (λ slot within. home_is (homes slot) d new slot disk crash (is.each_home slot within)))

-- ---- in the midst of a commit

-- the same disk with no place hurt
unhurt : DiskState → DiskState
unhurt d = record d { cells = λ place. record (d.cells place) { hurt = None } }

-- where the opened head counts, the homes that an image is for don't
opened_wholly : (head : Head) (epoch : ℕ) (images : List (List ℕ)) (homes : ℕ → List ℕ) (d new : DiskState) → Crash head epoch images homes d new → counting new ≡ Some (opened_head head epoch images) → ((i : ℕ) → i < length images → Has (Fixed (image_at images i)) (d.cells (2 + head.nodes + i))) → ((i : ℕ) → i < length images → IsWholeAt d (2 + head.nodes + i)) → ((slot : ℕ) → slot < head.nodes → IsUnnamed images slot → IsWholeAt d (2 + slot)) → RecoversWholly new (closed_head head epoch) (new_images images homes)
unfolding unhurt
opened_wholly head epoch images homes d new c counts journal front others =
    let known : Counts new (opened_head head epoch images) = record {
      large = large head epoch images homes d new c;
      is = counts;
      fits = fits_head head epoch images homes d new c;
      made = refl;
    } in
    elim (journal_read head.nodes (2 + head.nodes) d new images c.can.images_are (λ i within. reads_or_hurt (image_at images i) d new (2 + head.nodes + i) c.disk c.crash (journal i within))) [
      | inl read ↦ whole_found (unhurt d) new (closed_head head epoch) (new_images images homes) (λ slot within. refl)
          (journal_counts head epoch images homes (unhurt d) d new c (λ slot within unnamed. sym (others slot within unnamed)) known read.0 read.1)
      | inr hurt ↦ absurd (let whole = front hurt.at hurt.within in let was = hurt.hurt.was in cc)
    ]

-- while the first head is opened
while_first : (head : Head) (epoch : ℕ) (images : List (List ℕ)) (homes : ℕ → List ℕ) (d new : DiskState) → CanCommit head epoch images → Crash head epoch images homes d new → IsWholeAt d 1 → ((i : ℕ) → i < length images → IsWholeAt d (2 + head.nodes + i)) → ((i : ℕ) → i < length images → IsWholeAt d (2 + slot_of (image_at images i))) → ((slot : ℕ) → slot < head.nodes → IsUnnamed images slot → IsWholeAt d (2 + slot)) → ((i : ℕ) → i < length images → Has (Fixed (image_at images i)) (d.cells (2 + head.nodes + i))) → ((i : ℕ) → i < length images → Has (Fixed (homes (slot_of (image_at images i)))) (d.cells (2 + slot_of (image_at images i)))) → Has (Trying (head_page head) (head_page (opened_head head epoch images))) (d.cells 0) → Has (Fixed (head_page head)) (d.cells 1) → RecoversWholly new head homes ⊎ RecoversWholly new (closed_head head epoch) (new_images images homes)
while_first head epoch images homes d new early c whole front named others journal home first second =
    let before : IsHead head = record { range = early.range; id_length = c.id } in
    let opened : IsHead (opened_head head epoch images) = record { range = c.can.opened; id_length = c.id } in
    elim (either_counts head (opened_head head epoch images) d new before opened c.disk c.crash whole first second) [
      | inl old ↦ inl (whole_found d new head homes (all_homes head images d named others) (before_counts head epoch images homes d new c early.closed old home))
      | inr fresh ↦ inr (opened_wholly head epoch images homes d new c fresh journal front others)
    ]

-- while the second is
while_second : (head : Head) (epoch : ℕ) (images : List (List ℕ)) (homes : ℕ → List ℕ) (d new : DiskState) → CanCommit head epoch images → Crash head epoch images homes d new → IsWholeAt d 0 → ((i : ℕ) → i < length images → IsWholeAt d (2 + head.nodes + i)) → ((slot : ℕ) → slot < head.nodes → IsUnnamed images slot → IsWholeAt d (2 + slot)) → ((i : ℕ) → i < length images → Has (Fixed (image_at images i)) (d.cells (2 + head.nodes + i))) → Has (Fixed (head_page (opened_head head epoch images))) (d.cells 0) → Has (Trying (head_page head) (head_page (opened_head head epoch images))) (d.cells 1) → RecoversWholly new (closed_head head epoch) (new_images images homes)
while_second head epoch images homes d new early c whole front others journal first second =
    let before : IsHead head = record { range = early.range; id_length = c.id } in
    let opened : IsHead (opened_head head epoch images) = record { range = c.can.opened; id_length = c.id } in
    let rises : head.sequence < head.sequence + 1 = omega arith in
    opened_wholly head epoch images homes d new c (changed_counts head (opened_head head epoch images) d new before opened rises c.disk c.crash whole first second) journal front others

-- once the closed head counts
closed_wholly : (head : Head) (epoch : ℕ) (images : List (List ℕ)) (homes : ℕ → List ℕ) (d new : DiskState) → Crash head epoch images homes d new → counting new ≡ Some (closed_head head epoch) → ((i : ℕ) → i < length images → IsWholeAt d (2 + slot_of (image_at images i))) → ((slot : ℕ) → slot < head.nodes → IsUnnamed images slot → IsWholeAt d (2 + slot)) → ((i : ℕ) → i < length images → Has (Fixed (image_at images i)) (d.cells (2 + slot_of (image_at images i)))) → RecoversWholly new (closed_head head epoch) (new_images images homes)
closed_wholly head epoch images homes d new c counts named others home =
    whole_found d new (closed_head head epoch) (new_images images homes) (all_homes head images d named others) (after_counts head epoch images homes d new c counts home)

-- while the first head is closed
while_third : (head : Head) (epoch : ℕ) (images : List (List ℕ)) (homes : ℕ → List ℕ) (d new : DiskState) → Crash head epoch images homes d new → IsWholeAt d 1 → ((i : ℕ) → i < length images → IsWholeAt d (2 + head.nodes + i)) → ((i : ℕ) → i < length images → IsWholeAt d (2 + slot_of (image_at images i))) → ((slot : ℕ) → slot < head.nodes → IsUnnamed images slot → IsWholeAt d (2 + slot)) → ((i : ℕ) → i < length images → Has (Fixed (image_at images i)) (d.cells (2 + head.nodes + i))) → ((i : ℕ) → i < length images → Has (Fixed (image_at images i)) (d.cells (2 + slot_of (image_at images i)))) → Has (Trying (head_page (opened_head head epoch images)) (head_page (closed_head head epoch))) (d.cells 0) → Has (Fixed (head_page (opened_head head epoch images))) (d.cells 1) → RecoversWholly new (closed_head head epoch) (new_images images homes)
while_third head epoch images homes d new c whole front named others journal home first second =
    let opened : IsHead (opened_head head epoch images) = record { range = c.can.opened; id_length = c.id } in
    let closed : IsHead (closed_head head epoch) = record { range = c.can.closed; id_length = c.id } in
    elim (either_counts (opened_head head epoch images) (closed_head head epoch) d new opened closed c.disk c.crash whole first second) [
      | inl old ↦ opened_wholly head epoch images homes d new c old journal front others
      | inr fresh ↦ closed_wholly head epoch images homes d new c fresh named others home
    ]

-- while the second is
while_fourth : (head : Head) (epoch : ℕ) (images : List (List ℕ)) (homes : ℕ → List ℕ) (d new : DiskState) → Crash head epoch images homes d new → IsWholeAt d 0 → ((i : ℕ) → i < length images → IsWholeAt d (2 + slot_of (image_at images i))) → ((slot : ℕ) → slot < head.nodes → IsUnnamed images slot → IsWholeAt d (2 + slot)) → ((i : ℕ) → i < length images → Has (Fixed (image_at images i)) (d.cells (2 + slot_of (image_at images i)))) → Has (Fixed (head_page (closed_head head epoch))) (d.cells 0) → Has (Trying (head_page (opened_head head epoch images)) (head_page (closed_head head epoch))) (d.cells 1) → RecoversWholly new (closed_head head epoch) (new_images images homes)
while_fourth head epoch images homes d new c whole named others home first second =
    let opened : IsHead (opened_head head epoch images) = record { range = c.can.opened; id_length = c.id } in
    let closed : IsHead (closed_head head epoch) = record { range = c.can.closed; id_length = c.id } in
    let rises : head.sequence + 1 < head.sequence + 2 = omega arith in
    closed_wholly head epoch images homes d new c (changed_counts (opened_head head epoch images) (closed_head head epoch) d new opened closed rises c.disk c.crash whole first second) named others home

pub EachCrashRecoversWholly-stage : (head : Head) (epoch : ℕ) (images : List (List ℕ)) (homes journal : ℕ → List ℕ) (stage : Stage) (d : DiskState) → CanGoOn head epoch images stage → IsDiskState d → IsCommitting head epoch images homes journal stage d → IsUnharmed head images stage d → EachCrashRecoversWholly head epoch images homes stage d
EachCrashRecoversWholly-stage head epoch images homes journal (Journal next) d can disk is u new crash =
    let early : CanCommit head epoch images = can.early refl in
    let before : IsHead head = record { range = early.range; id_length = is.id } in
    let c = crash_at head epoch images homes journal (Journal next) d new can.finish disk is crash in
    inl (whole_found d new head homes (all_homes head images d (λ i within. u.at_home i within within) u.others)
    (before_counts head epoch images homes d new c early.closed (same_counts head d new before disk crash (u.heads 0 0 (omega arith)) is.first is.second) is.at_home))
EachCrashRecoversWholly-stage head epoch images homes journal (Opening First) d can disk is u new crash =
    while_first head epoch images homes d new (can.early refl) (crash_at head epoch images homes journal (Opening First) d new can.finish disk is crash) (u.heads 0 0 (omega arith)) u.in_journal (λ i within. u.at_home i within within) u.others is.in_journal is.at_home is.first is.second
EachCrashRecoversWholly-stage head epoch images homes journal (Opening FirstSync) d can disk is u new crash =
    while_first head epoch images homes d new (can.early refl) (crash_at head epoch images homes journal (Opening FirstSync) d new can.finish disk is crash) (u.heads 1 0 (omega arith)) u.in_journal (λ i within. u.at_home i within within) u.others is.in_journal is.at_home (Trying-from_Tried (head_page head) (head_page (opened_head head epoch images)) (d.cells 0) is.first) is.second
EachCrashRecoversWholly-stage head epoch images homes journal (Opening Second) d can disk is u new crash =
    inr (while_second head epoch images homes d new (can.early refl) (crash_at head epoch images homes journal (Opening Second) d new can.finish disk is crash) (u.heads 0 0 (omega arith)) u.in_journal u.others is.in_journal is.first is.second)
EachCrashRecoversWholly-stage head epoch images homes journal (Opening SecondSync) d can disk is u new crash =
    inr (while_second head epoch images homes d new (can.early refl) (crash_at head epoch images homes journal (Opening SecondSync) d new can.finish disk is crash) (u.heads 0 0 (omega arith)) u.in_journal u.others is.in_journal is.first (Trying-from_Tried (head_page head) (head_page (opened_head head epoch images)) (d.cells 1) is.second))
EachCrashRecoversWholly-stage head epoch images homes journal (Homes next) d can disk is u new crash =
    let opened : IsHead (opened_head head epoch images) = record { range = can.finish.opened; id_length = is.id } in
    opened_wholly head epoch images homes d new (crash_at head epoch images homes journal (Homes next) d new can.finish disk is crash) (same_counts (opened_head head epoch images) d new opened disk crash (u.heads 0 0 (omega arith)) is.first is.second) is.in_journal u.in_journal u.others
EachCrashRecoversWholly-stage head epoch images homes journal (Closing First) d can disk is u new crash =
    while_third head epoch images homes d new (crash_at head epoch images homes journal (Closing First) d new can.finish disk is crash) (u.heads 0 0 (omega arith)) u.in_journal (λ i within. u.at_home i within within) u.others is.in_journal is.at_home is.first is.second
EachCrashRecoversWholly-stage head epoch images homes journal (Closing FirstSync) d can disk is u new crash =
    while_third head epoch images homes d new (crash_at head epoch images homes journal (Closing FirstSync) d new can.finish disk is crash) (u.heads 1 0 (omega arith)) u.in_journal (λ i within. u.at_home i within within) u.others is.in_journal is.at_home (Trying-from_Tried (head_page (opened_head head epoch images)) (head_page (closed_head head epoch)) (d.cells 0) is.first) is.second
EachCrashRecoversWholly-stage head epoch images homes journal (Closing Second) d can disk is u new crash =
    while_fourth head epoch images homes d new (crash_at head epoch images homes journal (Closing Second) d new can.finish disk is crash) (u.heads 0 0 (omega arith)) (λ i within. u.at_home i within within) u.others is.at_home is.first is.second
EachCrashRecoversWholly-stage head epoch images homes journal (Closing SecondSync) d can disk is u new crash =
    while_fourth head epoch images homes d new (crash_at head epoch images homes journal (Closing SecondSync) d new can.finish disk is crash) (u.heads 0 0 (omega arith)) (λ i within. u.at_home i within within) u.others is.at_home is.first (Trying-from_Tried (head_page (opened_head head epoch images)) (head_page (closed_head head epoch)) (d.cells 1) is.second)
EachCrashRecoversWholly-stage head epoch images homes journal Rested d can disk is u new crash =
    let closed : IsHead (closed_head head epoch) = record { range = can.finish.closed; id_length = is.id } in
    closed_wholly head epoch images homes d new (crash_at head epoch images homes journal Rested d new can.finish disk is crash) (same_counts (closed_head head epoch) d new closed disk crash (u.heads 0 0 (omega arith)) is.first is.second) (λ i within. u.at_home i within within) u.others is.at_home
