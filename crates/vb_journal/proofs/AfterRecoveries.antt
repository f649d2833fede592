-- What a crash leaves at each stage of a recovery.
use Rattle.std.proofs.Common.{◌≡◌, ℕ, ◌+◌, ◌<◌, true, eqb, List, [], length, Some, None, Result, Ok, refl, sym, ap, subst, ◌∙◌, ◌⊎◌, inl, inr, arith}
use Rattle.vb_disk.specs.Crashes.{MayCrashTo}
use Rattle.vb_disk.specs.States.{DiskState, read_at}
use Rattle.vb_head.specs.declared.head.Head.{Head}
use Rattle.vb_head.specs.declared.head.State.{State}
use Rattle.vb_head.specs.declared.head.State.TheVariants.{Closed, Opened, Rebuilding}
use Rattle.vb_head.specs.Heads.{IsHead, count_of, head_page, head_read}
use Rattle.vb_journal.specs.declared.commit_stage.Stage.{Stage}
use Rattle.vb_journal.specs.declared.commit_stage.Stage.TheVariants.{Journal, Opening, Homes, Closing, Rested}
use Rattle.vb_journal.specs.declared.commit_stage.Turn.TheVariants.{First, FirstSync, Second, SecondSync}
use Rattle.vb_journal.specs.declared.recover_error.RecoverError.{RecoverError}
use Rattle.vb_journal.specs.declared.recover_stage.RecoverStage.{RecoverStage}
use Rattle.vb_journal.specs.declared.recover_stage.RecoverStage.TheVariants.{Ask, Settle, ReadFirst, ReadSecond, Mend, SettleMend, ReadImage, Replay, Ready, Refused}
use Rattle.vb_journal.specs.Images.{AreImages, image_at, slot_of}
use Rattle.vb_journal.specs.Plans.{closed_head, opened_head}
use Rattle.vb_journal.specs.Progress.{Fixed, Has, IsUnnamed, Trying}
use Rattle.vb_journal.specs.Recoveries.{Recovered, choice_of, images_refusal, is_rebuilding, journal_of, journal_place, journal_refusal, node_image, node_images, recovered_from, recovery_of, settled_from, settled_head}
use Rattle.vb_journal.specs.Outcomes.{reads_of, recovery_on}
use Rattle.vb_journal.specs.Recovering.{EachRecovers, IsRecovered, IsRecovering, IsReplaying, StandsFrom}
use Rattle.vb_journal.specs.Replays.{is_late}
use Rattle.vb_journal.specs.Shown.{good_of, greater, image_over, pages_from}
use Rattle.vb_journal.proofs.Choices.{IsChosen-from, head_choice-chosen}
use Rattle.vb_journal.proofs.Heads.{CanBe, CanBe-read, good_of-head_page, greater-first, greater-same, greater-second}
use Rattle.vb_journal.proofs.Mended.{crashed-both, crashed-mending, crashed-whole, mending-again}
use Rattle.vb_journal.proofs.Overlays.{image_over-named, image_over-unnamed, named_or_not}
use Rattle.vb_journal.proofs.RecoveredHomes.{recovered-reads, recovered-settled}
use Rattle.vb_journal.proofs.Replays.{recovered-rested}
use Rattle.vb_journal.proofs.SameRecoveries.{choice_of-same, nodes_from-same, pages_from-same, recovered_from-same, recovery_of-chosen, recovery_on-same}
use Rattle.vb_journal.proofs.Settled.{crashed-stands, crashed-synced, read_of-crashed}
use Rattle.vb_journal.proofs.TriedCells.{MayRead-Trying, Trying-from_Tried, read-Fixed}

-- ---- closed heads

-- what a closed head settles to has its size, and is closed
settled_blocks : (head : Head) (state : State) → (settled_from head state).blocks ≡ head.blocks
settled_blocks head Closed = refl
settled_blocks head (Opened count) = refl
settled_blocks head Rebuilding = refl

settled_nodes : (head : Head) (state : State) → (settled_from head state).nodes ≡ head.nodes
settled_nodes head Closed = refl
settled_nodes head (Opened count) = refl
settled_nodes head Rebuilding = refl

-- where a closed head counts that the chosen one settles to, and each home reads as the image of its node, the same
-- is recovered
pub closed-recovers : (begun new : DiskState) (chosen head : Head) → choice_of begun.size (reads_of begun) ≡ Ok chosen → journal_refusal (reads_of begun) chosen ≡ None → settled_head chosen ≡ head → head.state ≡ Closed → new.size ≡ begun.size → greater (good_of (head_read (read_at new 0))) (good_of (head_read (read_at new 1))) ≡ Some head → ((slot : ℕ) → slot < head.nodes → read_at new (2 + slot) ≡ node_image (reads_of begun) chosen slot) → recovery_on new ≡ recovery_on begun
closed-recovers begun new chosen head counts accepted settles closed size greatest homes =
    let was = IsChosen-from begun.size (head_read (read_at begun 0)) (head_read (read_at begun 1)) chosen counts in
    let blocks : chosen.blocks ≡ head.blocks = sym (settled_blocks chosen chosen.state) ∙ ap (λ (h : Head). h.blocks) settles in
    let nodes : chosen.nodes ≡ head.nodes = sym (settled_nodes chosen chosen.state) ∙ ap (λ (h : Head). h.nodes) settles in
    let choice = head_choice-chosen begun.size (head_read (read_at new 0)) (head_read (read_at new 1)) head (record {
      enough = was.enough;
      greatest = greatest;
      fits = ap (λ (n : ℕ). eqb n begun.size) (sym blocks) ∙ was.fits;
      made = ap is_rebuilding closed;
    }) in
    let no_images : journal_of (reads_of new) head ≡ [] = ap (λ (s : State). pages_from (reads_of new) (journal_place head) (count_of s)) closed in
    let itself : settled_head head ≡ head = ap (settled_from head) closed in
    let images : node_images (reads_of new) head ≡ node_images (reads_of begun) chosen =
    nodes_from-same (node_image (reads_of new) head) (node_image (reads_of begun) chosen) head.nodes (λ slot within.
    ap (λ (l : List (List ℕ)). image_over l slot (read_at new (2 + slot))) no_images ∙ homes slot within)
    ∙ ap (pages_from (node_image (reads_of begun) chosen) 0) (sym nodes) in
    let found : Head → List (List ℕ) → Result Recovered RecoverError = λ h l. Ok (record { head = h; images = l }) in
    ap (λ (n : ℕ). recovery_of n (reads_of new)) size
    ∙ recovery_of-chosen begun.size (reads_of new) (Ok head) choice
    ∙ ap (λ (l : List (List ℕ)). recovered_from (reads_of new) head (images_refusal head.nodes (journal_place head) [] l)) no_images
    ∙ ap (λ (h : Head). found h (node_images (reads_of new) head)) (itself ∙ sym settles)
    ∙ ap (found (settled_head chosen)) images
    ∙ sym (ap (recovered_from (reads_of begun) chosen) accepted)
    ∙ sym (recovery_of-chosen begun.size (reads_of begun) (Ok chosen) counts)

-- a store that was recovered
crashed_recovered : (begun : DiskState) (head : Head) (d new : DiskState) → IsRecovered begun head d → MayCrashTo d new → recovery_on new ≡ recovery_on begun
crashed_recovered begun head d new is crash =
    closed-recovers begun new is.chosen head is.counts is.accepted is.settles is.closed (crash.size ∙ is.size)
    (greater-same head (good_of (head_read (read_at new 0))) (good_of (head_read (read_at new 1)))
    (good_of-head_page head (read_at new 0) is.is (crashed-whole d new 0 (head_page head) is.first crash))
    (good_of-head_page head (read_at new 1) is.is (crashed-whole d new 1 (head_page head) is.second crash)))
    (λ slot within. read_of-crashed (d.cells (2 + slot)) (new.cells (2 + slot)) (recovered-settled begun head d is slot within) (crash.each (2 + slot)) ∙ recovered-reads begun head d is slot within)

-- ---- a replay

-- the parts of a replay that a crash is judged by
record IsCrashed (begun : DiskState) (before : Head) (epoch : ℕ) (images : List (List ℕ)) (stage : Stage) (d new : DiskState) : Type 0 where
  pub is : IsReplaying begun before epoch images stage d
  pub images_are : AreImages before.nodes images
  pub closed_is : IsHead (closed_head before epoch)
  pub crash : MayCrashTo d new

-- the journal reads as before
journal_stands : (begun : DiskState) (before : Head) (epoch : ℕ) (images : List (List ℕ)) (stage : Stage) (d new : DiskState) → IsCrashed begun before epoch images stage d new → journal_of (reads_of new) (opened_head before epoch images) ≡ images
journal_stands begun before epoch images stage d new c =
    pages_from-same (reads_of new) (reads_of begun) (journal_place before) (length images) (λ i within. crashed-synced (journal_place before + i) begun d new (c.is.whole.others_stand (journal_place before + i) (omega arith)) c.crash)
    ∙ c.is.images_are

-- so do homes that no image is for
other_stands : (begun : DiskState) (before : Head) (epoch : ℕ) (images : List (List ℕ)) (stage : Stage) (d new : DiskState) → IsCrashed begun before epoch images stage d new → (slot : ℕ) → slot < before.nodes → IsUnnamed images slot → read_at new (2 + slot) ≡ read_at begun (2 + slot)
other_stands begun before epoch images stage d new c slot within unnamed = crashed-synced (2 + slot) begun d new (c.is.whole.homes_stand slot within unnamed) c.crash

-- the image of a node when the recovery began
node_was : (begun : DiskState) (before : Head) (epoch : ℕ) (images : List (List ℕ)) (stage : Stage) (d new : DiskState) → IsCrashed begun before epoch images stage d new → (slot : ℕ) → node_image (reads_of begun) (opened_head before epoch images) slot ≡ image_over images slot (read_at begun (2 + slot))
node_was begun before epoch images stage d new c slot = ap (λ (l : List (List ℕ)). image_over l slot (read_at begun (2 + slot))) c.is.images_are

-- where the opened head counts
opened_recovers : (begun : DiskState) (before : Head) (epoch : ℕ) (images : List (List ℕ)) (stage : Stage) (d new : DiskState) → IsCrashed begun before epoch images stage d new → greater (good_of (head_read (read_at new 0))) (good_of (head_read (read_at new 1))) ≡ Some (opened_head before epoch images) → recovery_on new ≡ recovery_on begun
opened_recovers begun before epoch images stage d new c greatest =
    let head = opened_head before epoch images in
    let was = IsChosen-from begun.size (head_read (read_at begun 0)) (head_read (read_at begun 1)) head c.is.counts in
    let choice = head_choice-chosen begun.size (head_read (read_at new 0)) (head_read (read_at new 1)) head (record { enough = was.enough; greatest = greatest; fits = was.fits; made = was.made }) in
    let journal = journal_stands begun before epoch images stage d new c in
    ap (λ (n : ℕ). recovery_of n (reads_of new)) (c.crash.size ∙ c.is.whole.size)
    ∙ recovery_of-chosen begun.size (reads_of new) (Ok head) choice
    ∙ recovered_from-same (reads_of new) (reads_of begun) head (journal ∙ sym c.is.images_are) (λ slot within.
    ap (λ (l : List (List ℕ)). image_over l slot (read_at new (2 + slot))) journal
    ∙ elim (named_or_not images slot) [
      | inl named ↦ image_over-named images slot named.at (read_at new (2 + slot)) c.images_are.distinct named.within named.is ∙ sym (image_over-named images slot named.at (read_at begun (2 + slot)) c.images_are.distinct named.within named.is)
      | inr unnamed ↦ ap (image_over images slot) (other_stands begun before epoch images stage d new c slot within unnamed)
    ]
    ∙ sym (node_was begun before epoch images stage d new c slot))
    ∙ sym (recovery_of-chosen begun.size (reads_of begun) (Ok head) c.is.counts)

-- where the closed one does, behind homes that hold the images
closed_recovers : (begun : DiskState) (before : Head) (epoch : ℕ) (images : List (List ℕ)) (stage : Stage) (d new : DiskState) → IsCrashed begun before epoch images stage d new → ((i : ℕ) → i < length images → read_at new (2 + slot_of (image_at images i)) ≡ image_at images i) → greater (good_of (head_read (read_at new 0))) (good_of (head_read (read_at new 1))) ≡ Some (closed_head before epoch) → recovery_on new ≡ recovery_on begun
closed_recovers begun before epoch images stage d new c home greatest =
    let settles : settled_head (opened_head before epoch images) ≡ closed_head before epoch = (let two : before.sequence + 1 + 1 ≡ before.sequence + 2 = omega arith in ap (λ (n : ℕ). let h : Head = record before { sequence = n; epoch = epoch; state = Closed } in h) two) in
    closed-recovers begun new (opened_head before epoch images) (closed_head before epoch) c.is.counts c.is.accepted settles refl (c.crash.size ∙ c.is.whole.size) greatest (λ slot within.
    elim (named_or_not images slot) [
      | inl named ↦ ap (λ (n : ℕ). read_at new (2 + n)) (sym named.is) ∙ home named.at named.within ∙ sym (image_over-named images slot named.at (read_at begun (2 + slot)) c.images_are.distinct named.within named.is)
      | inr unnamed ↦ other_stands begun before epoch images stage d new c slot within unnamed ∙ sym (image_over-unnamed images slot (read_at begun (2 + slot)) unnamed)
    ]
    ∙ sym (node_was begun before epoch images stage d new c slot))

-- a whole copy that stands reads as its head, and one that changes as the old or the new one, or as none
fixed_copy : (h : Head) (d new : DiskState) (place : ℕ) → IsHead h → MayCrashTo d new → (d.cells place).hurt ≡ None → Has (Fixed (head_page h)) (d.cells place) → good_of (head_read (read_at new place)) ≡ Some h
fixed_copy h d new place is crash whole has = good_of-head_page h (read_at new place) is (read-Fixed (head_page h) (d.cells place) (new.cells place) whole has (crash.each place))

trying_copy : (old fresh : Head) (d new : DiskState) (place : ℕ) → IsHead old → IsHead fresh → MayCrashTo d new → (d.cells place).hurt ≡ None → Has (Trying (head_page old) (head_page fresh)) (d.cells place) → CanBe old fresh (good_of (head_read (read_at new place)))
trying_copy old fresh d new place old_is fresh_is crash whole has = CanBe-read old fresh (read_at new place) old_is fresh_is (MayRead-Trying (head_page old) (head_page fresh) (d.cells place) (new.cells place) whole has (crash.each place))

-- homes that hold the images read as them
homes_read : (begun : DiskState) (before : Head) (epoch : ℕ) (images : List (List ℕ)) (stage : Stage) (d new : DiskState) → MayCrashTo d new → ((i : ℕ) → i < length images → (d.cells (2 + slot_of (image_at images i))).hurt ≡ None) → ((i : ℕ) → i < length images → Has (Fixed (image_at images i)) (d.cells (2 + slot_of (image_at images i)))) → (i : ℕ) → i < length images → read_at new (2 + slot_of (image_at images i)) ≡ image_at images i
homes_read begun before epoch images stage d new crash whole has i within =
    let place = 2 + slot_of (image_at images i) in
    read-Fixed (image_at images i) (d.cells place) (new.cells place) (whole i within) (has i within) (crash.each place)

-- while the first closed head is written
first_closing : (begun : DiskState) (before : Head) (epoch : ℕ) (images : List (List ℕ)) (stage : Stage) (d new : DiskState) → IsCrashed begun before epoch images stage d new → ((i : ℕ) → i < length images → read_at new (2 + slot_of (image_at images i)) ≡ image_at images i) → Has (Trying (head_page (opened_head before epoch images)) (head_page (closed_head before epoch))) (d.cells 0) → Has (Fixed (head_page (opened_head before epoch images))) (d.cells 1) → recovery_on new ≡ recovery_on begun
first_closing begun before epoch images stage d new c home first second =
    let opened = opened_head before epoch images in
    let closed = closed_head before epoch in
    elim (greater-first opened closed (good_of (head_read (read_at new 0))) (good_of (head_read (read_at new 1))) (omega arith) (trying_copy opened closed d new 0 c.is.is c.closed_is c.crash c.is.whole.first first) (fixed_copy opened d new 1 c.is.is c.crash c.is.whole.second second)) [
      | inl old ↦ opened_recovers begun before epoch images stage d new c old
      | inr fresh ↦ closed_recovers begun before epoch images stage d new c home fresh
    ]

-- while the second one is
second_closing : (begun : DiskState) (before : Head) (epoch : ℕ) (images : List (List ℕ)) (stage : Stage) (d new : DiskState) → IsCrashed begun before epoch images stage d new → ((i : ℕ) → i < length images → read_at new (2 + slot_of (image_at images i)) ≡ image_at images i) → Has (Fixed (head_page (closed_head before epoch))) (d.cells 0) → Has (Trying (head_page (opened_head before epoch images)) (head_page (closed_head before epoch))) (d.cells 1) → recovery_on new ≡ recovery_on begun
second_closing begun before epoch images stage d new c home first second =
    let opened = opened_head before epoch images in
    let closed = closed_head before epoch in
    closed_recovers begun before epoch images stage d new c home
    (greater-second opened closed (good_of (head_read (read_at new 0))) (good_of (head_read (read_at new 1))) (omega arith) (fixed_copy closed d new 0 c.closed_is c.crash c.is.whole.first first) (trying_copy opened closed d new 1 c.is.is c.closed_is c.crash c.is.whole.second second))

-- at each stage of a replay
pub crashed-replaying : (begun : DiskState) (before : Head) (epoch : ℕ) (images : List (List ℕ)) (stage : Stage) (d new : DiskState) → AreImages before.nodes images → IsHead (closed_head before epoch) → is_late stage ≡ true → IsReplaying begun before epoch images stage d → MayCrashTo d new → recovery_on new ≡ recovery_on begun
crashed-replaying begun before epoch images (Journal next) d new are closed_is late is crash = absurd (cc late)
crashed-replaying begun before epoch images (Opening turn) d new are closed_is late is crash = absurd (cc late)
crashed-replaying begun before epoch images Rested d new are closed_is late is crash = absurd (cc late)
crashed-replaying begun before epoch images (Homes next) d new are closed_is late is crash =
    let c : IsCrashed begun before epoch images (Homes next) d new = record { is = is; images_are = are; closed_is = closed_is; crash = crash } in
    let opened = opened_head before epoch images in
    opened_recovers begun before epoch images (Homes next) d new c
    (greater-same opened (good_of (head_read (read_at new 0))) (good_of (head_read (read_at new 1))) (fixed_copy opened d new 0 is.is crash is.whole.first is.known.first) (fixed_copy opened d new 1 is.is crash is.whole.second is.known.second))
crashed-replaying begun before epoch images (Closing First) d new are closed_is late is crash =
    first_closing begun before epoch images (Closing First) d new (record { is = is; images_are = are; closed_is = closed_is; crash = crash }) (homes_read begun before epoch images (Closing First) d new crash is.whole.homes is.known.at_home) is.known.first is.known.second
crashed-replaying begun before epoch images (Closing FirstSync) d new are closed_is late is crash =
    first_closing begun before epoch images (Closing FirstSync) d new (record { is = is; images_are = are; closed_is = closed_is; crash = crash }) (homes_read begun before epoch images (Closing FirstSync) d new crash is.whole.homes is.known.at_home) (Trying-from_Tried (head_page (opened_head before epoch images)) (head_page (closed_head before epoch)) (d.cells 0) is.known.first) is.known.second
crashed-replaying begun before epoch images (Closing Second) d new are closed_is late is crash =
    second_closing begun before epoch images (Closing Second) d new (record { is = is; images_are = are; closed_is = closed_is; crash = crash }) (homes_read begun before epoch images (Closing Second) d new crash is.whole.homes is.known.at_home) is.known.first is.known.second
crashed-replaying begun before epoch images (Closing SecondSync) d new are closed_is late is crash =
    second_closing begun before epoch images (Closing SecondSync) d new (record { is = is; images_are = are; closed_is = closed_is; crash = crash }) (homes_read begun before epoch images (Closing SecondSync) d new crash is.whole.homes is.known.at_home) is.known.first (Trying-from_Tried (head_page (opened_head before epoch images)) (head_page (closed_head before epoch)) (d.cells 1) is.known.second)

-- at the end of one, and at each stage before it
pub replay-recovers : (begun : DiskState) (before : Head) (epoch : ℕ) (images : List (List ℕ)) (stage : Stage) (d new : DiskState) → AreImages before.nodes images → IsHead (closed_head before epoch) → (is_late stage ≡ true) ⊎ (stage ≡ Rested) → IsReplaying begun before epoch images stage d → MayCrashTo d new → recovery_on new ≡ recovery_on begun
replay-recovers begun before epoch images stage d new are closed_is (inl late) is crash = crashed-replaying begun before epoch images stage d new are closed_is late is crash
replay-recovers begun before epoch images stage d new are closed_is (inr rested) is crash =
    let there : IsReplaying begun before epoch images Rested d = subst (λ (s : Stage). IsReplaying begun before epoch images s d) rested is in
    crashed_recovered begun (closed_head before epoch) d new (recovered-rested begun before epoch images d are closed_is there) crash

-- ---- each stage

-- where each place stands but for a sync
pub settled_recovers : (begun d new : DiskState) → StandsFrom 0 begun d → MayCrashTo d new → recovery_on new ≡ recovery_on begun
settled_recovers begun d new stands crash =
    let each : (p : ℕ) → read_at new p ≡ read_at begun p = λ p. crashed-stands 0 p begun d new stands (omega arith) crash in
    recovery_on-same begun new (crash.size ∙ stands.size) (choice_of-same begun.size (reads_of new) (reads_of begun) (each 0) (each 1)) (λ p past. each p)

-- after each crash of a disk that is known at a stage
pub EachRecovers-known : (stage : RecoverStage) (begun d : DiskState) → IsRecovering stage begun d → EachRecovers stage begun d
EachRecovers-known Ask begun d is new crash = subst (λ (e : DiskState). MayCrashTo e new) is crash
EachRecovers-known (Settle size) begun d is new crash = inl (subst (λ (e : DiskState). MayCrashTo e new) is.0 crash)
EachRecovers-known (ReadFirst size) begun d is new crash = settled_recovers begun d new is.0 crash
EachRecovers-known (ReadSecond first) begun d is new crash = settled_recovers begun d new is.stands crash
EachRecovers-known (Mend mending) begun d is new crash = crashed-mending begun mending.head mending.place d new mending.other mending.is is crash
EachRecovers-known (SettleMend mending) begun d is new crash = crashed-mending begun mending.head mending.place d new mending.other mending.is (mending-again begun mending.head mending.place d is) crash
EachRecovers-known (ReadImage journal) begun d is new crash = crashed-both begun journal.head d new is.heads crash
EachRecovers-known (Replay replay) begun d is new crash =
    let commit = replay.commit in
    crashed-replaying begun commit.head commit.epoch commit.images commit.stage d new commit.can.finish.images_are (record { range = commit.can.finish.closed; id_length = is.known.id }) replay.late is crash
EachRecovers-known (Ready ready) begun d is new crash = crashed_recovered begun ready.head d new is crash
EachRecovers-known (Refused refusal) begun d is new crash = is.crashes new crash
