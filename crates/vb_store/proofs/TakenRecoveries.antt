-- What a crash leaves while a journal is taken home and afterwards, where some places are taken as whole.
use Rattle.std.proofs.Common.{◌≡◌, ℕ, ◌+◌, ◌*◌, ◌≤◌, Bool, List, [], None, refl, sym, ap, subst, ◌∙◌, inl, inr, arith}
use Rattle.vb_disk.specs.declared.cell.Cell.{Cell}
use Rattle.vb_disk.specs.Cells.{synced_cell}
use Rattle.vb_disk.specs.Crashes.{MayCrashTo}
use Rattle.vb_disk.specs.States.{DiskState, IsDiskState}
use Rattle.vb_head.specs.declared.head.Head.{Head}
use Rattle.vb_journal.specs.declared.mending.ClosedHead.{ClosedHead}
use Rattle.vb_head.specs.Heads.{count_of, head_page}
use Rattle.vb_journal.specs.declared.commit_stage.Stage.{Stage}
use Rattle.vb_journal.specs.declared.commit_stage.Stage.TheVariants.{Journal, Opening, Homes, Closing, Rested}
use Rattle.vb_journal.specs.declared.recover_stage.RecoverStage.TheVariants.{Ready, Replay}
use Rattle.vb_journal.specs.declared.replay.Replay.{Replay as ReplayLeft}
use Rattle.vb_journal.specs.Commits.{epoch_of, head_of, images_of, stage_of}
use Rattle.vb_journal.specs.Images.{image_at, slot_of}
use Rattle.vb_journal.specs.Outcomes.{reads_of}
use Rattle.vb_journal.specs.Plans.{CanFinish, opened_head}
use Rattle.vb_journal.specs.Progress.{HasSameCandidates, IsCommitting}
use Rattle.vb_journal.specs.Recoveries.{choice_of, images_refusal, journal_of, journal_place, journal_refusal}
use Rattle.vb_journal.specs.Recovering.{HasWholePlaces, IsHomeOf, IsHomeWhole, IsRecovered, IsRecovering, IsReplaying, homes_of, images_in}
use Rattle.vb_journal.proofs.AfterRecoveries.{EachRecovers-known}
use Rattle.vb_journal.proofs.Keeping.{IsCommitting-same}
use Rattle.vb_journal.proofs.Settled.{crashed-synced}
use Rattle.vb_store.specs.Clear.{taken_as, taken_cell}
use Rattle.vb_store.proofs.CrashesOfClear.{candidates-taken}
use Rattle.vb_store.proofs.CrashesOfMounts.{one_head}
use Rattle.vb_store.proofs.SameStores.{settled-nodes}
use Rattle.vb_store.proofs.TakenDisks.{hurt-taken, newest-taken, pages_from-taken, whole-taken}
use Rattle.vb_store.proofs.TakenHeads.{IsKept, but_heads, but_heads-behind, stands-taken}

-- the journal reads the same, whichever places are taken as whole
journal_taken : (whole : ℕ → Bool) (begun : DiskState) (head : Head) → IsDiskState begun → journal_refusal (reads_of begun) head ≡ None → journal_of (reads_of (taken_as whole begun)) head ≡ journal_of (reads_of begun) head
journal_taken whole begun head is none = pages_from-taken whole begun head.nodes (journal_place head) (count_of head.state) (journal_place head) [] is none

accepted_taken : (whole : ℕ → Bool) (begun : DiskState) (head : Head) → IsDiskState begun → journal_refusal (reads_of begun) head ≡ None → journal_refusal (reads_of (taken_as whole begun)) head ≡ None
accepted_taken whole begun head is none = ap (images_refusal head.nodes (journal_place head) []) (journal_taken whole begun head is none) ∙ none

-- a place behind the heads that stands but for a sync
behind_taken : (whole : ℕ → Bool) (begun d : DiskState) (place : ℕ) → 2 ≤ place → d.cells place ≡ synced_cell (begun.cells place) → (taken_as whole d).cells place ≡ synced_cell ((taken_as (but_heads whole) begun).cells place)
behind_taken whole begun d place past is = stands-taken whole (but_heads whole) begun d place (but_heads-behind whole place past) is

-- ---- while images are taken home

home_whole : (i : ℕ) (stage : Stage) (whole : Bool) (cell : Cell) → IsHomeWhole i stage cell → IsHomeWhole i stage (taken_cell whole cell)
home_whole i (Journal next) whole cell is = is
home_whole i (Opening turn) whole cell is = is
home_whole i (Homes next) whole cell is = λ before. hurt-taken whole cell (is before)
home_whole i (Closing turn) whole cell is = hurt-taken whole cell is
home_whole i Rested whole cell is = hurt-taken whole cell is

HasWholePlaces-taken : (whole : ℕ → Bool) (begun d : DiskState) (before : Head) (images : List (List ℕ)) (stage : Stage) → HasWholePlaces begun before images stage d → HasWholePlaces (taken_as (but_heads whole) begun) before images stage (taken_as whole d)
HasWholePlaces-taken whole begun d before images stage is = record {
  size = is.size;
  first = hurt-taken (whole 0) (d.cells 0) is.first;
  second = hurt-taken (whole 1) (d.cells 1) is.second;
  homes = λ i within. home_whole i stage (whole (2 + slot_of (image_at images i))) (d.cells (2 + slot_of (image_at images i))) (is.homes i within);
  homes_stand = λ slot within unnamed. behind_taken whole begun d (2 + slot) (omega arith) (is.homes_stand slot within unnamed);
  others_stand = λ place past. behind_taken whole begun d place (omega arith) (is.others_stand place past);
}

-- the candidates are the same, and so is what stood at the homes and in the journal
IsCommitting-taken : (whole then : ℕ → Bool) (begun d : DiskState) (before : Head) (epoch : ℕ) (images : List (List ℕ)) (stage : Stage) → CanFinish before epoch images → IsCommitting before epoch images (homes_of begun) (images_in begun before) stage d → IsCommitting before epoch images (homes_of (taken_as then begun)) (images_in (taken_as then begun) before) stage (taken_as whole d)
IsCommitting-taken whole then begun d before epoch images stage can is =
    let same : HasSameCandidates (2 + 2 * before.nodes) d (taken_as whole d) = record { size = refl; each = λ place low. candidates-taken (whole place) (d.cells place) } in
    let homes : homes_of begun ≡ homes_of (taken_as then begun) = λ i slot. sym (newest-taken (then (2 + slot)) (begun.cells (2 + slot))) i in
    let journal : images_in begun before ≡ images_in (taken_as then begun) before = λ i k. sym (newest-taken (then (journal_place before + k)) (begun.cells (journal_place before + k))) i in
    subst (λ (h : ℕ → List ℕ). IsCommitting before epoch images h (images_in (taken_as then begun) before) stage (taken_as whole d)) homes
    (subst (λ (j : ℕ → List ℕ). IsCommitting before epoch images (homes_of begun) j stage (taken_as whole d)) journal
    (IsCommitting-same before epoch images (homes_of begun) (images_in begun before) stage d (taken_as whole d) can same is))

IsReplaying-taken : (whole : ℕ → Bool) (begun d : DiskState) (before : Head) (epoch : ℕ) (images : List (List ℕ)) (stage : Stage) → IsDiskState begun → CanFinish before epoch images → IsReplaying begun before epoch images stage d → IsReplaying (taken_as (but_heads whole) begun) before epoch images stage (taken_as whole d)
IsReplaying-taken whole begun d before epoch images stage disk can is =
    let opened : Head = opened_head before epoch images in
    record {
      is = is.is;
      counts = is.counts;
      images_are = journal_taken (but_heads whole) begun opened disk is.accepted ∙ is.images_are;
      accepted = accepted_taken (but_heads whole) begun opened disk is.accepted;
      known = IsCommitting-taken whole (but_heads whole) begun d before epoch images stage can is.known;
      whole = HasWholePlaces-taken whole begun d before images stage is.whole;
    }

pub kept-replaying : (whole : ℕ → Bool) (begun d new : DiskState) (replay : ReplayLeft) → IsDiskState begun → IsRecovering (Replay replay) begun d → MayCrashTo (taken_as whole d) new → IsKept begun new
kept-replaying whole begun d new replay disk is crash =
    let before : Head = head_of replay.commit in
    let epoch : ℕ = epoch_of replay.commit in
    let images : List (List ℕ) = images_of replay.commit in
    let opened : Head = opened_head before epoch images in
    let begun_as : DiskState = taken_as (but_heads whole) begun in
    let taken : IsRecovering (Replay replay) begun_as (taken_as whole d) = IsReplaying-taken whole begun d before epoch images (stage_of replay.commit) disk replay.commit.can.finish is in
    record {
      whole = but_heads whole;
      same = record {
        size = crash.size ∙ is.whole.size;
        recovery = EachRecovers-known (Replay replay) begun_as (taken_as whole d) taken new crash;
        data_places = λ head counts place above.
            let nodes : head.nodes ≡ before.nodes = ap (λ (h : Head). h.nodes) (one_head head opened (choice_of begun.size (reads_of begun)) counts is.counts) in
            crashed-synced place begun_as (taken_as whole d) new (taken.whole.others_stand place (omega (arith, above, nodes))) crash;
      };
    }

-- ---- once the store is recovered

IsHomeOf-taken : (whole : ℕ → Bool) (begun d : DiskState) (images : List (List ℕ)) (slot : ℕ) → IsHomeOf begun images slot (d.cells (2 + slot)) → IsHomeOf (taken_as (but_heads whole) begun) images slot ((taken_as whole d).cells (2 + slot))
IsHomeOf-taken whole begun d images slot (inl stood) = inl (record { unnamed = stood.unnamed; stands = behind_taken whole begun d (2 + slot) (omega arith) stood.stands })
IsHomeOf-taken whole begun d images slot (inr home) = inr (record { image = home.image; covers = home.covers; holds = whole-taken (whole (2 + slot)) (d.cells (2 + slot)) home.image [] home.holds })

IsRecovered-taken : (whole : ℕ → Bool) (begun d : DiskState) (head : Head) → IsDiskState begun → IsRecovered begun head d → IsRecovered (taken_as (but_heads whole) begun) head (taken_as whole d)
IsRecovered-taken whole begun d head disk is =
    let begun_as : DiskState = taken_as (but_heads whole) begun in
    record {
      chosen = is.chosen;
      counts = is.counts;
      accepted = accepted_taken (but_heads whole) begun is.chosen disk is.accepted;
      settles = is.settles;
      is = is.is;
      closed = is.closed;
      size = is.size;
      first = whole-taken (whole 0) (d.cells 0) (head_page head) [] is.first;
      second = whole-taken (whole 1) (d.cells 1) (head_page head) [] is.second;
      homes = λ slot within. subst (λ (l : List (List ℕ)). IsHomeOf begun_as l slot ((taken_as whole d).cells (2 + slot))) (sym (journal_taken (but_heads whole) begun is.chosen disk is.accepted))
          (IsHomeOf-taken whole begun d (journal_of (reads_of begun) is.chosen) slot (is.homes slot within));
      others_stand = λ place past. behind_taken whole begun d place (omega arith) (is.others_stand place past);
    }

pub kept-recovered : (whole : ℕ → Bool) (begun d new : DiskState) (head : Head) → IsDiskState begun → IsRecovered begun head d → MayCrashTo (taken_as whole d) new → IsKept begun new
kept-recovered whole begun d new head disk is crash =
    let begun_as : DiskState = taken_as (but_heads whole) begun in
    let taken = IsRecovered-taken whole begun d head disk is in
    let ready : ClosedHead = record { head = head; is = is.is; closed = is.closed } in
    let nodes : head.nodes ≡ is.chosen.nodes = ap (λ (h : Head). h.nodes) (sym is.settles) ∙ settled-nodes is.chosen is.chosen.state in
    record {
      whole = but_heads whole;
      same = record {
        size = crash.size ∙ is.size;
        recovery = EachRecovers-known (Ready ready) begun_as (taken_as whole d) taken new crash;
        data_places = λ other counts place above.
            let same : other.nodes ≡ is.chosen.nodes = ap (λ (h : Head). h.nodes) (one_head other is.chosen (choice_of begun.size (reads_of begun)) counts is.counts) in
            crashed-synced place begun_as (taken_as whole d) new (taken.others_stand place (omega (arith, above, same, nodes))) crash;
      };
    }
