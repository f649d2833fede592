-- What is known of the disk of a recovery goes on with its calls.
use Rattle.std.proofs.Common.{◌≡◌, ◌∙◌, ℕ, ◌+◌, ◌-◌, ◌≤◌, Bool, true, false, cond, eqb, ltb, List, [], ◌∷◌, ◌++◌, length, Option, Some, None, Result, Ok, Err, refl, sym, ap, subst, inl, inr, arith}
use Rattle.std.proofs.lemmas.Bool.{eqb-true, ltb-false, ltb-true}
use Rattle.std.proofs.lemmas.List.{length-append}
use Rattle.vb_disk.specs.States.{DiskState, IsDiskState, after_call, read_at, synced, written}
use Rattle.vb_head.specs.declared.head.Head.{Head}
use Rattle.vb_head.specs.declared.head.HeadRead.{HeadRead}
use Rattle.vb_head.specs.declared.head.State.{State}
use Rattle.vb_head.specs.declared.head.State.TheVariants.{Closed, Opened, Rebuilding as IsBeingMade}
use Rattle.vb_head.specs.Heads.{IsHead, count_of, head_page, head_read}
use Rattle.vb_journal.specs.declared.commit_stage.Stage.{Stage}
use Rattle.vb_journal.specs.declared.commit_stage.Stage.TheVariants.{Journal, Opening, Homes, Closing, Rested}
use Rattle.vb_journal.specs.declared.journal.Journal.{Journal as JournalRead}
use Rattle.vb_journal.specs.declared.mending.FirstRead.{FirstRead}
use Rattle.vb_journal.specs.declared.recover_error.RecoverError.{RecoverError}
use Rattle.vb_journal.specs.declared.recover_error.RecoverError.TheVariants.{NotAStore}
use Rattle.vb_journal.specs.declared.recover_stage.RecoverStage.{RecoverStage}
use Rattle.vb_journal.specs.declared.recover_stage.RecoverStage.TheVariants.{Ask, Settle, ReadFirst, ReadSecond, Mend, SettleMend, ReadImage, Replay, Ready, Refused}
use Rattle.vb_journal.specs.Images.{AreImages}
use Rattle.vb_journal.specs.Outcomes.{reads_of}
use Rattle.vb_journal.specs.Plans.{closed_head, due_call, next_stage}
use Rattle.vb_journal.specs.Recoveries.{are_one_head, greater_place, head_choice, image_refusal, images_refusal, is_rebuilding, journal_of, journal_place, settled_from}
use Rattle.vb_journal.specs.Recovering.{EachRecovers, HasBothHeads, HasRead, HasReadImages, IsRecovered, IsRecovering, IsRecovering_in, IsReplaying, homes_of, images_in}
use Rattle.vb_journal.specs.RecoverViews.{AtImage, AtMend, AtRefused, AtSettle, Reads, after_both, after_heads, after_image, after_replay, head_before, next, recover_call, replay_from, view_of}
use Rattle.vb_journal.specs.Shown.{good_of, pages_from}
use Rattle.vb_journal.proofs.AfterRecoveries.{EachRecovers-known, replay-recovers, settled_recovers}
use Rattle.vb_journal.proofs.Choices.{IsChosen-from, one-head}
use Rattle.vb_journal.proofs.DriverSteps.{change-left, due-after}
use Rattle.vb_journal.proofs.HeadReads.{HasReadBoth, both-chosen, hopeless-heads, hopeless-small, mending-chosen, stands-begun}
use Rattle.vb_journal.proofs.JournalReads.{IsWhole, IsWhole-more, accepted-more, hopeless-image, pages-more}
use Rattle.vb_journal.proofs.Keeping.{IsCommitting-opened}
use Rattle.vb_journal.proofs.Marked.{AreImages-more, IsNext-from}
use Rattle.vb_journal.proofs.Mended.{crashed-both, mending-again, mending-synced, mending-written}
use Rattle.vb_journal.proofs.Replays.{late-going, late-or-rested, recovered-rested, replaying-begins, replaying-next, replaying-tried}
use Rattle.vb_journal.proofs.Settled.{read_at-stands}
use Rattle.vb_steps.specs.Calls.{MayFailTo, after, answer_of}

-- ---- once both heads are whole

settles_closed : (head : Head) (state : State) → state ≡ Closed → settled_from head state ≡ head
settles_closed head Closed is = refl
settles_closed head (Opened count) is = absurd (cc is)
settles_closed head IsBeingMade is = refl

-- a head at rest is the store's
recovered-closed : (begun d : DiskState) (head : Head) → HasBothHeads begun head d → head.state ≡ Closed → IsRecovered begun head d
recovered-closed begun d head both closed =
    let none : journal_of (reads_of begun) head ≡ [] = ap (λ (s : State). pages_from (reads_of begun) (journal_place head) (count_of s)) closed in
    record {
      chosen = head;
      counts = both.counts;
      accepted = ap (images_refusal head.nodes (journal_place head) []) none;
      settles = settles_closed head head.state closed;
      is = both.is;
      closed = closed;
      size = both.stands.size;
      first = both.first;
      second = both.second;
      homes = λ slot within. inl (record {
        unnamed = λ i named. absurd (let few : length (journal_of (reads_of begun) head) ≡ 0 = ap length none in omega (arith, few, named));
        stands = both.stands.each (2 + slot) (omega arith);
      });
      others_stand = λ place past. both.stands.each place (omega arith);
    }

-- one that counts images in has them in its journal
with_none : (begun d : DiskState) (head : Head) → HasBothHeads begun head d → HasReadImages begun head [] d
with_none begun d head both = record { heads = both; images = refl; accepted = refl }

-- the commit that a whole journal belongs to goes on with its homes
begins : (begun d : DiskState) (head : Head) (images : List (List ℕ)) → IsWhole begun head images d → AreImages head.nodes images → head.state ≡ Opened (length images) → IsReplaying begun (head_before head) head.epoch images (Homes 0) d
begins begun d head images whole are opened =
    let few : length images ≤ head.nodes = let count = whole.heads.is.range.count in omega (arith, count, ap count_of opened) in
    replaying-begins begun d head (head_before head) head.epoch images images (Homes 0) whole are opened refl refl refl refl
    (λ rest journal. IsCommitting-opened (head_before head) head.epoch images (homes_of begun) (images_in begun head) d few are rest journal)

no_images : (nodes : ℕ) → AreImages nodes []
no_images nodes = record {
  sealed = λ i within. absurd (omega (arith, within));
  slots = λ i within. absurd (omega (arith, within));
  distinct = λ i j before within. absurd (omega (arith, within));
}

opened_none : (begun d : DiskState) (head : Head) → HasBothHeads begun head d → head.state ≡ Opened 0 → IsReplaying begun (head_before head) head.epoch [] (Homes 0) d
opened_none begun d head both opened =
    let none : journal_of (reads_of begun) head ≡ [] = ap (λ (s : State). pages_from (reads_of begun) (journal_place head) (count_of s)) opened in
    begins begun d head [] (record { heads = both; all = sym none; accepted = ap (images_refusal head.nodes (journal_place head) []) none }) (no_images head.nodes) opened

opened_known : (begun d : DiskState) (head : Head) (count : ℕ) (b : Bool) → HasBothHeads begun head d → head.state ≡ Opened count → eqb count 0 ≡ b → IsRecovering_in (cond b (replay_from head []) (AtImage head count [])) begun d
opened_known begun d head count true both opened is = opened_none begun d head both (opened ∙ ap (λ (n : ℕ). Opened n) (eqb-true count 0 is))
opened_known begun d head count false both opened is = with_none begun d head both

both_in : (begun d : DiskState) (head : Head) (state : State) → HasBothHeads begun head d → head.state ≡ state → is_rebuilding state ≡ false → IsRecovering_in (after_both head state) begun d
both_in begun d head Closed both is whole = recovered-closed begun d head both is
both_in begun d head (Opened count) both is whole = opened_known begun d head count (eqb count 0) both is refl
both_in begun d head IsBeingMade both is whole = absurd (cc whole)

both_known : (begun d : DiskState) (head : Head) → HasBothHeads begun head d → is_rebuilding head.state ≡ false → IsRecovering_in (after_both head head.state) begun d
both_known begun d head both whole = both_in begun d head head.state both refl whole

-- ---- the size, and the choice

size_known : (begun d : DiskState) (b : Bool) → IsDiskState d → d ≡ begun → ltb d.size 38 ≡ b → IsRecovering_in (cond b (AtRefused (NotAStore 0)) (AtSettle d.size)) begun d
size_known begun d true valid is small = hopeless-small begun d is (ltb-true d.size 38 small)
size_known begun d false valid is enough = (is, subst IsDiskState is valid, ap (λ (e : DiskState). e.size) is)

chosen_known : (begun d : DiskState) (first : FirstRead) (second : HeadRead) (head : Head) (b : Bool) → HasReadBoth begun first second d → head_choice first.size.places first.read second ≡ Ok head → are_one_head first.read second ≡ b → IsRecovering_in (cond b (after_both head head.state) (AtMend head (1 - greater_place (good_of first.read) (good_of second)))) begun d
chosen_known begun d first second head true both is same =
    both_known begun d head (both-chosen begun first second head d both is (one-head first.read second same)) (IsChosen-from first.size.places first.read second head is).made
chosen_known begun d first second head false both is same = mending-chosen begun first second head (1 - greater_place (good_of first.read) (good_of second)) d both is refl

heads_known : (begun d : DiskState) (first : FirstRead) (second : HeadRead) (choice : Result Head RecoverError) → HasReadBoth begun first second d → head_choice first.size.places first.read second ≡ choice → IsRecovering_in (after_heads first.read second choice) begun d
heads_known begun d first second (Ok head) both is = chosen_known begun d first second head (are_one_head first.read second) both is refl
heads_known begun d first second (Err why) both is = record {
  recovery = hopeless-heads begun first second why d both is;
  crashes = λ new crash. settled_recovers begun d new both.first_is.stands crash;
}

-- ---- the journal

more_known : (begun d : DiskState) (journal : JournalRead) (image : List ℕ) (b : Bool) → HasRead begun journal d → image ≡ read_at begun (journal_place journal.head + length journal.images) → image_refusal journal.head.nodes (journal_place journal.head + length journal.images) journal.images image ≡ None → ltb (length (journal.images ++ image ∷ [])) journal.count ≡ b → IsRecovering_in (cond b (AtImage journal.head journal.count (journal.images ++ image ∷ [])) (replay_from journal.head (journal.images ++ image ∷ []))) begun d
more_known begun d journal image true has read accepted more = record {
  heads = has.heads;
  images = pages-more (reads_of begun) (journal_place journal.head) journal.images image has.images read;
  accepted = accepted-more begun journal image d has accepted;
}
more_known begun d journal image false has read accepted more =
    let longer : length (journal.images ++ image ∷ []) ≡ length journal.images + 1 = length-append journal.images (image ∷ []) in
    let all : journal.count ≡ length (journal.images ++ image ∷ []) = let left = journal.left in let none = ltb-false (length (journal.images ++ image ∷ [])) journal.count more in omega (arith, left, none, longer) in
    let opened : journal.head.state ≡ Opened (length (journal.images ++ image ∷ [])) = journal.opened ∙ ap (λ (n : ℕ). Opened n) all in
    begins begun d journal.head (journal.images ++ image ∷ []) (IsWhole-more begun journal journal.head (journal.images ++ image ∷ []) image d has read accepted refl refl opened)
    (AreImages-more journal.head.nodes journal.images image journal.images_are (IsNext-from journal.head.nodes (journal_place journal.head + length journal.images) journal.images image accepted)) opened

image_known : (begun d : DiskState) (journal : JournalRead) (image : List ℕ) (refusal : Option RecoverError) → HasRead begun journal d → image ≡ read_at begun (journal_place journal.head + length journal.images) → image_refusal journal.head.nodes (journal_place journal.head + length journal.images) journal.images image ≡ refusal → IsRecovering_in (after_image journal.head journal.count (journal.images ++ image ∷ []) refusal) begun d
image_known begun d journal image None has read is = more_known begun d journal image (ltb (length (journal.images ++ image ∷ [])) journal.count) has read is refl
image_known begun d journal image (Some why) has read is = hopeless-image begun journal image why d has read is

-- ---- the commit

replay_known : (begun d : DiskState) (head : Head) (epoch : ℕ) (images : List (List ℕ)) (stage : Stage) → AreImages head.nodes images → IsHead (closed_head head epoch) → IsReplaying begun head epoch images stage d → IsRecovering_in (after_replay head epoch images stage) begun d
replay_known begun d head epoch images (Journal next) are closed is = is
replay_known begun d head epoch images (Opening turn) are closed is = is
replay_known begun d head epoch images (Homes next) are closed is = is
replay_known begun d head epoch images (Closing turn) are closed is = is
replay_known begun d head epoch images Rested are closed is = recovered-rested begun head epoch images d are closed is

-- ---- each stage

-- after its call, which was made
pub known-next : (stage : RecoverStage) (begun d : DiskState) → IsDiskState d → Reads (view_of stage) (answer_of d (recover_call stage)) → IsRecovering stage begun d → IsRecovering_in (next (view_of stage) (answer_of d (recover_call stage))) begun (after d (recover_call stage))
known-next Ask begun d valid reads is = size_known begun d (ltb d.size 38) valid is refl
known-next (Settle size) begun d valid reads is = (stands-begun begun d is.1 is.0, is.2)
known-next (ReadFirst size) begun d valid reads is =
    let page : read_at d 0 ≡ read_at begun 0 = read_at-stands 0 0 begun d is.0 (omega arith) in
    record { stands = is.0; size = is.1; read = ap head_read page; spelled = λ h good. sym page ∙ (reads.spelled h good).0 }
known-next (ReadSecond first) begun d valid reads is =
    let page : read_at d 1 ≡ read_at begun 1 = read_at-stands 0 1 begun d is.stands (omega arith) in
    let second = head_read (read_at d 1) in
    heads_known begun d first second (head_choice first.size.places first.read second)
    (record { first_is = is; second_is = ap head_read page; spelled = λ h good. sym page ∙ (reads.spelled h good).0; good = λ h good. (reads.spelled h good).1 }) refl
known-next (Mend mending) begun d valid reads is = mending-written begun mending.head mending.place d mending.other is
known-next (SettleMend mending) begun d valid reads is = both_known begun (synced d) mending.head (mending-synced begun mending.head mending.place d mending.other mending.is is) mending.whole
known-next (ReadImage journal) begun d valid reads is =
    let place = journal_place journal.head + length journal.images in
    image_known begun d journal (read_at d place) (image_refusal journal.head.nodes place journal.images (read_at d place)) is (read_at-stands 2 place begun d is.heads.stands (omega arith)) refl
known-next (Replay replay) begun d valid reads is =
    let commit = replay.commit in
    let then = replaying-next begun commit.head commit.epoch commit.images commit.stage d commit.can.finish.images_are replay.late is in
    let same = due-after commit.head commit.epoch commit.images commit.stage d (late-going commit.stage replay.late) in
    subst (λ (e : DiskState). IsRecovering_in (after_replay replay.commit.head replay.commit.epoch replay.commit.images (next_stage (length replay.commit.images) replay.commit.stage)) begun e) (sym same)
    (replay_known begun _ commit.head commit.epoch commit.images (next_stage (length commit.images) commit.stage) commit.can.finish.images_are (record { range = commit.can.finish.closed; id_length = is.known.id }) then)
known-next (Ready ready) begun d valid reads is = is
known-next (Refused refusal) begun d valid reads is = is

-- after its call, which failed
same_disk : (stage : RecoverStage) (begun d left : DiskState) → left ≡ d → IsRecovering stage begun d → IsRecovering stage begun left
same_disk stage begun d left same is = subst (λ (e : DiskState). IsRecovering stage begun e) (sym same) is

pub known-again : (stage : RecoverStage) (begun d left : DiskState) → MayFailTo (recover_call stage) d left → IsRecovering stage begun d → IsRecovering stage begun left
known-again Ask begun d left may is = same_disk Ask begun d left may is
known-again (Settle size) begun d left may is = same_disk (Settle size) begun d left may is
known-again (ReadFirst size) begun d left may is = same_disk (ReadFirst size) begun d left may is
known-again (ReadSecond first) begun d left may is = same_disk (ReadSecond first) begun d left may is
known-again (Mend mending) begun d left (inl none) is = same_disk (Mend mending) begun d left none is
known-again (Mend mending) begun d left (inr made) is =
    let m = mending in
    same_disk (Mend mending) begun (written d m.place (head_page m.head)) left made (mending-again begun m.head m.place (written d m.place (head_page m.head)) (mending-written begun m.head m.place d m.other is))
known-again (SettleMend mending) begun d left may is = same_disk (SettleMend mending) begun d left may is
known-again (ReadImage journal) begun d left may is = same_disk (ReadImage journal) begun d left may is
known-again (Replay replay) begun d left may is =
    let commit = replay.commit in
    let going = late-going commit.stage replay.late in
    let tried = replaying-tried begun commit.head commit.epoch commit.images commit.stage d (Some left) commit.can.finish replay.late (change-left commit.head commit.epoch commit.images commit.stage d left going may) is in
    let same : left ≡ tried.next = cc tried.told_is in
    same_disk (Replay replay) begun tried.next left same tried.known
known-again (Ready ready) begun d left may is = same_disk (Ready ready) begun d left may is
known-again (Refused refusal) begun d left may is = same_disk (Refused refusal) begun d left may is

-- each crash after its call leaves what the stage before it says
pub crashes-next : (stage : RecoverStage) (begun d : DiskState) → IsRecovering stage begun d → EachRecovers stage begun (after d (recover_call stage))
crashes-next Ask begun d is = EachRecovers-known Ask begun d is
crashes-next (Settle size) begun d is = λ new crash. inr (EachRecovers-known (ReadFirst size) begun (synced d) (stands-begun begun d is.1 is.0, is.2) new crash)
crashes-next (ReadFirst size) begun d is = EachRecovers-known (ReadFirst size) begun d is
crashes-next (ReadSecond first) begun d is = EachRecovers-known (ReadSecond first) begun d is
crashes-next (Mend mending) begun d is = EachRecovers-known (SettleMend mending) begun (written d mending.place (head_page mending.head)) (mending-written begun mending.head mending.place d mending.other is)
crashes-next (SettleMend mending) begun d is = λ new crash. inl (crashed-both begun mending.head (synced d) new (mending-synced begun mending.head mending.place d mending.other mending.is is) crash)
crashes-next (ReadImage journal) begun d is = EachRecovers-known (ReadImage journal) begun d is
crashes-next (Replay replay) begun d is =
    let commit = replay.commit in
    let are = commit.can.finish.images_are in
    let then = replaying-next begun commit.head commit.epoch commit.images commit.stage d are replay.late is in
    let same = due-after commit.head commit.epoch commit.images commit.stage d (late-going commit.stage replay.late) in
    subst (λ (e : DiskState). EachRecovers (Replay replay) begun e) (sym same)
    (λ new crash. replay-recovers begun commit.head commit.epoch commit.images (next_stage (length commit.images) commit.stage) (after_call d (due_call commit.head commit.epoch commit.images commit.stage)) new are (record { range = commit.can.finish.closed; id_length = is.known.id }) (late-or-rested (length commit.images) commit.stage replay.late) then crash)
crashes-next (Ready ready) begun d is = EachRecovers-known (Ready ready) begun d is
crashes-next (Refused refusal) begun d is = EachRecovers-known (Refused refusal) begun d is
