-- Each step of a recovery makes the first of the calls that are left, and leaves the others.
use Rattle.std.proofs.Common.{◌≡◌, ◌∙◌, ℕ, ◌+◌, ◌-◌, Bool, true, false, cond, eqb, ltb, List, [], ◌∷◌, ◌++◌, length, Option, Some, None, Result, Ok, Err, refl, sym, ap, subst, arith}
use Rattle.std.proofs.lemmas.Bool.{eqb-true, ltb-false}
use Rattle.std.proofs.lemmas.List.{length-append}
use Rattle.vb_disk.specs.States.{DiskCall, DiskState, Sync, read_at}
use Rattle.vb_head.specs.declared.head.Head.{Head}
use Rattle.vb_head.specs.declared.head.HeadRead.{HeadRead}
use Rattle.vb_head.specs.declared.head.State.{State}
use Rattle.vb_head.specs.declared.head.State.TheVariants.{Closed, Opened, Rebuilding as IsBeingMade}
use Rattle.vb_head.specs.Heads.{IsHead, count_of, head_page, head_read}
use Rattle.vb_journal.specs.declared.commit_stage.Stage.{Stage}
use Rattle.vb_journal.specs.declared.commit_stage.Stage.TheVariants.{Journal, Opening, Homes, Closing, Rested}
use Rattle.vb_journal.specs.declared.commit_stage.Turn.TheVariants.{First}
use Rattle.vb_journal.specs.declared.journal.Journal.{Journal as JournalRead}
use Rattle.vb_journal.specs.declared.recover_error.RecoverError.{RecoverError}
use Rattle.vb_journal.specs.declared.recover_error.RecoverError.TheVariants.{NotAStore}
use Rattle.vb_journal.specs.declared.recover_stage.RecoverStage.{RecoverStage}
use Rattle.vb_journal.specs.declared.recover_stage.RecoverStage.TheVariants.{Ask, Settle, ReadFirst, ReadSecond, Mend, SettleMend, ReadImage, Replay, Ready, Refused}
use Rattle.vb_journal.specs.Calls.{turn_calls}
use Rattle.vb_journal.specs.Outcomes.{reads_of}
use Rattle.vb_journal.specs.Plans.{calls_from, closed_head, due_call, home_calls, next_stage}
use Rattle.vb_journal.specs.Recoveries.{are_one_head, head_choice, image_refusal, journal_of, journal_place, settled_head}
use Rattle.vb_journal.specs.Recovering.{AskSize, Change, HasRead, IsRecovering, ReadPlace, RecoverCall, due_of, first_change}
use Rattle.vb_journal.specs.RecoveryCalls.{IsFirst, calls_after_heads, calls_by_choice, calls_left_in, changes, image_reads, journal_calls_by, journal_calls_of, recovery_calls_left, replay_calls}
use Rattle.vb_journal.specs.RecoverViews.{AtImage, AtMend, AtRefused, AtSettle, Reads, after_both, after_heads, after_image, after_replay, head_before, next, recover_call, replay_from, view_of}
use Rattle.vb_journal.specs.Shown.{pages_from}
use Rattle.vb_journal.proofs.HeadReads.{chosen-is}
use Rattle.vb_journal.proofs.ListedCalls.{image-last, image-more, image-refused}
use Rattle.vb_journal.proofs.PlanSteps.{calls_from-next}
use Rattle.vb_journal.proofs.Replays.{late-going, opened-found, opened-settles}
use Rattle.vb_journal.proofs.Settled.{read_at-stands}
use Rattle.vb_steps.specs.Calls.{answer_of}

-- ---- the commit that a head counts in

replay_calls_are : (head : Head) (images : List (List ℕ)) → IsHead head → head.state ≡ Opened (length images) → replay_calls head images ≡ changes (calls_from (head_before head) head.epoch images (Homes 0))
replay_calls_are head images is opened =
    let settled : settled_head head ≡ closed_head (head_before head) head.epoch = ap settled_head (sym (opened-found head (head_before head) images refl is.range.sequence_low opened)) ∙ opened-settles (head_before head) head.epoch images in
    ap (λ (h : Head). changes (home_calls images ++ (Sync ∷ turn_calls (head_page h) First))) settled

-- ---- once both heads are whole

opened_calls : (begun : DiskState) (head : Head) (count : ℕ) (b : Bool) → IsHead head → head.state ≡ Opened count → eqb count 0 ≡ b → journal_calls_by (reads_of begun) head (Opened count) ≡ calls_left_in (cond b (replay_from head []) (AtImage head count [])) begun
opened_calls begun head count true is opened none =
    let zero : count ≡ 0 = eqb-true count 0 none in
    let empty : journal_of (reads_of begun) head ≡ [] = ap (λ (s : State). pages_from (reads_of begun) (journal_place head) (count_of s)) opened ∙ ap (pages_from (reads_of begun) (journal_place head)) zero in
    ap (λ (l : List (List ℕ)). image_reads head.nodes (journal_place head) [] l (replay_calls head l)) empty
    ∙ replay_calls_are head [] is (opened ∙ ap (λ (n : ℕ). Opened n) zero)
opened_calls begun head count false is opened some =
    let pages : journal_of (reads_of begun) head ≡ pages_from (reads_of begun) (journal_place head) count = ap (λ (s : State). pages_from (reads_of begun) (journal_place head) (count_of s)) opened in
    let place : journal_place head ≡ journal_place head + 0 = omega arith in
    let left : count ≡ count - 0 = omega arith in
    ap (λ (l : List (List ℕ)). image_reads head.nodes (journal_place head) [] l (replay_calls head (journal_of (reads_of begun) head))) pages
    ∙ ap (λ (p : ℕ). image_reads head.nodes p [] (pages_from (reads_of begun) p count) (replay_calls head (journal_of (reads_of begun) head))) place
    ∙ ap (λ (n : ℕ). image_reads head.nodes (journal_place head + 0) [] (pages_from (reads_of begun) (journal_place head + 0) n) (replay_calls head (journal_of (reads_of begun) head))) left

both_in : (begun : DiskState) (head : Head) (state : State) → IsHead head → head.state ≡ state → journal_calls_by (reads_of begun) head state ≡ calls_left_in (after_both head state) begun
both_in begun head Closed is at = refl
both_in begun head (Opened count) is at = opened_calls begun head count (eqb count 0) is at refl
both_in begun head IsBeingMade is at = refl

both_calls : (begun : DiskState) (head : Head) → IsHead head → journal_calls_of (reads_of begun) head ≡ calls_left_in (after_both head head.state) begun
both_calls begun head is = both_in begun head head.state is refl

-- ---- the choice

one_calls : (begun : DiskState) (head : Head) (other : ℕ) (b : Bool) → IsHead head → cond b (journal_calls_of (reads_of begun) head) (calls_left_in (AtMend head other) begun) ≡ calls_left_in (cond b (after_both head head.state) (AtMend head other)) begun
one_calls begun head other true is = both_calls begun head is
one_calls begun head other false is = refl

heads_calls : (begun : DiskState) (a b : HeadRead) (choice : Result Head RecoverError) → ((h : Head) → choice ≡ Ok h → IsHead h) → calls_after_heads a b (reads_of begun) choice ≡ calls_left_in (after_heads a b choice) begun
heads_calls begun a b (Err why) is = refl
heads_calls begun a b (Ok head) is = one_calls begun head _ (are_one_head a b) (is head refl)

-- ---- the images

more_calls : (begun d : DiskState) (journal : JournalRead) (image : List ℕ) (b : Bool) → HasRead begun journal d → image ≡ read_at begun (journal_place journal.head + length journal.images) → image_refusal journal.head.nodes (journal_place journal.head + length journal.images) journal.images image ≡ None → ltb (length (journal.images ++ image ∷ [])) journal.count ≡ b → recovery_calls_left (ReadImage journal) begun ≡ ReadPlace (journal_place journal.head + length journal.images) ∷ calls_left_in (cond b (AtImage journal.head journal.count (journal.images ++ image ∷ [])) (replay_from journal.head (journal.images ++ image ∷ []))) begun
more_calls begun d journal image true has read accepted more = image-more begun journal image read accepted
more_calls begun d journal image false has read accepted more =
    let longer : length (journal.images ++ image ∷ []) ≡ length journal.images + 1 = length-append journal.images (image ∷ []) in
    let all : journal.count ≡ length (journal.images ++ image ∷ []) = let left = journal.left in let none = ltb-false (length (journal.images ++ image ∷ [])) journal.count more in omega (arith, left, none, longer) in
    let opened : journal.head.state ≡ Opened (length (journal.images ++ image ∷ [])) = journal.opened ∙ ap (λ (n : ℕ). Opened n) all in
    image-last begun journal image journal.head (journal.images ++ image ∷ []) d has read accepted refl refl opened
    ∙ ap (λ (l : List RecoverCall). ReadPlace (journal_place journal.head + length journal.images) ∷ l) (replay_calls_are journal.head (journal.images ++ image ∷ []) journal.is opened)

image_calls : (begun d : DiskState) (journal : JournalRead) (image : List ℕ) (refusal : Option RecoverError) → HasRead begun journal d → image ≡ read_at begun (journal_place journal.head + length journal.images) → image_refusal journal.head.nodes (journal_place journal.head + length journal.images) journal.images image ≡ refusal → recovery_calls_left (ReadImage journal) begun ≡ ReadPlace (journal_place journal.head + length journal.images) ∷ calls_left_in (after_image journal.head journal.count (journal.images ++ image ∷ []) refusal) begun
image_calls begun d journal image None has read is = more_calls begun d journal image (ltb (length (journal.images ++ image ∷ [])) journal.count) has read is refl
image_calls begun d journal image (Some why) has read is = image-refused begun journal image why read is

-- ---- the commit

replay_left : (begun : DiskState) (head : Head) (epoch : ℕ) (images : List (List ℕ)) (stage : Stage) → changes (calls_from head epoch images stage) ≡ calls_left_in (after_replay head epoch images stage) begun
replay_left begun head epoch images (Journal next) = refl
replay_left begun head epoch images (Opening turn) = refl
replay_left begun head epoch images (Homes next) = refl
replay_left begun head epoch images (Closing turn) = refl
replay_left begun head epoch images Rested = refl

-- ---- each stage

ask_calls : (begun : DiskState) (n : ℕ) (b : Bool) → cond b [] (Change Sync ∷ ReadPlace 0 ∷ ReadPlace 1 ∷ calls_by_choice begun.size (reads_of begun)) ≡ calls_left_in (cond b (AtRefused (NotAStore 0)) (AtSettle n)) begun
ask_calls begun n true = refl
ask_calls begun n false = refl

pub first-next : (stage : RecoverStage) (begun d : DiskState) → Reads (view_of stage) (answer_of d (recover_call stage)) → IsRecovering stage begun d → IsFirst (due_of stage) (recovery_calls_left stage begun) (calls_left_in (next (view_of stage) (answer_of d (recover_call stage))) begun)
first-next Ask begun d reads is =
    ap (λ (l : List RecoverCall). AskSize ∷ l) (ask_calls begun d.size (ltb begun.size 38))
    ∙ ap (λ (e : DiskState). AskSize ∷ calls_left_in (cond (ltb e.size 38) (AtRefused (NotAStore 0)) (AtSettle d.size)) begun) (sym is)
first-next (Settle size) begun d reads is = refl
first-next (ReadFirst size) begun d reads is = refl
first-next (ReadSecond first) begun d reads is =
    let second = head_read (read_at d 1) in
    let there : head_read (read_at begun 1) ≡ head_read (read_at d 1) = ap head_read (sym (read_at-stands 0 1 begun d is.stands (omega arith))) in
    let made : (h : Head) → head_choice first.size.places first.read (head_read (read_at d 1)) ≡ Ok h → IsHead h = λ h chosen. chosen-is first.size.places first.read second h first.good (λ g good. (reads.spelled g good).1) chosen in
    ap (λ (l : List RecoverCall). ReadPlace 1 ∷ l)
    (ap (λ (n : ℕ). calls_after_heads (head_read (read_at begun 0)) (head_read (read_at begun 1)) (reads_of begun) (head_choice n (head_read (read_at begun 0)) (head_read (read_at begun 1)))) (sym is.size)
    ∙ ap (λ (a : HeadRead). calls_after_heads a (head_read (read_at begun 1)) (reads_of begun) (head_choice first.size.places a (head_read (read_at begun 1)))) (sym is.read)
    ∙ ap (λ (b : HeadRead). calls_after_heads first.read b (reads_of begun) (head_choice first.size.places first.read b)) there
    ∙ heads_calls begun first.read second (head_choice first.size.places first.read second) made)
first-next (Mend mending) begun d reads is = refl
first-next (SettleMend mending) begun d reads is = ap (λ (l : List RecoverCall). Change Sync ∷ l) (both_calls begun mending.head mending.is)
first-next (ReadImage journal) begun d reads is =
    let place = journal_place journal.head + length journal.images in
    image_calls begun d journal (read_at d place) (image_refusal journal.head.nodes place journal.images (read_at d place)) is (read_at-stands 2 place begun d is.heads.stands (omega arith)) refl
first-next (Replay replay) begun d reads is =
    let c = replay.commit in
    let Q : List DiskCall → Type 0 = λ l. IsFirst (first_change l) (changes l) (calls_left_in (after_replay replay.commit.head replay.commit.epoch replay.commit.images (next_stage (length replay.commit.images) replay.commit.stage)) begun) in
    subst Q (sym (calls_from-next c.head c.epoch c.images c.stage (late-going c.stage replay.late)))
    (ap (λ (l : List RecoverCall). Change (due_call replay.commit.head replay.commit.epoch replay.commit.images replay.commit.stage) ∷ l) (replay_left begun c.head c.epoch c.images (next_stage (length c.images) c.stage)))
first-next (Ready ready) begun d reads is = (refl, refl)
first-next (Refused refusal) begun d reads is = (refl, refl)
