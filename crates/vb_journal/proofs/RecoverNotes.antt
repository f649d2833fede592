-- What a recovery has noted goes on with its calls.
use Rattle.std.proofs.Common.{◌≡◌, ◌∙◌, ℕ, ◌+◌, ◌-◌, Bool, true, false, cond, eqb, ltb, List, [], ◌∷◌, ◌++◌, length, map, Option, Some, None, Result, Ok, Err, refl, sym, ap, arith}
use Rattle.vb_disk.specs.States.{DiskState, read_at}
use Rattle.vb_head.specs.declared.head.Head.{Head}
use Rattle.vb_head.specs.declared.head.HeadRead.{HeadRead}
use Rattle.vb_head.specs.declared.head.State.{State}
use Rattle.vb_head.specs.declared.head.State.TheVariants.{Closed, Opened, Rebuilding as IsBeingMade}
use Rattle.vb_head.specs.Heads.{count_of, head_read}
use Rattle.vb_journal.specs.declared.commit_stage.Stage.{Stage}
use Rattle.vb_journal.specs.declared.commit_stage.Stage.TheVariants.{Journal, Opening, Homes, Closing, Rested}
use Rattle.vb_journal.specs.declared.journal.Journal.{Journal as JournalRead}
use Rattle.vb_journal.specs.declared.mending.FirstRead.{FirstRead}
use Rattle.vb_journal.specs.declared.recover_error.RecoverError.{RecoverError}
use Rattle.vb_journal.specs.declared.recover_error.RecoverError.TheVariants.{NotAStore}
use Rattle.vb_journal.specs.declared.recover_stage.RecoverStage.{RecoverStage}
use Rattle.vb_journal.specs.declared.recover_stage.RecoverStage.TheVariants.{Ask, Settle, ReadFirst, ReadSecond, Mend, SettleMend, ReadImage, Replay, Ready, Refused}
use Rattle.vb_journal.specs.Images.{slot_of}
use Rattle.vb_journal.specs.Notes.{AreJournalSlots, AreSlotsAt_in, HasNotedAt, IsPlaceAt_in, head_place, journal_slots, place_after, slots_with}
use Rattle.vb_journal.specs.Outcomes.{reads_of}
use Rattle.vb_journal.specs.Plans.{next_stage, opened_head}
use Rattle.vb_journal.specs.Recoveries.{are_one_head, choice_of, greater_place, head_choice, image_refusal, is_rebuilding, journal_place}
use Rattle.vb_journal.specs.Recovering.{HasReadFirst, IsRecovering, IsReplaying, images_in_view}
use Rattle.vb_journal.specs.Recovers.{is_reading, last_of}
use Rattle.vb_journal.specs.RecoverViews.{AtImage, AtMend, AtRefused, AtSettle, RecoverView, after_both, after_heads, after_image, after_replay, next, recover_call, replay_from, view_of}
use Rattle.vb_journal.specs.Shown.{good_of, pages_from}
use Rattle.vb_journal.proofs.Choices.{IsChosen-from, one-head}
use Rattle.vb_journal.proofs.HeadReads.{choice-read}
use Rattle.vb_journal.proofs.NotesKept.{other-place, place-one, slots-more}
use Rattle.vb_journal.proofs.Settled.{read_at-stands}
use Rattle.vb_steps.specs.Calls.{answer_of}

-- these are noted at a stage
pub record NotedIn (view : RecoverView) (place : ℕ) (slots : List ℕ) (begun : DiskState) : Type 0 where
  pub place_is : IsPlaceAt_in view place begun
  pub slots_are : AreSlotsAt_in view slots begun

ok_head : Head → Result Head RecoverError
ok_head h = Ok h

-- ---- once both heads are whole

none_noted : (begun : DiskState) (head : Head) (slots : List ℕ) → choice_of begun.size (reads_of begun) ≡ Ok head → head.state ≡ Closed → slots ≡ [] → AreJournalSlots begun slots
none_noted begun head slots counts closed none chosen is =
    let same : chosen ≡ head = cc (sym is ∙ counts) in
    let empty : journal_slots (reads_of begun) head ≡ [] = ap (λ (s : State). map slot_of (pages_from (reads_of begun) (journal_place head) (count_of s))) closed in
    none ∙ sym empty ∙ ap (journal_slots (reads_of begun)) (sym same)

opened_noted : (begun : DiskState) (head : Head) (count place : ℕ) (slots : List ℕ) (b : Bool) → place ≡ head_place (reads_of begun) → slots ≡ [] → NotedIn (cond b (replay_from head []) (AtImage head count [])) place slots begun
opened_noted begun head count place slots true here none = record { place_is = here; slots_are = none }
opened_noted begun head count place slots false here none = record { place_is = here; slots_are = none }

both_in : (begun : DiskState) (head : Head) (state : State) (place : ℕ) (slots : List ℕ) → choice_of begun.size (reads_of begun) ≡ Ok head → head.state ≡ state → is_rebuilding state ≡ false → place ≡ head_place (reads_of begun) → slots ≡ [] → NotedIn (after_both head state) place slots begun
both_in begun head Closed place slots counts is whole here none = record { place_is = here; slots_are = none_noted begun head slots counts is none }
both_in begun head (Opened count) place slots counts is whole here none = opened_noted begun head count place slots (eqb count 0) here none
both_in begun head IsBeingMade place slots counts is whole here none = absurd (cc whole)

both_noted : (begun : DiskState) (head : Head) (place : ℕ) (slots : List ℕ) → choice_of begun.size (reads_of begun) ≡ Ok head → is_rebuilding head.state ≡ false → place ≡ head_place (reads_of begun) → slots ≡ [] → NotedIn (after_both head head.state) place slots begun
both_noted begun head place slots counts whole here none = both_in begun head head.state place slots counts refl whole here none

-- ---- the choice

chosen_noted : (begun d : DiskState) (first : FirstRead) (second : HeadRead) (head : Head) (place : ℕ) (slots : List ℕ) (b : Bool) → HasReadFirst begun first d → second ≡ head_read (read_at begun 1) → head_choice first.size.places first.read second ≡ Ok head → are_one_head first.read second ≡ b → place ≡ 0 → slots ≡ [] → NotedIn (cond b (after_both head head.state) (AtMend head (1 - greater_place (good_of first.read) (good_of second)))) place slots begun
chosen_noted begun d first second head place slots true has second_is is same here none =
    both_noted begun head place slots (choice-read begun d first second has second_is ∙ is) (IsChosen-from first.size.places first.read second head is).made
    (here ∙ place-one begun d first second head has second_is is (one-head first.read second same)) none
chosen_noted begun d first second head place slots false has second_is is same here none = record {
  place_is = ap (λ (a : HeadRead). 1 - greater_place (good_of a) (good_of second)) has.read ∙ ap (λ (b : HeadRead). 1 - greater_place (good_of (head_read (read_at begun 0))) (good_of b)) second_is;
  slots_are = none;
}

heads_noted : (begun d : DiskState) (first : FirstRead) (second : HeadRead) (place : ℕ) (slots : List ℕ) (choice : Result Head RecoverError) → HasReadFirst begun first d → second ≡ head_read (read_at begun 1) → head_choice first.size.places first.read second ≡ choice → place ≡ 0 → slots ≡ [] → NotedIn (after_heads first.read second choice) place slots begun
heads_noted begun d first second place slots (Ok head) has second_is is here none = chosen_noted begun d first second head place slots (are_one_head first.read second) has second_is is refl here none
heads_noted begun d first second place slots (Err why) has second_is is here none = record { place_is = tt; slots_are = tt }

-- ---- the images

-- the slot of the image that was read is noted with the others
abbrev with_read : RecoverView → List ℕ → List ℕ
with_read view slots = slots_with slots (last_of (images_in_view view))

more_noted : (begun : DiskState) (journal : JournalRead) (image : List ℕ) (place : ℕ) (slots : List ℕ) (b : Bool) → place ≡ head_place (reads_of begun) → slots ≡ map slot_of journal.images → NotedIn (cond b (AtImage journal.head journal.count (journal.images ++ image ∷ [])) (replay_from journal.head (journal.images ++ image ∷ []))) place (with_read (cond b (AtImage journal.head journal.count (journal.images ++ image ∷ [])) (replay_from journal.head (journal.images ++ image ∷ []))) slots) begun
more_noted begun journal image place slots true here are = record { place_is = here; slots_are = slots-more slots journal.images (journal.images ++ image ∷ []) image refl are }
more_noted begun journal image place slots false here are = record { place_is = here; slots_are = slots-more slots journal.images (journal.images ++ image ∷ []) image refl are }

image_noted : (begun : DiskState) (journal : JournalRead) (image : List ℕ) (place : ℕ) (slots : List ℕ) (refusal : Option RecoverError) → place ≡ head_place (reads_of begun) → slots ≡ map slot_of journal.images → NotedIn (after_image journal.head journal.count (journal.images ++ image ∷ []) refusal) place (with_read (after_image journal.head journal.count (journal.images ++ image ∷ []) refusal) slots) begun
image_noted begun journal image place slots None here are = more_noted begun journal image place slots (ltb (length (journal.images ++ image ∷ [])) journal.count) here are
image_noted begun journal image place slots (Some why) here are = record { place_is = tt; slots_are = tt }

-- ---- the commit

journal_noted : (begun d : DiskState) (head : Head) (epoch : ℕ) (images : List (List ℕ)) (stage : Stage) (slots : List ℕ) → IsReplaying begun head epoch images stage d → slots ≡ map slot_of images → AreJournalSlots begun slots
journal_noted begun d head epoch images stage slots is are chosen counts =
    let same : chosen ≡ opened_head head epoch images = cc (sym counts ∙ is.counts) in
    are ∙ ap (map slot_of) (sym is.images_are) ∙ ap (journal_slots (reads_of begun)) (sym same)

replay_noted : (begun d : DiskState) (head : Head) (epoch : ℕ) (images : List (List ℕ)) (stage then : Stage) (place : ℕ) (slots : List ℕ) → IsReplaying begun head epoch images stage d → place ≡ head_place (reads_of begun) → slots ≡ map slot_of images → NotedIn (after_replay head epoch images then) place slots begun
replay_noted begun d head epoch images stage (Journal next) place slots is here are = record { place_is = here; slots_are = are }
replay_noted begun d head epoch images stage (Opening turn) place slots is here are = record { place_is = here; slots_are = are }
replay_noted begun d head epoch images stage (Homes next) place slots is here are = record { place_is = here; slots_are = are }
replay_noted begun d head epoch images stage (Closing turn) place slots is here are = record { place_is = here; slots_are = are }
replay_noted begun d head epoch images stage Rested place slots is here are = record { place_is = here; slots_are = journal_noted begun d head epoch images stage slots is are }

-- ---- each stage

size_noted : (begun : DiskState) (n place : ℕ) (slots : List ℕ) (b : Bool) → place ≡ 0 → slots ≡ [] → NotedIn (cond b (AtRefused (NotAStore 0)) (AtSettle n)) place slots begun
size_noted begun n place slots true here none = record { place_is = tt; slots_are = tt }
size_noted begun n place slots false here none = record { place_is = here; slots_are = none }

-- what is noted after a call, with the slot of the image where one was read
pub noted-next : (stage : RecoverStage) (begun d : DiskState) (place : ℕ) (slots : List ℕ) → IsRecovering stage begun d → HasNotedAt stage place slots begun → NotedIn (next (view_of stage) (answer_of d (recover_call stage))) (place_after stage place) (slots_with slots (cond (is_reading stage) (last_of (images_in_view (next (view_of stage) (answer_of d (recover_call stage))))) None)) begun
noted-next Ask begun d place slots is has = size_noted begun d.size place slots (ltb d.size 38) has.place_is has.slots_are
noted-next (Settle size) begun d place slots is has = record { place_is = has.place_is; slots_are = has.slots_are }
noted-next (ReadFirst size) begun d place slots is has = record { place_is = has.place_is; slots_are = has.slots_are }
noted-next (ReadSecond first) begun d place slots is has =
    let second = head_read (read_at d 1) in
    heads_noted begun d first second place slots (head_choice first.size.places first.read second) is (ap head_read (read_at-stands 0 1 begun d is.stands (omega arith))) refl has.place_is has.slots_are
noted-next (Mend mending) begun d place slots is has = record { place_is = other-place begun mending.place has.place_is; slots_are = has.slots_are }
noted-next (SettleMend mending) begun d place slots is has = both_noted begun mending.head place slots is.counts mending.whole has.place_is has.slots_are
noted-next (ReadImage journal) begun d place slots is has =
    let at = journal_place journal.head + length journal.images in
    image_noted begun journal (read_at d at) place slots (image_refusal journal.head.nodes at journal.images (read_at d at)) has.place_is has.slots_are
noted-next (Replay replay) begun d place slots is has =
    let c = replay.commit in
    replay_noted begun d c.head c.epoch c.images c.stage (next_stage (length c.images) c.stage) place slots is has.place_is has.slots_are
noted-next (Ready ready) begun d place slots is has = record { place_is = has.place_is; slots_are = has.slots_are }
noted-next (Refused refusal) begun d place slots is has = record { place_is = tt; slots_are = tt }
