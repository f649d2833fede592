-- What a step of a mount leaves whose call was made.
use Rattle.std.proofs.Common.{◌≡◌, ◌≢◌, ◌⊎◌, inl, inr, ◌∙◌, ◌≤◌, ℕ, Bool, true, false, List, [], length, Option, Some, None, Result, Ok, Err, refl, sym, ap, subst, arith}
use Rattle.std.specs.Option.{option_map}
use Rattle.std.specs.Prelude.{IfErr, OnOk, is_some}
use Rattle.vb_cause.specs.Faults.{counted}
use Rattle.vb_disk.specs.declared.disk_error.DiskError.TheVariants.{Memory as NoMemory}
use Rattle.vb_disk.specs.States.{DiskState, IsDiskState, read_at}
use Rattle.vb_head.specs.declared.head.Head.{Head}
use Rattle.vb_journal.specs.declared.recover.Ahead.{Ahead}
use Rattle.vb_journal.specs.declared.recover.Ahead.TheVariants.{More, Ready as AllDone}
use Rattle.vb_journal.specs.declared.recover.Recover.{Recover}
use Rattle.vb_journal.specs.declared.recover_error.RecoverError.{RecoverError}
use Rattle.vb_journal.specs.declared.recover_error.RecoverError.TheVariants.{NotAStore, Damaged, Unfit, Rebuilding, DiskFault, Memory}
use Rattle.vb_journal.specs.Interruptions.{is_synced_in}
use Rattle.vb_journal.specs.Notes.{HasNoted, slots_noted, slots_with}
use Rattle.vb_journal.specs.Recovering.{IsRecovering, MakesCall, ReadPlace, RecoverCall, RecoversTo, SeenStays, TakesImage, due_of, images_by}
use Rattle.vb_journal.specs.RecoveryCalls.{IsFirst, recovery_calls_left}
use Rattle.vb_journal.specs.Recovers.{Lends, lent_image, recovery_stage}
use Rattle.vb_journal.specs.RecoverMoves.{GoesOn}
use Rattle.vb_journal.specs.RecoverViews.{answer_in, page_in, recover_call, view_of}
use Rattle.vb_journal.proofs.Answering.{hopeless-of}
use Rattle.vb_journal.proofs.RecoverAnswers.{first-made, lends-made, makes-went, noted-made, slots-made, stage-steps, takes-made}
use Rattle.vb_journal.proofs.RecoverStages.{due-some, seen-due, synced-next}
use Rattle.vb_journal.proofs.RecoverSteps.{made, went-known}
use Rattle.vb_steps.specs.declared.due.Got.{Got}
use Rattle.vb_steps.specs.Calls.{SeenStays as SeenAfter, answer_of, is_change, is_due}
use Rattle.vb_steps.specs.Steps.{CallsOnce, Steps}
use Rattle.vb_steps.proofs.StepsLike.{steps-as}
use Rattle.vb_store.specs.declared.mount_parts.Homes.{Homes}
use Rattle.vb_store.specs.declared.mount_parts.Refusal.{Refusal}
use Rattle.vb_store.specs.declared.mount_parts.Whole.{Whole}
use Rattle.vb_store.specs.declared.mount_phase.JournalPhase.{JournalPhase}
use Rattle.vb_store.specs.declared.mount_phase.MountPhase.{MountPhase}
use Rattle.vb_store.specs.declared.mount_phase.MountPhase.TheVariants.{Recovering, Reading, Ready}
use Rattle.vb_store.specs.declared.mount_stage.MountStage.{MountStage}
use Rattle.vb_store.specs.declared.mount_stage.MountStage.TheVariants.{ReadHome, ReadMap, Finish, Refused}
use Rattle.vb_store.specs.LentImages.{IsPhaseOf, lent_fault}
use Rattle.vb_store.specs.MountMoves.{BeginsReading, FollowsMore, FollowsRecovery, GivesPage, MountGoesOn, mount_answer, mount_call, read_call}
use Rattle.vb_store.specs.Mounts.{AreSoundTo, HasMountEnded, IsJournalRead, IsMounting, MakesNext, MountStandsAfter, MountsOn, MountsTo, blocks_of_mount, due_of_mount, mount_calls_left, relied_on, store_reads}
use Rattle.vb_store.specs.MountStages.{IsNoFault, blocks_of, due_place}
use Rattle.vb_store.specs.NodesRead.{is_retried}
use Rattle.vb_store.specs.Readings.{Closes, IsClosed}
use Rattle.vb_store.proofs.HandedOver.{AreFirst, begins-known, begins-list, reading-mounts, ready-fault, ready-mounts}
use Rattle.vb_store.proofs.ImagesTaken.{refused-after, sound-after}
use Rattle.vb_store.proofs.MountCrashes.{recovery-mounts}
use Rattle.vb_store.proofs.MountReadings.{reading-calls, reading-error, reading-list}
use Rattle.vb_store.proofs.MountRecoveries.{ended-known, list-more, phase-known, phase-list, refused-by}

-- ---- reads

-- a read changes nothing
pub read-calm : (due : Option ℕ) → is_change (read_call due) ≡ false
read-calm None = refl
read-calm (Some place) = refl

gives_page : (d : DiskState) (due : Option ℕ) (got : Got) → got ≡ answer_of d (read_call due) → GivesPage (λ place. read_at d place) due (page_in got)
gives_page d None got gives = tt
gives_page d (Some place) got gives = sym (ap page_in gives)

-- ---- after a call of the recovery

-- what is known of it
record HasGone (j : JournalPhase) (r : Recover) (begun d next : DiskState) (was : Option DiskState) (result : Result Ahead RecoverError) : Type 0 where
  pub answers : answer_in (view_of (recovery_stage r)) ≡ result
  pub told : was ≡ Some d
  pub before : IsJournalRead j.recover begun d
  pub known : IsRecovering (recovery_stage r) begun next
  pub noted : HasNoted r begun
  pub lends : OnOk result (Lends (recovery_stage j.recover) (lent_image r) was)
  pub takes : OnOk result (TakesImage (recovery_stage j.recover) (recovery_stage r) was)
  pub slots : slots_noted r ≡ slots_with (slots_noted j.recover) (lent_image r)
  pub first : IsFirst (due_of (recovery_stage j.recover)) (recovery_calls_left (recovery_stage j.recover) begun) (recovery_calls_left (recovery_stage r) begun)

-- results, with the type written out
abbrev ahead : Ahead → Result Ahead RecoverError
ahead x = Ok x

abbrev refused : RecoverError → Result Ahead RecoverError
refused e = Err e

sound_now : (j : JournalPhase) (r : Recover) (begun d next : DiskState) (was : Option DiskState) (x : Ahead) → HasGone j r begun d next was (ahead x) → lent_fault r ≡ None → AreSoundTo begun (length (slots_noted r))
sound_now j r begun d next was x has none =
    let old = j.recover in
    sound-after (recovery_stage old) (recovery_stage r) begun d next old.place old.slots.items r.slots.items (lent_image r) was has.before.known has.before.noted has.before.sound has.told has.lends has.takes has.known has.slots none

more_known : (j : JournalPhase) (r : Recover) (phase : MountPhase) (begun d next : DiskState) (was : Option DiskState) (fault : Option RecoverError) → lent_fault r ≡ fault → HasGone j r begun d next was (ahead More) → FollowsMore r fault phase → IsMounting phase begun next
more_known j r phase begun d next was None is has follows =
    phase-known r phase begun next follows (record { is = has.before.is; known = has.known; noted = has.noted; sound = sound_now j r begun d next was More has is })
more_known j r phase begun d next was (Some e) is has follows =
    let old = j.recover in
    ended-known phase begun next e has.before.is follows
    (refused-after (recovery_stage old) (recovery_stage r) begun d next old.place old.slots.items (lent_image r) was e has.before.known has.before.noted has.before.sound has.told has.lends has.takes has.known is)

first_of : (h : Homes) → h.nodes ≡ [] → AreFirst h h.head h.place h.slots.items
first_of h none = record { head_is = refl; place_is = refl; slots_are = refl; none = none }

begins_at : (j : JournalPhase) (r : Recover) (phase : MountPhase) (begun d next : DiskState) (was : Option DiskState) → HasGone j r begun d next was (ahead AllDone) → BeginsReading r phase → IsMounting phase begun next
begins_at j r (Recovering k) begun d next was has begins = absurd begins
begins_at j r (Reading (ReadHome h)) begun d next was has begins =
    begins-known (recovery_stage r) begun next h h.head h.place r.place h.slots.items r.slots.items has.before.is (first_of h begins.none) begins.head_is has.known (begins.noted begun has.noted) has.noted
    (sound_now j r begun d next was AllDone has (ready-fault (recovery_stage r) h.head (lent_image r) (length (images_by (recovery_stage r))) begins.head_is))
begins_at j r (Reading (ReadMap m)) begun d next was has begins = absurd begins
begins_at j r (Reading (Finish w)) begun d next was has begins = absurd begins
begins_at j r (Reading (Refused x)) begun d next was has begins = absurd begins
begins_at j r (Ready ready) begun d next was has begins = absurd begins

recovery_known : (j : JournalPhase) (r : Recover) (phase : MountPhase) (begun d next : DiskState) (was : Option DiskState) (result : Result Ahead RecoverError) → HasGone j r begun d next was result → FollowsRecovery r result phase → IsMounting phase begun next
recovery_known j r phase begun d next was (Ok More) has follows = more_known j r phase begun d next was (lent_fault r) refl has follows
recovery_known j r phase begun d next was (Ok AllDone) has follows = begins_at j r phase begun d next was has follows
recovery_known j r phase begun d next was (Err e) has follows =
    let ended = hopeless-of begun next (recovery_stage r) e has.answers has.known in
    ended-known phase begun next e has.before.is follows (refused-by j r begun d e has.before ended.0 ended.1 has.first)

-- where the recovery went on
has_gone : (j : JournalPhase) (r : Recover) (begun d : DiskState) (was then : Option DiskState) (x : Unit {0}) (Stays : Type 0) → was ≡ Some d → (steps : Steps (recover_call (recovery_stage j.recover)) (λ got. GoesOn j.recover got r) Stays was then (made x)) → IsJournalRead j.recover begun d → (to : RecoversTo begun (recovery_stage j.recover) (recovery_stage r) d then) → HasGone j r begun d to.next was (answer_in (view_of (recovery_stage r)))
has_gone j r begun d was then x Stays told steps is to = record {
  answers = refl;
  told = told;
  before = is;
  known = to.known;
  noted = noted-made j.recover r begun d was then x Stays told steps is.known is.noted;
  lends = lends-made j.recover r was then x Stays (answer_in (view_of (recovery_stage r))) refl steps;
  takes = takes-made (recovery_stage j.recover) (recovery_stage r) was then x (Unit {0}) (answer_in (view_of (recovery_stage r))) refl (stage-steps j.recover r was then x Stays steps);
  slots = slots-made j.recover r steps.went.got steps.went.goes;
  first = first-made (recovery_stage j.recover) (recovery_stage r) begun d was then x (Unit {0}) told (stage-steps j.recover r was then x Stays steps) is.known;
}

-- ---- what is known

pub mount-crash : (old new : MountPhase) (was then : Option DiskState) (x : Unit {0}) (Stays : Type 0) → ((d : DiskState) → was ≡ Some d → IsDiskState d) → Steps (mount_call old) (λ got. MountGoesOn old got new) Stays was then (made x) → MountsOn old new was then
mount-crash (Recovering j) new was then x Stays valid steps begun d told is =
    let goes = steps.went.goes in
    let r = goes.then in
    let own = steps-as (recover_call (recovery_stage j.recover)) was then x steps goes.goes in
    let to = went-known begun d (recovery_stage j.recover) (recovery_stage r) was then x (Unit {0}) (valid d told) told (stage-steps j.recover r was then x (Unit {0}) own) is.known in
    recovery-mounts j (recovery_stage r) new begun d then to
    (λ synced. ap is_synced_in goes.goes.goes.view_is ∙ synced-next (recovery_stage j.recover) steps.went.got synced) is.is
    (recovery_known j r new begun d to.next was (answer_in (view_of (recovery_stage r))) (has_gone j r begun d was then x (Unit {0}) told own is to) goes.follows)
mount-crash (Reading stage) new was then x Stays valid steps begun d told is =
    let goes = steps.went.goes in
    let gives = gives_page d (due_place stage) steps.went.got (steps.went.gives d told) in
    reading-mounts stage goes.then goes.answer new (mount_answer new) begun d then (steps.calm (read-calm (due_place stage)) ∙ told) is (goes.rest (λ place. read_at d place) gives) (goes.list (λ place. read_at d place) gives) goes.closes
mount-crash (Ready ready) new was then x Stays valid steps begun d told is =
    subst (λ (p : MountPhase). MountsTo begun (Ready ready) p d then) (sym steps.went.goes) (ready-mounts ready begun d then (steps.calm refl ∙ told) is)

-- ---- what it answers

-- a phase that is no recovery and no end
pub none_more : {A : Type 0} (r : Recover) (phase : MountPhase) (fault : Option RecoverError) → (IsPhaseOf r phase → ⊥) → ((e : RecoverError) → HasMountEnded phase e → ⊥) → FollowsMore r fault phase → A
none_more r phase None other on follows = absurd (other follows)
none_more r phase (Some e) other on follows = absurd (on e follows)

-- no call is retried after the recovery
pub follows-ends : (r : Recover) (result : Result Ahead RecoverError) (phase : MountPhase) → FollowsRecovery r result phase → IfErr (mount_answer phase) (λ e. is_retried e ≡ false)
follows-ends r result (Recovering j) follows = tt
follows-ends r result (Reading (ReadHome h)) follows = tt
follows-ends r result (Reading (ReadMap m)) follows = tt
follows-ends r (Ok More) (Reading (Finish w)) follows = none_more r (Reading (Finish w)) (lent_fault r) (λ is. is) (λ e ended. ended) follows
follows-ends r (Ok AllDone) (Reading (Finish w)) follows = absurd follows
follows-ends r (Err e) (Reading (Finish w)) follows = absurd follows
follows-ends r result (Reading (Refused refusal)) follows = refusal.ends
follows-ends r result (Ready ready) follows = tt

pub mount-makes : (old new : MountPhase) (was then : Option DiskState) (x : Unit {0}) (Stays : Type 0) → Steps (mount_call old) (λ got. MountGoesOn old got new) Stays was then (made x) → MakesCall (due_of_mount old) was then (mount_answer new)
mount-makes (Recovering j) new was then x Stays steps =
    let goes = steps.went.goes in
    makes-went (recovery_stage j.recover) was then x (mount_answer new) (follows-ends goes.then (answer_in (view_of (recovery_stage goes.then))) new goes.follows) steps
mount-makes (Reading stage) new was then x Stays steps = reading-calls stage was then (mount_answer new) (steps.calm (read-calm (due_place stage)))
mount-makes (Ready ready) new was then x Stays steps = steps.calm refl

-- an end stands
pub ended-stands : (old : MountPhase) (refusal : Refusal) (e : RecoverError) → refusal.error ≡ e → MountStandsAfter old (Reading (Refused refusal)) e
ended-stands old refusal (NotAStore place) is = is
ended-stands old refusal (Damaged place kept found) is = is
ended-stands old refusal (Unfit place why) is = is
ended-stands old refusal Rebuilding is = is
ended-stands old refusal DiskFault is = absurd (cc (ap is_retried is, refusal.ends))
ended-stands old refusal Memory is = absurd (cc (ap is_retried is, refusal.ends))

recovery_error : (j : JournalPhase) (new : MountPhase) → IfErr (mount_answer new) (λ e. is_retried e ≡ false) → IfErr (mount_answer new) (MountStandsAfter (Recovering j) new)
recovery_error j (Recovering k) ends = tt
recovery_error j (Reading (ReadHome h)) ends = tt
recovery_error j (Reading (ReadMap m)) ends = tt
recovery_error j (Reading (Finish w)) ends = absurd (cc ends)
recovery_error j (Reading (Refused refusal)) ends = ended-stands (Recovering j) refusal refusal.error refl
recovery_error j (Ready ready) ends = tt

pub mount-error : (old new : MountPhase) (got : Got) → MountGoesOn old got new → IfErr (mount_answer new) (MountStandsAfter old new)
mount-error (Recovering j) new got goes = recovery_error j new (follows-ends goes.then (answer_in (view_of (recovery_stage goes.then))) new goes.follows)
mount-error (Reading stage) new got goes = reading-error stage goes.then goes.answer new (mount_answer new) goes.closes goes.after goes.error
mount-error (Ready ready) new got goes = subst (λ (p : MountPhase). IfErr (mount_answer p) (MountStandsAfter (Ready ready) p)) (sym goes) tt

-- the same refusal comes again
closed_again : (refusal : Refusal) (then : MountStage) (answer : Result (Unit {0}) RecoverError) (new : MountPhase) → then ≡ Refused refusal → OnOk answer ⊥ → Closes then answer new (mount_answer new) → mount_answer new ≡ refused refusal.error
closed_again refusal then (Ok x) new is after closes = absurd after
closed_again refusal then (Err e) new is after closes = ap mount_answer (closes.0 ∙ ap (λ (s : MountStage). Reading s) is)

pub mount-again : (old new : MountPhase) (got : Got) → MountGoesOn old got new → (error : RecoverError) → HasMountEnded old error → mount_answer new ≡ Err error
mount-again (Recovering j) new got goes error ended = absurd ended
mount-again (Reading (ReadHome h)) new got goes error ended = absurd ended
mount-again (Reading (ReadMap m)) new got goes error ended = absurd ended
mount-again (Reading (Finish w)) new got goes error ended = absurd ended
mount-again (Reading (Refused refusal)) new got goes error ended =
    closed_again refusal goes.then goes.answer new (goes.list (λ place. []) tt) goes.after goes.closes ∙ ap refused ended
mount-again (Ready ready) new got goes error ended = absurd ended

-- damage has two digests that differ
pub no-fault-differs : (r : Result Ahead RecoverError) → IfErr r IsNoFault → (place : ℕ) (kept found : List ℕ) → r ≡ Err (Damaged place kept found) → kept ≢ found
no-fault-differs r none place kept found is = subst (λ (x : Result Ahead RecoverError). IfErr x IsNoFault) is none

-- ---- the calls

-- a call is due
pub mount-due : (phase : MountPhase) → is_due (mount_call phase) ≡ is_some (due_of_mount phase)
mount-due (Recovering j) = due-some (recovery_stage j.recover)
mount-due (Reading (ReadHome h)) = refl
mount-due (Reading (ReadMap m)) = refl
mount-due (Reading (Finish w)) = refl
mount-due (Reading (Refused r)) = refl
mount-due (Ready ready) = refl

once_made : (due : Bool) (before after : ℕ) (x : Unit {0}) → CallsOnce NoMemory due before after (made x) → (after ≡ before) ⊎ (after ≡ counted before)
once_made true before after x called = inr (called.once refl (λ out. absurd (cc out)))
once_made false before after x called = inl (called.none refl)

pub mount-called : (phase : MountPhase) (before after : ℕ) (x : Unit {0}) (r : Result Ahead RecoverError) → CallsOnce NoMemory (is_due (mount_call phase)) before after (made x) → CallsOnce Memory (is_some (due_of_mount phase)) before after r
mount-called phase before after x r called = record {
  none = λ is. called.none (mount-due phase ∙ is);
  once = λ is other. called.once (mount-due phase ∙ is) (λ out. absurd (cc out));
  at_most = λ out. once_made (is_due (mount_call phase)) before after x called;
}

-- the seen size
seen_read : (stage : MountStage) (before after : ℕ) → SeenAfter (read_call (due_place stage)) before after → SeenStays (option_map ReadPlace (due_place stage)) before after
seen_read (ReadHome h) before after seen = seen
seen_read (ReadMap m) before after seen = seen
seen_read (Finish w) before after seen = seen
seen_read (Refused r) before after seen = seen

pub mount-seen : (phase : MountPhase) (before after : ℕ) → SeenAfter (mount_call phase) before after → SeenStays (due_of_mount phase) before after
mount-seen (Recovering j) before after seen = seen-due (recovery_stage j.recover) before after seen
mount-seen (Reading stage) before after seen = seen_read stage before after seen
mount-seen (Ready ready) before after seen = seen

seen_stands : (due : Option ℕ) (before after : ℕ) → SeenAfter (read_call due) before after → after ≡ before
seen_stands None before after seen = seen
seen_stands (Some place) before after seen = seen

-- the size that is relied on, up to the end
closed_relied : (w : Whole) (new : MountPhase) (seen : ℕ) → IsClosed w new (mount_answer new) → w.head.blocks ≤ seen → blocks_of_mount new ≤ seen → relied_on new ≤ seen
closed_relied w (Recovering j) seen closed enough blocks = blocks
closed_relied w (Reading stage) seen closed enough blocks = blocks
closed_relied w (Ready ready) seen closed enough blocks = let same : ready.view.head.blocks ≡ w.head.blocks = ap (λ (h : Head). h.blocks) closed.0 in omega (arith, same, enough)

reading_relied : (then : MountStage) (answer : Result (Unit {0}) RecoverError) (new : MountPhase) (seen : ℕ) → Closes then answer new (mount_answer new) → blocks_of then ≤ seen → blocks_of_mount new ≤ seen → relied_on new ≤ seen
reading_relied (ReadHome h) (Ok x) new seen closes enough blocks = subst (λ (p : MountPhase). relied_on p ≤ seen) (sym closes.0) enough
reading_relied (ReadMap m) (Ok x) new seen closes enough blocks = subst (λ (p : MountPhase). relied_on p ≤ seen) (sym closes.0) enough
reading_relied (Finish w) (Ok x) new seen closes enough blocks = closed_relied w new seen closes enough blocks
reading_relied (Refused r) (Ok x) new seen closes enough blocks = subst (λ (p : MountPhase). relied_on p ≤ seen) (sym closes.0) enough
reading_relied then (Err e) new seen closes enough blocks = subst (λ (p : MountPhase). relied_on p ≤ seen) (sym closes.0) enough

recovery_relied : (r : Recover) (result : Result Ahead RecoverError) (new : MountPhase) (seen : ℕ) → FollowsRecovery r result new → blocks_of_mount new ≤ seen → relied_on new ≤ seen
recovery_relied r result (Recovering k) seen follows blocks = blocks
recovery_relied r result (Reading stage) seen follows blocks = blocks
recovery_relied r (Ok More) (Ready ready) seen follows blocks = none_more r (Ready ready) (lent_fault r) (λ is. is) (λ e ended. ended) follows
recovery_relied r (Ok AllDone) (Ready ready) seen follows blocks = absurd follows
recovery_relied r (Err e) (Ready ready) seen follows blocks = absurd follows

pub mount-relied : (old new : MountPhase) (got : Got) (before after : ℕ) → MountGoesOn old got new → SeenAfter (mount_call old) before after → blocks_of_mount new ≤ after → relied_on old ≤ before → relied_on new ≤ after
mount-relied (Recovering j) new got before after goes seen blocks relied = recovery_relied goes.then (answer_in (view_of (recovery_stage goes.then))) new after goes.follows blocks
mount-relied (Reading stage) new got before after goes seen blocks relied =
    let same : after ≡ before = seen_stands (due_place stage) before after seen in
    let fewer : blocks_of goes.then ≤ blocks_of stage = goes.blocks in
    reading_relied goes.then goes.answer new after goes.closes (omega (arith, same, fewer, relied)) blocks
mount-relied (Ready ready) new got before after goes seen blocks relied =
    let same : after ≡ before = seen in
    subst (λ (p : MountPhase). relied_on p ≤ after) (sym goes) (omega (arith, same, relied))

-- ---- the list

error_next : (due : Option RecoverCall) (old left : List RecoverCall) (f : RecoverError) → is_retried f ≡ false → MakesNext due old left (refused f)
error_next due old left (NotAStore place) ends = tt
error_next due old left (Damaged place kept found) ends = tt
error_next due old left (Unfit place why) ends = tt
error_next due old left Rebuilding ends = tt
error_next due old left DiskFault ends = absurd (cc ends)
error_next due old left Memory ends = absurd (cc ends)

ended_next : (new : MountPhase) (due : Option RecoverCall) (old left : List RecoverCall) (e : RecoverError) → HasMountEnded new e → IfErr (mount_answer new) (λ f. is_retried f ≡ false) → MakesNext due old left (mount_answer new)
ended_next (Recovering j) due old left e ended ends = absurd ended
ended_next (Reading (ReadHome h)) due old left e ended ends = absurd ended
ended_next (Reading (ReadMap m)) due old left e ended ends = absurd ended
ended_next (Reading (Finish w)) due old left e ended ends = absurd ended
ended_next (Reading (Refused r)) due old left e ended ends = error_next due old left r.error ends
ended_next (Ready ready) due old left e ended ends = absurd ended

more_next : (j : JournalPhase) (r : Recover) (new : MountPhase) (begun d next : DiskState) (was : Option DiskState) (fault : Option RecoverError) → HasGone j r begun d next was (ahead More) → IfErr (mount_answer new) (λ f. is_retried f ≡ false) → FollowsMore r fault new → MakesNext (due_of_mount (Recovering j)) (mount_calls_left (Recovering j) begun d) (mount_calls_left new begun next) (mount_answer new)
more_next j r (Recovering k) begun d next was None has ends follows =
    list-more (due_of (recovery_stage j.recover)) (recovery_calls_left (recovery_stage j.recover) begun) (recovery_calls_left (recovery_stage r) begun) (store_reads begun) (mount_calls_left (Recovering k) begun next) j.going has.first (phase-list r (Recovering k) begun next follows)
more_next j r (Reading stage) begun d next was None has ends follows = absurd follows
more_next j r (Ready ready) begun d next was None has ends follows = absurd follows
more_next j r new begun d next was (Some e) has ends follows = ended_next new (due_of_mount (Recovering j)) (mount_calls_left (Recovering j) begun d) (mount_calls_left new begun next) e follows ends

begins_next : (j : JournalPhase) (r : Recover) (new : MountPhase) (begun d next : DiskState) (was : Option DiskState) → HasGone j r begun d next was (ahead AllDone) → BeginsReading r new → MakesNext (due_of_mount (Recovering j)) (mount_calls_left (Recovering j) begun d) (mount_calls_left new begun next) (mount_answer new)
begins_next j r (Recovering k) begun d next was has begins = absurd begins
begins_next j r (Reading (ReadHome h)) begun d next was has begins =
    list-more (due_of (recovery_stage j.recover)) (recovery_calls_left (recovery_stage j.recover) begun) (recovery_calls_left (recovery_stage r) begun) (store_reads begun) (mount_calls_left (Reading (ReadHome h)) begun next) j.going has.first
    (begins-list (recovery_stage r) begun next h h.head h.place h.slots.items (first_of h begins.none) begins.head_is has.known (begins.noted begun has.noted))
begins_next j r (Reading (ReadMap m)) begun d next was has begins = absurd begins
begins_next j r (Reading (Finish w)) begun d next was has begins = absurd begins
begins_next j r (Reading (Refused x)) begun d next was has begins = absurd begins
begins_next j r (Ready ready) begun d next was has begins = absurd begins

recovery_next : (j : JournalPhase) (r : Recover) (new : MountPhase) (begun d next : DiskState) (was : Option DiskState) (result : Result Ahead RecoverError) → HasGone j r begun d next was result → IfErr (mount_answer new) (λ f. is_retried f ≡ false) → FollowsRecovery r result new → MakesNext (due_of_mount (Recovering j)) (mount_calls_left (Recovering j) begun d) (mount_calls_left new begun next) (mount_answer new)
recovery_next j r new begun d next was (Ok More) has ends follows = more_next j r new begun d next was (lent_fault r) has ends follows
recovery_next j r new begun d next was (Ok AllDone) has ends follows = begins_next j r new begun d next was has follows
recovery_next j r new begun d next was (Err e) has ends follows = ended_next new (due_of_mount (Recovering j)) (mount_calls_left (Recovering j) begun d) (mount_calls_left new begun next) e follows ends

same_told : (was then : Option DiskState) (d next : DiskState) → then ≡ was → was ≡ Some d → then ≡ Some next → d ≡ next
same_told was then d next same told new_told = let both : Some d ≡ Some next = sym told ∙ sym same ∙ new_told in cc both

pub mount-list : (old new : MountPhase) (was then : Option DiskState) (x : Unit {0}) (Stays : Type 0) → ((d : DiskState) → was ≡ Some d → IsDiskState d) → Steps (mount_call old) (λ got. MountGoesOn old got new) Stays was then (made x) → (begun d next : DiskState) → was ≡ Some d → then ≡ Some next → IsMounting old begun d
    → MakesNext (due_of_mount old) (mount_calls_left old begun d) (mount_calls_left new begun next) (mount_answer new)
mount-list (Recovering j) new was then x Stays valid steps begun d next told new_told is =
    let goes = steps.went.goes in
    let r = goes.then in
    let own = steps-as (recover_call (recovery_stage j.recover)) was then x steps goes.goes in
    let to = went-known begun d (recovery_stage j.recover) (recovery_stage r) was then x (Unit {0}) (valid d told) told (stage-steps j.recover r was then x (Unit {0}) own) is.known in
    let both : Some to.next ≡ Some next = sym to.told ∙ new_told in
    let same : to.next ≡ next = cc both in
    let result = answer_in (view_of (recovery_stage r)) in
    subst (λ (e : DiskState). MakesNext (due_of_mount (Recovering j)) (mount_calls_left (Recovering j) begun d) (mount_calls_left new begun e) (mount_answer new)) same
    (recovery_next j r new begun d to.next was result (has_gone j r begun d was then x (Unit {0}) told own is to) (follows-ends r result new goes.follows) goes.follows)
mount-list (Reading stage) new was then x Stays valid steps begun d next told new_told is =
    let goes = steps.went.goes in
    let same : d ≡ next = same_told was then d next (steps.calm (read-calm (due_place stage))) told new_told in
    subst (λ (e : DiskState). MakesNext (due_of_mount (Reading stage)) (mount_calls_left (Reading stage) begun d) (mount_calls_left new begun e) (mount_answer new)) same
    (reading-list begun d stage goes.then goes.answer new (mount_answer new) goes.closes goes.after (goes.list (λ place. read_at d place) (gives_page d (due_place stage) steps.went.got (steps.went.gives d told))))
mount-list (Ready ready) new was then x Stays valid steps begun d next told new_told is =
    subst (λ (p : MountPhase). MakesNext None [] (mount_calls_left p begun next) (mount_answer p)) (sym steps.went.goes) (refl, refl)

-- what is said of the answer of a phase is said of that answer
pub mount-made-as : (P : Result Ahead RecoverError → Type 0) (phase : MountPhase) (r : Result Ahead RecoverError) → r ≡ mount_answer phase → P (mount_answer phase) → P r
mount-made-as P phase r is holds = subst P (sym is) holds
