-- What a step of a mount leaves whose call failed.
use Rattle.std.proofs.Common.{◌≡◌, ◌∙◌, ◌≤◌, ℕ, Bool, ◌-◌, ◌+◌, List, ◌++◌, length, Option, Some, Err, refl, sym, ap, subst, arith}
use Rattle.std.specs.Option.{option_map}
use Rattle.std.specs.Prelude.{is_some}
use Rattle.vb_disk.specs.declared.disk_error.DiskError.{DiskError}
use Rattle.vb_disk.specs.declared.disk_error.DiskError.TheVariants.{Failed, Memory as NoMemory}
use Rattle.vb_disk.specs.States.{DiskState, read_at}
use Rattle.vb_head.specs.declared.head.Head.{Head}
use Rattle.vb_inode.specs.declared.node.Node.{Node}
use Rattle.vb_journal.specs.declared.recover.Ahead.{Ahead}
use Rattle.vb_journal.specs.declared.recover_error.RecoverError.{RecoverError}
use Rattle.vb_journal.specs.declared.recover_error.RecoverError.TheVariants.{Memory}
use Rattle.vb_journal.specs.Interruptions.{is_synced_in}
use Rattle.vb_journal.specs.Notes.{slots_noted}
use Rattle.vb_journal.specs.Recoveries.{error_from}
use Rattle.vb_journal.specs.Recovering.{MakesCall, ReadPlace, RecoverCall, due_in}
use Rattle.vb_journal.specs.RecoveryCalls.{calls_left_in}
use Rattle.vb_journal.specs.Recovers.{recovery_stage}
use Rattle.vb_journal.specs.RecoverMoves.{IsSameRecovery}
use Rattle.vb_journal.specs.RecoverViews.{recover_call}
use Rattle.vb_journal.proofs.RecoverAnswers.{makes-gone, noted-lost}
use Rattle.vb_journal.proofs.RecoverStages.{err_of}
use Rattle.vb_journal.proofs.RecoverSteps.{failed-known, lost}
use Rattle.vb_steps.specs.declared.due.Got.{Got}
use Rattle.vb_steps.specs.Calls.{Rest, SeenStays as SeenAfter, is_due}
use Rattle.vb_steps.specs.Steps.{CallsOnce, Steps}
use Rattle.vb_steps.proofs.StepsLike.{stays-as}
use Rattle.vb_store.specs.declared.mount_parts.Homes.{Homes}
use Rattle.vb_store.specs.declared.mount_phase.MountPhase.{MountPhase}
use Rattle.vb_store.specs.declared.mount_phase.MountPhase.TheVariants.{Recovering, Reading, Ready}
use Rattle.vb_store.specs.declared.mount_stage.MountStage.{MountStage}
use Rattle.vb_store.specs.declared.mount_stage.MountStage.TheVariants.{ReadHome, ReadMap, Finish, Refused}
use Rattle.vb_store.specs.MountLists.{places_due, places_of_homes}
use Rattle.vb_store.specs.MountMoves.{IsSameMount, IsStageLike, mount_call}
use Rattle.vb_store.specs.Mounts.{AreSoundTo, HasMountEnded, IsMounting, MakesNext, MountStandsAfter, MountsOn, MountsTo, blocks_of_mount, due_of_mount, mount_calls_left, place_reads, relied_on, store_reads}
use Rattle.vb_store.specs.MountStages.{due_place}
use Rattle.vb_store.proofs.HandedOver.{ready-mounts, stage-mounts}
use Rattle.vb_store.proofs.MountCrashes.{recovery-mounts}
use Rattle.vb_store.proofs.MountReadings.{reading-calls}
use Rattle.vb_store.proofs.MountsMade.{mount-due, read-calm}

-- ---- a stage stays

homes_places : (reads : ℕ → List ℕ) (h k : Homes) → k.head ≡ h.head → k.slots.items ≡ h.slots.items → k.nodes ≡ h.nodes → places_due reads (ReadHome k) ≡ places_due reads (ReadHome h)
homes_places reads h k head slots nodes =
    ap (λ (l : List Node). places_of_homes reads k.head k.slots.items (k.head.nodes - length l) l) nodes
    ∙ ap (λ (s : List ℕ). places_of_homes reads k.head s (k.head.nodes - length h.nodes) h.nodes) slots
    ∙ ap (λ (x : Head). places_of_homes reads x h.slots.items (x.nodes - length h.nodes) h.nodes) head

stage_places : (reads : ℕ → List ℕ) (stage after : MountStage) → IsStageLike stage after → places_due reads after ≡ places_due reads stage
stage_places reads (ReadHome h) (ReadHome k) like = homes_places reads h k like.head_is like.slots_are like.nodes_are
stage_places reads (ReadHome h) (ReadMap m) like = absurd like
stage_places reads (ReadHome h) (Finish w) like = absurd like
stage_places reads (ReadHome h) (Refused r) like = absurd like
stage_places reads (ReadMap m) after like = ap (places_due reads) like
stage_places reads (Finish w) after like = ap (places_due reads) like
stage_places reads (Refused r) after like = ap (places_due reads) like

stage_due : (stage after : MountStage) → IsStageLike stage after → due_place after ≡ due_place stage
stage_due (ReadHome h) (ReadHome k) like = ap (λ (l : List Node). Some (2 + length l)) like.nodes_are
stage_due (ReadHome h) (ReadMap m) like = absurd like
stage_due (ReadHome h) (Finish w) like = absurd like
stage_due (ReadHome h) (Refused r) like = absurd like
stage_due (ReadMap m) after like = ap due_place like
stage_due (Finish w) after like = ap due_place like
stage_due (Refused r) after like = ap due_place like

-- ---- the call

pub same-due : (old new : MountPhase) → IsSameMount old new → due_of_mount new ≡ due_of_mount old
same-due (Recovering j) (Recovering k) same = ap due_in same.same
same-due (Recovering j) (Reading stage) same = absurd same
same-due (Recovering j) (Ready ready) same = absurd same
same-due (Reading stage) (Recovering k) same = absurd same
same-due (Reading stage) (Reading after) same = ap (option_map ReadPlace) (stage_due stage after same)
same-due (Reading stage) (Ready ready) same = absurd same
same-due (Ready ready) new same = ap due_of_mount same

stands_from : (old new : MountPhase) (e : DiskError) → IsSameMount old new → MountStandsAfter old new (error_from e)
stands_from old new Failed same = same-due old new same
stands_from old new NoMemory same = same-due old new same

pub lost-error : (old new : MountPhase) (e : DiskError) (error : RecoverError) → error ≡ error_from e → IsSameMount old new → MountStandsAfter old new error
lost-error old new e error is same = subst (MountStandsAfter old new) (sym is) (stands_from old new e same)

pub lost-makes : {Goes : Got → Type 0} {Stays : Type 0} (old : MountPhase) (was then : Option DiskState) (e : DiskError) (error : RecoverError) → error ≡ error_from e → Steps (mount_call old) Goes Stays was then (lost e) → MakesCall {T = Ahead} (due_of_mount old) was then (Err error)
lost-makes (Recovering j) was then e error is steps = makes-gone (recovery_stage j.recover) was then e error is steps
lost-makes {Goes} {Stays} (Reading stage) was then e error is steps = reading-calls stage was then (err_of error) (steps.calm (read-calm (due_place stage)))
lost-makes (Ready ready) was then e error is steps = steps.calm refl

-- one that has ended has none due
pub ended-rests : (old : MountPhase) (error : RecoverError) → HasMountEnded old error → mount_call old ≡ Rest
ended-rests (Recovering j) error ended = absurd ended
ended-rests (Reading (ReadHome h)) error ended = absurd ended
ended-rests (Reading (ReadMap m)) error ended = absurd ended
ended-rests (Reading (Finish w)) error ended = absurd ended
ended-rests (Reading (Refused r)) error ended = refl
ended-rests (Ready ready) error ended = absurd ended

called_lost : (due : Bool) (before after : ℕ) (e : DiskError) → CallsOnce NoMemory due before after (lost e) → CallsOnce Memory due before after (err_of (error_from e))
called_lost due before after Failed called = record {
  none = called.none;
  once = λ is no_memory. called.once is (λ out. absurd (cc out));
  at_most = λ out. absurd (cc out);
}
called_lost due before after NoMemory called = record {
  none = called.none;
  once = λ is no_memory. absurd (no_memory refl);
  at_most = λ out. called.at_most refl;
}

pub lost-called : (phase : MountPhase) (before after : ℕ) (e : DiskError) (error : RecoverError) → error ≡ error_from e → CallsOnce NoMemory (is_due (mount_call phase)) before after (lost e) → CallsOnce Memory (is_some (due_of_mount phase)) before after (err_of error)
lost-called phase before after e error is called =
    subst (λ (f : RecoverError). CallsOnce Memory (is_some (due_of_mount phase)) before after (err_of f)) (sym is)
    (subst (λ (b : Bool). CallsOnce Memory b before after (err_of (error_from e))) (mount-due phase) (called_lost (is_due (mount_call phase)) before after e called))

-- ---- what is known

sound_same : (begun : DiskState) (before after : List ℕ) → after ≡ before → AreSoundTo begun (length before) → AreSoundTo begun (length after)
sound_same begun before after same sound = subst (λ (l : List ℕ). AreSoundTo begun (length l)) (sym same) sound

pub lost-crash : {Goes : Got → Type 0} (old new : MountPhase) (was then : Option DiskState) (e : DiskError) → Steps (mount_call old) Goes (IsSameMount old new) was then (lost e) → MountsOn old new was then
lost-crash (Recovering j) (Recovering k) was then e steps begun d told is =
    let old = j.recover in
    let new = k.recover in
    let same : IsSameRecovery old new = steps.stays in
    let to = failed-known begun d (recovery_stage old) (recovery_stage new) was then e (λ got. Unit {0}) told (stays-as (recover_call (recovery_stage old)) was then e steps same.same) is.known in
    recovery-mounts j (recovery_stage new) (Recovering k) begun d then to (λ synced. ap is_synced_in same.same ∙ synced) is.is
    (record { is = is.is; known = to.known; noted = noted-lost old new begun same is.noted; sound = sound_same begun (slots_noted old) (slots_noted new) same.slots_are is.sound })
lost-crash (Recovering j) (Reading stage) was then e steps begun d told is = absurd steps.stays
lost-crash (Recovering j) (Ready ready) was then e steps begun d told is = absurd steps.stays
lost-crash (Reading stage) (Recovering k) was then e steps begun d told is = absurd steps.stays
lost-crash (Reading stage) (Reading after) was then e steps begun d told is = stage-mounts stage after begun d then (steps.calm (read-calm (due_place stage)) ∙ told) steps.stays is
lost-crash (Reading stage) (Ready ready) was then e steps begun d told is = absurd steps.stays
lost-crash (Ready ready) new was then e steps begun d told is =
    subst (λ (p : MountPhase). MountsTo begun (Ready ready) p d then) (sym steps.stays) (ready-mounts ready begun d then (steps.calm refl ∙ told) is)

-- ---- the list

left_same : {Goes : Got → Type 0} (old new : MountPhase) (was then : Option DiskState) (e : DiskError) → Steps (mount_call old) Goes (IsSameMount old new) was then (lost e) → (begun d next : DiskState) → was ≡ Some d → then ≡ Some next → mount_calls_left new begun next ≡ mount_calls_left old begun d
left_same (Recovering j) (Recovering k) was then e steps begun d next told new_told = ap (λ v. calls_left_in v begun ++ store_reads begun) steps.stays.same
left_same (Recovering j) (Reading stage) was then e steps begun d next told new_told = absurd steps.stays
left_same (Recovering j) (Ready ready) was then e steps begun d next told new_told = absurd steps.stays
left_same (Reading stage) (Recovering k) was then e steps begun d next told new_told = absurd steps.stays
left_same (Reading stage) (Reading after) was then e steps begun d next told new_told =
    let both : Some d ≡ Some next = sym told ∙ sym (steps.calm (read-calm (due_place stage))) ∙ new_told in
    let same : d ≡ next = cc both in
    ap (λ (x : DiskState). place_reads (places_due (λ place. read_at x place) after)) (sym same)
    ∙ ap place_reads (stage_places (λ place. read_at d place) stage after steps.stays)
left_same (Reading stage) (Ready ready) was then e steps begun d next told new_told = absurd steps.stays
left_same (Ready ready) new was then e steps begun d next told new_told = ap (λ (p : MountPhase). mount_calls_left p begun next) steps.stays

all_left : (due : Option RecoverCall) (old new : List RecoverCall) (e : DiskError) → new ≡ old → MakesNext due old new (err_of (error_from e))
all_left due old new Failed same = same
all_left due old new NoMemory same = same

pub lost-list : {Goes : Got → Type 0} (old new : MountPhase) (was then : Option DiskState) (e : DiskError) (error : RecoverError) → error ≡ error_from e → Steps (mount_call old) Goes (IsSameMount old new) was then (lost e) → (begun d next : DiskState) → was ≡ Some d → then ≡ Some next → IsMounting old begun d
    → MakesNext (due_of_mount old) (mount_calls_left old begun d) (mount_calls_left new begun next) (err_of error)
lost-list old new was then e error is steps begun d next told new_told known =
    subst (λ (f : RecoverError). MakesNext (due_of_mount old) (mount_calls_left old begun d) (mount_calls_left new begun next) (err_of f)) (sym is)
    (all_left (due_of_mount old) (mount_calls_left old begun d) (mount_calls_left new begun next) e (left_same old new was then e steps begun d next told new_told))

-- ---- the size

pub lost-relied : (old new : MountPhase) (before after : ℕ) → IsSameMount old new → blocks_of_mount new ≤ after → SeenAfter (mount_call old) before after → relied_on old ≤ before → relied_on new ≤ after
lost-relied (Recovering j) (Recovering k) before after same blocks seen relied = blocks
lost-relied (Recovering j) (Reading stage) before after same blocks seen relied = absurd same
lost-relied (Recovering j) (Ready ready) before after same blocks seen relied = absurd same
lost-relied (Reading stage) (Recovering k) before after same blocks seen relied = absurd same
lost-relied (Reading stage) (Reading then) before after same blocks seen relied = blocks
lost-relied (Reading stage) (Ready ready) before after same blocks seen relied = absurd same
lost-relied (Ready ready) new before after same blocks seen relied =
    let stood : after ≡ before = seen in
    subst (λ (p : MountPhase). relied_on p ≤ after) (sym same) (omega (arith, stood, relied))
