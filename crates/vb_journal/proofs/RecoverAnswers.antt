-- What a step of a recovery answers for, from what the driver's step says.
use Rattle.std.proofs.Common.{◌≡◌, ◌∙◌, ℕ, Bool, true, false, cond, List, Option, Some, None, Result, Ok, Err, refl, sym, ap, subst}
use Rattle.std.specs.Prelude.{IfErr, OnErr, OnOk}
use Rattle.vb_disk.specs.declared.disk_error.DiskError.{DiskError}
use Rattle.vb_disk.specs.States.{DiskState}
use Rattle.vb_journal.specs.declared.recover.Ahead.{Ahead}
use Rattle.vb_journal.specs.declared.recover_error.RecoverError.{RecoverError}
use Rattle.vb_journal.specs.declared.recover_stage.RecoverStage.{RecoverStage}
use Rattle.vb_journal.specs.declared.recover.Recover.{Recover}
use Rattle.vb_journal.specs.declared.recover_stage.RecoverStage.TheVariants.{Ask, Settle, ReadFirst, ReadSecond, Mend, SettleMend, ReadImage, Replay, Ready, Refused}
use Rattle.vb_journal.specs.Notes.{AreSlotsAt, AreSlotsAt_in, HasNoted, HasNotedAt, IsPlaceAt, IsPlaceAt_in, slots_noted, slots_with}
use Rattle.vb_journal.specs.Recoveries.{error_from, is_retried}
use Rattle.vb_journal.specs.Recovering.{IsRecovering, MakesCall, TakesImage, due_of, images_by, images_in_view}
use Rattle.vb_journal.specs.Recovers.{Lends, is_reading, last_of, lent_image}
use Rattle.vb_journal.specs.RecoverMoves.{GoesOn, IsSameRecovery}
use Rattle.vb_journal.specs.RecoveryCalls.{IsFirst, Leaves, calls_left_in, recovery_calls_left}
use Rattle.vb_journal.specs.RecoverViews.{ComesAfter, RecoverView, answer_in, next, recover_call, view_of}
use Rattle.vb_journal.proofs.Answering.{lends-taken}
use Rattle.vb_journal.proofs.ListedCalls.{leaves-first}
use Rattle.vb_journal.proofs.RecoverCalls.{first-next}
use Rattle.vb_journal.proofs.RecoverNotes.{NotedIn, noted-next}
use Rattle.vb_journal.proofs.RecoverStages.{due-is, err_of, makes-lost, makes-made, takes-next}
use Rattle.vb_journal.proofs.RecoverSteps.{lost, made, reads-next, view-next}
use Rattle.vb_steps.specs.declared.due.Got.{Got}
use Rattle.vb_steps.specs.Calls.{Call, answer_of}
use Rattle.vb_steps.specs.Steps.{Steps}
use Rattle.vb_steps.proofs.StepsLike.{steps-as}

-- the step of its stage
pub stage-steps : (old new : Recover) (was then : Option DiskState) (x : Unit {0}) (Stays : Type 0) → Steps (recover_call old.stage) (λ got. GoesOn old got new) Stays was then (made x) → Steps (recover_call old.stage) (λ got. ComesAfter old.stage got new.stage) (Unit {0}) was then (made x)
stage-steps old new was then x Stays steps = steps-as (recover_call old.stage) was then x steps steps.went.goes.goes

-- ---- the call

pub makes-went : {Goes : Got → Type 0} {Stays : Type 0} (stage : RecoverStage) (old new : Option DiskState) (x : Unit {0}) (result : Result Ahead RecoverError) → IfErr result (λ e. is_retried e ≡ false) → Steps (recover_call stage) Goes Stays old new (made x) → MakesCall (due_of stage) old new result
makes-went {Goes} {Stays} stage old new x result ends steps =
    makes-made (due_of stage) old new x result ends (subst (λ (k : Call). Steps k Goes Stays old new (made x)) (due-is stage) steps)

pub makes-gone : {Goes : Got → Type 0} {Stays : Type 0} (stage : RecoverStage) (old new : Option DiskState) (e : DiskError) (error : RecoverError) → error ≡ error_from e → Steps (recover_call stage) Goes Stays old new (lost e) → MakesCall (due_of stage) old new (err_of error)
makes-gone {Goes} {Stays} stage old new e error is steps =
    makes-lost (due_of stage) old new e error is (subst (λ (k : Call). Steps k Goes Stays old new (lost e)) (due-is stage) steps)

-- ---- the calls that are left

pub first-made : (before then : RecoverStage) (begun d : DiskState) (old new : Option DiskState) (x : Unit {0}) (Stays : Type 0) → old ≡ Some d → Steps (recover_call before) (λ got. ComesAfter before got then) Stays old new (made x) → IsRecovering before begun d → IsFirst (due_of before) (recovery_calls_left before begun) (recovery_calls_left then begun)
first-made before then begun d old new x Stays told steps is =
    subst (λ (v : RecoverView). IsFirst (due_of before) (recovery_calls_left before begun) (calls_left_in v begun)) (sym (view-next before then d old new x Stays steps told))
    (first-next before begun d (reads-next before then d old new x Stays steps told) is)

pub leaves-made : (before then : RecoverStage) (begun d : DiskState) (old new : Option DiskState) (x : Unit {0}) (Stays : Type 0) (result : Result Ahead RecoverError) → IfErr result (λ e. is_retried e ≡ false) → old ≡ Some d → Steps (recover_call before) (λ got. ComesAfter before got then) Stays old new (made x) → IsRecovering before begun d → Leaves (due_of before) (recovery_calls_left before begun) (recovery_calls_left then begun) result
leaves-made before then begun d old new x Stays result ends told steps is =
    leaves-first (due_of before) (recovery_calls_left before begun) (recovery_calls_left then begun) result ends (first-made before then begun d old new x Stays told steps is)

-- ---- the image

takes_by : (before then : RecoverStage) (told : Option DiskState) (got : Got) (result : Result Ahead RecoverError) → view_of then ≡ next (view_of before) got → ((d : DiskState) → told ≡ Some d → got ≡ answer_of d (recover_call before)) → answer_in (view_of then) ≡ result → OnOk result (TakesImage before then told)
takes_by before then told got (Ok x) is gives answers = takes-next before then got told x is gives answers
takes_by before then told got (Err e) is gives answers = tt

pub takes-made : (before then : RecoverStage) (old new : Option DiskState) (x : Unit {0}) (Stays : Type 0) (result : Result Ahead RecoverError) → result ≡ answer_in (view_of then) → Steps (recover_call before) (λ got. ComesAfter before got then) Stays old new (made x) → OnOk result (TakesImage before then old)
takes-made before then old new x Stays result answers steps =
    takes_by before then old steps.went.got result steps.went.goes.view_is steps.went.gives (sym answers)

-- ---- what is noted

noted_at : (then : RecoverStage) (view : RecoverView) (place : ℕ) (slots : List ℕ) (begun : DiskState) → view_of then ≡ view → NotedIn view place slots begun → HasNotedAt then place slots begun
noted_at then view place slots begun is noted = record {
  place_is = subst (λ (v : RecoverView). IsPlaceAt_in v place begun) (sym is) noted.place_is;
  slots_are = subst (λ (v : RecoverView). AreSlotsAt_in v slots begun) (sym is) noted.slots_are;
}

-- what is noted goes on with the step
pub noted-made : (old new : Recover) (begun d : DiskState) (was then : Option DiskState) (x : Unit {0}) (Stays : Type 0) → was ≡ Some d → Steps (recover_call old.stage) (λ got. GoesOn old got new) Stays was then (made x) → IsRecovering old.stage begun d → HasNoted old begun → HasNoted new begun
noted-made old new begun d was then x Stays told steps is has =
    let went = steps.went.goes in
    let view = next (view_of old.stage) (answer_of d (recover_call old.stage)) in
    let is_view : view_of new.stage ≡ view = view-next old.stage new.stage d was then x (Unit {0}) (stage-steps old new was then x Stays steps) told in
    let noted = noted-next old.stage begun d old.place old.slots.items is has in
    let slots : new.slots.items ≡ slots_with old.slots.items (cond (is_reading old.stage) (last_of (images_in_view view)) None) =
    went.slots_are ∙ ap (λ (v : RecoverView). slots_with old.slots.items (cond (is_reading old.stage) (last_of (images_in_view v)) None)) is_view in
    noted_at new.stage view new.place new.slots.items begun is_view (record {
      place_is = subst (λ (p : ℕ). IsPlaceAt_in view p begun) (sym went.place_is) noted.place_is;
      slots_are = subst (λ (l : List ℕ). AreSlotsAt_in view l begun) (sym slots) noted.slots_are;
    })

-- and stays where the call failed
pub noted-lost : (old new : Recover) (begun : DiskState) → IsSameRecovery old new → HasNoted old begun → HasNoted new begun
noted-lost old new begun same has =
    noted_at new.stage (view_of old.stage) new.place new.slots.items begun same.same (record {
      place_is = subst (λ (p : ℕ). IsPlaceAt old.stage p begun) (sym same.place_is) has.place_is;
      slots_are = subst (λ (l : List ℕ). AreSlotsAt old.stage l begun) (sym same.slots_are) has.slots_are;
    })

-- the slots
pub slots-made : (old new : Recover) (got : Got) → GoesOn old got new → slots_noted new ≡ slots_with (slots_noted old) (lent_image new)
slots-made old new got goes = goes.slots_are ∙ ap (λ (b : Bool). slots_with old.slots.items (cond b (last_of (images_by new.stage)) None)) (sym goes.lends)

-- ---- the image that is lent

lends_by : (old new : Recover) (got : Got) (told : Option DiskState) (result : Result Ahead RecoverError) → GoesOn old got new → OnOk result (TakesImage old.stage new.stage told) → OnOk result (Lends old.stage (lent_image new) told)
lends_by old new got told (Ok x) goes taken =
    subst (λ (b : Bool). Lends old.stage (cond b (last_of (images_by new.stage)) None) told) (sym goes.lends) (lends-taken old.stage new.stage told taken)
lends_by old new got told (Err e) goes taken = tt

pub lends-made : (old new : Recover) (was then : Option DiskState) (x : Unit {0}) (Stays : Type 0) (result : Result Ahead RecoverError) → result ≡ answer_in (view_of new.stage) → Steps (recover_call old.stage) (λ got. GoesOn old got new) Stays was then (made x) → OnOk result (Lends old.stage (lent_image new) was)
lends-made old new was then x Stays result answers steps =
    lends_by old new steps.went.got was result steps.went.goes (takes-made old.stage new.stage was then x (Unit {0}) result answers (stage-steps old new was then x Stays steps))

-- none is at a refusal
none_lent : (stage : RecoverStage) (lends : Bool) (e : RecoverError) → answer_in (view_of stage) ≡ err_of e → cond lends (last_of (images_by stage)) None ≡ None
none_lent (Refused refusal) true e is = refl
none_lent (Refused refusal) false e is = refl
none_lent Ask lends e is = absurd (cc is)
none_lent (Settle size) lends e is = absurd (cc is)
none_lent (ReadFirst size) lends e is = absurd (cc is)
none_lent (ReadSecond first) lends e is = absurd (cc is)
none_lent (Mend mending) lends e is = absurd (cc is)
none_lent (SettleMend mending) lends e is = absurd (cc is)
none_lent (ReadImage journal) lends e is = absurd (cc is)
none_lent (Replay replay) lends e is = absurd (cc is)
none_lent (Ready ready) lends e is = absurd (cc is)

none_by : (new : Recover) (result : Result Ahead RecoverError) → answer_in (view_of new.stage) ≡ result → OnErr result (lent_image new ≡ None)
none_by new (Ok x) answers = tt
none_by new (Err e) answers = none_lent new.stage new.lends e answers

pub none-lent : (new : Recover) (result : Result Ahead RecoverError) → result ≡ answer_in (view_of new.stage) → OnErr result (lent_image new ≡ None)
none-lent new result answers = none_by new result (sym answers)
