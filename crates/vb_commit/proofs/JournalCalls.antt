-- What a step of the journal's commit says, in the words of a step of a machine.
use Rattle.std.proofs.Common.{◌≡◌, ◌∙◌, ℕ, ◌+◌, ◌*◌, ◌-◌, false, List, [], ◌∷◌, length, Option, Some, Result, Ok, Err, IsOk, IsErrOf, OnOk, OnErr, refl, ap, subst, inl, inr, arith}
use Rattle.vb_disk.specs.declared.disk_error.DiskError.{DiskError}
use Rattle.vb_disk.specs.declared.disk_error.DiskError.TheVariants.{Failed, Memory}
use Rattle.vb_disk.specs.States.{DiskCall, DiskState, Resize, Sync, Write, written}
use Rattle.vb_head.specs.declared.head.Head.{Head}
use Rattle.vb_journal.specs.declared.commit_stage.CommitStep.{CommitStep}
use Rattle.vb_journal.specs.declared.commit_stage.Stage.{Stage}
use Rattle.vb_journal.specs.declared.commit_stage.Stage.TheVariants.{Journal, Opening, Homes, Closing, Rested}
use Rattle.vb_journal.specs.Calls.{Makes, MakesFirst, MayFailTo}
use Rattle.vb_journal.specs.Plans as journals
use Rattle.vb_journal.specs.Plans.{CanFinish, answer_at, answer_to, calls_from, due_call, is_rested, next_stage}
use Rattle.vb_journal.proofs.DataPlaces.{IsBelow, due_below}
use Rattle.vb_journal.proofs.DriverSteps.{may-fail}
use Rattle.vb_journal.proofs.PlanSteps.{answer_to-calls_from, calls_from-next}
use Rattle.vb_steps.specs.declared.due.Got.{Got}
use Rattle.vb_steps.specs.declared.due.Got.TheVariants.{Done}
use Rattle.vb_steps.specs.Calls.{Call, Change, Rest, is_write}
use Rattle.vb_steps.specs.Steps as steps
use Rattle.vb_steps.specs.Steps.{Steps}
use Rattle.vb_steps.proofs.StepsMade.{steps-failed, steps-made}

-- results, with their types written out
abbrev pub done : {T : Type 0} → T → Result T DiskError
done x = Ok x

abbrev pub gone : {T : Type 0} → DiskError → Result T DiskError
gone e = Err e

pub same-error : {T : Type 0} (a b : DiskError) → gone {T = T} a ≡ gone {T = T} b → a ≡ b
same-error a b is = cc

error-as : {T U : Type 0} (a b : DiskError) → gone {T = T} a ≡ gone {T = T} b → gone {T = U} a ≡ gone {T = U} b
error-as {T} {U} a b is = ap (λ (e : DiskError). gone {T = U} e) (same-error {T = T} a b is)

-- ---- from the first of the calls to the step

-- what a failed call may leave
may-leave : (call : DiskCall) (d : DiskState) (new : Option DiskState) → MayFailTo call d new → steps.Failed (Change call) d new
may-leave (Write place page) d new (inl none) = record { next = d; told = none; left = inl refl }
may-leave (Write place page) d new (inr made) = record { next = written d place page; told = made; left = inr refl }
may-leave Sync d new none = record { next = d; told = none; left = refl }
may-leave (Resize blocks) d new none = record { next = d; told = none; left = refl }

none-left : (call : DiskCall) (d : DiskState) (new : Option DiskState) → new ≡ Some d → steps.Failed (Change call) d new
none-left (Write place page) d new none = record { next = d; told = none; left = inl refl }
none-left Sync d new none = record { next = d; told = none; left = refl }
none-left (Resize blocks) d new none = record { next = d; told = none; left = refl }

left-after : (call : DiskCall) (d : DiskState) (old new : Option DiskState) (e : DiskError) → Makes call old new (gone {T = CommitStep} e) → old ≡ Some d → steps.Failed (Change call) d new
left-after call d old new Failed makes told = may-leave call d new (makes.failed d told refl)
left-after call d old new Memory makes told = none-left call d new (makes.memory refl ∙ told)

makes-made : (call : DiskCall) (old new : Option DiskState) (x : CommitStep) → Makes call old new (done x) → steps.Makes (Change call) old new (done Done)
makes-made call old new x makes = record {
  fits = refl;
  gives = λ d told. refl;
  made = makes.made;
  failed = λ d told. tt;
  memory = λ is. absurd (cc is);
  untold = makes.untold;
  calm = λ is. absurd (cc is);
}

makes-gone : (call : DiskCall) (old new : Option DiskState) (e : DiskError) → Makes call old new (gone {T = CommitStep} e) → steps.Makes (Change call) old new (gone {T = Got} e)
makes-gone call old new e makes = record {
  fits = tt;
  gives = λ d told. tt;
  made = λ d told. tt;
  failed = λ d told. left-after call d old new e makes told;
  memory = λ is. makes.memory (error-as {T = Got} {U = CommitStep} e Memory is);
  untold = makes.untold;
  calm = λ is. absurd (cc is);
}

-- a call that was made, or failed
pub call-steps : (Goes : Got → Type 0) (Stays : Type 0) (call : DiskCall) (old new : Option DiskState) (result : Result CommitStep DiskError) → Makes call old new result → OnOk result (Goes Done) → OnErr result Stays → Steps {T = CommitStep} (Change call) Goes Stays old new result
call-steps Goes Stays call old new (Ok x) makes goes stays = steps-made (Change call) Goes Stays old new Done (done x) (makes-made call old new x makes) goes tt (λ none. refl)
call-steps Goes Stays call old new (Err e) makes goes stays = steps-failed (Change call) Goes Stays old new e (makes-gone call old new e makes) stays

-- none was made
pub rest-steps : (Goes : Got → Type 0) (Stays : Type 0) (old new : Option DiskState) (result : Result CommitStep DiskError) → IsOk result → new ≡ old → OnOk result (Goes Done) → Steps {T = CommitStep} Rest Goes Stays old new result
rest-steps Goes Stays old new (Ok x) ok same goes =
    let makes : steps.Makes Rest old new (done Done) = record {
      fits = refl;
      gives = λ d told. refl;
      made = λ d told. same ∙ told;
      failed = λ d told. tt;
      memory = λ is. absurd (cc is);
      untold = λ none. same ∙ none;
      calm = λ is. same;
    } in
    steps-made Rest Goes Stays old new Done (done x) makes goes tt (λ none. refl)
rest-steps Goes Stays old new (Err e) ok same goes = absurd (cc ok)

going-steps : (Goes : Got → Type 0) (Stays : Type 0) (head : Head) (epoch : ℕ) (images : List (List ℕ)) (stage : Stage) (left : List DiskCall) (old new : Option DiskState) (result : Result CommitStep DiskError) → is_rested stage ≡ false → MakesFirst (calls_from head epoch images stage) left old new result → OnOk result (Goes Done) → OnErr result Stays → Steps {T = CommitStep} (Change (due_call head epoch images stage)) Goes Stays old new result
going-steps Goes Stays head epoch images stage left old new result going first goes stays =
    let Q : List DiskCall → Type 0 = λ calls. MakesFirst calls left old new result in
    let parts = subst Q (calls_from-next head epoch images stage going) first in
    call-steps Goes Stays (due_call head epoch images stage) old new result parts.0 goes stays

-- a step of the journal's commit, at each stage
pub journal-steps : (Goes : Got → Type 0) (Stays : Type 0) (head : Head) (epoch : ℕ) (images : List (List ℕ)) (stage : Stage) (left : List DiskCall) (old new : Option DiskState) (result : Result CommitStep DiskError) → MakesFirst (calls_from head epoch images stage) left old new result → OnOk result (Goes Done) → OnErr result Stays → Steps {T = CommitStep} (journals.call_at head epoch images stage) Goes Stays old new result
journal-steps Goes Stays head epoch images (Journal next) left old new result first goes stays = going-steps Goes Stays head epoch images (Journal next) left old new result refl first goes stays
journal-steps Goes Stays head epoch images (Opening turn) left old new result first goes stays = going-steps Goes Stays head epoch images (Opening turn) left old new result refl first goes stays
journal-steps Goes Stays head epoch images (Homes next) left old new result first goes stays = going-steps Goes Stays head epoch images (Homes next) left old new result refl first goes stays
journal-steps Goes Stays head epoch images (Closing turn) left old new result first goes stays = going-steps Goes Stays head epoch images (Closing turn) left old new result refl first goes stays
journal-steps Goes Stays head epoch images Rested left old new result first goes stays = rest-steps Goes Stays old new result first.0 first.2 goes

-- ---- from the step to the first of the calls

makes-of : {Goes : Got → Type 0} {Stays : Type 0} (call : DiskCall) (old new : Option DiskState) (result : Result CommitStep DiskError) → Steps {T = CommitStep} (Change call) Goes Stays old new result → Makes call old new result
makes-of call old new (Ok x) steps = record {
  made = steps.went.made;
  failed = λ d told is. absurd (cc is);
  memory = λ is. absurd (cc is);
  untold = steps.untold;
}
makes-of call old new (Err e) steps = record {
  made = λ d told. tt;
  failed = λ d told is. let failed = steps.failed d told in may-fail call d failed.next new failed.told failed.left;
  memory = steps.memory;
  untold = steps.untold;
}

pub first-of : {Goes : Got → Type 0} {Stays : Type 0} (call : DiskCall) (calls left : List DiskCall) (old new : Option DiskState) (result : Result CommitStep DiskError) → Steps {T = CommitStep} (Change call) Goes Stays old new result → OnOk result (left ≡ calls) → OnErr result (left ≡ call ∷ calls) → MakesFirst (call ∷ calls) left old new result
first-of call calls left old new result steps made failed = (makes-of call old new result steps, made, failed)

-- ---- how many are left

-- one less
pub first-falls : (old new : List DiskCall) (before after : Option DiskState) (result : Result CommitStep DiskError) → MakesFirst old new before after result → OnOk result (length new ≡ length old - 1)
first-falls [] new before after (Ok x) first = ap length first.1
first-falls (call ∷ calls) new before after (Ok x) first = omega (arith, ap length first.1)
first-falls [] new before after (Err e) first = tt
first-falls (call ∷ calls) new before after (Err e) first = tt

-- ---- the answer

answers-going : (head : Head) (epoch : ℕ) (images : List (List ℕ)) (stage : Stage) (step : CommitStep) → is_rested stage ≡ false → step ≡ answer_to (length images) (calls_from head epoch images stage) → step ≡ answer_at (length images) stage
answers-going head epoch images stage step going is = is ∙ answer_to-calls_from head epoch images stage going

pub answers : (head : Head) (epoch : ℕ) (images : List (List ℕ)) (stage : Stage) (step : CommitStep) → step ≡ answer_to (length images) (calls_from head epoch images stage) → step ≡ answer_at (length images) stage
answers head epoch images (Journal next) step is = answers-going head epoch images (Journal next) step refl is
answers head epoch images (Opening turn) step is = answers-going head epoch images (Opening turn) step refl is
answers head epoch images (Homes next) step is = answers-going head epoch images (Homes next) step refl is
answers head epoch images (Closing turn) step is = answers-going head epoch images (Closing turn) step refl is
answers head epoch images Rested step is = is

-- ---- memory

-- a call that wants none is a sync
wants-none : (from : ℕ) (call : DiskCall) → IsBelow from call → is_write (Change call) ≡ false → call ≡ Sync
wants-none from (Write place page) below none = absurd (cc none)
wants-none from Sync below none = refl
wants-none from (Resize blocks) below none = absurd below

sure-going : (head : Head) (epoch : ℕ) (images : List (List ℕ)) (stage : Stage) (result : Result CommitStep DiskError) → CanFinish head epoch images → is_rested stage ≡ false → is_write (Change (due_call head epoch images stage)) ≡ false
    → ((calls : List DiskCall) → calls_from head epoch images stage ≡ Sync ∷ calls → IsErrOf result Memory → ⊥) → IsErrOf result Memory → ⊥
sure-going head epoch images stage result can going none sync memory =
    let is : due_call head epoch images stage ≡ Sync = wants-none (2 + 2 * head.nodes) (due_call head epoch images stage) (due_below head epoch images stage can) none in
    let rest = calls_from head epoch images (next_stage (length images) stage) in
    sync rest (calls_from-next head epoch images stage going ∙ ap (λ (c : DiskCall). c ∷ rest) is) memory

no-error : (result : Result CommitStep DiskError) → IsOk result → IsErrOf result Memory → ⊥
no-error (Ok x) ok is = absurd (cc is)
no-error (Err e) ok is = absurd (cc ok)

pub sure : (head : Head) (epoch : ℕ) (images : List (List ℕ)) (stage : Stage) (left : List DiskCall) (old new : Option DiskState) (result : Result CommitStep DiskError) → CanFinish head epoch images → MakesFirst (calls_from head epoch images stage) left old new result
    → ((calls : List DiskCall) → calls_from head epoch images stage ≡ Sync ∷ calls → IsErrOf result Memory → ⊥) → is_write (journals.call_at head epoch images stage) ≡ false → IsErrOf result Memory → ⊥
sure head epoch images (Journal next) left old new result can first sync none memory = sure-going head epoch images (Journal next) result can refl none sync memory
sure head epoch images (Opening turn) left old new result can first sync none memory = sure-going head epoch images (Opening turn) result can refl none sync memory
sure head epoch images (Homes next) left old new result can first sync none memory = sure-going head epoch images (Homes next) result can refl none sync memory
sure head epoch images (Closing turn) left old new result can first sync none memory = sure-going head epoch images (Closing turn) result can refl none sync memory
sure head epoch images Rested left old new result can first sync none memory = no-error result first.0 memory

-- ---- the write of a page, whose answer is the commit's

pub placed-steps : {Goes Stays : Type 0} (call : Call) (old new : Option DiskState) (u : Unit {0}) (x : CommitStep) → Steps {T = Unit {0}} call (λ got. Unit {0}) (Unit {0}) old new (Ok u) → Goes → Steps {T = CommitStep} call (λ got. Goes) Stays old new (Ok x)
placed-steps call old new u x steps goes = record {
  went = record { got = steps.went.got; fits = steps.went.fits; goes = goes; gives = steps.went.gives; made = steps.went.made };
  stays = tt;
  failed = λ d told. tt;
  memory = λ is. absurd (cc is);
  untold = steps.untold;
  calm = steps.calm;
  moments = steps.moments;
}

pub failed-steps : {Goes Stays : Type 0} (call : Call) (old new : Option DiskState) (e : DiskError) → Steps {T = Unit {0}} call (λ got. Unit {0}) (Unit {0}) old new (Err e) → Stays → Steps {T = CommitStep} call (λ got. Goes) Stays old new (Err e)
failed-steps call old new e steps stays = record {
  went = tt;
  stays = stays;
  failed = steps.failed;
  memory = λ is. steps.memory (error-as {T = CommitStep} {U = Unit {0}} e Memory is);
  untold = steps.untold;
  calm = steps.calm;
  moments = steps.moments;
}
