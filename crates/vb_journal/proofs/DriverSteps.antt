-- What the driver's step says of a call that changes a disk, in the words of a commit.
use Rattle.std.proofs.Common.{◌≡◌, ◌∙◌, ℕ, false, not, List, ◌∷◌, length, Option, Some, Ok, Err, refl, sym, ap, inl, inr}
use Rattle.vb_disk.specs.declared.disk_error.DiskError.{DiskError}
use Rattle.vb_disk.specs.States.{DiskCall, DiskState, Write, Sync, Resize, after_call, written}
use Rattle.vb_head.specs.declared.head.Head.{Head}
use Rattle.vb_journal.specs.declared.commit_stage.Stage.{Stage}
use Rattle.vb_journal.specs.declared.commit_stage.Stage.TheVariants.{Journal, Opening, Homes, Closing, Rested}
use Rattle.vb_journal.specs.Calls.{Makes, MayFailTo}
use Rattle.vb_journal.specs.Plans.{call_at, calls_from, due_call, is_rested, next_stage}
use Rattle.vb_journal.proofs.FirstCalls.{done, gone}
use Rattle.vb_journal.proofs.PlanSteps.{calls_from-next}
use Rattle.vb_steps.specs.declared.due.Got.{Got}
use Rattle.vb_steps.specs.Calls.{Change, ChangeMayFailTo, MayFailTo as MayLeave, after, is_due}
use Rattle.vb_steps.specs.Steps.{Steps}

pub change-of : (head : Head) (epoch : ℕ) (images : List (List ℕ)) (stage : Stage) → is_rested stage ≡ false → call_at head epoch images stage ≡ Change (due_call head epoch images stage)
change-of head epoch images (Journal next) going = refl
change-of head epoch images (Opening turn) going = refl
change-of head epoch images (Homes next) going = refl
change-of head epoch images (Closing turn) going = refl
change-of head epoch images Rested going = absurd (cc going)

told_as : (a b : DiskState) (new : Option DiskState) → new ≡ Some a → a ≡ b → new ≡ Some b
told_as a b new told same = told ∙ ap (λ (m : DiskState). let o : Option DiskState = Some m in o) same

pub may-fail : (call : DiskCall) (d next : DiskState) (new : Option DiskState) → new ≡ Some next → ChangeMayFailTo call d next → MayFailTo call d new
may-fail (Write place page) d next new told (inl none) = inl (told_as next d new told none)
may-fail (Write place page) d next new told (inr made) = inr (told_as next (written d place page) new told made)
may-fail Sync d next new told left = told_as next d new told left
may-fail (Resize blocks) d next new told left = told_as next d new told left

-- the same, of a disk
pub change-left : (head : Head) (epoch : ℕ) (images : List (List ℕ)) (stage : Stage) (d left : DiskState) → is_rested stage ≡ false → MayLeave (call_at head epoch images stage) d left → MayFailTo (due_call head epoch images stage) d (Some left)
change-left head epoch images (Journal next) d left going may = may-fail (due_call head epoch images (Journal next)) d left (Some left) refl may
change-left head epoch images (Opening turn) d left going may = may-fail (due_call head epoch images (Opening turn)) d left (Some left) refl may
change-left head epoch images (Homes next) d left going may = may-fail (due_call head epoch images (Homes next)) d left (Some left) refl may
change-left head epoch images (Closing turn) d left going may = may-fail (due_call head epoch images (Closing turn)) d left (Some left) refl may
change-left head epoch images Rested d left going may = absurd (cc going)

-- the disk after it
pub due-after : (head : Head) (epoch : ℕ) (images : List (List ℕ)) (stage : Stage) (d : DiskState) → is_rested stage ≡ false → after d (call_at head epoch images stage) ≡ after_call d (due_call head epoch images stage)
due-after head epoch images (Journal next) d going = refl
due-after head epoch images (Opening turn) d going = refl
due-after head epoch images (Homes next) d going = refl
due-after head epoch images (Closing turn) d going = refl
due-after head epoch images Rested d going = absurd (cc going)

-- a sync is one that wants no memory
pub due-sync : (head : Head) (epoch : ℕ) (images : List (List ℕ)) (stage : Stage) (calls : List DiskCall) → is_rested stage ≡ false → calls_from head epoch images stage ≡ Sync ∷ calls → call_at head epoch images stage ≡ Change Sync
due-sync head epoch images stage calls going is =
    let both : due_call head epoch images stage ∷ calls_from head epoch images (next_stage (length images) stage) ≡ Sync ∷ calls = sym (calls_from-next head epoch images stage going) ∙ is in
    let first : due_call head epoch images stage ≡ Sync = cc both in
    change-of head epoch images stage going ∙ ap (λ (c : DiskCall). Change c) first

-- it was made
pub change-made : {Goes : Got → Type 0} {Stays : Type 0} (call : DiskCall) (old new : Option DiskState) (x : Unit {0}) → Steps {T = Unit {0}} (Change call) Goes Stays old new (Ok x) → Makes call old new (done x)
change-made call old new x steps = record {
  made = steps.went.made;
  failed = λ d told is. absurd (cc is);
  memory = λ is. absurd (cc is);
  untold = steps.untold;
}

-- or it failed
pub change-gone : {Goes : Got → Type 0} {Stays : Type 0} (call : DiskCall) (old new : Option DiskState) (e : DiskError) → Steps {T = Unit {0}} (Change call) Goes Stays old new (Err e) → Makes call old new (gone {T = Unit {0}} e)
change-gone call old new e steps = record {
  made = λ d told. tt;
  failed = λ d told is. let failed = steps.failed d told in may-fail call d failed.next new failed.told failed.left;
  memory = steps.memory;
  untold = steps.untold;
}

-- so it is for the call of a commit
pub due-made : {Goes : Got → Type 0} {Stays : Type 0} (head : Head) (epoch : ℕ) (images : List (List ℕ)) (stage : Stage) (old new : Option DiskState) (x : Unit {0}) → is_rested stage ≡ false → Steps {T = Unit {0}} (call_at head epoch images stage) Goes Stays old new (Ok x) → Makes (due_call head epoch images stage) old new (done x)
due-made head epoch images (Journal next) old new x going steps = change-made (due_call head epoch images (Journal next)) old new x steps
due-made head epoch images (Opening turn) old new x going steps = change-made (due_call head epoch images (Opening turn)) old new x steps
due-made head epoch images (Homes next) old new x going steps = change-made (due_call head epoch images (Homes next)) old new x steps
due-made head epoch images (Closing turn) old new x going steps = change-made (due_call head epoch images (Closing turn)) old new x steps
due-made head epoch images Rested old new x going steps = absurd (cc going)

pub due-gone : {Goes : Got → Type 0} {Stays : Type 0} (head : Head) (epoch : ℕ) (images : List (List ℕ)) (stage : Stage) (old new : Option DiskState) (e : DiskError) → is_rested stage ≡ false → Steps {T = Unit {0}} (call_at head epoch images stage) Goes Stays old new (Err e) → Makes (due_call head epoch images stage) old new (gone {T = Unit {0}} e)
due-gone head epoch images (Journal next) old new e going steps = change-gone (due_call head epoch images (Journal next)) old new e steps
due-gone head epoch images (Opening turn) old new e going steps = change-gone (due_call head epoch images (Opening turn)) old new e steps
due-gone head epoch images (Homes next) old new e going steps = change-gone (due_call head epoch images (Homes next)) old new e steps
due-gone head epoch images (Closing turn) old new e going steps = change-gone (due_call head epoch images (Closing turn)) old new e steps
due-gone head epoch images Rested old new e going steps = absurd (cc going)

-- a call is due unless it is at its end
pub due-going : (head : Head) (epoch : ℕ) (images : List (List ℕ)) (stage : Stage) → is_due (call_at head epoch images stage) ≡ not (is_rested stage)
due-going head epoch images (Journal next) = refl
due-going head epoch images (Opening turn) = refl
due-going head epoch images (Homes next) = refl
due-going head epoch images (Closing turn) = refl
due-going head epoch images Rested = refl
