-- The first of the calls that are left was made, or failed.
use Rattle.std.proofs.Common.{◌≡◌, ℕ, true, false, List, length, Option, Result, Ok, Err, refl, sym, ap, subst}
use Rattle.vb_disk.specs.declared.disk_error.DiskError.{DiskError}
use Rattle.vb_disk.specs.declared.disk_error.DiskError.TheVariants.{Failed, Memory}
use Rattle.vb_disk.specs.States.{DiskCall, DiskState}
use Rattle.vb_head.specs.declared.head.Head.{Head}
use Rattle.vb_journal.specs.declared.commit_stage.Stage.{Stage}
use Rattle.vb_journal.specs.Calls.{Makes, MakesFirst}
use Rattle.vb_journal.specs.Plans.{calls_from, due_call, is_rested, next_stage}
use Rattle.vb_journal.proofs.PlanSteps.{calls_from-next, calls_from-rested}

-- results of a step, with the types written out
abbrev pub done : {T : Type 0} → T → Result T DiskError
done x = Ok x

abbrev pub gone : {T : Type 0} → DiskError → Result T DiskError
gone e = Err e

same_error : (T : Type 0) (a b : DiskError) → gone {T = T} a ≡ gone {T = T} b → a ≡ b
same_error T a b is = cc

-- the same error of another result
pub error-too : (T U : Type 0) (a b : DiskError) → gone {T = T} a ≡ gone {T = T} b → gone {T = U} a ≡ gone {T = U} b
error-too T U a b is = ap (λ (e : DiskError). gone {T = U} e) (same_error T a b is)

-- the same call with another answer
makes_done : {T U : Type 0} (call : DiskCall) (old new : Option DiskState) (x : T) (y : U) → Makes call old new (done x) → Makes call old new (done y)
makes_done call old new x y m = record {
  made = m.made;
  failed = λ d told is. absurd (cc is);
  memory = λ is. absurd (cc is);
  untold = m.untold;
}

makes_gone : (T U : Type 0) (call : DiskCall) (old new : Option DiskState) (e : DiskError) → Makes call old new (gone {T = T} e) → Makes call old new (gone {T = U} e)
makes_gone T U call old new e m = record {
  made = λ d told. tt;
  failed = λ d told is. m.failed d told (ap (λ (x : DiskError). gone {T = T} x) (same_error U e Failed is));
  memory = λ is. m.memory (ap (λ (x : DiskError). gone {T = T} x) (same_error U e Memory is));
  untold = m.untold;
}

pub first_made : (T U : Type 0) (head : Head) (epoch : ℕ) (images : List (List ℕ)) (stage : Stage) (old new : Option DiskState) (x : T) (y : U) → is_rested stage ≡ false → Makes (due_call head epoch images stage) old new (done x) → MakesFirst (calls_from head epoch images stage) (calls_from head epoch images (next_stage (length images) stage)) old new (done y)
first_made T U head epoch images stage old new x y going m =
    let Q : List DiskCall → Type 0 = λ l. MakesFirst l (calls_from head epoch images (next_stage (length images) stage)) old new (done y) in
    subst Q (sym (calls_from-next head epoch images stage going)) (makes_done (due_call head epoch images stage) old new x y m, refl, tt)

pub first_gone : (T U : Type 0) (head : Head) (epoch : ℕ) (images : List (List ℕ)) (stage : Stage) (old new : Option DiskState) (e : DiskError) → is_rested stage ≡ false → Makes (due_call head epoch images stage) old new (gone {T = T} e) → MakesFirst (calls_from head epoch images stage) (calls_from head epoch images stage) old new (gone {T = U} e)
first_gone T U head epoch images stage old new e going m =
    let Q : List DiskCall → Type 0 = λ l. MakesFirst l (calls_from head epoch images stage) old new (gone {T = U} e) in
    subst Q (sym (calls_from-next head epoch images stage going)) (makes_gone T U (due_call head epoch images stage) old new e m, tt, calls_from-next head epoch images stage going)

pub first_none : (T : Type 0) (head : Head) (epoch : ℕ) (images : List (List ℕ)) (stage : Stage) (told : Option DiskState) (y : T) → is_rested stage ≡ true → MakesFirst (calls_from head epoch images stage) (calls_from head epoch images stage) told told (done y)
first_none T head epoch images stage told y rested =
    let Q : List DiskCall → Type 0 = λ l. MakesFirst l l told told (done y) in
    subst Q (sym (calls_from-rested head epoch images stage rested)) (refl, refl, refl)
