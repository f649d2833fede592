-- What the driver's step leaves, from what its call did and how its machine went on.
use Rattle.std.proofs.Common.{◌≡◌, ◌⊎◌, ◌∙◌, ℕ, false, List, Option, Some, None, Result, Ok, Err, refl, sym, subst, inl, inr}
use Rattle.std.specs.Prelude.{IsErrOf, IsOk, OnErr, OnOk}
use Rattle.vb_disk.specs.declared.disk_error.DiskError.{DiskError}
use Rattle.vb_disk.specs.declared.disk_error.DiskError.TheVariants.{Failed as DiskFailed, Memory}
use Rattle.vb_disk.specs.Crashes.{MayCrashTo}
use Rattle.vb_disk.specs.Moments.{EachMoment, IsMoment}
use Rattle.vb_disk.specs.States.{DiskState, DiskCall, IsDiskState, Write, Sync, Resize, after_call, written}
use Rattle.vb_disk.specs.Within.{CrashesWithin}
use Rattle.vb_disk.proofs.Ways.{EachMoment-call, EachMoment-none, EachMoment-tried, moment_of_none}
use Rattle.vb_steps.specs.declared.due.Got.{Got}
use Rattle.vb_steps.specs.Calls.{Ask, Call, Change, ChangeMayFailTo, MayFailTo, ReadPlace, Rest, after, is_change, is_read}
use Rattle.vb_steps.specs.Steps.{Failed, Makes, Steps}

-- the same error of another result
abbrev gone : {T : Type 0} → DiskError → Result T DiskError
gone e = Err e

error_too : {S T : Type 0} (e f : DiskError) → IsErrOf (gone {T = S} e) f → IsErrOf (gone {T = T} e) f
error_too e f is = let same : e ≡ f = cc is in cc same

-- ---- a write

-- it failed, and was made or wasn't
write_tried : (place : ℕ) (page : List ℕ) (d : DiskState) (new : Option DiskState) → (new ≡ Some d) ⊎ (new ≡ Some (written d place page)) → Failed (Change (Write place page)) d new
write_tried place page d new (inl none) = record { next = d; told = none; left = inl refl }
write_tried place page d new (inr made) = record { next = written d place page; told = made; left = inr refl }

write_failed : (place : ℕ) (page : List ℕ) (e : DiskError) (old new : Option DiskState) → ((d : DiskState) → old ≡ Some d → IsErrOf (gone {T = Unit {0}} e) DiskFailed → (new ≡ Some d) ⊎ (new ≡ Some (written d place page))) → (IsErrOf (gone {T = Unit {0}} e) Memory → new ≡ old) → (d : DiskState) → old ≡ Some d → Failed (Change (Write place page)) d new
write_failed place page DiskFailed old new failed memory d told = write_tried place page d new (failed d told refl)
write_failed place page Memory old new failed memory d told = record { next = d; told = memory refl ∙ told; left = inl refl }

pub write-failed : (place : ℕ) (page : List ℕ) (e : DiskError) (old new : Option DiskState) → ((d : DiskState) → old ≡ Some d → IsErrOf (gone {T = Unit {0}} e) DiskFailed → (new ≡ Some d) ⊎ (new ≡ Some (written d place page))) → (IsErrOf (gone {T = Unit {0}} e) Memory → new ≡ old) → (old ≡ None → new ≡ None) → Makes (Change (Write place page)) old new (Err e)
write-failed place page e old new failed memory untold = record {
  fits = tt;
  gives = λ d told. tt;
  made = λ d told. tt;
  failed = write_failed place page e old new failed memory;
  memory = λ is. memory (error_too e Memory is);
  untold = untold;
  calm = λ is. absurd (cc is);
}

-- ---- the moments of a step

-- each is the disk from before it or the one after it
abbrev pub BeforeOrAfter : DiskState → DiskState → DiskState → Type 0
BeforeOrAfter d next = λ m. (m ≡ d) ⊎ (m ≡ next)

moments_made : (call : Call) (d : DiskState) → EachMoment (BeforeOrAfter d (after d call)) d (after d call)
moments_made Rest d = EachMoment-none (BeforeOrAfter d d) d (inl refl)
moments_made Ask d = EachMoment-none (BeforeOrAfter d d) d (inl refl)
moments_made (ReadPlace place) d = EachMoment-none (BeforeOrAfter d d) d (inl refl)
moments_made (Change call) d = EachMoment-call (BeforeOrAfter d (after_call d call)) d call (inl refl) (inr refl)

same_moments : (d next : DiskState) → next ≡ d → EachMoment (BeforeOrAfter d next) d next
same_moments d next same = subst (λ (n : DiskState). EachMoment (BeforeOrAfter d n) d n) (sym same) (EachMoment-none (BeforeOrAfter d d) d (inl refl))

change_moments : (call : DiskCall) (d next : DiskState) → ChangeMayFailTo call d next → EachMoment (BeforeOrAfter d next) d next
change_moments (Write place page) d next left = EachMoment-tried (BeforeOrAfter d next) d next (Write place page) left (inl refl) (inr refl)
change_moments Sync d next left = same_moments d next left
change_moments (Resize blocks) d next left = same_moments d next left

moments_failed : (call : Call) (d next : DiskState) → MayFailTo call d next → EachMoment (BeforeOrAfter d next) d next
moments_failed Rest d next left = same_moments d next left
moments_failed Ask d next left = same_moments d next left
moments_failed (ReadPlace place) d next left = same_moments d next left
moments_failed (Change call) d next left = change_moments call d next left

told_one : (new : Option DiskState) (a b : DiskState) → new ≡ Some a → new ≡ Some b → a ≡ b
told_one new a b first second = let same : Some a ≡ Some b = sym first ∙ second in cc same

-- ---- a step

-- its call failed
pub steps-failed : {T : Type 0} (call : Call) (Goes : Got → Type 0) (Stays : Type 0) (old new : Option DiskState) (e : DiskError) → Makes call old new (Err e) → Stays → Steps {T = T} call Goes Stays old new (Err e)
steps-failed call Goes Stays old new e makes stays = record {
  went = tt;
  stays = stays;
  failed = makes.failed;
  memory = λ is. makes.memory (error_too e Memory is);
  untold = makes.untold;
  calm = makes.calm;
  moments = λ d next told new_told.
      let failed = makes.failed d told in
      let same : next ≡ failed.next = told_one new next failed.next new_told failed.told in
      subst (λ (n : DiskState). EachMoment (BeforeOrAfter d n) d n) (sym same) (moments_failed call d failed.next failed.left);
}

-- its call was made, and its machine went on
steps_on : {T : Type 0} (call : Call) (Goes : Got → Type 0) (Stays : Type 0) (old new : Option DiskState) (got : Got) (x : T) → Makes call old new (Ok got) → Goes got → Steps {T = T} call Goes Stays old new (Ok x)
steps_on call Goes Stays old new got x makes goes = record {
  went = record { got = got; fits = makes.fits; goes = goes; gives = makes.gives; made = makes.made };
  stays = tt;
  failed = λ d told. tt;
  memory = λ is. absurd (cc is);
  untold = makes.untold;
  calm = makes.calm;
  moments = λ d next told new_told.
      let same : next ≡ after d call = told_one new next (after d call) new_told (makes.made d told) in
      subst (λ (n : DiskState). EachMoment (BeforeOrAfter d n) d n) (sym same) (moments_made call d);
}

-- memory ran out after it, which was a read
steps_out : {T : Type 0} (call : Call) (Goes : Got → Type 0) (Stays : Type 0) (old new : Option DiskState) (e : DiskError) → is_change call ≡ false → ((d : DiskState) → MayFailTo call d d) → (old ≡ None → new ≡ None) → new ≡ old → Stays → Steps {T = T} call Goes Stays old new (Err e)
steps_out call Goes Stays old new e calm left untold same stays = record {
  went = tt;
  stays = stays;
  failed = λ d told. record { next = d; told = same ∙ told; left = left d };
  memory = λ is. same;
  untold = untold;
  calm = λ is. same;
  moments = λ d next told new_told. same_moments d next (told_one new next d new_told (same ∙ told));
}

steps_after : {T : Type 0} (call : Call) (Goes : Got → Type 0) (Stays : Type 0) (old new : Option DiskState) (got : Got) (e : DiskError) → Makes call old new (Ok got) → Stays → (is_read call ≡ false → IsOk (gone {T = T} e)) → Steps {T = T} call Goes Stays old new (Err e)
steps_after Rest Goes Stays old new got e makes stays sure = absurd (cc (sure refl))
steps_after Ask Goes Stays old new got e makes stays sure = absurd (cc (sure refl))
steps_after (ReadPlace place) Goes Stays old new got e makes stays sure = steps_out (ReadPlace place) Goes Stays old new e refl (λ d. refl) makes.untold (makes.calm refl) stays
steps_after (Change call) Goes Stays old new got e makes stays sure = absurd (cc (sure refl))

pub steps-made : {T : Type 0} (call : Call) (Goes : Got → Type 0) (Stays : Type 0) (old new : Option DiskState) (got : Got) (result : Result T DiskError) → Makes call old new (Ok got) → OnOk result (Goes got) → OnErr result Stays → (is_read call ≡ false → IsOk result) → Steps call Goes Stays old new result
steps-made call Goes Stays old new got (Ok x) makes goes stays sure = steps_on call Goes Stays old new got x makes goes
steps-made call Goes Stays old new got (Err e) makes goes stays sure = steps_after call Goes Stays old new got e makes stays sure

-- ---- crashes

-- a crash within a step is one before it or after it
pub steps-within : {T : Type 0} (call : Call) (Goes : Got → Type 0) (Stays : Type 0) (old new : Option DiskState) (result : Result T DiskError) → ((d : DiskState) → old ≡ Some d → IsDiskState d) → Steps call Goes Stays old new result → CrashesWithin old new
steps-within call Goes Stays old new result valid steps = record {
  each = λ d next left told new_told between.
      elim ((steps.moments d next told new_told).each between.at (valid d told) between.moment) [
        | inl first ↦ inl (subst (λ (e : DiskState). MayCrashTo e left) first between.crash)
        | inr last ↦ inr (subst (λ (e : DiskState). MayCrashTo e left) last between.crash)
      ];
}

-- where no call was made there is none within
pub none-within : (told : Option DiskState) → ((d : DiskState) → told ≡ Some d → IsDiskState d) → CrashesWithin told told
none-within told valid = record {
  each = λ old new left was is between.
      let same : new ≡ old = told_one told new old is was in
      let at : between.at ≡ old = moment_of_none old between.at (valid old was) (subst (λ (e : DiskState). IsMoment old e between.at) same between.moment) in
      inl (subst (λ (e : DiskState). MayCrashTo e left) at between.crash);
}
