-- What a step of a commit leaves, at Ok and after an error.
use Rattle.std.proofs.Common.{◌≡◌, ℕ, ◌+◌, Bool, true, false, cond, ltb, List, length, Option, Some, refl, sym, subst, ◌∙◌, ◌⊎◌, inl, inr}
use Rattle.std.proofs.lemmas.Bool.{cases_lt, lt-ltb, le-ltb}
use Rattle.vb_disk.specs.declared.disk_error.DiskError.{DiskError}
use Rattle.vb_disk.specs.declared.disk_error.DiskError.TheVariants.{Failed, Memory}
use Rattle.vb_disk.specs.States.{DiskCall, DiskState, IsDiskState, Sync, Write, after_call, written}
use Rattle.vb_disk.proofs.Ways.{EachMoment-call, EachMoment-none, EachMoment-tried}
use Rattle.vb_head.specs.declared.head.Head.{Head}
use Rattle.vb_head.specs.Heads.{head_page}
use Rattle.vb_journal.specs.declared.commit_stage.Stage.{Stage}
use Rattle.vb_journal.specs.declared.commit_stage.Stage.TheVariants.{Journal, Opening, Homes, Closing, Rested}
use Rattle.vb_journal.specs.declared.commit_stage.Turn.TheVariants.{First, FirstSync, Second, SecondSync}
use Rattle.vb_journal.specs.Calls.{Makes, MayFailTo}
use Rattle.vb_journal.specs.Images.{image_at, slot_of}
use Rattle.vb_journal.specs.Plans.{CanFinish, CanGoOn, closed_head, due_call, is_early, is_rested, next_stage, opened_head}
use Rattle.vb_journal.specs.Progress.{EachCrashRecovers, EachCrashRecoversWholly, GoesOn, IsCommitting}
use Rattle.vb_journal.proofs.AfterCrashes.{EachCrashRecovers-stage}
use Rattle.vb_journal.proofs.FirstCalls.{gone}
use Rattle.vb_journal.proofs.Keeping.{keeps, keeps-homes, keeps-journal, retries-closing-first, retries-closing-second, retries-homes, retries-journal, retries-opening-first, retries-opening-second, writes-closing-first, writes-closing-second, writes-opening-first, writes-opening-second}
use Rattle.vb_journal.proofs.Unharmed.{EachCrashRecoversWholly-before, IsUnharmed-due, IsUnharmed-tried, whole_after, whole_tried}
use Rattle.vb_journal.proofs.UnharmedCrashes.{EachCrashRecoversWholly-stage}

-- the disk is known at the stage, and is the one from before or the one after the call
abbrev pub Tries : Head → ℕ → List (List ℕ) → (ℕ → List ℕ) → (ℕ → List ℕ) → Stage → DiskCall → DiskState → Option DiskState → Type 0
Tries head epoch images homes journal stage call d told =
    (new : DiskState) × (told ≡ Some new) × IsCommitting head epoch images homes journal stage new × ((new ≡ d) ⊎ (new ≡ after_call d call))

tries_write : (head : Head) (epoch : ℕ) (images : List (List ℕ)) (homes journal : ℕ → List ℕ) (stage : Stage) (place : ℕ) (page : List ℕ) (d : DiskState) (told : Option DiskState) → MayFailTo (Write place page) d told → IsCommitting head epoch images homes journal stage d → IsCommitting head epoch images homes journal stage (written d place page) → Tries head epoch images homes journal stage (Write place page) d told
tries_write head epoch images homes journal stage place page d told may is then = elim may [
  | inl same ↦ (d, same, is, inl refl)
  | inr made ↦ (written d place page, made, then, inr refl)
]

tries_sync : (head : Head) (epoch : ℕ) (images : List (List ℕ)) (homes journal : ℕ → List ℕ) (stage : Stage) (d : DiskState) (told : Option DiskState) → MayFailTo Sync d told → IsCommitting head epoch images homes journal stage d → Tries head epoch images homes journal stage Sync d told
tries_sync head epoch images homes journal stage d told may is = (d, may, is, inl refl)

-- after a call that failed, the disk is known at the same stage
pub tries : (head : Head) (epoch : ℕ) (images : List (List ℕ)) (homes journal : ℕ → List ℕ) (stage : Stage) (d : DiskState) (told : Option DiskState) → CanFinish head epoch images → is_rested stage ≡ false → MayFailTo (due_call head epoch images stage) d told → IsCommitting head epoch images homes journal stage d → Tries head epoch images homes journal stage (due_call head epoch images stage) d told
tries head epoch images homes journal (Journal next) d told can going may is =
    let Q : Bool → Type 0 = λ b. MayFailTo (cond b (Write (2 + head.nodes + next) (image_at images next)) Sync) d told → Tries head epoch images homes journal (Journal next) (cond b (Write (2 + head.nodes + next) (image_at images next)) Sync) d told in
    elim (cases_lt next (length images)) [
      | inl left ↦ subst Q (sym (lt-ltb next (length images) left)) (λ m. tries_write head epoch images homes journal (Journal next) (2 + head.nodes + next) (image_at images next) d told m is (retries-journal head epoch images homes journal next (written d (2 + head.nodes + next) (image_at images next)) (keeps-journal head epoch images homes journal next d can.images_are left is))) may
      | inr none ↦ subst Q (sym (le-ltb next (length images) none)) (λ m. tries_sync head epoch images homes journal (Journal next) d told m is) may
    ]
tries head epoch images homes journal (Opening First) d told can going may is = tries_write head epoch images homes journal (Opening First) 0 (head_page (opened_head head epoch images)) d told may is (retries-opening-first head epoch images homes journal (written d 0 (head_page (opened_head head epoch images))) (writes-opening-first head epoch images homes journal d is))
tries head epoch images homes journal (Opening FirstSync) d told can going may is = tries_sync head epoch images homes journal (Opening FirstSync) d told may is
tries head epoch images homes journal (Opening Second) d told can going may is = tries_write head epoch images homes journal (Opening Second) 1 (head_page (opened_head head epoch images)) d told may is (retries-opening-second head epoch images homes journal (written d 1 (head_page (opened_head head epoch images))) (writes-opening-second head epoch images homes journal d is))
tries head epoch images homes journal (Opening SecondSync) d told can going may is = tries_sync head epoch images homes journal (Opening SecondSync) d told may is
tries head epoch images homes journal (Homes next) d told can going may is =
    let Q : Bool → Type 0 = λ b. MayFailTo (cond b (Write (2 + slot_of (image_at images next)) (image_at images next)) Sync) d told → Tries head epoch images homes journal (Homes next) (cond b (Write (2 + slot_of (image_at images next)) (image_at images next)) Sync) d told in
    elim (cases_lt next (length images)) [
      | inl left ↦ subst Q (sym (lt-ltb next (length images) left)) (λ m. tries_write head epoch images homes journal (Homes next) (2 + slot_of (image_at images next)) (image_at images next) d told m is (retries-homes head epoch images homes journal next (written d (2 + slot_of (image_at images next)) (image_at images next)) (keeps-homes head epoch images homes journal next d can.images_are left is))) may
      | inr none ↦ subst Q (sym (le-ltb next (length images) none)) (λ m. tries_sync head epoch images homes journal (Homes next) d told m is) may
    ]
tries head epoch images homes journal (Closing First) d told can going may is = tries_write head epoch images homes journal (Closing First) 0 (head_page (closed_head head epoch)) d told may is (retries-closing-first head epoch images homes journal (written d 0 (head_page (closed_head head epoch))) (writes-closing-first head epoch images homes journal d is))
tries head epoch images homes journal (Closing FirstSync) d told can going may is = tries_sync head epoch images homes journal (Closing FirstSync) d told may is
tries head epoch images homes journal (Closing Second) d told can going may is = tries_write head epoch images homes journal (Closing Second) 1 (head_page (closed_head head epoch)) d told may is (retries-closing-second head epoch images homes journal (written d 1 (head_page (closed_head head epoch))) (writes-closing-second head epoch images homes journal d is))
tries head epoch images homes journal (Closing SecondSync) d told can going may is = tries_sync head epoch images homes journal (Closing SecondSync) d told may is
tries head epoch images homes journal Rested d told can going may is = absurd (cc going)

-- a moment that is known at the stage or at the one after it
abbrev Known : Head → ℕ → List (List ℕ) → (ℕ → List ℕ) → (ℕ → List ℕ) → Stage → Stage → DiskState → Type 0
Known head epoch images homes journal before after m = IsCommitting head epoch images homes journal before m ⊎ IsCommitting head epoch images homes journal after m

-- each crash recovers as at the stage or as at the one after it
abbrev Recovering : Head → ℕ → List (List ℕ) → (ℕ → List ℕ) → Stage → Stage → DiskState → Type 0
Recovering head epoch images homes before after m = EachCrashRecovers head epoch images homes before m ⊎ EachCrashRecovers head epoch images homes after m

homes_are_late : (b : Bool) (next : ℕ) → is_early (cond b (Homes (next + 1)) (Closing First)) ≡ true → is_early (Homes next) ≡ true
homes_are_late true next is = is
homes_are_late false next is = is

-- a commit that can go on from a stage can go on from the next one
early_before : (count : ℕ) (stage : Stage) → is_early (next_stage count stage) ≡ true → is_early stage ≡ true
early_before count (Journal next) is = refl
early_before count (Opening turn) is = refl
early_before count (Homes next) is = homes_are_late (ltb next count) next is
early_before count (Closing First) is = is
early_before count (Closing FirstSync) is = is
early_before count (Closing Second) is = is
early_before count (Closing SecondSync) is = is
early_before count Rested is = is

pub CanGoOn-next : (head : Head) (epoch : ℕ) (images : List (List ℕ)) (stage : Stage) → CanGoOn head epoch images stage → CanGoOn head epoch images (next_stage (length images) stage)
CanGoOn-next head epoch images stage can = record { finish = can.finish; early = λ is. can.early (early_before (length images) stage is) }

-- what a disk tells is a state that a disk can have
abbrev pub IsTold : Option DiskState → Type 0
IsTold told = (d : DiskState) → told ≡ Some d → IsDiskState d

pub goes_on-made : (head : Head) (epoch : ℕ) (images : List (List ℕ)) (homes journal : ℕ → List ℕ) (stage : Stage) (old new : Option DiskState) → CanGoOn head epoch images stage → IsTold old → IsTold new → is_rested stage ≡ false → ((d : DiskState) → old ≡ Some d → new ≡ Some (after_call d (due_call head epoch images stage))) → GoesOn head epoch images homes journal stage (next_stage (length images) stage) old new
goes_on-made head epoch images homes journal stage old new can old_is new_is going made d told is =
    let then = keeps head epoch images homes journal stage d can.finish.images_are going is in
    let next = next_stage (length images) stage in
    let call = due_call head epoch images stage in
    let here = EachCrashRecovers-stage head epoch images homes journal stage d can (old_is d told) is in
    let after = EachCrashRecovers-stage head epoch images homes journal next (after_call d call) (CanGoOn-next head epoch images stage can) (new_is (after_call d call) (made d told)) then in
    record {
      next = after_call d call;
      told = made d told;
      known = then;
      moments = EachMoment-call (Known head epoch images homes journal stage next) d call (inl is) (inr then);
      crashes = EachMoment-call (Recovering head epoch images homes stage next) d call (inl here) (inr after);
      whole_stays = whole_after d call;
      unharmed = IsUnharmed-due head epoch images stage d;
      wholly = λ unharmed. EachMoment-call (EachCrashRecoversWholly head epoch images homes stage) d call
          (EachCrashRecoversWholly-stage head epoch images homes journal stage d can (old_is d told) is unharmed)
          (EachCrashRecoversWholly-before head epoch images homes stage (after_call d call)
          (EachCrashRecoversWholly-stage head epoch images homes journal next (after_call d call) (CanGoOn-next head epoch images stage can) (new_is (after_call d call) (made d told)) then (IsUnharmed-due head epoch images stage d unharmed)));
    }

pub goes_on-failed : (head : Head) (epoch : ℕ) (images : List (List ℕ)) (homes journal : ℕ → List ℕ) (stage : Stage) (old new : Option DiskState) → CanGoOn head epoch images stage → IsTold old → IsTold new → is_rested stage ≡ false → ((d : DiskState) → old ≡ Some d → MayFailTo (due_call head epoch images stage) d new) → GoesOn head epoch images homes journal stage stage old new
goes_on-failed head epoch images homes journal stage old new can old_is new_is going failed d told is =
    let tried = tries head epoch images homes journal stage d new can.finish going (failed d told) is in
    let call = due_call head epoch images stage in
    let here = EachCrashRecovers-stage head epoch images homes journal stage d can (old_is d told) is in
    let after = EachCrashRecovers-stage head epoch images homes journal stage tried.0 can (new_is tried.0 tried.1) tried.2 in
    record {
      next = tried.0;
      told = tried.1;
      known = tried.2;
      moments = EachMoment-tried (Known head epoch images homes journal stage stage) d tried.0 call tried.3 (inl is) (inl tried.2);
      crashes = EachMoment-tried (Recovering head epoch images homes stage stage) d tried.0 call tried.3 (inl here) (inl after);
      whole_stays = whole_tried d tried.0 call tried.3;
      unharmed = IsUnharmed-tried head images stage d tried.0 call tried.3;
      wholly = λ unharmed. EachMoment-tried (EachCrashRecoversWholly head epoch images homes stage) d tried.0 call tried.3
          (EachCrashRecoversWholly-stage head epoch images homes journal stage d can (old_is d told) is unharmed)
          (EachCrashRecoversWholly-stage head epoch images homes journal stage tried.0 can (new_is tried.0 tried.1) tried.2 (IsUnharmed-tried head images stage d tried.0 call tried.3 unharmed));
    }

pub goes_on-none : (head : Head) (epoch : ℕ) (images : List (List ℕ)) (homes journal : ℕ → List ℕ) (stage : Stage) (old new : Option DiskState) → CanGoOn head epoch images stage → IsTold old → new ≡ old → GoesOn head epoch images homes journal stage stage old new
goes_on-none head epoch images homes journal stage old new can old_is same d told is =
    let here = EachCrashRecovers-stage head epoch images homes journal stage d can (old_is d told) is in
    record {
      next = d;
      told = same ∙ told;
      known = is;
      moments = EachMoment-none (Known head epoch images homes journal stage stage) d (inl is);
      crashes = EachMoment-none (Recovering head epoch images homes stage stage) d (inl here);
      whole_stays = λ place whole. whole;
      unharmed = λ unharmed. unharmed;
      wholly = λ unharmed. EachMoment-none (EachCrashRecoversWholly head epoch images homes stage) d (EachCrashRecoversWholly-stage head epoch images homes journal stage d can (old_is d told) is unharmed);
    }

-- after an error the stage stands
pub goes_on-gone : (head : Head) (epoch : ℕ) (images : List (List ℕ)) (homes journal : ℕ → List ℕ) (stage : Stage) (old new : Option DiskState) (e : DiskError) → CanGoOn head epoch images stage → IsTold old → IsTold new → is_rested stage ≡ false → Makes (due_call head epoch images stage) old new (gone {T = Unit {0}} e) → GoesOn head epoch images homes journal stage stage old new
goes_on-gone head epoch images homes journal stage old new Failed can old_is new_is going makes = goes_on-failed head epoch images homes journal stage old new can old_is new_is going (λ d told. makes.failed d told refl)
goes_on-gone head epoch images homes journal stage old new Memory can old_is new_is going makes = goes_on-none head epoch images homes journal stage old new can old_is (makes.memory refl)
