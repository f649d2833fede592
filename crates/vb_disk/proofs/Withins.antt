-- What a crash within a call may leave, where the call was made and where it wasn't.
use Rattle.std.proofs.Common.{◌≡◌, ℕ, Bool, true, false, cond, List, Some, Result, Ok, Err, IsErrOf, refl, sym, ap, subst, ◌∙◌, ◌⊎◌, inl, inr}
use Rattle.vb_disk.specs.declared.disk_error.DiskError.{DiskError}
use Rattle.vb_disk.specs.declared.disk_error.DiskError.TheVariants.{Failed, Memory}
use Rattle.vb_disk.specs.declared.memory_disk.MemoryDisk.{MemoryDisk}
use Rattle.vb_disk.specs.Causes.{UnlessMemory}
use Rattle.vb_disk.specs.Crashes.{MayCrashTo}
use Rattle.vb_disk.specs.Moments.{IsMoment}
use Rattle.vb_disk.specs.States.{DiskState, DiskCall, IsDiskState, Write, after_call, written}
use Rattle.vb_disk.specs.Memory.{state_of}
use Rattle.vb_disk.specs.Valid.{IsDiskState-state_of}
use Rattle.vb_disk.specs.Within.{CrashesWithin}
use Rattle.vb_disk.proofs.Ways.{moment_of_none, moment_of_one}

-- of the two states that a call may leave, each moment is one
ends : (old new at left : DiskState) → (at ≡ old) ⊎ (at ≡ new) → MayCrashTo at left → MayCrashTo old left ⊎ MayCrashTo new left
ends old new at left (inl same) crash = inl (subst (λ (d : DiskState). MayCrashTo d left) same crash)
ends old new at left (inr same) crash = inr (subst (λ (d : DiskState). MayCrashTo d left) same crash)

some_injective : {T : Type 0} (x y : T) → Some x ≡ Some y → x ≡ y
some_injective x y same = cc same

-- nothing was done
pub CrashesWithin-none : (old new : DiskState) → IsDiskState old → new ≡ old → CrashesWithin (Some old) (Some new)
CrashesWithin-none old new disk stands =
    let Q : DiskState → Type 0 = λ d. CrashesWithin (Some old) (Some d) in
    subst Q (sym stands) (record {
      each = λ a b left is_a is_b between.
          let same_a = some_injective old a is_a in
          let same_b = some_injective old b is_b in
          let moment = subst (λ (d : DiskState). IsMoment a d between.at) (sym same_b ∙ same_a) between.moment in
          ends a b between.at left (inl (moment_of_none a between.at (subst IsDiskState same_a disk) moment)) between.crash;
    })

-- the call was made
pub CrashesWithin-call : (old new : DiskState) (call : DiskCall) → IsDiskState old → new ≡ after_call old call → CrashesWithin (Some old) (Some new)
CrashesWithin-call old new call disk made = record {
  each = λ a b left is_a is_b between.
      let same_a = some_injective old a is_a in
      let is_b_made : b ≡ after_call a call = sym (some_injective new b is_b) ∙ made ∙ ap (λ (d : DiskState). after_call d call) same_a in
      let moment = subst (λ (d : DiskState). IsMoment a d between.at) is_b_made between.moment in
      let one = moment_of_one a between.at call (subst IsDiskState same_a disk) moment in
      ends a b between.at left (subst (λ (d : DiskState). (between.at ≡ a) ⊎ (between.at ≡ d)) (sym is_b_made) one) between.crash;
}

-- ---- for a disk in memory

told_disk : (m : MemoryDisk) → IsDiskState (state_of m)
told_disk m = IsDiskState-state_of m (state_of m) refl

pub within_kept : (m : MemoryDisk) (new : DiskState) → new ≡ state_of m → CrashesWithin (Some (state_of m)) (Some new)
within_kept m new same = CrashesWithin-none (state_of m) new (told_disk m) same

pub within_call : (m : MemoryDisk) (new : DiskState) (call : DiskCall) → new ≡ after_call (state_of m) call → CrashesWithin (Some (state_of m)) (Some new)
within_call m new call made = CrashesWithin-call (state_of m) new call (told_disk m) made

made_or_not : (made : Bool) (m : MemoryDisk) (new : DiskState) (call : DiskCall) → new ≡ cond made (after_call (state_of m) call) (state_of m) → CrashesWithin (Some (state_of m)) (Some new)
made_or_not true m new call is = within_call m new call is
made_or_not false m new call is = within_kept m new is

-- a write that was made or wasn't
pub within_tried : (r : Result (Unit {0}) DiskError) (made : Bool) (m : MemoryDisk) (new : DiskState) (place : ℕ) (page : List ℕ) → UnlessMemory r (new ≡ cond made (written (state_of m) place page) (state_of m)) → (IsErrOf r Memory → ⊥) → CrashesWithin (Some (state_of m)) (Some new)
within_tried (Ok done) made m new place page is no_memory = made_or_not made m new (Write place page) is
within_tried (Err Failed) made m new place page is no_memory = made_or_not made m new (Write place page) is
within_tried (Err Memory) made m new place page is no_memory = absurd (no_memory refl)
