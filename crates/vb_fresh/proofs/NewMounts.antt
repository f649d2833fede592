-- A mount of a disk in memory that was just made an empty store: what is known of it from step to step.
use Rattle.std.proofs.Common.{◌≡◌, ◌≢◌, ℕ, ◌+◌, ◌*◌, ◌<◌, ◌≤◌, Bool, true, false, List, [], ◌∷◌, length, Option, Some, None, Result, Ok, Err, IsSome, refl, sym, ap, subst, ◌∙◌, arith}
use Rattle.std.proofs.lemmas.List.{nil_from_length}
use Rattle.vb_disk.specs.declared.memory_disk.MemoryDisk.{MemoryDisk}
use Rattle.vb_disk.specs.Memory.{calls_of, failures_left_of, failures_of, faults_of, state_of}
use Rattle.vb_disk.specs.States.{DiskState, IsDiskState, after_calls, new_state}
use Rattle.vb_disk.specs.Valid.{IsDiskState-state_of}
use Rattle.vb_head.specs.declared.head.Head.{Head}
use Rattle.vb_journal.specs.declared.recover.Ahead.{Ahead}
use Rattle.vb_journal.specs.declared.recover.Ahead.TheVariants.{More, Ready as AllDone}
use Rattle.vb_journal.specs.declared.recover_error.RecoverError.{RecoverError}
use Rattle.vb_journal.specs.declared.recover_error.RecoverError.TheVariants.{NotAStore, Damaged, Unfit, Rebuilding, DiskFault, Memory}
use Rattle.vb_steps.specs.Disks.{DiskView, disk_view}
use Rattle.vb_store.specs.declared.mount_phase.MountPhase.{MountPhase}
use Rattle.vb_store.specs.declared.mount_phase.MountPhase.TheVariants.{Recovering, Reading, Ready}
use Rattle.vb_store.specs.declared.mount_stage.MountStage.{MountStage}
use Rattle.vb_store.specs.declared.mount_stage.MountStage.TheVariants.{ReadHome, ReadMap, Finish, Refused}
use Rattle.vb_store.specs.EmptyStores.{IsMadeEmpty}
use Rattle.vb_store.specs.Formats.{CanFormat, format_calls, made_head}
use Rattle.vb_store.specs.Metadata.{Metadata}
use Rattle.vb_store.specs.MountFalls.{most_mount_calls}
use Rattle.vb_store.specs.MountSteps.{MountSteps}
use Rattle.vb_store.specs.Mounts.{IsMounting, MountsTo, blocks_of_mount, due_of_mount, relied_on}
use Rattle.vb_store.specs.MountsBeside.{IsMountedBeside}
use Rattle.vb_store.specs.OneOf.{RecoversOneOf, TreeView, empty_view}
use Rattle.vb_store.specs.RecoveredStores.{metadata_on}
use Rattle.vb_store.specs.Views.{empty_index}
use Rattle.vb_store.proofs.EmptyRecovered.{metadata_of-empty}
use Rattle.vb_store.proofs.EmptyViewLeft.{RecoversOneOf-made}
use Rattle.vb_store.proofs.MadeEmpty.{IsMadeEmpty-format}

-- ---- the disk when the mount begins

-- a disk in memory that was just made an empty store
abbrev pub made_disk : List ℕ → ℕ → ℕ → DiskState
made_disk id blocks nodes = after_calls (new_state 0) (format_calls id blocks nodes)

-- the metadata of an empty store
abbrev pub new_metadata : List ℕ → ℕ → ℕ → Metadata
new_metadata id blocks nodes = record { head = made_head id blocks nodes; held = (empty_index (made_head id blocks nodes)).nodes }

pub IsMadeEmpty-new : (id : List ℕ) (blocks nodes : ℕ) → CanFormat id blocks nodes → IsMadeEmpty id blocks nodes (new_state 0) (made_disk id blocks nodes)
IsMadeEmpty-new id blocks nodes can = IsMadeEmpty-format id blocks nodes (new_state 0) (let room = can.space in omega (arith, room))

pub metadata-new : (id : List ℕ) (blocks nodes : ℕ) → CanFormat id blocks nodes → length id ≡ 16 → metadata_on (made_disk id blocks nodes) ≡ Ok (new_metadata id blocks nodes)
metadata-new id blocks nodes can long = metadata_of-empty id blocks nodes (made_disk id blocks nodes) can long (IsMadeEmpty-new id blocks nodes can).store

-- other metadata aren't told of it, and no refusal
same_metadata : (m n : Metadata) (r : Result Metadata RecoverError) → r ≡ Ok m → r ≡ Ok n → m ≡ n
same_metadata m n r is also = let both : Ok m ≡ Ok n = sym is ∙ also in cc both

pub metadata-of_new : (id : List ℕ) (blocks nodes : ℕ) (m : Metadata) → CanFormat id blocks nodes → length id ≡ 16 → metadata_on (made_disk id blocks nodes) ≡ Ok m → m ≡ new_metadata id blocks nodes
metadata-of_new id blocks nodes m can long is = same_metadata m (new_metadata id blocks nodes) (metadata_on (made_disk id blocks nodes)) is (metadata-new id blocks nodes can long)

accepted : (id : List ℕ) (blocks nodes : ℕ) (error : RecoverError) → CanFormat id blocks nodes → length id ≡ 16 → metadata_on (made_disk id blocks nodes) ≡ Err error → ⊥
accepted id blocks nodes error can long is = let both : Ok (new_metadata id blocks nodes) ≡ Err error = sym (metadata-new id blocks nodes can long) ∙ is in cc both

-- ---- the mount

-- what a disk in memory tells
abbrev pub memory_view : MemoryDisk → DiskView
memory_view m = disk_view (Some (state_of m)) (state_of m).size (faults_of m) (failures_left_of m) (calls_of m)

-- a mount of such a disk has come so far, a call of it is due, and no call fails
pub record IsNewMount (id : List ℕ) (blocks nodes : ℕ) (phase : MountPhase) (m : MemoryDisk) : Type 0 where
  pub known : IsMounting phase (made_disk id blocks nodes) (state_of m)
  pub beside : IsMountedBeside (empty_view id blocks nodes ∷ []) false phase (state_of m)
  pub due : IsSome (due_of_mount phase)
  pub seen : blocks_of_mount phase ≤ (state_of m).size
  pub failures : failures_of m ≡ []

-- before its first step a call is due: it is neither refused nor ready
due_begun : (id : List ℕ) (blocks nodes : ℕ) (phase : MountPhase) (d : DiskState) → CanFormat id blocks nodes → length id ≡ 16 → IsMounting phase (made_disk id blocks nodes) d → relied_on phase ≡ 0 → IsSome (due_of_mount phase)
due_begun id blocks nodes (Recovering r) d can long known none = r.going
due_begun id blocks nodes (Reading (ReadHome h)) d can long known none = refl
due_begun id blocks nodes (Reading (ReadMap m)) d can long known none = refl
due_begun id blocks nodes (Reading (Finish w)) d can long known none = refl
due_begun id blocks nodes (Reading (Refused r)) d can long known none = absurd (accepted id blocks nodes r.error can long known.rest)
due_begun id blocks nodes (Ready r) d can long known none =
    let same = ap (λ (m : Metadata). m.head.blocks) (metadata-of_new id blocks nodes _ can long known.metadata) in
    let room = can.space in
    absurd (omega (arith, same, none, room))

pub IsNewMount-begun : (id : List ℕ) (blocks nodes : ℕ) (phase : MountPhase) (m : MemoryDisk) → CanFormat id blocks nodes → length id ≡ 16 → state_of m ≡ made_disk id blocks nodes → failures_of m ≡ [] → blocks_of_mount phase ≡ 0 → relied_on phase ≡ 0 → ((begun : DiskState) → IsDiskState begun → IsMounting phase begun begun) → ((views : List TreeView) (made : Bool) (d : DiskState) → RecoversOneOf views made d → IsMountedBeside views made phase d) → IsNewMount id blocks nodes phase m
IsNewMount-begun id blocks nodes phase m can long state failures sees none begins beside =
    let made = made_disk id blocks nodes in
    let views = empty_view id blocks nodes ∷ [] in
    let disk : IsDiskState made = IsDiskState-state_of m made (ap Some state) in
    let known : IsMounting phase made (state_of m) = subst (IsMounting phase made) (sym state) (begins made disk) in
    record {
      known = known;
      beside = subst (IsMountedBeside views false phase) (sym state) (beside views false made (RecoversOneOf-made id blocks nodes (new_state 0) made can long (IsMadeEmpty-new id blocks nodes can)));
      due = due_begun id blocks nodes phase (state_of m) can long known none;
      seen = omega (arith, sees);
      failures = failures;
    }

-- ---- its steps

-- what is known of the disk after a step
told_known : (phase : MountPhase) (begun next d : DiskState) → Some d ≡ Some next → IsMounting phase begun next → IsMounting phase begun d
told_known phase begun next d told known = subst (IsMounting phase begun) (let same : next ≡ d = cc told in same) known

pub known-after : (id : List ℕ) (blocks nodes : ℕ) (old new : MountPhase) (m n : MemoryDisk) (result : Result Ahead RecoverError) → IsNewMount id blocks nodes old m → MountSteps old new (memory_view m) (memory_view n) result → IsMounting new (made_disk id blocks nodes) (state_of n)
known-after id blocks nodes old new m n result is steps =
    let after = steps.crash (made_disk id blocks nodes) (state_of m) refl is.known in
    told_known new (made_disk id blocks nodes) after.next (state_of n) after.told after.known

pub beside-after : (id : List ℕ) (blocks nodes : ℕ) (old new : MountPhase) (m n : MemoryDisk) (result : Result Ahead RecoverError) → IsNewMount id blocks nodes old m → MountSteps old new (memory_view m) (memory_view n) result → IsMountedBeside (empty_view id blocks nodes ∷ []) false new (state_of n)
beside-after id blocks nodes old new m n result is steps = steps.keeps (empty_view id blocks nodes ∷ []) false (state_of m) (state_of n) refl refl is.beside

pub failures-after : (id : List ℕ) (blocks nodes : ℕ) (old new : MountPhase) (m n : MemoryDisk) (result : Result Ahead RecoverError) → IsNewMount id blocks nodes old m → MountSteps old new (memory_view m) (memory_view n) result → failures_of n ≡ []
failures-after id blocks nodes old new m n result is steps =
    let fewer = steps.left.kept refl in
    let none = ap length is.failures in
    nil_from_length (failures_of n) (omega (arith, fewer, none))

pub step-as : (old new : MountPhase) (before after : DiskView) (result is : Result Ahead RecoverError) → result ≡ is → MountSteps old new before after result → MountSteps old new before after is
step-as old new before after result is same steps = subst (MountSteps old new before after) same steps

-- where more is to come it goes on, with fewer calls that may be left
pub IsNewMount-after : (id : List ℕ) (blocks nodes : ℕ) (old new : MountPhase) (m n : MemoryDisk) → IsNewMount id blocks nodes old m → MountSteps old new (memory_view m) (memory_view n) (Ok More) → IsNewMount id blocks nodes new n
IsNewMount-after id blocks nodes old new m n is steps = record {
  known = known-after id blocks nodes old new m n (Ok More) is steps;
  beside = beside-after id blocks nodes old new m n (Ok More) is steps;
  due = steps.ahead;
  seen = steps.blocks;
  failures = failures-after id blocks nodes old new m n (Ok More) is steps;
}

pub fewer-left : (id : List ℕ) (blocks nodes : ℕ) (old new : MountPhase) (m n : MemoryDisk) → IsNewMount id blocks nodes old m → MountSteps old new (memory_view m) (memory_view n) (Ok More) → most_mount_calls new < most_mount_calls old
fewer-left id blocks nodes old new m n is steps = steps.falls.fell is.due

-- it fails for want of memory alone
pub fails-by_memory : (id : List ℕ) (blocks nodes : ℕ) (old new : MountPhase) (m n : MemoryDisk) (error : RecoverError) → CanFormat id blocks nodes → length id ≡ 16 → IsNewMount id blocks nodes old m → MountSteps old new (memory_view m) (memory_view n) (Err error) → error ≡ Memory
fails-by_memory id blocks nodes old new m n (NotAStore place) can long is steps = absurd (accepted id blocks nodes (NotAStore place) can long (steps.answer (made_disk id blocks nodes) (state_of m) refl is.known))
fails-by_memory id blocks nodes old new m n (Damaged place kept found) can long is steps = absurd (accepted id blocks nodes (Damaged place kept found) can long (steps.answer (made_disk id blocks nodes) (state_of m) refl is.known))
fails-by_memory id blocks nodes old new m n (Unfit place why) can long is steps = absurd (accepted id blocks nodes (Unfit place why) can long (steps.answer (made_disk id blocks nodes) (state_of m) refl is.known))
fails-by_memory id blocks nodes old new m n Rebuilding can long is steps = absurd (accepted id blocks nodes Rebuilding can long (steps.answer (made_disk id blocks nodes) (state_of m) refl is.known))
fails-by_memory id blocks nodes old new m n DiskFault can long is steps =
    let fewer = steps.left.used refl refl in
    let none = ap length is.failures in
    absurd (omega (arith, fewer, none))
fails-by_memory id blocks nodes old new m n Memory can long is steps = refl
