-- What is known beside damage in each phase of a mount.
use Rattle.std.specs.Prelude.{◌≡◌, ◌⊎◌, Bool, List, Option, Some}
use Rattle.vb_disk.specs.States.{DiskState}
use Rattle.vb_journal.specs.declared.recover_error.RecoverError.{RecoverError}
use Rattle.vb_journal.specs.Recovers.{recovery_stage}
use Rattle.vb_journal.specs.RecoverViews.{view_of}
use Rattle.vb_store.specs.declared.mount_phase.MountPhase.{MountPhase}
use Rattle.vb_store.specs.declared.mount_phase.MountPhase.TheVariants.{Recovering, Reading, Ready}
use Rattle.vb_store.specs.declared.mount_stage.MountStage.{MountStage}
use Rattle.vb_store.specs.Beside.{HasReason, IsBeside}
use Rattle.vb_store.specs.MountStages.{HasEnded}
use Rattle.vb_store.specs.OneOf.{RecoversOneOf, TreeView}
use Rattle.vb_store.specs.Settled.{IsReadBeside, IsSettledFor}
use Rattle.vb_store.specs.Views.{ViewState}

-- a mount was refused, for its reason, and these views may be recovered
pub record IsRefusedBeside (views : List TreeView) (made : Bool) (stage : MountStage) (d : DiskState) : Type 0 where
  pub error : RecoverError
  pub ended : HasEnded stage error
  pub reason : HasReason made error d
  pub recovers : RecoversOneOf views made d

-- a store was mounted: its view in memory is one of these, for which the disk is settled, and these may be recovered
pub record IsReadyBeside (views : List TreeView) (made : Bool) (view : ViewState) (d : DiskState) : Type 0 where
  pub its : IsSettledFor views d
  pub metadata : its.view.metadata ≡ record { head = view.head; held = view.index.nodes }
  pub recovers : RecoversOneOf views made d

-- what is known of the disk's candidates in a phase
abbrev pub IsMountedBeside : List TreeView → Bool → MountPhase → DiskState → Type 0
IsMountedBeside views made (Recovering r) d = IsBeside views made (view_of (recovery_stage r.recover)) d
IsMountedBeside views made (Reading stage) d = IsReadBeside views made stage d ⊎ IsRefusedBeside views made stage d
IsMountedBeside views made (Ready ready) d = IsReadyBeside views made ready.view d

-- a step keeps it, from the disk before it to the one after it
abbrev pub KeepsBeside : MountPhase → MountPhase → Option DiskState → Option DiskState → Type 0
KeepsBeside before after old new =
    (views : List TreeView) (made : Bool) (d next : DiskState) → old ≡ Some d → new ≡ Some next
    → IsMountedBeside views made before d → IsMountedBeside views made after next
