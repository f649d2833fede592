-- A folder beside its devices as a run of events sees it.
use Rattle.std.specs.Prelude.{◌≡◌, ℕ, ◌-◌, length, Option}
use Rattle.vb_cloud.specs.Machine.{CloudState}
use Rattle.vb_disk.specs.States.{DiskState}
use Rattle.vb_event.specs.Core.{FolderView}
use Rattle.vb_event.specs.Steps.{pushed_by, room_after}
use Rattle.vb_event.specs.declared.answer.FolderAnswer.{FolderAnswer}
use Rattle.vb_event.specs.declared.event.FolderEvent.{FolderEvent}
use Rattle.vb_event.specs.declared.event.FolderEvent.TheVariants.{Call, Freeze, CommitStep, UploadStep, DropView, End}
use Rattle.vb_local.specs.Shown.{LocalTrees}
use Rattle.vb_folder.specs.Events.{Makes}
use Rattle.vb_folder.specs.Ledgers.{LedgerState, core_of}
use Rattle.vb_folder.specs.Uploads.{LinkMoment, Uploads}

-- its view, where its views have these trees, its cloud is told so, and its devices failed so often
abbrev pub folder_view : LedgerState → LocalTrees → Option CloudState → ℕ → ℕ → FolderView
folder_view s t cloud disk_faults link_faults =
    record { core = core_of s t; spare = s.history.spare; cloud = cloud; disk_faults = disk_faults; link_faults = link_faults }

-- a call that leaves the cloud answered an event, and left as much room for entries as that does
pub record MakesAside (event : FolderEvent) (answer : FolderAnswer) (old new : LedgerState) (before after : Option DiskState) : Type 0 where
  pub makes : Makes event answer old new before after
  pub spare : (t : LocalTrees) → new.history.spare ≡ room_after old.history.spare answer - length (pushed_by makes.given (core_of old t) event answer)

-- a call of the folder answered an event: an upload step as it makes of the cloud what its answer says, and each other one aside
abbrev pub Happens : FolderEvent → FolderAnswer → LedgerState → LedgerState → Option DiskState → Option DiskState → LinkMoment → LinkMoment → Type 0
Happens UploadStep answer old new disk_before disk_after before after = Uploads answer old new disk_before disk_after before after
Happens (Call writer op) answer old new disk_before disk_after before after = MakesAside (Call writer op) answer old new disk_before disk_after × (after.cloud ≡ before.cloud)
Happens (Freeze by) answer old new disk_before disk_after before after = MakesAside (Freeze by) answer old new disk_before disk_after × (after.cloud ≡ before.cloud)
Happens CommitStep answer old new disk_before disk_after before after = MakesAside CommitStep answer old new disk_before disk_after × (after.cloud ≡ before.cloud)
Happens DropView answer old new disk_before disk_after before after = MakesAside DropView answer old new disk_before disk_after × (after.cloud ≡ before.cloud)
Happens (End writer) answer old new disk_before disk_after before after = MakesAside (End writer) answer old new disk_before disk_after × (after.cloud ≡ before.cloud)
