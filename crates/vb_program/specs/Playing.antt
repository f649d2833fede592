-- The folder of a rehearsal: after each event, between two lines of a quiet run, and while a view is on its way.
use Rattle.std.specs.Prelude.{◌≡◌, ℕ, ◌+◌, ◌-◌, ◌*◌, ◌≤◌, false, List, [], ◌∷◌, ◌++◌, Option, Some, None}
use Rattle.vb_cloud.specs.Machine.{CloudState}
use Rattle.vb_core.specs.Folders.{disk_in, ledger_in, link_in}
use Rattle.vb_core.specs.declared.folder.Folder.{Folder}
use Rattle.vb_disk.specs.Memory.{failures_left_of, state_of}
use Rattle.vb_disk.specs.States.{DiskState}
use Rattle.vb_disk.specs.declared.memory_disk.MemoryDisk.{MemoryDisk}
use Rattle.vb_during.specs.TornPages.{IsAllWhole}
use Rattle.vb_event.specs.Answers.{IsDue}
use Rattle.vb_event.specs.Core.{Core, Given, IsGiven, KeepsPace}
use Rattle.vb_event.specs.Steps.{MayBecome, core_after}
use Rattle.vb_event.specs.declared.answer.FolderAnswer.{FolderAnswer}
use Rattle.vb_event.specs.declared.event.FolderEvent.{FolderEvent}
use Rattle.vb_folder.specs.Events.{trees_after}
use Rattle.vb_folder.specs.Ledgers.{core_of}
use Rattle.vb_folder.specs.Uploads.{IsSoundWith}
use Rattle.vb_hist.specs.Histories.{folder_after}
use Rattle.vb_hist.specs.Legal.{Opening}
use Rattle.vb_hist.specs.Quiet.{last_epoch_of, is_unfrozen}
use Rattle.vb_hist.specs.declared.entry.Entry.{Entry}
use Rattle.vb_hist.specs.declared.entry.Entry.TheVariants.{Freeze, Commit, Rest}
use Rattle.vb_hist.specs.declared.entry.Stage.{Stage}
use Rattle.vb_hist.specs.declared.entry.Stage.TheVariants.{Rested, Written, Committed}
use Rattle.vb_link.specs.Memory.{cloud_of, link_failures_left_of}
use Rattle.vb_link.specs.declared.memory_cloud.MemoryCloud.{MemoryCloud}
use Rattle.vb_local.specs.Shown.{LocalTrees}
use Rattle.vb_local.specs.States.{frozen_in}
use Rattle.vb_local.specs.Ties.{FrozenState}
use Rattle.vb_publish.specs.Plans.{plan_length}
use Rattle.vb_tree.specs.declared.tree.Limits.{Limits}
use Rattle.vb_upload.specs.Cursors.{counts_of}
use Rattle.vb_upload.specs.Steps.{sent_of}
use Rattle.vb_upload.specs.declared.upload.Upload.{Upload}

-- ---- what it is

-- a folder on a disk in memory, with a cloud in memory
abbrev pub MemoryFolder : Type 0
MemoryFolder = Folder MemoryDisk MemoryCloud

-- what its disk holds
abbrev pub disk_of : MemoryFolder → DiskState
disk_of folder = state_of (disk_in folder)

-- what its cloud is
abbrev pub cloud_in : MemoryFolder → CloudState
cloud_in folder = cloud_of (link_in folder)

-- its history
abbrev pub history_in : MemoryFolder → List Entry
history_in folder = (ledger_in folder).history.entries

-- the limits of its live view
abbrev pub limits_in : MemoryFolder → Limits
limits_in folder = (ledger_in folder).local.live.index.limits

-- its last epoch
abbrev pub last_epoch_in : MemoryFolder → ℕ
last_epoch_in folder = (ledger_in folder).epoch

-- the folder that it is, where its views have these trees
abbrev pub core_in : MemoryFolder → LocalTrees → Core
core_in folder t = core_of (ledger_in folder) t

-- ---- after each event

-- the opening of a rehearsal: an empty folder at epoch 0, of which nothing was published
abbrev pub rehearsal_opening : Limits → Opening
rehearsal_opening limits =
    record { limits = limits; base = []; start = 0; published = 0; published_tree = []; disk_faults = 0; link_faults = 0 }

-- its disk is whole and has all places of its store, and neither device lists a failure
pub record HasWholeDevices (folder : MemoryFolder) : Type 0 where
  pub whole : IsAllWhole (disk_of folder)
  pub disk : failures_left_of (disk_in folder) ≡ Some 0
  pub link : link_failures_left_of (link_in folder) ≡ Some 0
  pub places : (ledger_in folder).local.view.head.blocks ≤ (disk_of folder).size

-- the folder of a rehearsal with these trees: it is sound over its devices, which are whole, and it keeps pace
pub record IsRehearsed (folder : MemoryFolder) (t : LocalTrees) : Type 0 where
  pub sound : IsSoundWith (rehearsal_opening (limits_in folder)) (ledger_in folder) (Some (disk_of folder)) (Some (cloud_in folder)) t (cloud_in folder)
  pub devices : HasWholeDevices folder
  pub pace : KeepsPace (core_in folder t)

-- one event, which was answered as is due
pub record Makes (before : MemoryFolder) (t : LocalTrees) (event : FolderEvent) (answer : FolderAnswer) (after : MemoryFolder) : Type 0 where
  pub given : Given
  pub is_given : IsGiven given
  pub due : IsDue given (core_in before t) event answer
  pub rehearsed : IsRehearsed after (trees_after event answer t)
  pub core : core_in after (trees_after event answer t) ≡ core_after given (core_in before t) event answer
  pub becomes : MayBecome given (core_in before t) event answer (cloud_in before) (cloud_in after)

-- ---- between two lines

-- no view stands, no commit is on and nothing is in doubt, and the folder is what its history says; the cloud shows the last
-- epoch, and where nothing was done since the last freeze, the live tree
pub record IsQuiet (folder : MemoryFolder) : Type 0 where
  pub trees : LocalTrees
  pub rehearsed : IsRehearsed folder trees
  pub none_stands : (ledger_in folder).local.standing ≡ None
  pub rested : (ledger_in folder).stage ≡ Rested
  pub sure : (ledger_in folder).unsure ≡ None
  pub last : last_epoch_in folder ≡ last_epoch_of (history_in folder)
  pub published : (ledger_in folder).published ≡ last_epoch_in folder
  pub active : trees.active ≡ folder_after [] (history_in folder)
  pub shown_epoch : (cloud_in folder).epoch ≡ last_epoch_in folder
  pub shown : is_unfrozen (history_in folder) ≡ false → (cloud_in folder).tree ≡ trees.active

-- ---- while a view is on its way

-- what the history has of a freeze whose commit is so far
abbrev pub way_entries : ℕ → ℕ → Stage → List Entry
way_entries by epoch Written = Freeze by epoch ∷ []
way_entries by epoch Committed = Freeze by epoch ∷ Commit epoch ∷ []
way_entries by epoch Rested = Freeze by epoch ∷ Commit epoch ∷ Rest epoch ∷ []

-- how many messages of a frozen view are left
abbrev pub messages_in : Option FrozenState → Upload → ℕ
messages_in None upload = 0
messages_in (Some frozen) upload = plan_length (counts_of frozen.order) - sent_of frozen.order upload

-- how many are left of the folder's
abbrev pub messages_left : MemoryFolder → ℕ
messages_left folder = messages_in (frozen_in (ledger_in folder).local.phase) (ledger_in folder).upload

-- the folder was frozen after this history, and its view stands: it is being committed or published, and nothing else was done
pub record IsUnderWay (history : List Entry) (by : ℕ) (folder : MemoryFolder) : Type 0 where
  pub trees : LocalTrees
  pub rehearsed : IsRehearsed folder trees
  pub stands : (ledger_in folder).local.standing ≡ Some (last_epoch_in folder)
  pub sure : (ledger_in folder).unsure ≡ None
  pub last : last_epoch_in folder ≡ last_epoch_of history + 1
  pub active : trees.active ≡ folder_after [] history
  pub frozen : trees.frozen ≡ trees.active
  pub entries : history_in folder ≡ history ++ way_entries by (last_epoch_in folder) (ledger_in folder).stage
