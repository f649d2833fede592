-- What an event makes of the folder of a rehearsal, from what the calls of a folder give.
use Rattle.std.proofs.Common.{◌≡◌, ◌⊎◌, inl, inr, ⊎_elim, ℕ, ◌+◌, ◌<◌, ◌≤◌, List, [], ◌++◌, length, Option, Some, None, Result, Ok, Err, OnErr, refl, sym, ap, subst, ◌∙◌, arith}
use Rattle.std.specs.Option.{is_some}
use Rattle.std.proofs.lemmas.List.{append-nil}
use Rattle.vb_cause.specs.Causes.{left_of, UsesFailures}
use Rattle.vb_cloud.specs.Machine.{CloudState}
use Rattle.vb_core.specs.Folders.{called_answer, disk_in, ledger_in, link_in, uploaded_answer}
use Rattle.vb_core.specs.Names.{NamesPage, IsMadeOf, TellsStep}
use Rattle.vb_core.specs.declared.folder_error.FolderError.{FolderError}
use Rattle.vb_core.specs.declared.folder_error.FolderError.TheVariants as failures
use Rattle.vb_disk.specs.Memory.{failures_left_of, state_of}
use Rattle.vb_disk.specs.States.{DiskState}
use Rattle.vb_disk.specs.declared.memory_disk.MemoryDisk.{MemoryDisk}
use Rattle.vb_during.specs.TornPages.{IsAllWhole}
use Rattle.vb_event.specs.Answers.{IsDue}
use Rattle.vb_event.specs.Core.{BringToRest, Core, KeepsPace}
use Rattle.vb_event.specs.Sound.{HasSoundCloud, HasSoundHistory}
use Rattle.vb_event.specs.Steps.{MayBecome, core_after, pushed_by}
use Rattle.vb_event.specs.declared.answer.FaultKind.TheVariants as faults
use Rattle.vb_event.specs.declared.answer.FolderAnswer.{FolderAnswer}
use Rattle.vb_event.specs.declared.answer.FolderAnswer.TheVariants as answers
use Rattle.vb_event.specs.declared.event.FolderEvent.{FolderEvent}
use Rattle.vb_event.specs.declared.event.FolderEvent.TheVariants as events
use Rattle.vb_event.proofs.Pace.{pace-event}
use Rattle.vb_event.proofs.Shown.{cloud-event}
use Rattle.vb_event.proofs.Transitions.{sound-event}
use Rattle.vb_faultless.specs.Faultless.{BlamesNone, IsDueOrMemory, ShowsWhole}
use Rattle.vb_folder.specs.Events.{trees_after, Makes as MakesOne, ShowsAfter}
use Rattle.vb_folder.specs.Ledgers.{core_of, LedgerState}
use Rattle.vb_folder.specs.Uploads.{IsSoundWith}
use Rattle.vb_hist.specs.declared.entry.Entry.{Entry}
use Rattle.vb_hist.specs.Legal.{Opening}
use Rattle.vb_link.specs.Memory.{cloud_of, link_failures_left_of}
use Rattle.vb_link.specs.declared.memory_cloud.MemoryCloud.{MemoryCloud}
use Rattle.vb_local.specs.Phases.{AreTied}
use Rattle.vb_local.specs.Shown.{LocalTrees, ShowsOn}
use Rattle.vb_tree.specs.declared.tree.Limits.{Limits}
use Rattle.vb_program.specs.Playing.{cloud_in, core_in, disk_of, history_in, limits_in, rehearsal_opening, HasWholeDevices, IsRehearsed, Makes, MemoryFolder}
use Rattle.vb_program.proofs.Limits.{limits-after}

-- ---- what a rehearsed folder is

-- its disk shows it
pub rehearsed-shows : (folder : MemoryFolder) (t : LocalTrees) → IsRehearsed folder t → ShowsOn (disk_of folder) (ledger_in folder).local t
rehearsed-shows folder t r =
    let same : disk_of folder ≡ r.sound.d = cc r.sound.disk_told in
    subst (λ d. ShowsOn d (ledger_in folder).local t) (sym same) r.sound.shows

pub rehearsed-whole : (folder : MemoryFolder) (t : LocalTrees) → AreTied (ledger_in folder).local → IsRehearsed folder t → ShowsWhole (disk_of folder) (ledger_in folder) t
rehearsed-whole folder t tied r = record { whole = r.devices.whole; tied = tied; shows = rehearsed-shows folder t r }

-- ---- an event

-- an event that was made so and answered as is due leaves a rehearsed folder, where its devices stay whole
pub made-event : (old new : MemoryFolder) (t : LocalTrees) (event : FolderEvent) (answer : FolderAnswer)
    (made : MakesOne event answer (ledger_in old) (ledger_in new) (Some (disk_of old)) (Some (disk_of new)))
    → IsRehearsed old t → HasWholeDevices new → IsDue made.given (core_in old t) event answer
    → MayBecome made.given (core_in old t) event answer (cloud_in old) (cloud_in new) → Makes old t event answer new
made-event old new t event answer made r devices due becomes = record {
  given = made.given;
  is_given = made.is_given;
  due = due;
  rehearsed = record { sound = sound; devices = devices; pace = pace };
  core = after.core;
  becomes = becomes;
} where
  core : Core
  core = core_in old t

  next_trees : LocalTrees
  next_trees = trees_after event answer t

  after : ShowsAfter made.given event answer (ledger_in old) (ledger_in new) t (Some (disk_of new))
  after = made.shown (disk_of old) t refl (rehearsed-shows old t r)

  limits : limits_in new ≡ limits_in old
  limits = ap (λ (k : Core). k.limits) after.core ∙ limits-after made.given core event answer

  history : HasSoundHistory (rehearsal_opening (limits_in old)) (core_in new next_trees)
  history = subst (HasSoundHistory (rehearsal_opening (limits_in old))) (sym after.core)
      (sound-event (rehearsal_opening (limits_in old)) core made.given event answer made.is_given after.may r.sound.history)

  cloud : HasSoundCloud (rehearsal_opening (limits_in old)) (core_in new next_trees) (cloud_in new)
  cloud = subst (λ (k : Core). HasSoundCloud (rehearsal_opening (limits_in old)) k (cloud_in new)) (sym after.core)
      (cloud-event (rehearsal_opening (limits_in old)) core made.given event answer (cloud_in old) (cloud_in new) made.is_given after.may becomes r.sound.history r.sound.cloud_sound)

  sound : IsSoundWith (rehearsal_opening (limits_in new)) (ledger_in new) (Some (disk_of new)) (Some (cloud_in new)) next_trees (cloud_in new)
  sound = subst (λ (l : Limits). IsSoundWith (rehearsal_opening l) (ledger_in new) (Some (disk_of new)) (Some (cloud_in new)) next_trees (cloud_in new)) (sym limits) (record {
    d = after.next;
    disk_told = after.told;
    cloud_told = refl;
    shows = after.shows;
    history = history;
    cloud_sound = cloud;
  })

  pace : KeepsPace (core_in new next_trees)
  pace = subst KeepsPace (sym after.core) (pace-event core made.given event answer after.may r.sound.history.order.left r.pace)

-- ---- devices

-- with no failure left a device has none left
pub none-left : {T E : Type 0} (error : E) (before after : ℕ) (result : Result T E) → UsesFailures error (Some before) (Some after) result → Some before ≡ Some 0 → Some after ≡ Some 0
none-left error before after result uses none =
    let zero : before ≡ 0 = cc none in
    let less = uses.kept refl in
    ap (λ (n : ℕ). Some n) (let e : after ≡ 0 = omega (arith, zero, less) in e)

-- a device with no failure left doesn't fail
pub no-failure : {T E : Type 0} (error : E) (before after : Option ℕ) (result : Result T E) → UsesFailures error before after result → before ≡ Some 0 → result ≡ Err error → ⊥
no-failure error before after result uses none is =
    let less = uses.used (ap is_some none) is in
    let zero : left_of before ≡ 0 = ap left_of none in
    omega arith

-- a call that leaves what the disk holds, and the link and the committed head
pub devices-stay : {T E : Type 0} (error : E) (result : Result T E) (old new : MemoryFolder) → HasWholeDevices old
    → Some (disk_of new) ≡ Some (disk_of old) → UsesFailures error (failures_left_of (disk_in old)) (failures_left_of (disk_in new)) result
    → link_failures_left_of (link_in new) ≡ Some 0 → (ledger_in new).local.view.head.blocks ≡ (ledger_in old).local.view.head.blocks → HasWholeDevices new
devices-stay error result old new devices told uses link head =
    let same : disk_of new ≡ disk_of old = cc told in
    record {
      whole = subst IsAllWhole (sym same) devices.whole;
      disk = none-left error (length (disk_in old).fails) (length (disk_in new).fails) result uses devices.disk;
      link = link;
      places = (let sizes = ap (λ (d : DiskState). d.size) same in let places = devices.places in omega (arith, sizes, head, places));
    }
