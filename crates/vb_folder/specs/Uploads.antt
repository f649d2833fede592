-- What a step of the upload makes of a folder and of its cloud.
use Rattle.std.specs.Prelude.{◌≡◌, ◌≢◌, ◌⊎◌, ℕ, ◌-◌, ◌<◌, is_some, length, slice_get, IsSome, Option, Some, None, Result, Ok, Err, option_and_then}
use Rattle.std.specs.Option.{option_map}
use Rattle.vb_block.specs.declared.digest.Ref.{Ref}
use Rattle.vb_cause.specs.Causes.{left_of}
use Rattle.vb_cloud.specs.Machine.{CloudState}
use Rattle.vb_disk.specs.States.{DiskState}
use Rattle.vb_event.specs.Answers.{due_view}
use Rattle.vb_event.specs.Core.{Given}
use Rattle.vb_event.specs.Sound.{HasSoundCloud, HasSoundHistory}
use Rattle.vb_event.specs.Steps.{MayBecome, epoch_or, pushed_by, room_after}
use Rattle.vb_event.specs.declared.answer.FaultKind.{FaultKind}
use Rattle.vb_event.specs.declared.answer.FaultKind.TheVariants as faults
use Rattle.vb_event.specs.declared.answer.FolderAnswer.{FolderAnswer}
use Rattle.vb_event.specs.declared.answer.FolderAnswer.TheVariants as answers
use Rattle.vb_event.specs.declared.event.FolderEvent.TheVariants as events
use Rattle.vb_frozen.specs.declared.entry.FrozenEntry.{FrozenEntry}
use Rattle.vb_hist.specs.Legal.{Opening}
use Rattle.vb_link.specs.Links.{KeepsFailures}
use Rattle.vb_link.specs.Views.{LinkView}
use Rattle.vb_local.specs.Events.{Drops}
use Rattle.vb_local.specs.Shown.{LocalTrees, ShowsOn}
use Rattle.vb_local.specs.States.{frozen_in}
use Rattle.vb_local.specs.Ties.{FrozenState}
use Rattle.vb_publish.specs.declared.step.UploadStep.{UploadStep}
use Rattle.vb_publish.specs.declared.step.UploadStep.TheVariants as uploads
use Rattle.vb_steps.specs.Steps.{CallsOnce}
use Rattle.vb_upload.specs.Steps.{cursor_of, due_ref, GoesOut, TellsDue}
use Rattle.vb_upload.specs.declared.answer.UploadError.{UploadError}
use Rattle.vb_upload.specs.declared.answer.UploadError.TheVariants.{Damaged, DiskFault, LinkFault, Memory}
use Rattle.vb_folder.specs.Events.{Makes}
use Rattle.vb_folder.specs.Ledgers.{LedgerState, core_of}

-- ---- its answer

-- why no message was sent, or the cloud wasn't asked
abbrev pub upload_fault : UploadError → FaultKind
upload_fault (Damaged i page place kept found) = faults.Damaged
upload_fault DiskFault = faults.Disk
upload_fault LinkFault = faults.Link
upload_fault Memory = faults.Memory

-- that of an upload step
abbrev pub upload_answer : Result UploadStep UploadError → FolderAnswer
upload_answer (Ok step) = answers.UploadStepped step
upload_answer (Err error) = answers.Fault (upload_fault error)

-- ---- what is due

-- the view of which a message is due: none while a publication is in doubt, and else the one that stands, once it is committed
abbrev pub view_due : Option ℕ → Option ℕ → Option ℕ
view_due None view = view
view_due (Some doubt) view = None

-- that of a folder
abbrev pub sending_of : LedgerState → Option ℕ
sending_of s = view_due s.unsure (due_view s.local.standing s.stage)

-- the epoch for which the link is called: the one in doubt, and else that of the view of which a message is due
abbrev pub calling_of : LedgerState → Option ℕ
calling_of s = epoch_or s.unsure (due_view s.local.standing s.stage)

-- the reference of the page that is due and has to be read, where a message is due
abbrev pub reading_of : LedgerState → Option Ref
reading_of s = option_and_then (λ epoch. option_and_then (λ frozen. due_ref frozen.order frozen.pages (cursor_of s.upload)) (frozen_in s.local.phase)) (sending_of s)

-- ---- what it makes

-- a link at a moment: what its cloud is told to be, and how many of its failures may still come
pub record LinkMoment : Type 0 where
  pub cloud : Option CloudState
  pub left : Option ℕ

-- a folder over this disk and this cloud, with these trees, that is sound for an opening
pub record IsSoundWith (o : Opening) (s : LedgerState) (disk : Option DiskState) (cloud : Option CloudState) (t : LocalTrees) (k : CloudState) : Type 0 where
  pub d : DiskState
  pub disk_told : disk ≡ Some d
  pub cloud_told : cloud ≡ Some k
  pub shows : ShowsOn d s.local t
  pub history : HasSoundHistory o (core_of s t)
  pub cloud_sound : HasSoundCloud o (core_of s t) k

-- the cloud is told to be one that this answer may leave
pub record BecomesAs (given : Given) (s : LedgerState) (t : LocalTrees) (answer : FolderAnswer) (k : CloudState) (after : Option CloudState) : Type 0 where
  pub next : CloudState
  pub told : after ≡ Some next
  pub may : MayBecome given (core_of s t) events.UploadStep answer k next

-- a step of the upload is an event of the folder. Where the folder and its told cloud were sound for an opening, the cloud is
-- one that the answer may leave, and a link that tells how many failures may still come has one less where it failed.
pub record Uploads (answer : FolderAnswer) (old new : LedgerState) (disk_before disk_after : Option DiskState) (before after : LinkMoment) : Type 0 where
  pub makes : Makes events.UploadStep answer old new disk_before disk_after
  pub spare : (t : LocalTrees) → new.history.spare ≡ room_after old.history.spare answer - length (pushed_by makes.given (core_of old t) events.UploadStep answer)
  pub becomes : (o : Opening) (t : LocalTrees) (k : CloudState) → IsSoundWith o old disk_before before.cloud t k → BecomesAs makes.given old t answer k after.cloud
  pub untold : before.cloud ≡ None → after.cloud ≡ None
  pub left : KeepsFailures before.left after.left
  pub used : (o : Opening) (t : LocalTrees) (k : CloudState) → IsSoundWith o old disk_before before.cloud t k → IsSome before.left
      → answer ≡ answers.Fault faults.Link → left_of after.left < left_of before.left

-- ---- what else changes

-- the views stay, or the one that stood is given up; the epoch and the stage of the commit stay
pub record ChangesUpload (old new : LedgerState) : Type 0 where
  pub others : new ≡ record old { local = new.local; history = new.history; published = new.published; unsure = new.unsure; upload = new.upload }
  pub views : (new.local ≡ old.local) ⊎ Drops old.local new.local

-- ---- what it tells

-- what the answer says of the page that is due: it was read whole where a message went out, and where it is damaged it is the
-- one that is named
abbrev pub TellsPage : LedgerState → Option DiskState → Result UploadStep UploadError → Type 0
TellsPage s disk result = (frozen : FrozenState) → IsSome (sending_of s) → frozen_in s.local.phase ≡ Some frozen
    → TellsDue frozen.order frozen.pages disk (cursor_of s.upload) result

-- a page of an entry of the view that is being sent
pub record IsOfView (s : LedgerState) (i : ℕ) : Type 0 where
  pub frozen : FrozenState
  pub sends : IsSome (sending_of s)
  pub view : frozen_in s.local.phase ≡ Some frozen
  pub entry : FrozenEntry
  pub there : slice_get frozen.order i ≡ Some entry

-- damage is told of the view that is being sent alone
abbrev pub NamesDamage : LedgerState → Result UploadStep UploadError → Type 0
NamesDamage s (Err (Damaged i page place kept found)) = IsOfView s i
NamesDamage s (Err DiskFault) = Unit {0}
NamesDamage s (Err LinkFault) = Unit {0}
NamesDamage s (Err Memory) = Unit {0}
NamesDamage s (Ok step) = Unit {0}

-- the link shows a view of this epoch
abbrev pub ShowsEpoch : ℕ → Option LinkView → Type 0
ShowsEpoch epoch shown = option_map (λ v. v.epoch) shown ≡ Some epoch

-- what the answer to a question says of the epoch that is shown: it is the one in doubt, or it is another
abbrev pub TellsDoubt : ℕ → Option LinkView → Result UploadStep UploadError → Type 0
TellsDoubt doubt shown (Ok uploads.Sent) = ⊥
TellsDoubt doubt shown (Ok uploads.Kept) = ⊥
TellsDoubt doubt shown (Ok (uploads.Published epoch)) = (epoch ≡ doubt) × ShowsEpoch doubt shown
TellsDoubt doubt shown (Ok uploads.Asked) = (epoch : ℕ) × ShowsEpoch epoch shown × (epoch ≢ doubt)
TellsDoubt doubt shown (Ok uploads.Nothing) = ⊥
TellsDoubt doubt shown (Err error) = Unit {0}

-- what an upload step tells of the page that it read, and where a publication is in doubt of the epoch that the link shows
pub record TellsUpload (s : LedgerState) (disk : Option DiskState) (shown : Option LinkView) (result : Result UploadStep UploadError) : Type 0 where
  pub page : TellsPage s disk result
  pub damage : NamesDamage s result
  pub doubt : (doubt : ℕ) → s.unsure ≡ Some doubt → TellsDoubt doubt shown result

-- ---- what it calls

-- how many calls of the disk and of the link were made, and how many messages were handed over
pub record CallCounts : Type 0 where
  pub disk : ℕ
  pub link : ℕ
  pub sends : ℕ

-- a count goes one further where there is a reason, and else it stays
abbrev pub CountsFor : Option ℕ → ℕ → ℕ → Result UploadStep UploadError → Type 0
CountsFor None before after result = after ≡ before
CountsFor (Some epoch) before after result = GoesOut before after result

-- at most one read, one call of the link, and one message: the link alone is called for a doubt, and nothing where no view is due
pub record CallsForUpload (s : LedgerState) (before after : CallCounts) (result : Result UploadStep UploadError) : Type 0 where
  pub disk : CallsOnce Memory (is_some (reading_of s)) before.disk after.disk result
  pub link : CountsFor (calling_of s) before.link after.link result
  pub sends : CountsFor (sending_of s) before.sends after.sends result
