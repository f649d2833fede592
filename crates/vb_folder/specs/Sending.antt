-- What the parts of an upload step do.
use Rattle.std.specs.Prelude.{◌≡◌, ◌≢◌, ◌⊎◌, ℕ, ◌-◌, ◌≤◌, is_some, Bool, true, false, [], ◌∷◌, ◌++◌, length, Option, Some, None, Result}
use Rattle.vb_disk.specs.States.{DiskState}
use Rattle.vb_hist.specs.declared.entry.Entry.TheVariants.{Doubt, Publish}
use Rattle.vb_local.specs.Events.{Drops}
use Rattle.vb_local.specs.Shown.{LocalTrees, ShowsOn}
use Rattle.vb_local.specs.States.{LocalState, frozen_in}
use Rattle.vb_local.specs.Ties.{FrozenState}
use Rattle.vb_publish.specs.declared.step.UploadStep.{UploadStep}
use Rattle.vb_publish.specs.declared.step.UploadStep.TheVariants as uploads
use Rattle.vb_steps.specs.Steps.{CallsOnce}
use Rattle.vb_upload.specs.Cursors.{IsUploadOf}
use Rattle.vb_upload.specs.Steps.{cursor_of, due_ref, GoesOut, UploadMoment, UploadSteps}
use Rattle.vb_upload.specs.declared.answer.UploadError.{UploadError}
use Rattle.vb_upload.specs.declared.answer.UploadError.TheVariants.{Damaged, DiskFault, LinkFault, Memory}
use Rattle.vb_upload.specs.declared.upload.Upload.{Upload}
use Rattle.vb_folder.specs.Ledgers.{LedgerState}
use Rattle.vb_folder.specs.Uploads.{CallCounts, LinkMoment}

-- ---- what is noted

-- a view of this epoch stands no more, and another one stays
abbrev pub DropsEpoch : ℕ → LocalState → LocalState → Type 0
DropsEpoch epoch old new = ((old.standing ≡ Some epoch) × Drops old new) ⊎ ((old.standing ≢ Some epoch) × (new ≡ old))

-- it is noted that the cloud shows an epoch: no view of it stands any more, and nothing is in doubt
pub record Publishes (epoch : ℕ) (old new : LedgerState) : Type 0 where
  pub others : new ≡ record old { local = new.local; history = new.history; published = epoch; unsure = None }
  pub view : DropsEpoch epoch old.local new.local
  pub noted : new.history ≡ record { entries = old.history.entries ++ Publish epoch ∷ []; spare = old.history.spare - 1 }

-- it is noted that the publication of the last epoch is in doubt
abbrev pub Doubts : LedgerState → LedgerState → Type 0
Doubts old new = new ≡ record old {
  unsure = Some old.epoch;
  history = record { entries = old.history.entries ++ Doubt old.epoch ∷ []; spare = old.history.spare - 1 };
}

-- a step is noted where it published
abbrev pub NotesStep : UploadStep → LedgerState → LedgerState → Type 0
NotesStep (uploads.Published epoch) old new = Publishes epoch old new
NotesStep uploads.Sent old new = new ≡ old
NotesStep uploads.Kept old new = new ≡ old
NotesStep uploads.Asked old new = new ≡ old
NotesStep uploads.Nothing old new = new ≡ old

-- an error is noted where the link failed at the last message
abbrev pub NotesError : Bool → UploadError → LedgerState → LedgerState → Type 0
NotesError true LinkFault old new = Doubts old new
NotesError false LinkFault old new = new ≡ old
NotesError last (Damaged i page place kept found) old new = new ≡ old
NotesError last DiskFault old new = new ≡ old
NotesError last Memory old new = new ≡ old

-- a doubt is settled by the epoch that is shown: it is noted where that is the one in doubt, and nothing is in doubt any more
abbrev pub Settles : ℕ → ℕ → LedgerState → LedgerState → UploadStep → Type 0
Settles doubt shown old new uploads.Asked = (shown ≢ doubt) × (new ≡ record old { unsure = None })
Settles doubt shown old new (uploads.Published epoch) = (shown ≡ doubt) × (epoch ≡ doubt) × Publishes doubt old new
Settles doubt shown old new uploads.Sent = ⊥
Settles doubt shown old new uploads.Kept = ⊥
Settles doubt shown old new uploads.Nothing = ⊥

-- ---- what is sent

-- the devices at a moment: what the disk tells, the link, and how many calls were made
pub record DeviceMoment : Type 0 where
  pub disk : Option DiskState
  pub link : LinkMoment
  pub calls : CallCounts

-- an upload beside its devices
abbrev pub upload_moment : Upload → DeviceMoment → UploadMoment
upload_moment upload at = record { upload = upload; disk = at.disk; cloud = at.link.cloud; sends = at.calls.sends; left = at.link.left }

-- this frozen view has no more entries than a cloud takes, and each disk that shows the folder has its tree and backs the page
-- of it that is due
pub record CanBeShown (s : LedgerState) (frozen : FrozenState) : Type 0 where
  pub few : length frozen.order ≤ 65535
  pub view : (d : DiskState) (t : LocalTrees) → ShowsOn d s.local t → IsUploadOf frozen.order frozen.pages d (cursor_of s.upload) t.frozen

-- the message that is due of the frozen view was handed over: the upload alone changes, as a step of it does
pub record HandsOver (old new : LedgerState) (before after : DeviceMoment) (result : Result UploadStep UploadError) : Type 0 where
  pub frozen : FrozenState
  pub view : frozen_in old.local.phase ≡ Some frozen
  pub others : new ≡ record old { upload = new.upload }
  pub shown : CanBeShown old frozen
  pub steps : UploadSteps frozen.order frozen.pages (upload_moment old.upload before) (upload_moment new.upload after) result
  pub read : CallsOnce Memory (is_some (due_ref frozen.order frozen.pages (cursor_of old.upload))) before.calls.disk after.calls.disk result
  pub called : GoesOut before.calls.link after.calls.link result
