-- What a step of an upload answers and leaves.
use Rattle.std.specs.Prelude.{◌≡◌, ◌⊎◌, ℕ, ◌+◌, ◌<◌, nat_le, Bool, List, slice_get, Option, Some, None, IsSome, Result, Ok, Err, IsErr, IsErrOf, option_and_then}
use Rattle.sha2.specs.Sha256.{sha256}
use Rattle.vb_block.specs.declared.digest.Ref.{Ref}
use Rattle.vb_cause.specs.Faults.{counted}
use Rattle.vb_cause.specs.Causes.{left_of}
use Rattle.vb_disk.specs.States.{DiskState, read_at}
use Rattle.vb_tree.specs.declared.tree.TreeEntry.{TreeEntry}
use Rattle.vb_pages.specs.declared.kept.KeptPage.{KeptPage}
use Rattle.vb_pages.specs.declared.kept.PageKey.{PageKey}
use Rattle.vb_pages.specs.declared.page_error.PageError.{PageError}
use Rattle.vb_pages.specs.declared.page_error.PageError.TheVariants as pages
use Rattle.vb_pages.specs.Reads.{IsDamageOf}
use Rattle.vb_frozen.specs.declared.entry.FrozenEntry.{FrozenEntry}
use Rattle.vb_frozen.specs.Views.{page_kept, page_ref}
use Rattle.vb_msg.specs.declared.message.Msg.{Msg}
use Rattle.vb_cloud.specs.Machine.{CloudState, cloud_step}
use Rattle.vb_link.specs.Links.{IsTold, KeepsFailures}
use Rattle.vb_upload.specs.declared.answer.UploadError.{UploadError}
use Rattle.vb_upload.specs.declared.answer.UploadError.TheVariants.{Damaged, DiskFault, LinkFault, Memory}
use Rattle.vb_publish.specs.declared.step.UploadStep.{UploadStep}
use Rattle.vb_publish.specs.declared.step.UploadStep.TheVariants.{Sent, Kept, Published, Asked, Nothing}
use Rattle.vb_upload.specs.declared.cursor.Cursor.{Cursor}
use Rattle.vb_upload.specs.declared.cursor.Cursor.TheVariants.{Begin, Entry, Page, Sealed}
use Rattle.vb_upload.specs.declared.upload.Upload.{Upload}
use Rattle.vb_upload.specs.Cursors.{counts_of, sent_at, IsBehind, IsLast, IsUploadOf}
use Rattle.vb_publish.specs.Plans.{plan_length, upload_plan}

-- the epoch that an upload publishes
abbrev pub epoch_of : Upload → ℕ
epoch_of u = u.epoch.number

-- where an upload stands
abbrev pub cursor_of : Upload → Cursor
cursor_of u = u.cursor

-- how many messages of a frozen view were sent
abbrev pub sent_of : List FrozenEntry → Upload → ℕ
sent_of order u = sent_at (counts_of order) u.cursor

-- whether the message at a cursor is the last of its plan
abbrev pub is_last_at : List FrozenEntry → Cursor → Bool
is_last_at order cursor = nat_le (plan_length (counts_of order)) (sent_at (counts_of order) cursor + 1)

-- this message is the one at a place in the plan of an epoch and a tree, whatever is published
abbrev pub IsPlanned : ℕ → List TreeEntry → ℕ → Msg → Type 0
IsPlanned epoch tree place m = (published : List TreeEntry) → slice_get (upload_plan epoch tree published) place ≡ Some m

-- ---- where it goes

-- the last message was sent, and the upload stands at its beginning
pub record Ended (order : List FrozenEntry) (old new : Upload) (epoch : ℕ) : Type 0 where
  pub its_epoch : epoch ≡ epoch_of old
  pub last : IsLast order old.cursor
  pub anew : new.cursor ≡ Begin

-- where an upload stands afterwards, by the answer: one message further; at the beginning where it was the last, and where
-- the link failed; and else where it stood
abbrev pub GoesTo : List FrozenEntry → Upload → Upload → Result UploadStep UploadError → Type 0
GoesTo order old new (Ok Sent) = IsBehind order old.cursor new.cursor
GoesTo order old new (Ok (Published epoch)) = Ended order old new epoch
GoesTo order old new (Ok Kept) = ⊥
GoesTo order old new (Ok Asked) = ⊥
GoesTo order old new (Ok Nothing) = ⊥
GoesTo order old new (Err LinkFault) = new.cursor ≡ Begin
GoesTo order old new (Err Memory) = new.cursor ≡ old.cursor
GoesTo order old new (Err DiskFault) = new.cursor ≡ old.cursor
GoesTo order old new (Err (Damaged i page place kept found)) = new.cursor ≡ old.cursor

-- ---- the page that is due

-- the page of an entry that is due at a cursor
abbrev pub due_page : Cursor → Option (ℕ × ℕ)
due_page Begin = None
due_page (Entry i) = None
due_page (Page i page) = Some (i, page)
due_page (Sealed i) = None

-- the reference of a page that isn't kept in memory
abbrev pub unless_kept : Option (List ℕ) → Option Ref → Option Ref
unless_kept None reference = reference
unless_kept (Some bytes) reference = None

-- the reference of the page that is due, where one is due that isn't kept in memory
abbrev pub due_ref : List FrozenEntry → List (PageKey × KeptPage) → Cursor → Option Ref
due_ref order pages cursor = option_and_then (λ due. unless_kept (page_kept order pages due.0 due.1) (page_ref order due.0 due.1)) (due_page cursor)

-- the page that is due is this one, and its place held something else than its reference says
pub record IsDamageAt (order : List FrozenEntry) (pages : List (PageKey × KeptPage)) (disk : Option DiskState) (cursor : Cursor) (i page place : ℕ) (kept found : List ℕ) : Type 0 where
  pub due : due_page cursor ≡ Some (i, page)
  pub on_disk : IsSome (due_ref order pages cursor)
  pub damage : (reference : Ref) → due_ref order pages cursor ≡ Some reference → IsDamageOf reference place kept found
  pub read : (d : DiskState) → disk ≡ Some d → found ≡ sha256 (read_at d place)

-- where a page is due that isn't kept in memory, its place reads as its reference says
abbrev pub ReadsWhole : List FrozenEntry → List (PageKey × KeptPage) → Option DiskState → Cursor → Type 0
ReadsWhole order pages disk cursor = (d : DiskState) (reference : Ref) → disk ≡ Some d → due_ref order pages cursor ≡ Some reference → sha256 (read_at d reference.place) ≡ reference.digest

-- what the answer says of the page that is due: it was read whole where a message went out, and it is the one that is named
-- where it is damaged
abbrev pub TellsDue : {T : Type 0} → List FrozenEntry → List (PageKey × KeptPage) → Option DiskState → Cursor → Result T UploadError → Type 0
TellsDue order pages disk cursor (Ok step) = ReadsWhole order pages disk cursor
TellsDue order pages disk cursor (Err LinkFault) = ReadsWhole order pages disk cursor
TellsDue order pages disk cursor (Err (Damaged i page place kept found)) = IsDamageAt order pages disk cursor i page place kept found
TellsDue order pages disk cursor (Err DiskFault) = Unit {0}
TellsDue order pages disk cursor (Err Memory) = Unit {0}

-- what the error of a page's read is to an upload
abbrev pub upload_error_of : ℕ → ℕ → PageError → UploadError
upload_error_of i page (pages.Damaged place kept found) = Damaged i page place kept found
upload_error_of i page pages.DiskFault = DiskFault
upload_error_of i page pages.Memory = Memory

-- ---- the message

-- what a cloud is told to be once the message was due: it took it where one was sent; it took it or stays where the link
-- failed; and it stays at each other error
abbrev pub AnswersUpload : CloudState → Msg → Option CloudState → Result UploadStep UploadError → Type 0
AnswersUpload k m told (Ok step) = IsTold (cloud_step k m) told
AnswersUpload k m told (Err LinkFault) = (told ≡ Some k) ⊎ IsTold (cloud_step k m) told
AnswersUpload k m told (Err (Damaged i page place kept found)) = told ≡ Some k
AnswersUpload k m told (Err DiskFault) = told ≡ Some k
AnswersUpload k m told (Err Memory) = told ≡ Some k

-- a count of messages handed over, or of calls of the link: one more where the message went out and where the link failed,
-- none where its page wasn't had, and at most one for want of memory
abbrev pub GoesOut : ℕ → ℕ → Result UploadStep UploadError → Type 0
GoesOut before after (Ok step) = after ≡ counted before
GoesOut before after (Err LinkFault) = after ≡ counted before
GoesOut before after (Err (Damaged i page place kept found)) = after ≡ before
GoesOut before after (Err DiskFault) = after ≡ before
GoesOut before after (Err Memory) = (after ≡ before) ⊎ (after ≡ counted before)

-- the cloud refuses a message
abbrev pub Refuses : CloudState → Msg → Type 0
Refuses k m = IsErr (cloud_step k m)

-- a step that sent nothing left the cloud as it was, and so did one that found no memory
abbrev pub LeavesCloud : Option CloudState → Option CloudState → Result UploadStep UploadError → Type 0
LeavesCloud before after (Ok step) = Unit {0}
LeavesCloud before after (Err LinkFault) = Unit {0}
LeavesCloud before after (Err (Damaged i page place kept found)) = after ≡ before
LeavesCloud before after (Err DiskFault) = after ≡ before
LeavesCloud before after (Err Memory) = after ≡ before

-- the answer is none of a disk's
abbrev pub IsOfLink : Result UploadStep UploadError → Type 0
IsOfLink (Ok step) = Unit {0}
IsOfLink (Err LinkFault) = Unit {0}
IsOfLink (Err Memory) = Unit {0}
IsOfLink (Err DiskFault) = ⊥
IsOfLink (Err (Damaged i page place kept found)) = ⊥

-- ---- a step

-- an upload, its disk and its link at a moment, as contracts see them: where the upload stands, what the disk tells, what the
-- cloud is told to be, how many messages the link was handed, and how many of its failures may still come
pub record UploadMoment : Type 0 where
  pub upload : Upload
  pub disk : Option DiskState
  pub cloud : Option CloudState
  pub sends : ℕ
  pub left : Option ℕ

-- this message is due to the told cloud: the one of the plan, of a tree that the frozen view has over the told disk, at the
-- number of messages that were sent
pub record IsDueTo (order : List FrozenEntry) (pages : List (PageKey × KeptPage)) (moment : UploadMoment) (k : CloudState) (m : Msg) : Type 0 where
  pub d : DiskState
  pub tree : List TreeEntry
  pub disk : moment.disk ≡ Some d
  pub cloud : moment.cloud ≡ Some k
  pub view : IsUploadOf order pages d (cursor_of moment.upload) tree
  pub planned : slice_get (upload_plan (epoch_of moment.upload) tree k.tree) (sent_of order moment.upload) ≡ Some m

-- what a step of an upload leaves and answers. Where the link tells how many failures may still come, they become fewer at a
-- link fault, unless the cloud refuses the message that is due.
pub record UploadSteps (order : List FrozenEntry) (pages : List (PageKey × KeptPage)) (old new : UploadMoment) (result : Result UploadStep UploadError) : Type 0 where
  pub same_epoch : epoch_of new.upload ≡ epoch_of old.upload
  pub goes : GoesTo order old.upload new.upload result
  pub due : TellsDue order pages old.disk (cursor_of old.upload) result
  pub disk_stays : new.disk ≡ old.disk
  pub message : (k : CloudState) (m : Msg) → IsDueTo order pages old k m → AnswersUpload k m new.cloud result
  pub cloud_stays : LeavesCloud old.cloud new.cloud result
  pub untold : old.cloud ≡ None → new.cloud ≡ None
  pub sent : GoesOut old.sends new.sends result
  pub left : KeepsFailures old.left new.left
  pub used : (k : CloudState) (m : Msg) → IsDueTo order pages old k m → IsSome old.left → IsErrOf result LinkFault → (left_of new.left < left_of old.left) ⊎ IsErr (cloud_step k m)
