-- What a step of the upload makes where a message was handed over, by its answer, and what it tells and calls.
use Rattle.std.proofs.Common.{◌≡◌, ◌⊎◌, ℕ, ◌-◌, ◌<◌, ◌≤◌, Bool, List, [], ◌∷◌, ◌++◌, true, false, Option, Some, None, Result, Ok, Err, IsSome, is_some, length, refl, sym, subst, ap, ◌∙◌, arith, inl, inr}
use Rattle.std.specs.Prelude.{max, min, slice_get, option_and_then}
use Rattle.vb_block.specs.declared.digest.Ref.{Ref}
use Rattle.vb_disk.specs.States.{DiskState}
use Rattle.std.specs.List.{Contains}
use Rattle.vb_event.specs.Answers.{due_view, faults_of_upload, is_last_due, message_answer, MayStep}
use Rattle.vb_event.specs.Steps.{epoch_or, room_after}
use Rattle.vb_event.specs.declared.answer.FaultKind.TheVariants as faults
use Rattle.vb_event.specs.declared.answer.FolderAnswer.TheVariants as answers
use Rattle.vb_hist.specs.Histories.{Recorded}
use Rattle.vb_frozen.specs.Views.{page_kept, page_ref, HasFrozenTree, IsBacked}
use Rattle.vb_pages.specs.declared.kept.KeptPage.{KeptPage}
use Rattle.vb_pages.specs.declared.kept.PageKey.{PageKey}
use Rattle.vb_upload.specs.Cursors.{BacksDue}
use Rattle.vb_upload.specs.declared.cursor.Cursor.{Cursor}
use Rattle.vb_upload.specs.declared.cursor.Cursor.TheVariants.{Begin, Entry as AtEntry, Page, Sealed}
use Rattle.vb_frozen.specs.declared.entry.FrozenEntry.{FrozenEntry}
use Rattle.vb_link.specs.Views.{LinkView}
use Rattle.vb_local.specs.Events.{Drops}
use Rattle.vb_local.specs.Shown.{LocalTrees, ShowsOn}
use Rattle.vb_local.specs.States.{LocalState, frozen_in}
use Rattle.vb_local.specs.Ties.{FrozenState}
use Rattle.vb_publish.specs.declared.step.UploadStep.{UploadStep}
use Rattle.vb_publish.specs.declared.step.UploadStep.TheVariants as uploads
use Rattle.vb_steps.specs.Steps.{CallsOnce}
use Rattle.vb_upload.specs.Steps.{cursor_of, due_ref, due_page, epoch_of, is_last_at, unless_kept, TellsDue}
use Rattle.vb_upload.specs.declared.answer.UploadError.{UploadError}
use Rattle.vb_upload.specs.declared.answer.UploadError.TheVariants.{Damaged, DiskFault, LinkFault, Memory}
use Rattle.vb_folder.specs.Ledgers.{IsKept, LedgerState, SendsView, core_of}
use Rattle.vb_folder.specs.Sending.{CanBeShown, DeviceMoment, Doubts, DropsEpoch, HandsOver, NotesError, NotesStep, Publishes}
use Rattle.vb_folder.specs.Uploads.{calling_of, reading_of, sending_of, upload_answer, upload_fault, view_due, CallCounts, CallsForUpload, ChangesUpload, CountsFor, IsOfView, LinkMoment, NamesDamage, TellsPage, TellsUpload, Uploads}
use Rattle.vb_folder.proofs.Doubted.{published-made, published_now, memory-made}
use Rattle.vb_folder.proofs.Roomed.{with_room}
use Rattle.vb_folder.proofs.Sent.{doubted-made, doubted_now, sent-linked, sent-made, sent-may, sent_now, IsSending, SendingLaws}
use Rattle.vb_folder.proofs.Given.{unnoted, with_entries}
use Rattle.vb_folder.proofs.UploadsGiven.{given_for, uncalled, uploads-forgot, uploads-made, uploads-roomed, IsMade}

-- ---- each answer

-- the view that stands is sent
pub sends-view : (s : LedgerState) (frozen : FrozenState) → IsKept s → IsSending s → frozen_in s.local.phase ≡ Some frozen → SendsView s frozen
sends-view s frozen kept sending at = kept.sends frozen at (ap is_some sending.stands)

sent-epoch : (s sent : LedgerState) (before after : DeviceMoment) (result : Result UploadStep UploadError) → IsKept s → IsSending s → (hands : HandsOver s sent before after result) → epoch_of s.upload ≡ s.epoch
sent-epoch s sent before after result kept sending hands = (sends-view s hands.frozen kept sending hands.view).epoch

-- the last message was sent
pub published-uploads : SendingLaws → (epoch : ℕ) (s sent new : LedgerState) (before after : DeviceMoment) → 0 < s.history.spare → IsKept s → IsSending s → HandsOver s sent before after (Ok (uploads.Published epoch)) → Publishes epoch sent new → Uploads (answers.UploadStepped (uploads.Published epoch)) s new before.disk after.disk before.link after.link
published-uploads laws epoch s sent new before after room kept sending hands publishes =
    subst (λ (n : LedgerState). Uploads (answers.UploadStepped (uploads.Published epoch)) s n before.disk after.disk before.link after.link) (sym noted.others)
    (uploads-made (answers.UploadStepped (uploads.Published epoch)) s (published_now s new.local new.history epoch sent.upload) before.disk after.disk before.link after.link hands.steps.disk_stays
    (published-made epoch s new.local new.history sent.upload room (λ t. sent-may s t hands.frozen sent.upload (Ok (uploads.Published epoch)) sending hands.view (sent-epoch s sent before after (Ok (uploads.Published epoch)) kept sending hands) hands.steps.goes) noted.view hands.steps.goes.anew noted.noted)
    (sent-linked laws s sent before after (Ok (uploads.Published epoch)) kept sending hands)) where
      noted : Publishes epoch (sent_now s sent.upload) new
      noted = subst (λ (x : LedgerState). Publishes epoch x new) hands.others publishes

-- the link failed at it
pub doubted-uploads : SendingLaws → (s sent new : LedgerState) (before after : DeviceMoment) → IsKept s → IsSending s → (hands : HandsOver s sent before after (Err LinkFault)) → is_last_at hands.frozen.order (cursor_of s.upload) ≡ true → Doubts sent new → Uploads (answers.Fault faults.Link) s new before.disk after.disk before.link after.link
doubted-uploads laws s sent new before after kept sending hands last doubts =
    subst (λ (n : LedgerState). Uploads (answers.Fault faults.Link) s n before.disk after.disk before.link after.link) (sym noted)
    (uploads-made (answers.Fault faults.Link) s (doubted_now s sent.upload) before.disk after.disk before.link after.link hands.steps.disk_stays
    (doubted-made s hands.frozen sent.upload sending hands.view last hands.steps.goes)
    (sent-linked laws s sent before after (Err LinkFault) kept sending hands)) where
      noted : new ≡ doubted_now s sent.upload
      noted = subst (λ (x : LedgerState). Doubts x new) hands.others doubts

-- nothing is noted
pub sent-uploads : SendingLaws → (s sent : LedgerState) (before after : DeviceMoment) (result : Result UploadStep UploadError) → 0 < s.history.spare → IsKept s → IsSending s → (hands : HandsOver s sent before after result) → ((epoch : ℕ) → result ≡ Ok (uploads.Published epoch) → ⊥) → (result ≡ Err LinkFault → is_last_at hands.frozen.order (cursor_of s.upload) ≡ false) → Uploads (upload_answer result) s sent before.disk after.disk before.link after.link
sent-uploads laws s sent before after result room kept sending hands other last =
    subst (λ (n : LedgerState). Uploads (upload_answer result) s n before.disk after.disk before.link after.link) (sym hands.others)
    (uploads-made (upload_answer result) s (sent_now s sent.upload) before.disk after.disk before.link after.link hands.steps.disk_stays
    (sent-made s hands.frozen sent.upload result room sending hands.view (sent-epoch s sent before after result kept sending hands) hands.steps.goes other last)
    (sent-linked laws s sent before after result kept sending hands))

-- so each step is noted
pub step-uploads : SendingLaws → (step : UploadStep) (s sent new : LedgerState) (before after : DeviceMoment) → 0 < s.history.spare → IsKept s → IsSending s → HandsOver s sent before after (Ok step) → NotesStep step sent new → Uploads (answers.UploadStepped step) s new before.disk after.disk before.link after.link
step-uploads laws (uploads.Published epoch) s sent new before after room kept sending hands noted = published-uploads laws epoch s sent new before after room kept sending hands noted
step-uploads laws uploads.Sent s sent new before after room kept sending hands noted =
    subst (λ (n : LedgerState). Uploads (answers.UploadStepped uploads.Sent) s n before.disk after.disk before.link after.link) (sym noted)
    (sent-uploads laws s sent before after (Ok uploads.Sent) room kept sending hands (λ epoch is. cc is) (λ is. absurd (cc is)))
step-uploads laws uploads.Kept s sent new before after room kept sending hands noted = absurd hands.steps.goes
step-uploads laws uploads.Asked s sent new before after room kept sending hands noted = absurd hands.steps.goes
step-uploads laws uploads.Nothing s sent new before after room kept sending hands noted = absurd hands.steps.goes

-- and each error
error-uploads : SendingLaws → (error : UploadError) (s sent new : LedgerState) (before after : DeviceMoment) → 0 < s.history.spare → IsKept s → IsSending s → HandsOver s sent before after (Err error) → (error ≡ LinkFault → ⊥) → new ≡ sent → Uploads (answers.Fault (upload_fault error)) s new before.disk after.disk before.link after.link
error-uploads laws error s sent new before after room kept sending hands other noted =
    subst (λ (n : LedgerState). Uploads (answers.Fault (upload_fault error)) s n before.disk after.disk before.link after.link) (sym noted)
    (sent-uploads laws s sent before after (Err error) room kept sending hands (λ epoch is. cc is) (λ is. absurd (other (cc is))))

pub fault-uploads : SendingLaws → (error : UploadError) (last : Bool) (s sent new : LedgerState) (before after : DeviceMoment) → 0 < s.history.spare → IsKept s → IsSending s → (hands : HandsOver s sent before after (Err error)) → last ≡ is_last_at hands.frozen.order (cursor_of s.upload) → NotesError last error sent new → Uploads (answers.Fault (upload_fault error)) s new before.disk after.disk before.link after.link
fault-uploads laws LinkFault true s sent new before after room kept sending hands last noted = doubted-uploads laws s sent new before after kept sending hands (sym last) noted
fault-uploads laws LinkFault false s sent new before after room kept sending hands last noted =
    subst (λ (n : LedgerState). Uploads (answers.Fault faults.Link) s n before.disk after.disk before.link after.link) (sym noted)
    (sent-uploads laws s sent before after (Err LinkFault) room kept sending hands (λ epoch is. cc is) (λ is. sym last))
fault-uploads laws (Damaged i page place kept_digest found) b s sent new before after room kept sending hands last noted = error-uploads laws (Damaged i page place kept_digest found) s sent new before after room kept sending hands (λ is. cc is) noted
fault-uploads laws DiskFault b s sent new before after room kept sending hands last noted = error-uploads laws DiskFault s sent new before after room kept sending hands (λ is. cc is) noted
fault-uploads laws Memory b s sent new before after room kept sending hands last noted = error-uploads laws Memory s sent new before after room kept sending hands (λ is. cc is) noted

-- ---- what it changes

views-left : (epoch : ℕ) (old new : LocalState) → DropsEpoch epoch old new → (new ≡ old) ⊎ Drops old new
views-left epoch old new (inl drops) = inr drops.1
views-left epoch old new (inr same) = inl same.1

pub published-changes : (epoch : ℕ) (s sent new : LedgerState) (before after : DeviceMoment) (result : Result UploadStep UploadError) → HandsOver s sent before after result → Publishes epoch sent new → ChangesUpload s new
published-changes epoch s sent new before after result hands publishes =
    subst (ChangesUpload s) (sym noted.others) (record { others = refl; views = views-left epoch s.local new.local noted.view }) where
      noted : Publishes epoch (sent_now s sent.upload) new
      noted = subst (λ (x : LedgerState). Publishes epoch x new) hands.others publishes

pub doubted-changes : (s sent new : LedgerState) (before after : DeviceMoment) (result : Result UploadStep UploadError) → HandsOver s sent before after result → Doubts sent new → ChangesUpload s new
doubted-changes s sent new before after result hands doubts =
    subst (ChangesUpload s) (sym noted) (record { others = refl; views = inl refl }) where
      noted : new ≡ doubted_now s sent.upload
      noted = subst (λ (x : LedgerState). Doubts x new) hands.others doubts

pub sent-changes : (s sent : LedgerState) (before after : DeviceMoment) (result : Result UploadStep UploadError) → HandsOver s sent before after result → ChangesUpload s sent
sent-changes s sent before after result hands = subst (ChangesUpload s) (sym hands.others) (record { others = refl; views = inl refl })

pub step-changes : (step : UploadStep) (s sent new : LedgerState) (before after : DeviceMoment) → HandsOver s sent before after (Ok step) → NotesStep step sent new → ChangesUpload s new
step-changes (uploads.Published epoch) s sent new before after hands noted = published-changes epoch s sent new before after (Ok (uploads.Published epoch)) hands noted
step-changes uploads.Sent s sent new before after hands noted = subst (ChangesUpload s) (sym noted) (sent-changes s sent before after (Ok uploads.Sent) hands)
step-changes uploads.Kept s sent new before after hands noted = absurd hands.steps.goes
step-changes uploads.Asked s sent new before after hands noted = absurd hands.steps.goes
step-changes uploads.Nothing s sent new before after hands noted = absurd hands.steps.goes

pub error-changes : (error : UploadError) (last : Bool) (s sent new : LedgerState) (before after : DeviceMoment) → HandsOver s sent before after (Err error) → NotesError last error sent new → ChangesUpload s new
error-changes LinkFault true s sent new before after hands noted = doubted-changes s sent new before after (Err LinkFault) hands noted
error-changes LinkFault false s sent new before after hands noted = subst (ChangesUpload s) (sym noted) (sent-changes s sent before after (Err LinkFault) hands)
error-changes (Damaged i page place kept found) last s sent new before after hands noted = subst (ChangesUpload s) (sym noted) (sent-changes s sent before after (Err (Damaged i page place kept found)) hands)
error-changes DiskFault last s sent new before after hands noted = subst (ChangesUpload s) (sym noted) (sent-changes s sent before after (Err DiskFault) hands)
error-changes Memory last s sent new before after hands noted = subst (ChangesUpload s) (sym noted) (sent-changes s sent before after (Err Memory) hands)

-- ---- what it tells

one-view : (a b : FrozenState) → Some a ≡ Some b → a ≡ b
one-view a b same = cc same

pub is-due-now : (s : LedgerState) → IsSending s → sending_of s ≡ Some s.epoch
is-due-now s sending = ap (λ (o : Option ℕ). view_due o (due_view s.local.standing s.stage)) sending.sure ∙ sending.view

-- where a reference is due it is one of an entry
entry-there : (o : Option FrozenEntry) (kept : FrozenEntry → Option Ref) → IsSome (option_and_then kept o) → (entry : FrozenEntry) × (o ≡ Some entry)
entry-there None kept some = absurd (cc some)
entry-there (Some entry) kept some = (entry, refl)

unkept-there : (bytes : Option (List ℕ)) (reference : Option Ref) → IsSome (unless_kept bytes reference) → IsSome reference
unkept-there None reference some = some
unkept-there (Some bytes) reference some = absurd (cc some)

damaged-there : (s : LedgerState) (frozen : FrozenState) (i page : ℕ) → due_page (cursor_of s.upload) ≡ Some (i, page) → IsSome (due_ref frozen.order frozen.pages (cursor_of s.upload)) → (entry : FrozenEntry) × (slice_get frozen.order i ≡ Some entry)
damaged-there s frozen i page due some =
    entry-there (slice_get frozen.order i) (λ entry. slice_get entry.refs page) (unkept-there (page_kept frozen.order frozen.pages i page) (page_ref frozen.order i page)
    (subst (λ (o : Option (ℕ × ℕ)). IsSome (option_and_then (λ due. unless_kept (page_kept frozen.order frozen.pages due.0 due.1) (page_ref frozen.order due.0 due.1)) o)) due some))

names-damage : (s sent : LedgerState) (before after : DeviceMoment) (result : Result UploadStep UploadError) → IsSending s → HandsOver s sent before after result → NamesDamage s result
names-damage s sent before after (Ok step) sending hands = tt
names-damage s sent before after (Err DiskFault) sending hands = tt
names-damage s sent before after (Err LinkFault) sending hands = tt
names-damage s sent before after (Err Memory) sending hands = tt
names-damage s sent before after (Err (Damaged i page place kept found)) sending hands = record {
  frozen = hands.frozen;
  sends = ap is_some (is-due-now s sending);
  view = hands.view;
  entry = entry.0;
  there = entry.1;
} where
  entry : (entry : FrozenEntry) × (slice_get hands.frozen.order i ≡ Some entry)
  entry = damaged-there s hands.frozen i page hands.steps.due.due hands.steps.due.on_disk

pub sent-tells : (s sent : LedgerState) (before after : DeviceMoment) (shown : Option LinkView) (result : Result UploadStep UploadError) → IsSending s → HandsOver s sent before after result → TellsUpload s before.disk shown result
sent-tells s sent before after shown result sending hands = record {
  page = λ frozen some at. subst (λ (f : FrozenState). TellsDue f.order f.pages before.disk (cursor_of s.upload) result) (one-view hands.frozen frozen (sym hands.view ∙ at)) hands.steps.due;
  damage = names-damage s sent before after result sending hands;
  doubt = λ doubt is. absurd (let e = sym sending.sure ∙ is in cc e);
}

-- ---- what it calls

pub sent-calls : (s sent : LedgerState) (before after : DeviceMoment) (result : Result UploadStep UploadError) → IsSending s → HandsOver s sent before after result → CallsForUpload s before.calls after.calls result
sent-calls s sent before after result sending hands = record {
  disk = subst (λ (o : Option Ref). CallsOnce Memory (is_some o) before.calls.disk after.calls.disk result) (sym reading) hands.read;
  link = subst (λ (o : Option ℕ). CountsFor o before.calls.link after.calls.link result) (sym calling) hands.called;
  sends = subst (λ (o : Option ℕ). CountsFor o before.calls.sends after.calls.sends result) (sym (is-due-now s sending)) hands.steps.sent;
} where
  reading : reading_of s ≡ due_ref hands.frozen.order hands.frozen.pages (cursor_of s.upload)
  reading = ap (λ (o : Option ℕ). option_and_then (λ (epoch : ℕ). option_and_then (λ (frozen : FrozenState). due_ref frozen.order frozen.pages (cursor_of s.upload)) (frozen_in s.local.phase)) o) (is-due-now s sending)
      ∙ ap (λ (o : Option FrozenState). option_and_then (λ (frozen : FrozenState). due_ref frozen.order frozen.pages (cursor_of s.upload)) o) hands.view

  calling : calling_of s ≡ Some s.epoch
  calling = ap (λ (o : Option ℕ). epoch_or o (due_view s.local.standing s.stage)) sending.sure ∙ sending.view

-- ---- with the room that is made before

-- a message that was sent leaves room for an entry
room-made : (was : ℕ) (step : UploadStep) → (step ≡ uploads.Nothing → ⊥) → room_after (max was 1) (answers.UploadStepped step) ≡ room_after was (answers.UploadStepped step)
room-made was uploads.Sent other = omega arith
room-made was uploads.Kept other = omega arith
room-made was (uploads.Published epoch) other = omega arith
room-made was uploads.Asked other = omega arith
room-made was uploads.Nothing other = absurd (other refl)

pub sent-roomed : (step : UploadStep) (s roomed new : LedgerState) (disk_before disk_after : Option DiskState) (before after : LinkMoment) → roomed ≡ with_room s (max s.history.spare 1) → (step ≡ uploads.Nothing → ⊥) → Uploads (answers.UploadStepped step) roomed new disk_before disk_after before after → Uploads (answers.UploadStepped step) s new disk_before disk_after before after
sent-roomed step s roomed new disk_before disk_after before after room other is =
    uploads-roomed (answers.UploadStepped step) s new (max s.history.spare 1) disk_before disk_after before after (room-made s.history.spare step other)
    (subst (λ (x : LedgerState). Uploads (answers.UploadStepped step) x new disk_before disk_after before after) room is)

pub failed-roomed : (error : UploadError) (s roomed sent new : LedgerState) (n : ℕ) (disk_before disk_after : Option DiskState) (before after : LinkMoment) → roomed ≡ with_room s (max s.history.spare 1) → n ≡ s.history.spare → new ≡ with_room sent (min sent.history.spare n) → Uploads (answers.Fault (upload_fault error)) roomed sent disk_before disk_after before after → Uploads (answers.Fault (upload_fault error)) s new disk_before disk_after before after
failed-roomed error s roomed sent new n disk_before disk_after before after room is forgot uploads =
    subst (λ (x : LedgerState). Uploads (answers.Fault (upload_fault error)) s x disk_before disk_after before after) (sym (forgot ∙ ap (λ (m : ℕ). with_room sent (min sent.history.spare m)) is))
    (uploads-forgot (upload_fault error) s sent disk_before disk_after before after
    (subst (λ (x : LedgerState). Uploads (answers.Fault (upload_fault error)) x sent disk_before disk_after before after) room uploads))

changes-roomed : (s new : LedgerState) (n : ℕ) → ChangesUpload (with_room s n) new → ChangesUpload s new
changes-roomed s new n changes = record { others = changes.others; views = changes.views }

pub sent-changes-roomed : (s roomed new : LedgerState) (n : ℕ) → roomed ≡ with_room s n → ChangesUpload roomed new → ChangesUpload s new
sent-changes-roomed s roomed new n room changes = changes-roomed s new n (subst (λ (x : LedgerState). ChangesUpload x new) room changes)

pub failed-changes-roomed : (s roomed sent new : LedgerState) (n m : ℕ) → roomed ≡ with_room s n → new ≡ with_room sent m → ChangesUpload roomed sent → ChangesUpload s new
failed-changes-roomed s roomed sent new n m room forgot changes = subst (ChangesUpload s) (sym forgot) (forgotten (sent-changes-roomed s roomed sent n room changes)) where
  forgotten : ChangesUpload s sent → ChangesUpload s (with_room sent m)
  forgotten is = record { others = ap (λ (x : LedgerState). with_room x m) is.others; views = is.views }

tells-roomed : (s : LedgerState) (n : ℕ) (disk : Option DiskState) (shown : Option LinkView) (result : Result UploadStep UploadError) → TellsUpload (with_room s n) disk shown result → TellsUpload s disk shown result
tells-roomed s n disk shown result tells = record { page = tells.page; damage = named result tells.damage; doubt = tells.doubt } where
  named : (result : Result UploadStep UploadError) → NamesDamage (with_room s n) result → NamesDamage s result
  named (Ok step) names = tt
  named (Err DiskFault) names = tt
  named (Err LinkFault) names = tt
  named (Err Memory) names = tt
  named (Err (Damaged i page place kept found)) names = record { frozen = names.frozen; sends = names.sends; view = names.view; entry = names.entry; there = names.there }

pub sent-tells-roomed : (s roomed : LedgerState) (n : ℕ) (disk : Option DiskState) (shown : Option LinkView) (result : Result UploadStep UploadError) → roomed ≡ with_room s n → TellsUpload roomed disk shown result → TellsUpload s disk shown result
sent-tells-roomed s roomed n disk shown result room tells = tells-roomed s n disk shown result (subst (λ (x : LedgerState). TellsUpload x disk shown result) room tells)

pub sent-calls-roomed : (s roomed : LedgerState) (n : ℕ) (before after : CallCounts) (result : Result UploadStep UploadError) → roomed ≡ with_room s n → CallsForUpload roomed before after result → CallsForUpload s before after result
sent-calls-roomed s roomed n before after result room calls = again (subst (λ (x : LedgerState). CallsForUpload x before after result) room calls) where
  again : CallsForUpload (with_room s n) before after result → CallsForUpload s before after result
  again is = record { disk = is.disk; link = is.link; sends = is.sends }

-- ---- a page was damaged

-- where an upload step met damage, its folder has another history and another upload at most
abbrev pub LeavesDamaged : LedgerState → LedgerState → Result UploadStep UploadError → Type 0
LeavesDamaged old new result = (i page place : ℕ) (kept found : List ℕ) → result ≡ Err (Damaged i page place kept found) → new ≡ record old { history = new.history; upload = new.upload }

noted-sent : (s sent new : LedgerState) → sent ≡ record s { upload = sent.upload } → new ≡ sent → new ≡ record s { history = new.history; upload = new.upload }
noted-sent s sent new others notes =
    subst (λ (x : LedgerState). x ≡ record s { history = x.history; upload = x.upload }) (sym notes)
    (others ∙ ap (λ (h : Recorded). record s { history = h; upload = sent.upload }) (sym (ap (λ (x : LedgerState). x.history) others)))

-- nothing is noted then
pub damaged-sent : (last : Bool) (error : UploadError) (s sent new : LedgerState) → sent ≡ record s { upload = sent.upload } → NotesError last error sent new → LeavesDamaged s new (Err error)
damaged-sent true (Damaged i page place kept found) s sent new others notes a b c d e is = noted-sent s sent new others notes
damaged-sent false (Damaged i page place kept found) s sent new others notes a b c d e is = noted-sent s sent new others notes
damaged-sent last LinkFault s sent new others notes a b c d e is = absurd (cc is)
damaged-sent last DiskFault s sent new others notes a b c d e is = absurd (cc is)
damaged-sent last Memory s sent new others notes a b c d e is = absurd (cc is)

-- and the room is as it was
pub damaged-roomed : (result : Result UploadStep UploadError) (s roomed sent new : LedgerState) (n m : ℕ) → roomed ≡ with_room s n → new ≡ with_room sent m → LeavesDamaged roomed sent result → LeavesDamaged s new result
damaged-roomed result s roomed sent new n m room forgot leaves i page place kept found is =
    let was : sent ≡ record roomed { history = sent.history; upload = sent.upload } = leaves i page place kept found is in
    let then : sent ≡ record s { history = sent.history; upload = sent.upload } = was ∙ ap (λ (x : LedgerState). record x { history = sent.history; upload = sent.upload }) room in
    let now : with_room sent m ≡ record s { history = record sent.history { spare = m }; upload = sent.upload } = ap (λ (x : LedgerState). record x { history = record sent.history { spare = m } }) then in
    subst (λ (x : LedgerState). x ≡ record s { history = x.history; upload = x.upload }) (sym forgot) now

-- ---- nothing is sent

-- no view is due
pub nothing-uploads : (s : LedgerState) (disk : Option DiskState) (link : LinkMoment) → s.unsure ≡ None → is_some (due_view s.local.standing s.stage) ≡ false → Uploads (answers.UploadStepped uploads.Nothing) s s disk disk link link
nothing-uploads s disk link sure none =
    uploads-made (answers.UploadStepped uploads.Nothing) s s disk disk link link refl (record {
      shows = λ d t shows. shows;
      may = λ t. inl (
        uploads.Nothing,
        refl,
        subst (λ (o : Option ℕ). MayStep (given_for s) (core_of s t) o uploads.Nothing) (sym sure)
            (sym (ap (message_answer (is_last_due (given_for s) (core_of s t))) (no-view (due_view s.local.standing s.stage) none))),
      );
      core = λ t. ap (with_entries (core_of s t)) (unnoted s s.history refl);
      spare = λ t. (let e : s.history.spare ≡ s.history.spare - 0 = omega arith in e);
    })
    (uncalled (answers.UploadStepped uploads.Nothing) s disk link (λ at. cc at) (λ t k. refl)) where
      no-view : (o : Option ℕ) → is_some o ≡ false → o ≡ None
      no-view None none = refl
      no-view (Some e) none = absurd (cc none)

-- there was no room
pub unsent : (s : LedgerState) (disk : Option DiskState) (link : LinkMoment) → IsSending s → Uploads (answers.Fault faults.Memory) s s disk disk link link
unsent s disk link sending =
    uploads-made (answers.Fault faults.Memory) s s disk disk link link refl
    (memory-made s (subst (λ (o : Option ℕ). Contains (faults_of_upload o (due_view s.local.standing s.stage)) faults.Memory) (sym sending.sure)
    (subst (λ (v : Option ℕ). Contains (faults_of_upload None v) faults.Memory) (sym sending.view) (3, omega arith, refl))))
    (uncalled (answers.Fault faults.Memory) s disk link (λ at. cc at) (λ t k. refl))

-- ---- what a step of the upload is to the folder

backs-due : (order : List FrozenEntry) (pages : List (PageKey × KeptPage)) (d : DiskState) → ((i page : ℕ) → IsBacked order pages d i page) → (cursor : Cursor) → BacksDue order pages d cursor
backs-due order pages d backed Begin = tt
backs-due order pages d backed (AtEntry i) = tt
backs-due order pages d backed (Page i page) = backed i page
backs-due order pages d backed (Sealed i) = tt

-- the frozen view that stands can be shown
pub can-be-shown : (s : LedgerState) (frozen : FrozenState) → length frozen.order ≤ 65535 → ((d : DiskState) (t : LocalTrees) → ShowsOn d s.local t → HasFrozenTree frozen.order frozen.pages d t.frozen) → ((d : DiskState) (t : LocalTrees) (i page : ℕ) → ShowsOn d s.local t → IsBacked frozen.order frozen.pages d i page) → CanBeShown s frozen
can-be-shown s frozen few tree backed = record {
  few = few;
  view = λ d t shows. record { has = tree d t shows; backed = backs-due frozen.order frozen.pages d (λ i page. backed d t i page shows) (cursor_of s.upload) };
}
