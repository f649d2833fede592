-- What an upload step of a rehearsed folder answers, and what it leaves.
use Rattle.std.proofs.Common.{◌≡◌, ◌⊎◌, inl, inr, ⊎_elim, ℕ, ◌+◌, ◌-◌, ◌<◌, ◌≤◌, Bool, true, false, List, length, Option, Some, None, Result, Ok, Err, refl, sym, ap, subst, ◌∙◌, arith}
use Rattle.std.specs.Option.{is_some}
use Rattle.vb_cause.specs.Causes.{left_of, UsesFailures}
use Rattle.vb_cloud.specs.Machine.{CloudState}
use Rattle.vb_core.specs.Folders.{disk_in, ledger_in, link_in, uploaded_answer}
use Rattle.vb_core.specs.Names.{IsMadeOf, TellsStep}
use Rattle.vb_core.specs.declared.folder_error.FolderError.{FolderError}
use Rattle.vb_core.specs.declared.folder_error.FolderError.TheVariants as failures
use Rattle.vb_disk.specs.Memory.{failures_left_of}
use Rattle.vb_disk.specs.States.{DiskState}
use Rattle.vb_event.specs.Answers.{due_view, is_last_due, message_answer, MayStep}
use Rattle.vb_event.specs.Core.{Core, Given}
use Rattle.vb_event.specs.Steps.{MayBecome}
use Rattle.vb_event.specs.declared.answer.FaultKind.TheVariants as faults
use Rattle.vb_event.specs.declared.answer.FolderAnswer.{FolderAnswer}
use Rattle.vb_event.specs.declared.answer.FolderAnswer.TheVariants as answers
use Rattle.vb_event.specs.declared.event.FolderEvent.TheVariants as events
use Rattle.vb_faultless.specs.Faultless.{BlamesNone, ShowsWhole}
use Rattle.vb_faultless.proofs.Answered.{link-blames}
use Rattle.vb_folder.specs.Ledgers.{IsKept, LedgerState, sent_in}
use Rattle.vb_folder.specs.Uploads.{upload_answer, CallCounts, ChangesUpload, LinkMoment, TellsUpload, Uploads}
use Rattle.vb_hist.specs.declared.entry.Stage.{Stage}
use Rattle.vb_hist.specs.declared.entry.Stage.TheVariants as stages
use Rattle.vb_link.specs.Links.{KeepsFailures}
use Rattle.vb_link.specs.Memory.{cloud_of, link_failures_left_of}
use Rattle.vb_link.specs.Views.{LinkView}
use Rattle.vb_local.specs.Phases.{AreTied, StandsIn}
use Rattle.vb_local.specs.Shown.{LocalTrees}
use Rattle.vb_local.specs.States.{frozen_in, LocalState, PhaseState, Rests, Waits, Writes}
use Rattle.vb_local.specs.Ties.{FrozenState}
use Rattle.vb_publish.specs.Plans.{plan_length}
use Rattle.vb_publish.specs.declared.step.UploadStep.{UploadStep}
use Rattle.vb_publish.specs.declared.step.UploadStep.TheVariants as steps
use Rattle.vb_upload.specs.Cursors.{counts_of}
use Rattle.vb_upload.specs.Steps.{sent_of}
use Rattle.vb_upload.specs.declared.answer.UploadError.{UploadError}
use Rattle.vb_upload.specs.declared.answer.UploadError.TheVariants as uploads
use Rattle.vb_upload.specs.declared.upload.Upload.{Upload}
use Rattle.vb_upload.proofs.Within.{sent-within}
use Rattle.std.proofs.lemmas.List.{append-nil}
use Rattle.vb_program.specs.Playing.{cloud_in, core_in, disk_of, history_in, limits_in, messages_in, messages_left, rehearsal_opening, HasWholeDevices, IsRehearsed, Makes, MemoryFolder}
use Rattle.vb_program.proofs.Answered.{answered}
use Rattle.vb_program.proofs.Made.{devices-stay, made-event, no-failure}

-- a cloud and its link at a moment
abbrev pub moment_of : MemoryFolder → LinkMoment
moment_of folder = record { cloud = Some (cloud_in folder); left = link_failures_left_of (link_in folder) }

-- what an upload step gives, over whole devices
pub record Uploaded (old new : MemoryFolder) (shown : Option LinkView) (before after : CallCounts) (result : Result UploadStep FolderError) : Type 0 where
  pub uploads : Uploads (uploaded_answer result) (ledger_in old) (ledger_in new) (Some (disk_of old)) (Some (disk_of new)) (moment_of old) (moment_of new)
  pub changes : ChangesUpload (ledger_in old) (ledger_in new)
  pub tells : TellsStep (ledger_in old) (Some (disk_of old)) shown before after result
  pub told : Some (disk_of new) ≡ Some (disk_of old)
  pub left : UsesFailures failures.DiskFault (failures_left_of (disk_in old)) (failures_left_of (disk_in new)) result

-- over a whole disk an upload meets no damage
abbrev pub SeesNoDamage : MemoryFolder → LocalTrees → Type 0
SeesNoDamage folder t = (shown : Option LinkView) (result : Result UploadStep UploadError) → TellsUpload (ledger_in folder) (Some (disk_of folder)) shown result
    → upload_answer result ≡ answers.Fault faults.Damaged → ⊥

made-damage : (below : Result UploadStep UploadError) (path : List (List ℕ)) (page place : ℕ) (kept found : List ℕ) → IsMadeOf below (Err (failures.Damaged path page place kept found))
    → upload_answer below ≡ answers.Fault faults.Damaged
made-damage (Ok step) path page place kept found made = absurd (cc made)
made-damage (Err (uploads.Damaged i p q k f)) path page place kept found made = refl
made-damage (Err uploads.DiskFault) path page place kept found made = absurd (cc made)
made-damage (Err uploads.LinkFault) path page place kept found made = absurd (cc made)
made-damage (Err uploads.Memory) path page place kept found made = absurd (cc made)

pub uploaded-blames : (old new : MemoryFolder) (t : LocalTrees) (shown : Option LinkView) (before after : CallCounts) (result : Result UploadStep FolderError) → SeesNoDamage old t → IsRehearsed old t
    → Uploaded old new shown before after result → BlamesNone (uploaded_answer result)
uploaded-blames old new t shown before after (Ok step) undamaged r uploaded kind e = absurd (cc e)
uploaded-blames old new t shown before after (Err (failures.Damaged path page place kept found)) undamaged r uploaded kind e =
    absurd (undamaged shown uploaded.tells.below uploaded.tells.tells (made-damage uploaded.tells.below path page place kept found uploaded.tells.made))
uploaded-blames old new t shown before after (Err failures.DiskFault) undamaged r uploaded kind e =
    absurd (no-failure failures.DiskFault (failures_left_of (disk_in old)) (failures_left_of (disk_in new)) (Err failures.DiskFault) uploaded.left r.devices.disk refl)
uploaded-blames old new t shown before after (Err failures.LinkFault) undamaged r uploaded kind e =
    absurd (link-blames (rehearsal_opening (limits_in old)) (disk_of old) (ledger_in old) (ledger_in new) t (cloud_in old) (Some (disk_of new)) (moment_of old) (moment_of new) (answers.Fault faults.Link) r.sound r.devices.link uploaded.uploads refl)
uploaded-blames old new t shown before after (Err failures.Memory) undamaged r uploaded kind e = sym (cc e)

-- a link keeps that it has none left
pub link-none : (before after : ℕ) → KeepsFailures (Some before) (Some after) → Some before ≡ Some 0 → Some after ≡ Some 0
link-none before after keeps none =
    let zero : before ≡ 0 = cc none in
    let less = keeps.kept refl in
    ap (λ (n : ℕ). Some n) (let e : after ≡ 0 = omega (arith, zero, less) in e)

pub uploaded-makes : (old new : MemoryFolder) (t : LocalTrees) (shown : Option LinkView) (before after : CallCounts) (step : UploadStep) → SeesNoDamage old t → IsRehearsed old t
    → Uploaded old new shown before after (Ok step) → Makes old t events.UploadStep (answers.UploadStepped step) new
uploaded-makes old new t shown before after step undamaged r uploaded =
    let made = uploaded.uploads.makes in
    let blocks : (ledger_in new).local.view.head.blocks ≡ (ledger_in old).local.view.head.blocks =
    ⊎_elim (λ same. ap (λ (s : LocalState). s.view.head.blocks) same) (λ drops. ap (λ v. v.head.blocks) drops.view) uploaded.changes.views in
    let becomes = uploaded.uploads.becomes (rehearsal_opening (limits_in old)) t (cloud_in old) r.sound in
    let cloud : becomes.next ≡ cloud_in new = (let told = sym becomes.told in cc told) in
    made-event old new t events.UploadStep (answers.UploadStepped step) made r
    (devices-stay failures.DiskFault (Ok step) old new r.devices uploaded.told uploaded.left (link-none (length (link_in old).fails) (length (link_in new).fails) uploaded.uploads.left r.devices.link) blocks)
    (answered old new t events.UploadStep (answers.UploadStepped step) made r (uploaded-blames old new t shown before after (Ok step) undamaged r uploaded) (λ e. cc e))
    (subst (λ (k : CloudState). MayBecome made.given (core_in old t) events.UploadStep (answers.UploadStepped step) (cloud_in old) k) cloud becomes.may)

-- ---- how many messages are left

-- a message is sent of a view that stands
due-stands : (standing : Option ℕ) (stage : Stage) (last : Bool) → steps.Sent ≡ message_answer last (due_view standing stage) → (epoch : ℕ) × (standing ≡ Some epoch)
due-stands None stages.Written last e = absurd (cc e)
due-stands None stages.Committed last e = absurd (cc e)
due-stands None stages.Rested last e = absurd (cc e)
due-stands (Some epoch) stage last e = (epoch, refl)

sent-stands : (given : Given) (core : Core) (unsure : Option ℕ) (step : UploadStep) → answers.UploadStepped steps.Sent ≡ answers.UploadStepped step → MayStep given core unsure step → (epoch : ℕ) × (core.standing ≡ Some epoch)
sent-stands given core None step is may =
    let sent : steps.Sent ≡ step = cc is in
    due-stands core.standing core.stage (is_last_due given core) (sent ∙ may)
sent-stands given core (Some doubt) step is may =
    let sent : steps.Sent ≡ step = cc is in
    absurd (⊎_elim (λ published. cc) (λ asked. cc) may)

-- where a view stands there is a frozen one
frozen-there : (phase : PhaseState) (standing : Option ℕ) (epoch : ℕ) → StandsIn phase standing → standing ≡ Some epoch → (frozen : FrozenState) × (frozen_in phase ≡ Some frozen)
frozen-there (Rests None) standing epoch stands is = absurd cc
frozen-there (Rests (Some frozen)) standing epoch stands is = (frozen, refl)
frozen-there (Waits frozen at) standing epoch stands is = (frozen, refl)
frozen-there (Writes frozen way) standing epoch stands is = (frozen, refl)

-- one message fewer is left
one-fewer : (frozen : FrozenState) (was is : Option FrozenState) (old new : Upload) → was ≡ Some frozen → is ≡ Some frozen → sent_in is new ≡ sent_in was old + 1
    → sent_of frozen.order old < plan_length (counts_of frozen.order) → messages_in is new < messages_in was old
one-fewer frozen was is old new e f sent within =
    let one : sent_of frozen.order new ≡ sent_of frozen.order old + 1 = sym (ap (λ (o : Option FrozenState). sent_in o new) f) ∙ sent ∙ ap (λ (o : Option FrozenState). sent_in o old + 1) e in
    let left : messages_in was old ≡ plan_length (counts_of frozen.order) - sent_of frozen.order old = ap (λ (o : Option FrozenState). messages_in o old) e in
    let now : messages_in is new ≡ plan_length (counts_of frozen.order) - sent_of frozen.order new = ap (λ (o : Option FrozenState). messages_in o new) f in
    omega (arith, one, left, now, within)

pub fewer-left : (old new : MemoryFolder) (t : LocalTrees) → AreTied (ledger_in old).local → IsKept (ledger_in old) → ChangesUpload (ledger_in old) (ledger_in new)
    → Makes old t events.UploadStep (answers.UploadStepped steps.Sent) new → messages_left new < messages_left old
fewer-left old new t tied kept changes made =
    let stands = sent-stands made.given (core_in old t) (ledger_in old).unsure made.due.0 made.due.1 made.due.2 in
    let standing : (ledger_in new).local.standing ≡ (ledger_in old).local.standing = ap (λ (k : Core). k.standing) made.core in
    let same : (ledger_in new).local ≡ (ledger_in old).local = ⊎_elim (λ same. same) (λ drops. absurd (let none = drops.none in let some = stands.1 in cc)) changes.views in
    let frozen = frozen-there (ledger_in old).local.phase (ledger_in old).local.standing stands.0 tied.stands stands.1 in
    let sends = kept.sends frozen.0 frozen.1 (ap is_some stands.1) in
    one-fewer frozen.0 (frozen_in (ledger_in old).local.phase) (frozen_in (ledger_in new).local.phase) (ledger_in old).upload (ledger_in new).upload
    frozen.1 (ap (λ (s : LocalState). frozen_in s.phase) same ∙ frozen.1) (ap (λ (k : Core). k.sent) made.core)
    (sent-within frozen.0.order (ledger_in old).upload.cursor sends.stands)

-- ---- want of memory

-- where no memory was found nothing is noted
pub unsent-stays : (old new : MemoryFolder) (t : LocalTrees) (shown : Option LinkView) (before after : CallCounts) (error : FolderError) → Uploaded old new shown before after (Err error) → error ≡ failures.Memory → history_in new ≡ history_in old
unsent-stays old new t shown before after error uploaded is =
    let uploads = subst (λ (e : FolderError). Uploads (uploaded_answer (Err e)) (ledger_in old) (ledger_in new) (Some (disk_of old)) (Some (disk_of new)) (moment_of old) (moment_of new)) is uploaded.uploads in
    uploads.makes.pushed t ∙ append-nil (history_in old)
