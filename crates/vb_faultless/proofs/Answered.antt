-- What blames no device was answered as it is due, and what no call blames.
use Rattle.std.proofs.Common.{◌≡◌, ◌<◌, ◌⊎◌, inl, inr, ⊎_elim, ℕ, Option, Some, None, Result, Ok, Err, IfErr, refl, sym, ap, subst, ◌∙◌, arith}
use Rattle.std.specs.Option.{is_some}
use Rattle.vb_active.specs.Needs.{IsErrorOn}
use Rattle.vb_cause.specs.Causes.{left_of, UsesFailures}
use Rattle.vb_cloud.specs.Machine.{CloudState}
use Rattle.vb_disk.specs.declared.disk_error.DiskError.{DiskError}
use Rattle.vb_disk.specs.declared.disk_error.DiskError.TheVariants as disks
use Rattle.vb_disk.specs.States.{DiskState}
use Rattle.vb_event.specs.declared.answer.FaultKind.TheVariants as faults
use Rattle.vb_event.specs.declared.answer.FolderAnswer.{FolderAnswer}
use Rattle.vb_event.specs.declared.answer.FolderAnswer.TheVariants as answers
use Rattle.vb_event.specs.declared.event.FolderEvent.{FolderEvent}
use Rattle.vb_hist.specs.Legal.{Opening}
use Rattle.vb_journal.specs.declared.commit_stage.CommitStep.{CommitStep}
use Rattle.vb_link.specs.Views.{LinkView}
use Rattle.vb_local.specs.Shown.{LocalTrees, ShowsOn}
use Rattle.vb_pages.specs.declared.page_error.PageError.{PageError}
use Rattle.vb_pages.specs.declared.page_error.PageError.TheVariants as pages
use Rattle.vb_publish.specs.declared.step.UploadStep.{UploadStep}
use Rattle.vb_tree.specs.declared.operation.Op.{Op}
use Rattle.vb_tree.specs.declared.reply.Reply.{Reply}
use Rattle.vb_upload.specs.declared.answer.UploadError.{UploadError}
use Rattle.vb_upload.specs.declared.answer.UploadError.TheVariants as uploads
use Rattle.vb_folder.specs.declared.refusals.FreezeError.{FreezeError}
use Rattle.vb_folder.specs.declared.refusals.FreezeError.TheVariants as freezes
use Rattle.vb_folder.specs.declared.refusals.NoView.{NoView}
use Rattle.vb_folder.specs.Events.{call_answer, dropped_answer, frozen_answer, step_answer, Makes}
use Rattle.vb_folder.specs.Ledgers.{core_of, LedgerState}
use Rattle.vb_folder.specs.Uploads.{upload_answer, IsSoundWith, LinkMoment, TellsUpload, Uploads}
use Rattle.vb_faultless.specs.Faultless.{BlamesNone, IsDueOrMemory, ShowsWhole}
use Rattle.vb_faultless.proofs.Undamaged.{call-undamaged}

pub made-due : (event : FolderEvent) (answer : FolderAnswer) (old new : LedgerState) (d : DiskState) (t : LocalTrees) (after : Option DiskState)
    (made : Makes event answer old new (Some d) after) → ShowsOn d old.local t → BlamesNone answer → IsDueOrMemory made.given (core_of old t) event answer
made-due event answer old new d t after made shows blames =
    ⊎_elim (λ due. inl due) (λ fault. inr (fault.1 ∙ ap answers.Fault (blames fault.0 fault.1))) (made.shown d t refl shows).may

-- a device with no failure left doesn't fail
no-failure : {T E : Type 0} (error : E) (left : Option ℕ) (result : Result T E) → UsesFailures error (Some 0) left result → result ≡ Err error → ⊥
no-failure error left result uses is = (let less = uses.used refl is in omega arith)

pub call-blames : (d : DiskState) (s : LedgerState) (t : LocalTrees) (op : Op) (left : Option ℕ) (result : Result Reply PageError)
    → ShowsWhole d s t → UsesFailures pages.DiskFault (Some 0) left result → IfErr result (IsErrorOn (Some d) s.local.live op) → BlamesNone (call_answer result)
call-blames d s t op left (Ok reply) shows uses damage kind e = absurd (cc e)
call-blames d s t op left (Err (pages.Damaged place kept found)) shows uses damage kind e =
    absurd (call-undamaged d s t op (pages.Damaged place kept found) shows damage refl)
call-blames d s t op left (Err pages.DiskFault) shows uses damage kind e = absurd (no-failure pages.DiskFault left (Err pages.DiskFault) uses refl)
call-blames d s t op left (Err pages.Memory) shows uses damage kind e = sym (cc e)

pub step-blames : (left : Option ℕ) (result : Result CommitStep DiskError) → UsesFailures disks.Failed (Some 0) left result → BlamesNone (step_answer result)
step-blames left (Ok step) uses kind e = absurd (cc e)
step-blames left (Err disks.Failed) uses kind e = absurd (no-failure disks.Failed left (Err disks.Failed) uses refl)
step-blames left (Err disks.Memory) uses kind e = sym (cc e)

-- a link that lists no failure doesn't fail at an upload
pub link-blames : (o : Opening) (d : DiskState) (s new : LedgerState) (t : LocalTrees) (k : CloudState) (after : Option DiskState) (before link : LinkMoment) (answer : FolderAnswer)
    → IsSoundWith o s (Some d) before.cloud t k → before.left ≡ Some 0 → Uploads answer s new (Some d) after before link → answer ≡ answers.Fault faults.Link → ⊥
link-blames o d s new t k after before link answer sound none uploads is =
    let less = uploads.used o t k sound (ap is_some none) is in
    let zero : left_of before.left ≡ 0 = ap left_of none in
    omega arith

pub upload-blames : (o : Opening) (d : DiskState) (s new : LedgerState) (t : LocalTrees) (k : CloudState) (after : Option DiskState) (left : Option ℕ) (before link : LinkMoment) (result : Result UploadStep UploadError)
    → (upload_answer result ≡ answers.Fault faults.Damaged → ⊥) → IsSoundWith o s (Some d) before.cloud t k → before.left ≡ Some 0
    → UsesFailures uploads.DiskFault (Some 0) left result → Uploads (upload_answer result) s new (Some d) after before link → BlamesNone (upload_answer result)
upload-blames o d s new t k after left before link (Ok step) whole sound none uses made kind e = absurd (cc e)
upload-blames o d s new t k after left before link (Err (uploads.Damaged i page place kept found)) whole sound none uses made kind e = absurd (whole refl)
upload-blames o d s new t k after left before link (Err uploads.DiskFault) whole sound none uses made kind e = absurd (no-failure uploads.DiskFault left (Err uploads.DiskFault) uses refl)
upload-blames o d s new t k after left before link (Err uploads.LinkFault) whole sound none uses made kind e =
    absurd (link-blames o d s new t k after before link (answers.Fault faults.Link) sound none made refl)
upload-blames o d s new t k after left before link (Err uploads.Memory) whole sound none uses made kind e = sym (cc e)

pub freeze-blames : (result : Result ℕ FreezeError) → BlamesNone (frozen_answer result)
freeze-blames (Ok epoch) kind e = absurd (cc e)
freeze-blames (Err (freezes.Busy epoch)) kind e = absurd (cc e)
freeze-blames (Err (freezes.Spent epoch sequence)) kind e = absurd (cc e)
freeze-blames (Err freezes.Memory) kind e = sym (cc e)

pub drop-blames : (result : Result ℕ NoView) → BlamesNone (dropped_answer result)
drop-blames (Ok epoch) kind e = absurd (cc e)
drop-blames (Err none) kind e = absurd (cc e)

pub end-blames : BlamesNone answers.Ended
end-blames kind e = absurd (cc e)
