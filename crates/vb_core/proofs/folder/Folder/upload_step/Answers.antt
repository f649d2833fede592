use Rattle.std.proofs.Common.{Err, ap}
use Rattle.vb_upload.specs.declared.answer.UploadError.TheVariants as uploads
use Rattle.vb_core.specs.Folders.{disk_in, ledger_in, link_in}
use Rattle.vb_core.specs.declared.folder_error.FolderError.TheVariants as errors
use Rattle.vb_core.proofs.Named.{blames-disk, blames-link, named-cause, named-damage, named-left, named-tells, named-then, named-uploads}
use Rattle.vb_core.proofs.folder.Folder.upload_step.Goals as goal

pub named_upload-requires : goal.named_upload-requires
named_upload-requires g c = named-then c.in-Err.error (ledger_in c.args.self.now) c.upload_step.new.self (λ i page place kept found is. c.in-Err.ensures.damaged i page place kept found (ap Err is)) c.in-Err.ensures.tells.damage

pub returns-in-Err-clause-uploads : goal.returns-in-Err-clause-uploads
returns-in-Err-clause-uploads g c = named-uploads c.in-Err.error c.named_upload.result (ledger_in c.args.self.now) c.upload_step.new.self _ _ _ _ c.named_upload.ensures c.in-Err.ensures.uploads

pub returns-in-Err-clause-tells : goal.returns-in-Err-clause-tells
returns-in-Err-clause-tells g c = named-tells c.in-Err.error c.named_upload.result (ledger_in c.args.self.now) c.upload_step.new.self _ _ _ _ c.named_upload.ensures c.in-Err.ensures.tells c.in-Err.ensures.calls

pub returns-in-Err-clause-damage : goal.returns-in-Err-clause-damage
returns-in-Err-clause-damage g c =
    named-damage c.in-Err.error c.named_upload.result (ledger_in c.args.self.now) c.upload_step.new.self (g.D.Disk.told (disk_in c.args.self.now)) (g.K.Link.shown c.upload_step.new.link) c.named_upload.ensures
    (λ i page place kept found is. c.in-Err.ensures.damaged i page place kept found (ap Err is)) c.in-Err.ensures.tells

pub returns-in-Err-clause-disk_cause : goal.returns-in-Err-clause-disk_cause
returns-in-Err-clause-disk_cause g c = named-cause c.in-Err.error uploads.DiskFault c.named_upload.result errors.DiskFault _ _ (blames-disk c.in-Err.error c.named_upload.result c.upload_step.new.self c.named_upload.ensures) c.in-Err.ensures.disk_cause

pub returns-in-Err-clause-disk_left : goal.returns-in-Err-clause-disk_left
returns-in-Err-clause-disk_left g c = named-left c.in-Err.error uploads.DiskFault c.named_upload.result errors.DiskFault _ _ (blames-disk c.in-Err.error c.named_upload.result c.upload_step.new.self c.named_upload.ensures) c.in-Err.ensures.disk_left

pub returns-in-Err-clause-link_cause : goal.returns-in-Err-clause-link_cause
returns-in-Err-clause-link_cause g c = named-cause c.in-Err.error uploads.LinkFault c.named_upload.result errors.LinkFault _ _ (blames-link c.in-Err.error c.named_upload.result c.upload_step.new.self c.named_upload.ensures) c.in-Err.ensures.link_cause
