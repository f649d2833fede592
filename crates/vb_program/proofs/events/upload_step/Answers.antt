use Rattle.std.proofs.Common.{◌≡◌, Ok, Err, Result, refl, subst}
use Rattle.vb_core.specs.Folders.{folder_fault, ledger_in}
use Rattle.vb_event.specs.declared.answer.FolderAnswer.TheVariants as answers
use Rattle.vb_event.specs.declared.event.FolderEvent.TheVariants as events
use Rattle.vb_publish.specs.declared.step.UploadStep.{UploadStep}
use Rattle.vb_program.specs.Playing.{disk_of, Makes}
use Rattle.vb_program.proofs.Answered.{memory-error}
use Rattle.vb_program.proofs.Made.{rehearsed-whole}
use Rattle.vb_program.proofs.Sendings.{fewer-left, unsent-stays, uploaded-blames, uploaded-makes, SeesNoDamage, Uploaded}
use Rattle.vb_program.proofs.events.upload_step.Goals as goal

pub returns-in-Ok-clause-ok : goal.returns-in-Ok-clause-ok
returns-in-Ok-clause-ok c = λ t r.
    let old = c.args.folder.now in
    let new = c.upload_step.new.self in
    let undamaged : SeesNoDamage old t = λ shown result tells. c.whole_disks_show_no_damage.ensures.upload_step (disk_of old) (ledger_in old) t shown result (rehearsed-whole old t c.view-view.ensures.tied r) tells in
    let uploaded : Uploaded old new _ _ _ (Ok c.in-Ok.step) = record {
      uploads = c.in-Ok.ensures.uploads;
      changes = c.in-Ok.ensures.changes;
      tells = c.in-Ok.ensures.tells;
      told = c.in-Ok.ensures.told;
      left = c.in-Ok.ensures.disk_left;
    } in
    uploaded-makes old new t _ _ _ c.in-Ok.step undamaged r uploaded

pub returns-in-Ok-clause-fewer : goal.returns-in-Ok-clause-fewer
returns-in-Ok-clause-fewer c = λ sent.
    let old = c.args.folder.now in
    let new = c.upload_step.new.self in
    let t = c.requires.rehearsed.0 in
    fewer-left old new t c.view-view.ensures.tied c.view-view.ensures.kept c.in-Ok.ensures.changes
    (subst (λ (step : UploadStep). Makes old t events.UploadStep (answers.UploadStepped step) new) sent (returns-in-Ok-clause-ok c t c.requires.rehearsed.1))

pub lacking-requires : goal.lacking-requires
lacking-requires c =
    let old = c.args.folder.now in
    let new = c.upload_step.new.self in
    let t = c.requires.rehearsed.0 in
    let r = c.requires.rehearsed.1 in
    let undamaged : SeesNoDamage old t = λ shown result tells. c.whole_disks_show_no_damage.ensures.upload_step (disk_of old) (ledger_in old) t shown result (rehearsed-whole old t c.view-view.ensures.tied r) tells in
    let uploaded : Uploaded old new _ _ _ (Err c.in-Err.error) = record {
      uploads = c.in-Err.ensures.uploads;
      changes = c.in-Err.ensures.changes;
      tells = c.in-Err.ensures.tells;
      told = c.in-Err.ensures.told;
      left = c.in-Err.ensures.disk_left;
    } in
    memory-error c.in-Err.error (uploaded-blames old new t _ _ _ (Err c.in-Err.error) undamaged r uploaded (folder_fault c.in-Err.error) refl)

pub returns-in-Err-clause-err : goal.returns-in-Err-clause-err
returns-in-Err-clause-err c =
    let old = c.args.folder.now in
    let new = c.upload_step.new.self in
    let t = c.requires.rehearsed.0 in
    let r = c.requires.rehearsed.1 in
    let undamaged : SeesNoDamage old t = λ shown result tells. c.whole_disks_show_no_damage.ensures.upload_step (disk_of old) (ledger_in old) t shown result (rehearsed-whole old t c.view-view.ensures.tied r) tells in
    let uploaded : Uploaded old new _ _ _ (Err c.in-Err.error) = record {
      uploads = c.in-Err.ensures.uploads;
      changes = c.in-Err.ensures.changes;
      tells = c.in-Err.ensures.tells;
      told = c.in-Err.ensures.told;
      left = c.in-Err.ensures.disk_left;
    } in
    unsent-stays old new t _ _ _ c.in-Err.error uploaded
    (memory-error c.in-Err.error (uploaded-blames old new t _ _ _ (Err c.in-Err.error) undamaged r uploaded (folder_fault c.in-Err.error) refl))
