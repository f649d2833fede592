use Rattle.std.proofs.Common.{Ok, Err, Result, refl}
use Rattle.vb_core.specs.Folders.{folder_fault}
use Rattle.vb_core.specs.declared.folder_error.FolderError.{FolderError}
use Rattle.vb_event.specs.declared.answer.FolderAnswer.TheVariants as answers
use Rattle.vb_tree.specs.declared.reply.Reply.{Reply}
use Rattle.vb_program.proofs.Answered.{called-blames, called-makes, memory-error, Called}
use Rattle.vb_program.proofs.Made.{rehearsed-whole}
use Rattle.vb_program.proofs.events.call.Goals as goal

pub returns-in-Ok-clause-ok : goal.returns-in-Ok-clause-ok
returns-in-Ok-clause-ok c = λ t r.
    let old = c.args.folder.now in
    let new = c.call.new.self in
    let reply = c.in-Ok.field-0 in
    let called : Called old new c.args.writer c.args.op (Ok reply) = record {
      makes = c.in-Ok.ensures.makes;
      others = c.in-Ok.ensures.others;
      damage = c.in-Ok.ensures.damage;
      told = c.in-Ok.ensures.told;
      left = c.in-Ok.ensures.left;
      link = c.in-Ok.ensures.link;
    } in
    (answers.Called reply, called-makes old new t c.args.writer c.args.op reply (rehearsed-whole old t c.view-view.ensures.tied r) r called)

pub lacking-requires : goal.lacking-requires
lacking-requires c =
    let old = c.args.folder.now in
    let new = c.call.new.self in
    let t = c.requires.rehearsed.0 in
    let r = c.requires.rehearsed.1 in
    let called : Called old new c.args.writer c.args.op (Err c.in-Err.error) = record {
      makes = c.in-Err.ensures.makes;
      others = c.in-Err.ensures.others;
      damage = c.in-Err.ensures.damage;
      told = c.in-Err.ensures.told;
      left = c.in-Err.ensures.left;
      link = c.in-Err.ensures.link;
    } in
    memory-error c.in-Err.error (called-blames old new t c.args.writer c.args.op (Err c.in-Err.error) (rehearsed-whole old t c.view-view.ensures.tied r) r.devices called (folder_fault c.in-Err.error) refl)
