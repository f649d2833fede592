use Rattle.std.proofs.Common.{Err, ap, refl, subst, sym, ◌∙◌}
use Rattle.vb_event.specs.declared.answer.FaultKind.TheVariants.{Memory}
use Rattle.vb_event.specs.declared.answer.FolderAnswer.TheVariants as answers
use Rattle.vb_folder.specs.Ledgers.{LedgerState}
use Rattle.vb_folder.specs.Uploads.{LinkMoment, Uploads}
use Rattle.vb_folder.proofs.Doubted.{doubt-begins, failed-now, settled-now, unasked}
use Rattle.vb_folder.proofs.ledger.Ledger.ask.Goals as goal

pub returns-in_default-clause-uploads : goal.returns-in_default-clause-uploads
returns-in_default-clause-uploads g c = λ told.
    let link : LinkMoment = record { cloud = g.K.Link.told c.args.link.now; left = g.K.Link.failures_left c.args.link.now } in
    subst (λ (s : LedgerState). Uploads (answers.Fault Memory) c.args.self.now s told told link link) (sym c.in_default.ensures.err)
    (unasked c.args.doubt c.args.self.now told link c.requires.unsure)

pub returns-in-Ok-shown_epoch-clause-uploads : goal.returns-in-Ok-shown_epoch-clause-uploads
returns-in-Ok-shown_epoch-clause-uploads g c = λ told.
    settled-now c.args.doubt c.in-Ok-shown_epoch.shown c.settle.result c.args.self.now c.reserve.new.self c.settle.new.self told
    (record { cloud = g.K.Link.told c.args.link.now; left = g.K.Link.failures_left c.args.link.now })
    (record { cloud = g.K.Link.told c.shown_epoch.new.link; left = g.K.Link.failures_left c.shown_epoch.new.link })
    c.in-Ok.ensures.ok c.requires.unsure (doubt-begins c.args.self.now c.args.doubt c.local-kept.ensures.kept c.requires.unsure)
    (record {
      same = c.shown_epoch.ensures.told;
      cloud = c.in-Ok-shown_epoch.ensures.cloud;
      left = record { told = c.shown_epoch.ensures.left.told; kept = c.shown_epoch.ensures.left.kept };
    })
    c.settle.ensures

pub returns-in-Err-clause-uploads : goal.returns-in-Err-clause-uploads
returns-in-Err-clause-uploads g c = λ told.
    failed-now c.args.doubt c.in-Err.error c.args.self.now c.reserve.new.self c.forget_spare.new.self c.spare-before.result told
    (record { cloud = g.K.Link.told c.args.link.now; left = g.K.Link.failures_left c.args.link.now })
    (record { cloud = g.K.Link.told c.shown_epoch.new.link; left = g.K.Link.failures_left c.shown_epoch.new.link })
    c.in-Ok.ensures.ok c.forget_spare.ensures c.spare-before.ensures c.requires.unsure
    (doubt-begins c.args.self.now c.args.doubt c.local-kept.ensures.kept c.requires.unsure)
    (c.in-Err.ensures.errors c.in-Err.error refl) c.shown_epoch.ensures.told
    (record { told = c.shown_epoch.ensures.left.told; kept = c.shown_epoch.ensures.left.kept })
    (λ some at. c.in-Err.ensures.left.used some (ap Err at))
