use Rattle.std.proofs.Common.{Ok, Err, ap, subst, sym, ◌∙◌}
use Rattle.std.specs.Prelude.{max, min}
use Rattle.vb_event.specs.declared.answer.FaultKind.TheVariants.{Memory}
use Rattle.vb_event.specs.declared.answer.FolderAnswer.TheVariants as answers
use Rattle.vb_folder.specs.Ledgers.{LedgerState}
use Rattle.vb_folder.specs.Uploads.{LinkMoment, Uploads}
use Rattle.vb_folder.proofs.Sent.{is-sending}
use Rattle.vb_folder.proofs.SentMade.{damaged-roomed, failed-roomed, nothing-uploads, sent-roomed, unsent}
use Rattle.vb_folder.proofs.ledger.Ledger.send_next.Goals as goal

pub returns-then-not-is_due-clause-uploads : goal.returns-then-not-is_due-clause-uploads
returns-then-not-is_due-clause-uploads g c =
    nothing-uploads c.args.self.now (g.D.Disk.told c.args.disk.now) (record { cloud = g.K.Link.told c.args.link.now; left = g.K.Link.failures_left c.args.link.now }) c.requires.sure (sym c.is_due.ensures ∙ c.if-not-is_due.true)

pub returns-in_default-clause-uploads : goal.returns-in_default-clause-uploads
returns-in_default-clause-uploads g c =
    let link : LinkMoment = record { cloud = g.K.Link.told c.args.link.now; left = g.K.Link.failures_left c.args.link.now } in
    subst (λ (s : LedgerState). Uploads (answers.Fault Memory) c.args.self.now s (g.D.Disk.told c.args.disk.now) (g.D.Disk.told c.args.disk.now) link link) (sym c.in_default.ensures.err)
    (unsent c.args.self.now (g.D.Disk.told c.args.disk.now) link (is-sending c.args.self.now c.local-kept.ensures.kept c.requires.sure (sym c.is_due.ensures ∙ c.if-not-is_due.false)))

pub returns-in-Ok-send-clause-uploads : goal.returns-in-Ok-send-clause-uploads
returns-in-Ok-send-clause-uploads g c =
    sent-roomed c.in-Ok-send.step c.args.self.now c.reserve.new.self c.send.new.self (g.D.Disk.told c.args.disk.now) (g.D.Disk.told c.send.new.disk)
    (record { cloud = g.K.Link.told c.args.link.now; left = g.K.Link.failures_left c.args.link.now })
    (record { cloud = g.K.Link.told c.send.new.link; left = g.K.Link.failures_left c.send.new.link })
    c.in-Ok.ensures.ok (λ is. c.in-Ok-send.ensures.something (ap Ok is)) c.in-Ok-send.ensures.uploads

pub returns-in-Err-clause-uploads : goal.returns-in-Err-clause-uploads
returns-in-Err-clause-uploads g c =
    failed-roomed c.in-Err.error c.args.self.now c.reserve.new.self c.send.new.self c.forget_spare.new.self c.spare-before.result (g.D.Disk.told c.args.disk.now) (g.D.Disk.told c.send.new.disk)
    (record { cloud = g.K.Link.told c.args.link.now; left = g.K.Link.failures_left c.args.link.now })
    (record { cloud = g.K.Link.told c.send.new.link; left = g.K.Link.failures_left c.send.new.link })
    c.in-Ok.ensures.ok c.spare-before.ensures c.forget_spare.ensures c.in-Err.ensures.uploads

pub returns-in-Err-clause-damaged : goal.returns-in-Err-clause-damaged
returns-in-Err-clause-damaged g c =
    damaged-roomed (Err c.in-Err.error) c.args.self.now c.reserve.new.self c.send.new.self c.forget_spare.new.self (max c.args.self.now.history.spare 1) (min c.send.new.self.history.spare c.spare-before.result)
    c.in-Ok.ensures.ok c.forget_spare.ensures c.in-Err.ensures.damaged
