use Rattle.std.proofs.Common.{ap, refl, subst, ◌∙◌, ◌++◌, ◌∷◌, []}
use Rattle.std.proofs.lemmas.Bool.{false≢true}
use Rattle.vb_event.specs.declared.answer.FaultKind.TheVariants.{Memory}
use Rattle.vb_event.specs.declared.answer.FolderAnswer.TheVariants as answers
use Rattle.vb_event.specs.declared.event.FolderEvent.TheVariants as events
use Rattle.vb_hist.specs.Histories.{Recorded}
use Rattle.vb_hist.specs.declared.entry.Entry.TheVariants.{Call}
use Rattle.vb_tree.specs.declared.reply.Reply.{Reply}
use Rattle.vb_folder.specs.Events.{page_fault, Makes}
use Rattle.vb_folder.specs.Ledgers.{LedgerState}
use Rattle.vb_folder.specs.contracts.ledger.Ledger.{the_view}
use Rattle.vb_folder.proofs.Called.{called-makes, failed-makes, page-may, unnoted-makes}
use Rattle.vb_folder.proofs.ledger.Ledger.call_reserved.Goals as goal

pub returns-in-Err-clause-makes : goal.returns-in-Err-clause-makes
returns-in-Err-clause-makes g c =
    let s = the_view c.self.inside in
    subst (λ (s : LedgerState). Makes (events.Call c.args.writer c.args.op) (answers.Fault (page_fault c.in-Err.error)) s (record (the_view c.self.inside) { local = c.perform.new.self }) (g.D.Disk.told c.args.disk.now) (g.D.Disk.told c.perform.new.disk)) c.self.view_is
    (failed-makes c.args.writer c.args.op (page_fault c.in-Err.error) s c.perform.new.self c.self.inside.history (g.D.Disk.told c.args.disk.now) (g.D.Disk.told c.perform.new.disk) (page-may c.in-Err.error) c.in-Err.ensures.calls.kept c.in-Err.ensures.told refl)

pub returns-in_default-clause-makes : goal.returns-in_default-clause-makes
returns-in_default-clause-makes g c =
    let s = the_view c.self.inside in
    subst (λ (s : LedgerState). Makes (events.Call c.args.writer c.args.op) (answers.Fault Memory) s (record (the_view c.self.inside) { local = c.perform.new.self }) (g.D.Disk.told c.args.disk.now) (g.D.Disk.told c.perform.new.disk)) c.self.view_is
    (unnoted-makes c.args.writer c.args.op c.in-Ok.reply s c.perform.new.self c.self.inside.history (g.D.Disk.told c.args.disk.now) (g.D.Disk.told c.perform.new.disk) (λ is. false≢true (c.in_default.ensures.done is)) c.in-Ok.ensures.calls c.in-Ok.ensures.told refl)

pub returns-clause-makes : goal.returns-clause-makes
returns-clause-makes g c =
    let s = the_view c.self.inside in
    subst (λ (s : LedgerState). Makes (events.Call c.args.writer c.args.op) (answers.Called c.in-Ok.reply) s (record (the_view c.self.inside) { local = c.perform.new.self; history = c.push.new.self }) (g.D.Disk.told c.args.disk.now) (g.D.Disk.told c.perform.new.disk)) c.self.view_is
    (called-makes c.args.writer c.args.op c.in-Ok.reply s c.perform.new.self c.push.new.self (g.D.Disk.told c.args.disk.now) (g.D.Disk.told c.perform.new.disk) c.in-Ok.ensures.calls c.in-Ok.ensures.told
    (ap (λ (r : Recorded). r.entries) c.push.ensures ∙ ap (λ (r : Reply). c.self.inside.history.entries ++ Call c.args.writer c.args.op r ∷ []) c.in-Ok-told_of.ensures.copied))
