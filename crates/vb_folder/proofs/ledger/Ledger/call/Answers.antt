use Rattle.std.proofs.Common.{ap, refl, subst, sym}
use Rattle.std.specs.Prelude.{max, min}
use Rattle.vb_event.specs.declared.answer.FaultKind.TheVariants.{Memory}
use Rattle.vb_event.specs.declared.answer.FolderAnswer.TheVariants as answers
use Rattle.vb_event.specs.declared.event.FolderEvent.TheVariants as events
use Rattle.vb_hist.specs.Histories.{Recorded}
use Rattle.vb_folder.specs.Events.{page_fault, Makes}
use Rattle.vb_folder.specs.Ledgers.{LedgerState}
use Rattle.vb_folder.specs.contracts.ledger.Ledger.{the_view}
use Rattle.vb_folder.proofs.Called.{failed-makes, memory-may}
use Rattle.vb_folder.proofs.Roomed.{from-roomed, to-roomed}
use Rattle.vb_folder.proofs.ledger.Ledger.call.Goals as goal

pub returns-in_default-clause-makes : goal.returns-in_default-clause-makes
returns-in_default-clause-makes g c =
    let s = the_view c.self.inside in
    subst (λ (s : LedgerState). Makes (events.Call c.args.writer c.args.op) (answers.Fault Memory) s (record (the_view c.self.inside) { history = c.reserve.new.self }) (g.D.Disk.told c.args.disk.now) (g.D.Disk.told c.args.disk.now)) c.self.view_is
    (failed-makes c.args.writer c.args.op Memory s s.local c.reserve.new.self (g.D.Disk.told c.args.disk.now) (g.D.Disk.told c.args.disk.now) memory-may refl refl (ap (λ (r : Recorded). r.entries) c.in_default.ensures.err))

pub returns-in-Ok-call_reserved-clause-makes : goal.returns-in-Ok-call_reserved-clause-makes
returns-in-Ok-call_reserved-clause-makes g c =
    subst (λ (s : LedgerState). Makes (events.Call c.args.writer c.args.op) (answers.Called c.in-Ok-call_reserved.reply) s c.call_reserved.new.self (g.D.Disk.told c.args.disk.now) (g.D.Disk.told c.call_reserved.new.disk)) c.self.view_is
    (from-roomed (events.Call c.args.writer c.args.op) (answers.Called c.in-Ok-call_reserved.reply) (the_view c.self.inside) c.call_reserved.new.self c.reserve.new.self (max c.self.inside.history.spare 1) (g.D.Disk.told c.args.disk.now) (g.D.Disk.told c.call_reserved.new.disk)
    c.in-Ok.ensures.ok c.in-Ok-call_reserved.ensures.makes)

pub returns-in-Err-clause-makes : goal.returns-in-Err-clause-makes
returns-in-Err-clause-makes g c =
    let event = events.Call c.args.writer c.args.op in
    let answer = answers.Fault (page_fault c.in-Err.error) in
    let roomed = record (the_view c.self.inside) { history = c.reserve.new.self } in
    let before = g.D.Disk.told c.args.disk.now in
    let after = g.D.Disk.told c.call_reserved.new.disk in
    subst (λ (s : LedgerState). Makes event answer s (record (the_view c.self-2.inside) { history = c.forget_spare.new.self }) before after) c.self.view_is
    (from-roomed event answer (the_view c.self.inside) (record (the_view c.self-2.inside) { history = c.forget_spare.new.self }) c.reserve.new.self (max c.self.inside.history.spare 1) before after c.in-Ok.ensures.ok
    (to-roomed event answer roomed (the_view c.self-2.inside) c.forget_spare.new.self (min c.self-2.inside.history.spare c.spare-before.result) before after c.forget_spare.ensures
    (subst (λ (new : LedgerState). Makes event answer roomed new before after) (sym c.self-2.view_is) c.in-Err.ensures.makes)))
