use Rattle.std.proofs.Common.{ap, subst}
use Rattle.vb_event.specs.declared.answer.FolderAnswer.TheVariants as answers
use Rattle.vb_event.specs.declared.event.FolderEvent.TheVariants as events
use Rattle.vb_hist.specs.Histories.{Recorded}
use Rattle.vb_folder.specs.Events.{Makes}
use Rattle.vb_folder.specs.Ledgers.{LedgerState}
use Rattle.vb_folder.specs.contracts.ledger.Ledger.{the_view}
use Rattle.vb_folder.proofs.Called.{ended-makes}
use Rattle.vb_folder.proofs.ledger.Ledger.end.Goals as goal

pub returns-clause-makes : goal.returns-clause-makes
returns-clause-makes c = λ told.
    subst (λ (s : LedgerState). Makes (events.End c.args.writer) answers.Ended s (record (the_view c.self.inside) { history = c.push.new.self }) told told) c.self.view_is
    (ended-makes c.args.writer (the_view c.self.inside) c.push.new.self told (ap (λ (r : Recorded). r.entries) c.push.ensures))
