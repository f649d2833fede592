use Rattle.std.proofs.Common.{ap, subst, sym}
use Rattle.vb_event.specs.declared.answer.FolderAnswer.TheVariants as answers
use Rattle.vb_event.specs.declared.event.FolderEvent.TheVariants as events
use Rattle.vb_hist.specs.Histories.{Recorded}
use Rattle.vb_folder.specs.Events.{Makes}
use Rattle.vb_folder.specs.Ledgers.{LedgerState}
use Rattle.vb_folder.specs.contracts.ledger.Ledger.{the_view}
use Rattle.vb_folder.proofs.DropsMade.{dropped-makes, dropped_now, nothing-makes}
use Rattle.vb_folder.proofs.ledger.Ledger.drop_view.Goals as goal

pub returns-in_default-clause-makes : goal.returns-in_default-clause-makes
returns-in_default-clause-makes c = λ told.
    subst (λ (s : LedgerState). Makes events.DropView answers.NoView s s told told) c.self.view_is (nothing-makes (the_view c.self.inside) told (sym c.in_default.ensures))

pub returns-clause-makes : goal.returns-clause-makes
returns-clause-makes c = λ told.
    subst (λ (s : LedgerState). Makes events.DropView (answers.Dropped c.in-Some.epoch) s (dropped_now (the_view c.self.inside) c.drop_view.new.self c.push.new.self c.start-self-inside.result) told told) c.self.view_is
    (dropped-makes c.in-Some.epoch (the_view c.self.inside) c.drop_view.new.self c.push.new.self c.start-self-inside.result told (sym c.in-Some.ensures) c.drop_view.ensures (ap (λ (r : Recorded). r.entries) c.push.ensures) c.start-self-inside.ensures.cursor)
