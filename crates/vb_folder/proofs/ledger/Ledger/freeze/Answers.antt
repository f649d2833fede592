use Rattle.std.proofs.Common.{ℕ, ap, subst, subst₂, sym, ◌∙◌}
use Rattle.vb_event.specs.declared.answer.FolderAnswer.TheVariants as answers
use Rattle.vb_event.specs.declared.event.FolderEvent.TheVariants as events
use Rattle.vb_hist.specs.Histories.{Recorded}
use Rattle.vb_folder.specs.Events.{Makes}
use Rattle.vb_folder.specs.Ledgers.{LedgerState, is_busy_now}
use Rattle.vb_folder.specs.contracts.ledger.Ledger.{the_view}
use Rattle.vb_folder.proofs.FreezesMade.{busy-makes, spent-makes}
use Rattle.vb_folder.proofs.ledger.Ledger.freeze.Goals as goal

pub returns-then-is_busy-clause-makes : goal.returns-then-is_busy-clause-makes
returns-then-is_busy-clause-makes c = λ told.
    let s = the_view c.self.inside in
    subst (λ (s : LedgerState). Makes (events.Freeze c.args.by) (answers.Busy c.self.inside.epoch) s (record (the_view c.self.inside) { history = c.push.new.self }) told told) c.self.view_is
    (busy-makes c.args.by s c.push.new.self told (ap is_busy_now c.self.view_is ∙ sym c.if-is_busy.ensures) (ap (λ (r : Recorded). r.entries) c.push.ensures))

pub returns-then-is_spent-clause-makes : goal.returns-then-is_spent-clause-makes
returns-then-is_spent-clause-makes c = λ told.
    let s = c.args.self.now in
    subst₂ (λ (epoch sequence : ℕ). Makes (events.Freeze c.args.by) (answers.Spent epoch sequence) s s told told) (sym (ap (λ (x : LedgerState). x.epoch) c.self.view_is)) (sym c.sequence.ensures)
    (spent-makes c.args.by s told (sym c.if-is_busy.ensures) (sym c.if-is_spent.ensures))
