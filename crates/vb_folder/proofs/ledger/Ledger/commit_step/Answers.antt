use Rattle.std.proofs.Common.{◌≡◌, ◌-◌, ap, length, subst, sym, ◌∙◌, ◌++◌}
use Rattle.vb_event.specs.Steps.{pushed_by_commit, room_after}
use Rattle.vb_event.specs.declared.answer.FaultKind.TheVariants.{Memory}
use Rattle.vb_event.specs.declared.answer.FolderAnswer.TheVariants as answers
use Rattle.vb_event.specs.declared.event.FolderEvent.TheVariants as events
use Rattle.vb_hist.specs.Histories.{Recorded}
use Rattle.vb_hist.specs.declared.entry.Stage.{Stage}
use Rattle.vb_local.specs.Answers.{answers_left}
use Rattle.vb_journal.specs.declared.commit_stage.CommitStep.TheVariants.{Idle}
use Rattle.vb_steps.specs.Disks.{disk_view}
use Rattle.vb_folder.specs.Events.{disk_fault, Makes}
use Rattle.vb_folder.specs.Ledgers.{IsKept, LedgerState}
use Rattle.vb_folder.specs.contracts.ledger.Ledger.{the_view}
use Rattle.vb_folder.proofs.Spares.{error-spare, step-spare}
use Rattle.vb_folder.proofs.Stepped.{settled-law, stepped}
use Rattle.vb_folder.proofs.StepsMade.{error-kept, error-makes, idle-makes, step-kept, step-makes, unmade-makes}
use Rattle.vb_folder.proofs.ledger.Ledger.commit_step.Goals as goal

pub returns-then-is_rested-clause-makes : goal.returns-then-is_rested-clause-makes
returns-then-is_rested-clause-makes g c =
    subst (λ (s : LedgerState). Makes events.CommitStep (answers.CommitStepped Idle) s s (g.D.Disk.told c.args.disk.now) (g.D.Disk.told c.args.disk.now)) c.self.view_is
    (idle-makes (the_view c.self.inside) (g.D.Disk.told c.args.disk.now) c.self.invariant (sym c.if-is_rested.ensures))

pub returns-in_default-clause-makes : goal.returns-in_default-clause-makes
returns-in_default-clause-makes g c =
    subst (λ (s : LedgerState). Makes events.CommitStep (answers.Fault Memory) s (record (the_view c.self.inside) { history = c.reserve.new.self }) (g.D.Disk.told c.args.disk.now) (g.D.Disk.told c.args.disk.now)) c.self.view_is
    (unmade-makes (the_view c.self.inside) c.reserve.new.self (g.D.Disk.told c.args.disk.now) c.self.invariant (sym c.if-is_rested.ensures) (ap (λ (r : Recorded). r.entries) c.in_default.ensures.err))

pub invariant_of-self-in-Ok-step : goal.invariant_of-self-in-Ok-step
invariant_of-self-in-Ok-step g c =
    let s = the_view c.self.inside in
    subst (λ (stage : Stage). IsKept (stepped s c.step.new.self c.noted-self-inside.new.history stage)) (sym c.noted-self-inside.ensures.stage)
    (step-kept c.in-Ok-step.step s c.step.new.self c.noted-self-inside.new.history _ _
    (settled-law c.uploads_stand_while_pages_settle.ensures.sendable c.uploads_stand_while_pages_settle.ensures.apart c.uploads_stand_while_pages_settle.ensures.counts c.uploads_stand_while_pages_settle.ensures.stands)
    c.self.invariant (sym c.if-is_rested.ensures) c.in-Ok-step.ensures.steps)

pub invariant_of-self-in-Err : goal.invariant_of-self-in-Err
invariant_of-self-in-Err g c =
    error-kept c.in-Err.error (the_view c.self.inside) c.step.new.self c.forget_spare.new.self _ _ c.self.invariant c.in-Err.ensures.steps

pub returns-in-Ok-step-clause-makes : goal.returns-in-Ok-step-clause-makes
returns-in-Ok-step-clause-makes g c =
    let s = the_view c.self.inside in
    subst (λ (x : LedgerState). Makes events.CommitStep (answers.CommitStepped c.in-Ok-step.step) x (stepped s c.step.new.self c.noted-self-inside.new.history c.noted-self-inside.result) (g.D.Disk.told c.args.disk.now) (g.D.Disk.told c.step.new.disk)) c.self.view_is
    (subst (λ (stage : Stage). Makes events.CommitStep (answers.CommitStepped c.in-Ok-step.step) s (stepped s c.step.new.self c.noted-self-inside.new.history stage) (g.D.Disk.told c.args.disk.now) (g.D.Disk.told c.step.new.disk)) (sym c.noted-self-inside.ensures.stage)
    (step-makes c.in-Ok-step.step s c.step.new.self c.noted-self-inside.new.history
    (disk_view (g.D.Disk.told c.args.disk.now) (g.D.Disk.seen c.args.disk.now) (g.D.Disk.faults c.args.disk.now) (g.D.Disk.failures_left c.args.disk.now) (g.D.Disk.calls c.args.disk.now))
    (disk_view (g.D.Disk.told c.step.new.disk) (g.D.Disk.seen c.step.new.disk) (g.D.Disk.faults c.step.new.disk) (g.D.Disk.failures_left c.step.new.disk) (g.D.Disk.calls c.step.new.disk))
    (settled-law c.uploads_stand_while_pages_settle.ensures.sendable c.uploads_stand_while_pages_settle.ensures.apart c.uploads_stand_while_pages_settle.ensures.counts c.uploads_stand_while_pages_settle.ensures.stands)
    c.live-live.ensures.tied c.live-live-in-Ok-step.ensures.tied c.self.invariant (sym c.if-is_rested.ensures) c.in-Ok-step.ensures.steps
    (c.noted-self-inside.ensures.pushed ∙ ap (λ (r : Recorded). r.entries ++ pushed_by_commit c.self.inside.epoch (answers.CommitStepped c.in-Ok-step.step)) c.in-Ok.ensures.ok)))

pub returns-in-Err-clause-makes : goal.returns-in-Err-clause-makes
returns-in-Err-clause-makes g c =
    let s = the_view c.self.inside in
    subst (λ (x : LedgerState). Makes events.CommitStep (answers.Fault (disk_fault c.in-Err.error)) x (stepped s c.step.new.self c.forget_spare.new.self s.stage) (g.D.Disk.told c.args.disk.now) (g.D.Disk.told c.step.new.disk)) c.self.view_is
    (error-makes c.in-Err.error s c.step.new.self c.forget_spare.new.self
    (disk_view (g.D.Disk.told c.args.disk.now) (g.D.Disk.seen c.args.disk.now) (g.D.Disk.faults c.args.disk.now) (g.D.Disk.failures_left c.args.disk.now) (g.D.Disk.calls c.args.disk.now))
    (disk_view (g.D.Disk.told c.step.new.disk) (g.D.Disk.seen c.step.new.disk) (g.D.Disk.faults c.step.new.disk) (g.D.Disk.failures_left c.step.new.disk) (g.D.Disk.calls c.step.new.disk))
    c.self.invariant (sym c.if-is_rested.ensures) c.in-Err.ensures.steps (ap (λ (r : Recorded). r.entries) c.forget_spare.ensures ∙ ap (λ (r : Recorded). r.entries) c.in-Ok.ensures.ok))

pub returns-in-Ok-step-clause-spare : goal.returns-in-Ok-step-clause-spare
returns-in-Ok-step-clause-spare g c =
    let s = the_view c.self.inside in
    subst (λ (x : LedgerState). c.noted-self-inside.new.history.spare ≡ room_after x.history.spare (answers.CommitStepped c.in-Ok-step.step) - length (pushed_by_commit x.epoch (answers.CommitStepped c.in-Ok-step.step))) c.self.view_is
    (step-spare c.in-Ok-step.step s.stage (answers_left s.local) (answers_left c.step.new.self) s.history.spare c.reserve.new.self c.noted-self-inside.new.history s.epoch
    (sym c.if-is_rested.ensures) c.self.invariant.left c.in-Ok-step.ensures.steps.answer (ap (λ (r : Recorded). r.spare) c.in-Ok.ensures.ok) c.noted-self-inside.ensures.spare)

pub returns-in-Err-clause-spare : goal.returns-in-Err-clause-spare
returns-in-Err-clause-spare g c =
    let s = the_view c.self.inside in
    subst (λ (x : LedgerState). c.forget_spare.new.self.spare ≡ room_after x.history.spare (answers.Fault (disk_fault c.in-Err.error)) - length (pushed_by_commit x.epoch (answers.Fault (disk_fault c.in-Err.error)))) c.self.view_is
    (error-spare c.in-Err.error s.history.spare c.spare-before.result c.reserve.new.self c.forget_spare.new.self s.epoch
    (ap (λ (r : Recorded). r.spare) c.in-Ok.ensures.ok) c.spare-before.ensures (ap (λ (r : Recorded). r.spare) c.forget_spare.ensures))
