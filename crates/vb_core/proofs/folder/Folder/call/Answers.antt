use Rattle.std.proofs.Common.{Err, ap, refl, subst, sym, ◌∙◌}
use Rattle.vb_active.specs.Needs.{IsErrorOn}
use Rattle.vb_active.specs.Views.{ActiveState}
use Rattle.vb_event.specs.declared.answer.FaultKind.TheVariants.{Memory}
use Rattle.vb_folder.proofs.Called.{failed-makes, memory-may}
use Rattle.vb_local.specs.States.{LocalState}
use Rattle.vb_core.specs.Folders.{disk_in, ledger_in}
use Rattle.vb_core.specs.Names.{NamesPage}
use Rattle.vb_core.proofs.Failing.{error-then, names-before}
use Rattle.vb_core.proofs.folder.Folder.call.Goals as goal

pub returns-in_default-clause-makes : goal.returns-in_default-clause-makes
returns-in_default-clause-makes g c =
    let s = ledger_in c.args.self.now in
    failed-makes c.args.writer c.args.op Memory s s.local s.history (g.D.Disk.told (disk_in c.args.self.now)) (g.D.Disk.told (disk_in c.args.self.now)) memory-may refl refl refl

pub named_error-requires : goal.named_error-requires
named_error-requires g c =
    let told = g.D.Disk.told (disk_in c.args.self.now) in (
      told,
      c.args.op,
      c.in-Ok.ensures,
      subst (λ (v : ActiveState). IsErrorOn told v c.args.op c.in-Err.error) (sym (c.live.ensures.live ∙ ap (λ (l : LocalState). l.live) c.local.ensures.local))
          (error-then told c.args.op (ledger_in c.args.self.now) c.call.new.self c.in-Err.error (λ place kept found is. c.in-Err.ensures.damaged place kept found (ap Err is)) c.in-Err.ensures.damage),
    )

pub returns-in-Err-clause-damage : goal.returns-in-Err-clause-damage
returns-in-Err-clause-damage g c =
    let told = g.D.Disk.told (disk_in c.args.self.now) in
    let live = c.live.ensures.live ∙ ap (λ (l : LocalState). l.live) c.local.ensures.local in
    let is = error-then told c.args.op (ledger_in c.args.self.now) c.call.new.self c.in-Err.error (λ place kept found e. c.in-Err.ensures.damaged place kept found (ap Err e)) c.in-Err.ensures.damage in
    names-before told c.args.op (ledger_in c.args.self.now) c.call.new.self c.in-Err.error c.named_error.result (λ place kept found e. c.in-Err.ensures.damaged place kept found (ap Err e)) c.named_error.ensures.fault
    (subst (λ (v : ActiveState). NamesPage told v c.args.op (Err c.named_error.result)) live
    (c.named_error.ensures.names told c.args.op c.in-Ok.ensures (subst (λ (v : ActiveState). IsErrorOn told v c.args.op c.in-Err.error) (sym live) is)))
