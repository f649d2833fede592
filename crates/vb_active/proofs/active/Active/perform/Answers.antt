use Rattle.std.proofs.Common.{Ok, subst, sym, arith}
use Rattle.vb_tree.specs.declared.operation.Op.{Op}
use Rattle.vb_active.specs.Performs.{Performs}
use Rattle.vb_active.proofs.Causes.{Spares-none, spared-cause, spared-left}
use Rattle.vb_active.proofs.active.Active.perform.Goals as goal

pub returns-in-Create-clause-performs : goal.returns-in-Create-clause-performs
returns-in-Create-clause-performs g c =
    let P : Op → Type 0 = λ op. Performs (g.D.Disk.told c.args.disk.now) c.args.self.now c.make.new.self op c.make.result in
    subst P (sym c.in-Create.is) (c.make.ensures.performs (g.D.Disk.told c.args.disk.now))

pub returns-in-Create-clause-cause : goal.returns-in-Create-clause-cause
returns-in-Create-clause-cause g c = spared-cause c.make.result (g.D.Disk.faults c.args.disk.now) (g.D.Disk.faults c.args.disk.now) (omega arith) c.make.ensures.no_fault

pub returns-in-Create-clause-left : goal.returns-in-Create-clause-left
returns-in-Create-clause-left g c = spared-left c.make.result (g.D.Disk.failures_left c.args.disk.now) (g.D.Disk.failures_left c.args.disk.now) (Spares-none (g.D.Disk.failures_left c.args.disk.now)) c.make.ensures.no_fault

pub returns-in-MakeDir-clause-performs : goal.returns-in-MakeDir-clause-performs
returns-in-MakeDir-clause-performs g c =
    let P : Op → Type 0 = λ op. Performs (g.D.Disk.told c.args.disk.now) c.args.self.now c.make-in-MakeDir.new.self op c.make-in-MakeDir.result in
    subst P (sym c.in-MakeDir.is) (c.make-in-MakeDir.ensures.performs (g.D.Disk.told c.args.disk.now))

pub returns-in-MakeDir-clause-cause : goal.returns-in-MakeDir-clause-cause
returns-in-MakeDir-clause-cause g c = spared-cause c.make-in-MakeDir.result (g.D.Disk.faults c.args.disk.now) (g.D.Disk.faults c.args.disk.now) (omega arith) c.make-in-MakeDir.ensures.no_fault

pub returns-in-MakeDir-clause-left : goal.returns-in-MakeDir-clause-left
returns-in-MakeDir-clause-left g c = spared-left c.make-in-MakeDir.result (g.D.Disk.failures_left c.args.disk.now) (g.D.Disk.failures_left c.args.disk.now) (Spares-none (g.D.Disk.failures_left c.args.disk.now)) c.make-in-MakeDir.ensures.no_fault

pub returns-in-Rename-clause-performs : goal.returns-in-Rename-clause-performs
returns-in-Rename-clause-performs g c =
    let P : Op → Type 0 = λ op. Performs (g.D.Disk.told c.args.disk.now) c.args.self.now c.rename.new.self op c.rename.result in
    subst P (sym c.in-Rename.is) (c.rename.ensures.performs (g.D.Disk.told c.args.disk.now))

pub returns-in-Rename-clause-cause : goal.returns-in-Rename-clause-cause
returns-in-Rename-clause-cause g c = spared-cause c.rename.result (g.D.Disk.faults c.args.disk.now) (g.D.Disk.faults c.args.disk.now) (omega arith) c.rename.ensures.no_fault

pub returns-in-Rename-clause-left : goal.returns-in-Rename-clause-left
returns-in-Rename-clause-left g c = spared-left c.rename.result (g.D.Disk.failures_left c.args.disk.now) (g.D.Disk.failures_left c.args.disk.now) (Spares-none (g.D.Disk.failures_left c.args.disk.now)) c.rename.ensures.no_fault

pub returns-in-Remove-clause-performs : goal.returns-in-Remove-clause-performs
returns-in-Remove-clause-performs g c =
    let P : Op → Type 0 = λ op. Performs (g.D.Disk.told c.args.disk.now) c.args.self.now c.remove.new.self op c.remove.result in
    subst P (sym c.in-Remove.is) (c.remove.ensures.performs (g.D.Disk.told c.args.disk.now))

pub returns-in-Remove-clause-cause : goal.returns-in-Remove-clause-cause
returns-in-Remove-clause-cause g c = spared-cause c.remove.result (g.D.Disk.faults c.args.disk.now) (g.D.Disk.faults c.args.disk.now) (omega arith) c.remove.ensures.no_fault

pub returns-in-Remove-clause-left : goal.returns-in-Remove-clause-left
returns-in-Remove-clause-left g c = spared-left c.remove.result (g.D.Disk.failures_left c.args.disk.now) (g.D.Disk.failures_left c.args.disk.now) (Spares-none (g.D.Disk.failures_left c.args.disk.now)) c.remove.ensures.no_fault

pub returns-in-RemoveDir-clause-performs : goal.returns-in-RemoveDir-clause-performs
returns-in-RemoveDir-clause-performs g c =
    let P : Op → Type 0 = λ op. Performs (g.D.Disk.told c.args.disk.now) c.args.self.now c.remove-in-RemoveDir.new.self op c.remove-in-RemoveDir.result in
    subst P (sym c.in-RemoveDir.is) (c.remove-in-RemoveDir.ensures.performs (g.D.Disk.told c.args.disk.now))

pub returns-in-RemoveDir-clause-cause : goal.returns-in-RemoveDir-clause-cause
returns-in-RemoveDir-clause-cause g c = spared-cause c.remove-in-RemoveDir.result (g.D.Disk.faults c.args.disk.now) (g.D.Disk.faults c.args.disk.now) (omega arith) c.remove-in-RemoveDir.ensures.no_fault

pub returns-in-RemoveDir-clause-left : goal.returns-in-RemoveDir-clause-left
returns-in-RemoveDir-clause-left g c = spared-left c.remove-in-RemoveDir.result (g.D.Disk.failures_left c.args.disk.now) (g.D.Disk.failures_left c.args.disk.now) (Spares-none (g.D.Disk.failures_left c.args.disk.now)) c.remove-in-RemoveDir.ensures.no_fault

pub returns-in-List-clause-performs : goal.returns-in-List-clause-performs
returns-in-List-clause-performs g c =
    let P : Op → Type 0 = λ op. Performs (g.D.Disk.told c.args.disk.now) c.args.self.now c.args.self.now op c.list.result in
    subst P (sym c.in-List.is) (c.list.ensures.performs (g.D.Disk.told c.args.disk.now))

pub returns-in-List-clause-cause : goal.returns-in-List-clause-cause
returns-in-List-clause-cause g c = spared-cause c.list.result (g.D.Disk.faults c.args.disk.now) (g.D.Disk.faults c.args.disk.now) (omega arith) c.list.ensures.no_fault

pub returns-in-List-clause-left : goal.returns-in-List-clause-left
returns-in-List-clause-left g c = spared-left c.list.result (g.D.Disk.failures_left c.args.disk.now) (g.D.Disk.failures_left c.args.disk.now) (Spares-none (g.D.Disk.failures_left c.args.disk.now)) c.list.ensures.no_fault

pub returns-in-Stat-clause-performs : goal.returns-in-Stat-clause-performs
returns-in-Stat-clause-performs g c =
    let P : Op → Type 0 = λ op. Performs (g.D.Disk.told c.args.disk.now) c.args.self.now c.args.self.now op (Ok c.stat.result) in
    subst P (sym c.in-Stat.is) (c.stat.ensures (g.D.Disk.told c.args.disk.now))
