use Rattle.std.proofs.Common.{ap, ◌∙◌}
use Rattle.vb_disk.specs.States.{DiskState, read_at}
use Rattle.vb_disk.proofs.StatesOf.{read_of-known, read_of-unknown}
use Rattle.vb_disk.specs.Memory.{state_of}
use Rattle.vb_disk.proofs.Withins.{within_kept}
use Rattle.vb_disk.proofs.memory_calls.MemoryDiskDisk.read.Goals as goal

pub returns-in-Some-clause-bytes : goal.returns-in-Some-clause-bytes
returns-in-Some-clause-bytes c =
    c.read.ensures ∙ read_of-known c.pass.new.self.table.cells c.args.place c.in-Some.cell.now c.in-Some.ensures ∙ ap (λ (d : DiskState). read_at d c.args.place) c.in_ok-pass.ensures.state

pub returns-in-None-clause-bytes : goal.returns-in-None-clause-bytes
returns-in-None-clause-bytes c =
    c.fill.ensures.filled ∙ read_of-unknown c.pass.new.self.table.cells c.args.place c.in-None.ensures ∙ ap (λ (d : DiskState). read_at d c.args.place) c.in_ok-pass.ensures.state

pub returns-in_err-pass-clause-within : goal.returns-in_err-pass-clause-within
returns-in_err-pass-clause-within c = within_kept c.args.self.now (state_of c.pass.new.self) c.in_err-pass.ensures.state

pub returns-in-Some-clause-within : goal.returns-in-Some-clause-within
returns-in-Some-clause-within c = within_kept c.args.self.now (state_of c.pass.new.self) c.in_ok-pass.ensures.state

pub returns-in-None-clause-within : goal.returns-in-None-clause-within
returns-in-None-clause-within c = within_kept c.args.self.now (state_of c.pass.new.self) c.in_ok-pass.ensures.state
