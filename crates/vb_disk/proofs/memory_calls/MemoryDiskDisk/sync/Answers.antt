use Rattle.std.proofs.Common.{ap, ◌∙◌}
use Rattle.vb_disk.specs.Memory.{state_of}
use Rattle.vb_disk.specs.States.{Sync, synced}
use Rattle.vb_disk.proofs.StatesOf.{IsCounted-settled, state_from-settled}
use Rattle.vb_disk.proofs.Withins.{within_call, within_kept}
use Rattle.vb_disk.proofs.memory_calls.MemoryDiskDisk.sync.Goals as goal

pub returns-in_err-pass-clause-within : goal.returns-in_err-pass-clause-within
returns-in_err-pass-clause-within c = within_kept c.args.self.now (state_of c.pass.new.self) c.in_err-pass.ensures.state

pub invariant_of-self-2 : goal.invariant_of-self-2
invariant_of-self-2 c =
    let m = c.pass.new.self in
    record { counted = IsCounted-settled m.table.size c.settle.new.self.size m.writes m.resizes m.synced_at m.table.cells c.settle.new.self.cells m.counted c.settle.ensures.size c.settle.ensures.settled }

pub returns-clause-done : goal.returns-clause-done
returns-clause-done c =
    let m = c.pass.new.self in
    state_from-settled m.table.size c.settle.new.self.size m.writes m.resizes m.synced_at m.table.cells c.settle.new.self.cells c.settle.ensures.size c.settle.ensures.settled ∙ ap synced c.in_ok-pass.ensures.state

pub returns-clause-within : goal.returns-clause-within
returns-clause-within c = within_call c.args.self.now _ Sync (returns-clause-done c)
