use Rattle.std.proofs.Common.{◌+◌, refl, ap, ◌∙◌}
use Rattle.vb_disk.specs.Memory.{state_of}
use Rattle.vb_disk.specs.States.{DiskState, Resize, resized}
use Rattle.vb_disk.proofs.StatesOf.{IsCounted-cut, state_from-resized}
use Rattle.vb_disk.proofs.Withins.{within_call, within_kept}
use Rattle.vb_disk.proofs.memory_calls.MemoryDiskDisk.resize.Goals as goal

pub returns-then-self-clause-within : goal.returns-then-self-clause-within
returns-then-self-clause-within c = within_kept c.args.self.now _ refl

pub returns-in_err-pass-clause-within : goal.returns-in_err-pass-clause-within
returns-in_err-pass-clause-within c = within_kept c.args.self.now (state_of c.pass.new.self) c.in_err-pass.ensures.state

pub invariant_of-self-2 : goal.invariant_of-self-2
invariant_of-self-2 c =
    let m = c.pass.new.self in
    record { counted = IsCounted-cut m.table.size c.args.blocks c.resize.new.self.size m.writes m.resizes m.synced_at m.table.cells c.resize.new.self.cells m.counted c.resize.ensures.size c.resize.ensures.cut }

pub returns-clause-done : goal.returns-clause-done
returns-clause-done c =
    let m = c.pass.new.self in
    state_from-resized m.table.size c.args.blocks c.resize.new.self.size m.writes m.resizes (m.resizes + 1) m.synced_at m.table.cells c.resize.new.self.cells c.resize.ensures.size refl c.resize.ensures.cut ∙ ap (λ (d : DiskState). resized d c.args.blocks) c.in_ok-pass.ensures.state

pub returns-clause-within : goal.returns-clause-within
returns-clause-within c = within_call c.args.self.now _ (Resize c.args.blocks) (returns-clause-done c)
