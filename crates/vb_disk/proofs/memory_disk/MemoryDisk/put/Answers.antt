use Rattle.std.proofs.Common.{◌+◌, refl}
use Rattle.vb_disk.proofs.StatesOf.{IsCounted-kept, state_from-kept, state_from-written}
use Rattle.vb_disk.proofs.memory_disk.MemoryDisk.put.Goals as goal

pub invariant_of-self-in-Err : goal.invariant_of-self-in-Err
invariant_of-self-in-Err c =
    let m = c.args.self.now in
    record { counted = IsCounted-kept m.table.size c.write.new.self.size m.writes m.resizes m.synced_at m.table.cells c.write.new.self.cells m.counted c.in-Err.ensures.size c.in-Err.ensures.err }

pub returns-in-Err-clause-err : goal.returns-in-Err-clause-err
returns-in-Err-clause-err c =
    let m = c.args.self.now in
    state_from-kept m.table.size c.write.new.self.size m.writes m.resizes m.synced_at m.table.cells c.write.new.self.cells c.in-Err.ensures.size c.in-Err.ensures.err

pub returns-in-Ok-clause-ok : goal.returns-in-Ok-clause-ok
returns-in-Ok-clause-ok c =
    let m = c.args.self.now in
    state_from-written m.table.size c.write.new.self.size m.writes (m.writes + 1) m.resizes m.synced_at c.args.place c.args.page.now c.in_ok-copied.copied m.table.cells c.write.new.self.cells c.in-Ok.ensures.size refl c.in_ok-copied.ensures.same c.in-Ok.ensures.ok
