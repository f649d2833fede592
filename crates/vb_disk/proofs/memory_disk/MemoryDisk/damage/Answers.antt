use Rattle.std.proofs.Common.{refl}
use Rattle.vb_disk.proofs.StatesOf.{IsCounted-damaged, OnErr-from, state_from-damaged, state_from-kept}
use Rattle.vb_disk.proofs.memory_disk.MemoryDisk.damage.Goals as goal

pub returns-in_err-damage-clause-err : goal.returns-in_err-damage-clause-err
returns-in_err-damage-clause-err c =
    let m = c.args.self.now in
    OnErr-from c.from_residual.result (record {
      state = state_from-kept m.table.size c.damage.new.self.size m.writes m.resizes m.synced_at m.table.cells c.damage.new.self.cells c.in_err-damage.ensures.size c.in_err-damage.ensures.err;
      failures = refl;
      faults = refl;
    })

pub returns-clause-ok : goal.returns-clause-ok
returns-clause-ok c =
    let m = c.args.self.now in
    state_from-damaged m.table.size c.damage.new.self.size m.writes m.resizes m.synced_at c.args.place c.args.page m.table.cells c.damage.new.self.cells c.in_ok-damage.ensures.size c.in_ok-damage.ensures.ok

pub invariant_of-self : goal.invariant_of-self
invariant_of-self c =
    let m = c.args.self.now in
    record { counted = IsCounted-damaged c.damage.result m.table.size c.damage.new.self.size m.writes m.resizes m.synced_at c.args.place c.args.page m.table.cells c.damage.new.self.cells m.counted c.damage.ensures.size c.damage.ensures.ok c.damage.ensures.err }
