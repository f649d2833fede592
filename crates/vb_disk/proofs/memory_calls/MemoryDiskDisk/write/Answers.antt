use Rattle.std.proofs.Common.{rules}
use Rattle.vb_disk.specs.Memory.{is_made, failures_of, state_of}
use Rattle.vb_cause.specs.Failing.{due_of}
use Rattle.vb_disk.proofs.Withins.{within_kept, within_tried}
use Rattle.vb_disk.proofs.memory_calls.MemoryDiskDisk.write.Goals as goal

pub returns-in_err-put-in_default-clause-within : goal.returns-in_err-put-in_default-clause-within
returns-in_err-put-in_default-clause-within c = within_kept c.args.self.now (state_of c.put.new.self) c.in_err-put-in_default.ensures.err

pub returns-clause-made : goal.returns-clause-made
returns-clause-made c = search rules

pub returns-clause-within : goal.returns-clause-within
returns-clause-within c =
    let m = c.args.self.now in
    within_tried c.pass.result (is_made (due_of (failures_of m))) m (state_of c.pass.new.self) c.args.place c.args.page.now (returns-clause-made c) c.pass.ensures.no_memory
