use Rattle.vb_disk.specs.Memory.{state_of}
use Rattle.vb_disk.proofs.Withins.{within_kept}
use Rattle.vb_disk.proofs.memory_calls.MemoryDiskDisk.size.Goals as goal

pub returns-in_err-pass-clause-within : goal.returns-in_err-pass-clause-within
returns-in_err-pass-clause-within c = within_kept c.args.self.now (state_of c.pass.new.self) c.in_err-pass.ensures.state

pub returns-clause-within : goal.returns-clause-within
returns-clause-within c = within_kept c.args.self.now (state_of c.pass.new.self) c.in_ok-pass.ensures.state
