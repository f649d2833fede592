use Rattle.std.proofs.Common.{◌≤◌}
use Rattle.vb_journal.specs.Recovering.{blocks_of}
use Rattle.vb_journal.specs.Recovers.{recovery_stage}
use Rattle.vb_journal.proofs.recovery_tests.found_on.Given as goal

abbrev pub invariant-steps : goal.invariant-steps
invariant-steps g l = blocks_of (recovery_stage l.recovery) ≤ g.D.Disk.seen l.disk
