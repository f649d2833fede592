use Rattle.std.proofs.Common.{◌≤◌}
use Rattle.vb_journal.specs.Commits.{head_of}
use Rattle.vb_journal.proofs.tests.steps.Given as goal

abbrev pub invariant-steps : goal.invariant-steps
invariant-steps g l = (head_of l.commit).blocks ≤ 38
