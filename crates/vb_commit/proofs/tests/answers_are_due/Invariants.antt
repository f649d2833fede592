use Rattle.std.proofs.Common.{◌≤◌}
use Rattle.vb_commit.proofs.tests.answers_are_due.Given as goal

abbrev pub invariant-answers : goal.invariant-answers
invariant-answers g l = l.commit.head.blocks ≤ 64
