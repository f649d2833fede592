use Rattle.std.proofs.Common.{◌≡◌, ◌≤◌}
use Rattle.vb_commit.proofs.two_tests.steps_of_two.Given as goal

abbrev pub invariant-steps : goal.invariant-steps
invariant-steps g l = (l.commit.head.blocks ≤ 64) × (l.commit.head ≡ l.initial.commit.head) × (l.commit.epoch ≡ l.initial.commit.epoch)
