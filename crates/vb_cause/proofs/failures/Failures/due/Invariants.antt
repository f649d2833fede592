use Rattle.std.proofs.Common.{◌≡◌, drop}
use Rattle.vb_cause.specs.Failing.{due_of}
use Rattle.vb_cause.proofs.failures.Failures.due.Given as goal

abbrev pub invariant-loop-failure : goal.invariant-loop-failure
invariant-loop-failure g l = due_of (drop l.failure-index l.failure-items) ≡ due_of l.self
