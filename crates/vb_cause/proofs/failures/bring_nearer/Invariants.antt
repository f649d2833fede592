use Rattle.std.proofs.Common.{◌≡◌, ◌++◌, map, take, drop}
use Rattle.vb_cause.specs.Failing.{nearer}
use Rattle.vb_cause.proofs.failures.bring_nearer.Given as goal

abbrev pub invariant-loop-i : goal.invariant-loop-i
invariant-loop-i g l =
    l.failures.items ≡ map nearer (take l.i l.initial.failures.items) ++ drop l.i l.initial.failures.items
