use Rattle.std.proofs.Common.{◌≡◌, None}
use Rattle.vb_nodes.specs.Faults.{fault_below}
use Rattle.vb_nodes.specs.Naming.{AreNamesBelow}
use Rattle.vb_nodes.proofs.checks.check_nodes.Given as goal

abbrev pub invariant-loop-slot : goal.invariant-loop-slot
invariant-loop-slot l = (fault_below l.nodes l.slot ≡ None) × AreNamesBelow l.nodes l.slot l.names.items
