use Rattle.vb_nodes.proofs.Forged.{AreForged}
use Rattle.vb_nodes.proofs.tests.forged_nodes.Given as goal

abbrev pub invariant-loop-slot : goal.invariant-loop-slot
invariant-loop-slot l = AreForged l.slot l.nodes
