use Rattle.std.proofs.Common.{◌≡◌, take, map}
use Rattle.vb_nodes.specs.Ascents.{step_of}
use Rattle.vb_nodes.proofs.ascents.single_steps.Given as goal

abbrev pub invariant-loop-node : goal.invariant-loop-node
invariant-loop-node l = l.ascents.items ≡ map step_of (take l.node-index l.nodes)
