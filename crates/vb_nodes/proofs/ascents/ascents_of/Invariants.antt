use Rattle.std.proofs.Common.{◌^◌}
use Rattle.vb_nodes.specs.Ascents.{AreAscents}
use Rattle.vb_nodes.proofs.ascents.ascents_of.Given as goal

abbrev pub invariant-loop-pass : goal.invariant-loop-pass
invariant-loop-pass l = AreAscents l.nodes (2 ^ l._pass) l.ascents.items
