use Rattle.std.proofs.Common.{ap, arith}
use Rattle.vb_head.specs.Layout.{are_zeros}
use Rattle.vb_journal.proofs.tests.small_head.Goals as goal

pub returns-clause-range : goal.returns-clause-range
returns-clause-range c = record {
  blocks = omega arith;
  nodes_low = omega arith;
  nodes_high = omega arith;
  space = omega arith;
  id = ap are_zeros c.of.ensures;
  sequence_low = omega arith;
  sequence_high = omega arith;
  epoch = omega arith;
  count = omega arith;
}
