use Rattle.std.proofs.Common.{ap, arith}
use Rattle.vb_head.specs.Layout.{are_zeros}
use Rattle.vb_store.proofs.EmptyViews.{CanView-empty}
use Rattle.vb_store.proofs.next_tests.wide_head.Goals as goal

pub returns-clause-viewed : goal.returns-clause-viewed
returns-clause-viewed c =
    CanView-empty c.of.result 64 16
    (record { named = ap are_zeros c.of.ensures; at_most = omega arith; nodes_low = omega arith; nodes_high = omega arith; space = omega arith })
