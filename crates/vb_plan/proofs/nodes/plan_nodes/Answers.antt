use Rattle.std.proofs.Common.{sym, arith}
use Rattle.vb_plan.proofs.Planning.{room_for_node}
use Rattle.vb_plan.proofs.nodes.plan_nodes.Goals as goal

pub plan_node-requires-clause-room : goal.plan_node-requires-clause-room
plan_node-requires-clause-room c =
    let next = room_for_node c.loop-node.invariant c.node-item.result c.loop-node-test.true (sym c.node-item.is) in
    omega (arith, next, c.requires.room)
