use Rattle.vb_store.proofs.NextIndexed.{free_more}
use Rattle.vb_store.proofs.next_index.free_nodes.Goals as goal

pub loop-slot-preserved : goal.loop-slot-preserved
loop-slot-preserved c =
    free_more c.loop-slot.slot c.loop-slot.nodes.items c.push.new.self.items c.new.result c.new-in-loop-slot.result c.loop-slot.invariant c.new.ensures c.new-in-loop-slot.ensures c.in_ok-push.ensures.items
