use Rattle.std.proofs.Common.{arith}
use Rattle.vb_frozen.proofs.Built.{all-grown, grown}
use Rattle.vb_frozen.proofs.order.Order.of.Goals as goal

pub loop-i-preserved : goal.loop-i-preserved
loop-i-preserved c =
    let l = c.loop-i in
    record {
      order = c.in_ok-add_slot.ensures.order;
      grown = λ tree is shape. grown c.args.index.now.nodes tree c.in_ok-slots.slots l.entries.items c.add_slot.new.entries.items l.i c.get.result.now c.count.ensures.table is shape (c.in_ok-slots.ensures tree is shape) (omega arith) c.get.ensures (l.invariant.grown tree is shape) c.in_ok-add_slot.ensures.added;
    }

pub returns-clause-entries : goal.returns-clause-entries
returns-clause-entries c = λ tree is shape.
    let l = c.loop-i in
    all-grown c.args.index.now.nodes tree c.in_ok-slots.slots l.entries.items l.i (c.in_ok-slots.ensures tree is shape) (omega arith) (l.invariant.grown tree is shape)
